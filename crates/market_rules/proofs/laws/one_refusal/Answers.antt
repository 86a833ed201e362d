use Rattle.market_rules.proofs.LawProofs.{one_refusal}
use Rattle.market_rules.proofs.laws.one_refusal.Goals as goal

pub returns : goal.returns
returns c = one_refusal
