use Rattle.canonical_rule.proofs.CanonicalLaws.{one_asset_books_clear}
use Rattle.canonical_rule.proofs.laws.one_asset_books_clear.Goals as goal

pub returns : goal.returns
returns c = one_asset_books_clear
