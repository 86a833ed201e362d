use Rattle.std.proofs.Common.{Some, subst, arith}
use Rattle.market_rules.specs.Market.{Market}
use Rattle.batch_audit.specs.Legal.{IsLegalPair}
use Rattle.batch_audit.proofs.LawProofs.{pairs_number_one}
use Rattle.journal_words.specs.Watching.{AllocatesOne}
use Rattle.journal_words.proofs.pairs.Pairs.take_replied.Goals as goal

pub reject-requires-clause-illegal : goal.reject-requires-clause-illegal
reject-requires-clause-illegal g c = rw c.judge.ensures.stays (rw c.in-Ok-None.field-0-is at c.in-Ok-None.ensures.weighed)

pub returns-in-Err-legal-clause-halted : goal.returns-in-Err-legal-clause-halted
returns-in-Err-legal-clause-halted g c =
    let self = c.args.self.now in
    subst (λ (m : Market). AllocatesOne g.P.OnPair.watch (record { market = m; pairs = self.pairs; seen = g.P.OnPair.seen self.on m }) (Some c.args.pair.now)) c.judge.ensures.stays c.in-Err-legal.ensures.wanted

pub invariant_of-self-2 : goal.invariant_of-self-2
invariant_of-self-2 g c =
    let legal = subst (λ (m : Market). IsLegalPair m c.args.pair.now c.legal.new.audit) c.judge.ensures.stays c.in-Ok.ensures.seen.legal in
    record { next = omega (arith, pairs_number_one c.args.self.now.audit c.args.pair.now c.legal.new.audit legal, c.requires.next); within = c.in-Ok.ensures.within }
