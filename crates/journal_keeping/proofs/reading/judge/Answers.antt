use Rattle.std.proofs.Common.{subst}
use Rattle.batch_audit.specs.declared.audit.Legality.{Legality}
use Rattle.batch_audit.specs.Judging.{IsJudged}
use Rattle.batch_audit.proofs.LawProofs.{pairs_number_one}
use Rattle.journal_keeping.proofs.reading.judge.Goals as goal

pub returns-in-Ok-Legal-clause-legal : goal.returns-in-Ok-Legal-clause-legal
returns-in-Ok-Legal-clause-legal c = subst (λ (l : Legality). IsJudged l c.args.audit.now c.args.pair.now c.pair.new.self) c.in-Ok-Legal.field-0-is c.in-Ok-Legal.ensures.judged

pub returns-in-Ok-Legal-clause-next : goal.returns-in-Ok-Legal-clause-next
returns-in-Ok-Legal-clause-next c =
    let judged = subst (λ (l : Legality). IsJudged l c.args.audit.now c.args.pair.now c.pair.new.self) c.in-Ok-Legal.field-0-is c.in-Ok-Legal.ensures.judged in
    pairs_number_one c.args.audit.now c.args.pair.now c.pair.new.self judged

pub returns-in-Ok-Illegal-clause-illegal : goal.returns-in-Ok-Illegal-clause-illegal
returns-in-Ok-Illegal-clause-illegal c = λ same.
    let judged = subst (λ (l : Legality). IsJudged l c.args.audit.now c.args.pair.now c.pair.new.self) c.in-Ok-Illegal.field-0-is c.in-Ok-Illegal.ensures.judged in
    judged.0
