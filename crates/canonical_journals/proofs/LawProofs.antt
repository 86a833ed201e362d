-- The laws of steps and journals by the canonical rule.
use Rattle.flow_orders.specs.Outcomes.{IsAdmissibleOutcome}
use Rattle.canonical_rule.specs.Canonical.{IsCanonicalOutcome}
use Rattle.canonical_journals.specs.Laws.{PlainCommandsNeedNoRule, OneCanonicalJournal, CanonicalJournalsAreLegal, EveryCommandIsServed, StepsNumberOne}
use Rattle.canonical_journals.proofs.OneCanonicalJournal.{one_canonical_journal as one_journal}
use Rattle.canonical_journals.proofs.CanonicalServed.{canonical_journal_is_there, served_is_there}
use Rattle.wire_records.specs.Records.{AreBytes}
use Rattle.wire_records.specs.Versions.{IsReadAs}
use Rattle.wire_records.proofs.Readings.{reading_unique as one_reading, reading_some as each_is_read, read_own}
use Rattle.canonical_journals.proofs.CanonicalIsLegal.{canonical_journal_is_legal}
use Rattle.market_rules.proofs.LawProofs.{served_by_any, read_numbers_one}

pub plain_commands_need_no_rule : PlainCommandsNeedNoRule
plain_commands_need_no_rule old c a n none = (served_by_any IsCanonicalOutcome IsAdmissibleOutcome old c a n none, served_by_any IsAdmissibleOutcome IsCanonicalOutcome old c a n none)

pub one_canonical_journal : OneCanonicalJournal
one_canonical_journal version records bytes =
    let there = canonical_journal_is_there IsReadAs (λ r. AreBytes r.body) each_is_read version records bytes in
    (there.0, there.1, there.2, λ other n journal. one_journal IsReadAs one_reading version records there.0 other there.1 n there.2 journal)

pub canonical_journals_are_legal : CanonicalJournalsAreLegal
canonical_journals_are_legal version records pairs m journal = canonical_journal_is_legal IsReadAs read_own version records pairs m journal

pub every_command_is_served : EveryCommandIsServed
every_command_is_served = served_is_there

pub steps_number_one : StepsNumberOne
steps_number_one old asked a new step = read_numbers_one IsCanonicalOutcome old step.read a new step.served
