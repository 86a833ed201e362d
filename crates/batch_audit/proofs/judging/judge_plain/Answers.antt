use Rattle.std.proofs.Common.{refl, sym, ◌∙◌}
use Rattle.std.proofs.lemmas.Bool.{false≢true}
use Rattle.wire_records.specs.Views.{command_of}
use Rattle.journal_records.specs.Views.{answer_of}
use Rattle.batch_audit.proofs.Served.{other_answer, accepted_answer, refused_answer}
use Rattle.batch_audit.proofs.judging.judge_plain.Goals as goal

pub returns-then-not-is_plain : goal.returns-then-not-is_plain
returns-then-not-is_plain c =
    other_answer c.args.market.now (command_of c.args.command) c.requires.no_batch c.expected-expected.result c.expected-expected.ensures (answer_of c.args.seen.now)
    (λ same. false≢true (sym c.if-not-is_plain.true ∙ c.is_plain.ensures.1 same))

pub returns-in-None : goal.returns-in-None
returns-in-None c =
    accepted_answer c.args.market.now (command_of c.args.command) c.requires.no_batch c.expected-expected.result c.expected-expected.ensures c.args.command refl (answer_of c.args.seen.now)
    (c.is_plain.ensures.0 c.if-not-is_plain.false) c.in-None.ensures.none

pub returns-in-Some : goal.returns-in-Some
returns-in-Some c =
    refused_answer c.args.market.now (command_of c.args.command) c.requires.no_batch c.expected-expected.result c.expected-expected.ensures c.args.command refl (answer_of c.args.seen.now) c.in-Some._refusal
    (c.is_plain.ensures.0 c.if-not-is_plain.false) c.in-Some.ensures.some
