use Rattle.std.proofs.Common.{◌↔◌, inr, drop, IsTrue, arith}
use Rattle.std.proofs.lemmas.Bool.{false≢true}
use Rattle.std.proofs.lemmas.List.{take_rest}
use Rattle.wire_records.specs.Formats.{StatesOver}
use Rattle.journal_records.proofs.PairPrefixes.{no_prefix-from_none, none_over, short_not_over, neither_over, over_after}
use Rattle.journal_records.proofs.pair.is_overlong.Goals as goal

pub returns-in-Whole : goal.returns-in-Whole
returns-in-Whole c =
    let bytes = c.args.bytes.now in
    let left = drop c.in-Whole.taken bytes in
    let first = c.in-Whole.ensures in
    let told : IsTrue c.states_over.result ↔ StatesOver 262144 left = rw take_rest at c.states_over.ensures in (
      λ is. inr (c.in-Whole.field-0, left, (first.0, first.2), told.0 is),
      λ either. told.1 (over_after 1024 262144 bytes left c.in-Whole.field-0 (omega arith) first.0 first.2 either),
    )

pub returns-in-End : goal.returns-in-End
returns-in-End c =
    let bytes = c.args.bytes.now in
    let none = c.in-End.ensures in
    (λ e. absurd (false≢true e), λ either. absurd (neither_over 1024 262144 bytes (no_prefix-from_none 1024 bytes none) (none_over 1024 bytes none) either))

pub returns-in-Short : goal.returns-in-Short
returns-in-Short c =
    let bytes = c.args.bytes.now in
    let short = c.in-Short.ensures in
    (λ e. absurd (false≢true e), λ either. absurd (neither_over 1024 262144 bytes short.1 (short_not_over 1024 bytes short.2) either))
