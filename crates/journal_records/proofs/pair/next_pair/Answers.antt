use Rattle.std.proofs.Common.{drop, arith}
use Rattle.std.proofs.lemmas.List.{take_rest}
use Rattle.wire_records.proofs.Prefixes.{no_prefix-from_overlong}
use Rattle.journal_records.proofs.PairPrefixes.{no_pair-from_first, no_prefix-from_none, some-from_stated, broken_after}
use Rattle.journal_records.proofs.pair.next_pair.Goals as goal

pub returns-in-End-next_record : goal.returns-in-End-next_record
returns-in-End-next_record c =
    let bytes = c.args.bytes.now in
    let left = drop c.in-Whole.taken bytes in
    let first = c.in-Whole.ensures in
    let end = rw take_rest at c.in-End-next_record.ensures in
    broken_after 1024 262144 bytes left c.in-Whole.asked (omega arith) first.0 first.2 (no_prefix-from_none 262144 left end)

pub returns-in-TooLarge-next_record : goal.returns-in-TooLarge-next_record
returns-in-TooLarge-next_record c =
    let bytes = c.args.bytes.now in
    let left = drop c.in-Whole.taken bytes in
    let first = c.in-Whole.ensures in
    let over = rw take_rest at c.in-TooLarge-next_record.ensures in
    broken_after 1024 262144 bytes left c.in-Whole.asked (omega arith) first.0 first.2 (no_prefix-from_overlong 262144 c.in-TooLarge-next_record.field-0 left (omega arith) over.0 over.1)

pub returns-in-Short-next_record : goal.returns-in-Short-next_record
returns-in-Short-next_record c =
    let bytes = c.args.bytes.now in
    let left = drop c.in-Whole.taken bytes in
    let first = c.in-Whole.ensures in
    let short = rw take_rest at c.in-Short-next_record.ensures in
    broken_after 1024 262144 bytes left c.in-Whole.asked (omega arith) first.0 first.2 short.1

pub returns-in-TooLarge : goal.returns-in-TooLarge
returns-in-TooLarge c =
    let bytes = c.args.bytes.now in
    let over = c.in-TooLarge.ensures in
    (some-from_stated c.in-TooLarge.field-0 bytes over.0, no_pair-from_first 1024 262144 bytes (no_prefix-from_overlong 1024 c.in-TooLarge.field-0 bytes (omega arith) over.0 over.1))
