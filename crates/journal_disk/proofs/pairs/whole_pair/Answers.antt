use Rattle.journal_disk.proofs.PairBytes.{none_in_none, none_in_broken, all_of, not_all_of}
use Rattle.journal_disk.proofs.pairs.whole_pair.Goals as goal

pub returns-in-End-clause-none : goal.returns-in-End-clause-none
returns-in-End-clause-none c = none_in_none c.args.bytes.now c.in-End.ensures

pub returns-in-Broken-clause-none : goal.returns-in-Broken-clause-none
returns-in-Broken-clause-none c = none_in_broken c.args.bytes.now c.in-Broken.ensures.1

pub returns-then-taken-bytes-clause-none : goal.returns-then-taken-bytes-clause-none
returns-then-taken-bytes-clause-none c =
    let e = c.in-Whole.ensures in
    not_all_of c.args.bytes.now c.in-Whole.pair c.in-Whole.taken e.0 e.1 e.2 c.if-taken-bytes.true

pub returns-else-taken-bytes-clause-some : goal.returns-else-taken-bytes-clause-some
returns-else-taken-bytes-clause-some c =
    let e = c.in-Whole.ensures in
    (e.0, all_of c.args.bytes.now c.in-Whole.pair c.in-Whole.taken e.0 e.1 e.2 c.if-taken-bytes.false)
