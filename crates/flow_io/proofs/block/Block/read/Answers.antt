use Rattle.std.proofs.Common.{◌≤◌, ◌+◌, ◌-◌, ◌++◌, length, take, slice_range, ap, ◌∙◌, arith, rules}
use Rattle.std.proofs.lemmas.List.{with_items_is, places, length-take-le}
use Rattle.flow_io.proofs.Filling.{grown}
use Rattle.flow_io.proofs.block.Block.read.Goals as goal

pub returns-clause-read : goal.returns-clause-read
returns-clause-read g c =
    let b = c.move_to_front.new.self in
    let xs = c.deref_mut.result.now in
    let n = c.in_ok-count.count in
    let read = c.in_ok-count.ensures in
    let into = c.read.new.into in
    let within : b.end ≤ length xs = omega (arith, b.within, c.deref_mut.ensures.len) in (
      take n into,
      length-take-le n into read.bound,
      omega (arith, read.bound),
      ap (λ ys. slice_range ys b.start (b.end + n)) (with_items_is b.bytes _ (search (rules, places))) ∙ grown xs into b.start b.end (b.end + c.args.most - b.end) n b.ordered within read.bound
          ∙ ap (λ ys. slice_range ys b.start b.end ++ take n into) c.deref_mut.ensures.value ∙ ap (λ ys. ys ++ take n into) c.move_to_front.ensures.items,
      read.taken,
    )
