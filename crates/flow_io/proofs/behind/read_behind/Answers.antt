use Rattle.std.proofs.Common.{◌≡◌, ℕ, List, ◌+◌, ◌-◌, ◌++◌, take, replicate, vec_len, ap, ◌∙◌, arith, rules}
use Rattle.std.proofs.lemmas.List.{with_items_is, places, length-take-le}
use Rattle.flow_io.proofs.Filling.{behind, laid_out}
use Rattle.flow_io.proofs.behind.read_behind.Goals as goal

pub returns-in-Ok-read-clause-read : goal.returns-in-Ok-read-clause-read
returns-in-Ok-read-clause-read g c =
    let n = c.in-Ok-read.count in
    let end = c.len-end.result in
    let most = c.args.most in
    let into = c.read.new.into in
    let xs = c.deref_mut.result.now in
    let read = c.in-Ok-read.ensures in
    let old = c.args.into.now.items in
    let zeros : List ℕ = replicate (end + most - vec_len c.reserve.new.self) 0 in
    let done = c.resize.ensures.succeeds (omega (arith, c.in-Ok.ensures.ok, c.in-Ok.ensures.len, c.len-end.ensures)) in
    let filled : xs ≡ old ++ zeros = c.deref_mut.ensures.value ∙ laid_out c.resize.result old c.resize.new.self.items c.reserve.new.self.items zeros (end + most) done c.in-Ok.ensures.items (omega (arith, c.len-end.ensures)) c.resize.ensures.items in (
      take n into,
      length-take-le n into read.bound,
      omega (arith, read.bound),
      c.truncate.ensures.items ∙ ap (take (end + n)) (with_items_is c.resize.new.self _ (search (rules, places))) ∙ behind old zeros xs into end (end + most - end) n (omega (arith, c.len-end.ensures)) filled read.bound,
      read.taken,
    )
