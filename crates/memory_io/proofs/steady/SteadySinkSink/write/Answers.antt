use Rattle.std.proofs.Common.{◌≡◌, ℕ, ◌+◌, ◌-◌, ◌≤◌, min, Bool, ◌&&◌, nat_eq, nat_le, List, ◌++◌, length, take, sym, ap, ◌∙◌, refl, arith, rules}
use Rattle.std.proofs.lemmas.List.{take_min, take_rest}
use Rattle.std.proofs.Math.Seq.{take-append-add}
use Rattle.std.proofs.lemmas.Bool.Decides.{nat_tests}
use Rattle.std.proofs.lemmas.Grind.{common_steps}
use Rattle.memory_io.specs.Memory.{keep}
use Rattle.memory_io.proofs.steady.SteadySinkSink.write.Goals as goal
use Rattle.memory_io.proofs.steady.SteadySinkSink.write.Goals.{then-self, else-self}

-- what was held and the bytes that fit are the first bytes of both together
prefix : (old more : List ℕ) (room : ℕ) → length old ≤ room → old ++ take (min (length more) (room - length old)) more ≡ take room (old ++ more)
prefix old more room h =
    let turned : min (length more) (room - length old) ≡ min (room - length old) (length more) = omega arith in
    let whole : length old + (room - length old) ≡ room = omega arith in
    ap (λ n. old ++ take n more) turned ∙ ap (λ ys. old ++ ys) (take_min (room - length old) more) ∙ sym (take-append-add old more (room - length old)) ∙ ap (λ n. take n (old ++ more)) whole

-- all fits exactly if all bytes were copied
all_fits : (k n room count : ℕ) → k ≤ room → count ≡ min n (room - k) → nat_eq count n ≡ nat_le (k + n) room
all_fits k n room count h e = grind (arith, nat_tests)

-- the fields after a write are those that `keep` states
kept : (old more new : List ℕ) (room count : ℕ) (was now : Bool) → length old ≤ room → count ≡ min (length more) (room - length old) → new ≡ old ++ take count more → now ≡ (was && nat_eq count (length more)) → record { bytes = new; room = room; complete = now } ≡ keep (record { bytes = old; room = room; complete = was }) more
kept old more new room count was now h e items flag =
    rw (items, flag, all_fits (length old) (length more) room count h e, e, prefix old more room h) refl

pub returns-clause-kept : goal.returns-clause-kept
returns-clause-kept c =
    let size : length c.self.inside.bytes.items ≡ c.len.result = omega arith in
    let short : length c.self.inside.bytes.items ≤ c.self.inside.room = omega arith in
    let items : c.extend_from_slice.new.self.items ≡ c.self.inside.bytes.items ++ take c.min-count.result c.args.bytes.now =
    grind (arith, common_steps, take_rest, c.extend_from_slice.ensures.items, c.unwrap.ensures)
    in
    let flag : c.if-self.self ≡ (c.self.inside.complete && nat_eq c.min-count.result (length c.args.bytes.now)) =
    elim c.if-self.branch [ then-self w ↦ rw (w.if-self.true) (search rules) | else-self w ↦ rw (w.if-self.false) (search rules) ]
    in
    rw (← c.self.view_is)
    (kept c.self.inside.bytes.items c.args.bytes.now c.extend_from_slice.new.self.items c.self.inside.room c.min-count.result c.self.inside.complete c.if-self.self short (omega arith) items flag)
