use Rattle.std.proofs.Common.{◌≡◌, ◌+◌, ◌<◌, ◌≤◌, ℕ, List, [], ◌++◌, length, take, drop, length-append, sym, ap, ◌∙◌, refl, arith}
use Rattle.std.proofs.lemmas.List.{take_at, drop_at, length-take-le}
use Rattle.std.proofs.lemmas.Bool.Decides.{nat_tests}
use Rattle.wire_records.specs.Records.{Record, head, encoding, StatesLength, HasNoPrefix}
use Rattle.wire_records.proofs.Encoded.{length-encoding, read_whole}
use Rattle.wire_records.proofs.Prefixes.{no_prefix-from_few, states_none-from_few, no_prefix-from_stated, states_one}
use Rattle.wire_records.proofs.record.next_record.Goals as goal

-- bytes that begin with an encoding are that encoding and the rest
rest_of : (bytes rest : List ℕ) (r : Record) (n : ℕ) → n ≡ length (encoding r) → bytes ≡ encoding r ++ rest → bytes ≡ encoding r ++ drop n bytes
rest_of bytes rest r n len e =
    e ∙ ap (λ xs. encoding r ++ xs) (sym (drop_at (encoding r) rest n (sym len)) ∙ ap (drop n) (sym e))

-- fewer than five bytes, but some
short : (limit : ℕ) (bytes : List ℕ) → (bytes ≡ [] → ⊥) → length bytes < 5 → (bytes ≡ [] → ⊥) × HasNoPrefix limit bytes × ((n : ℕ) → StatesLength n bytes → n ≤ limit)
short limit bytes some few = (some, no_prefix-from_few limit bytes few, λ n states. absurd (states_none-from_few n bytes few states))

pub returns-in-None : goal.returns-in-None
returns-in-None c = short c.args.limit c.args.bytes.now (λ empty. absurd (grind (arith, nat_tests, ap length empty))) (omega (arith, c.in-None.ensures.few, ap length c.new-cursor.ensures))

pub returns-in-None-take : goal.returns-in-None-take
returns-in-None-take c =
    let found = c.in-Some.ensures in
    let tag = c.in-Some.head.0 in
    let n = c.in-Some.head.1 in
    let rest = c.take_head.new.cursor in
    let stated : c.args.bytes.now ≡ head tag n ++ rest = sym c.new-cursor.ensures ∙ found.stated in
    let few : length rest < n = c.in-None-take.ensures.none.0 refl in (
      λ empty. absurd (grind (arith, nat_tests, ap length empty)),
      no_prefix-from_stated c.args.limit tag n c.args.bytes.now rest (omega arith) found.fits.0 found.fits.1 stated few,
      λ m states. let e = states_one tag n m c.args.bytes.now rest found.fits.0 found.fits.1 stated states in omega (arith, e),
    )

pub returns-then-length-limit : goal.returns-then-length-limit
returns-then-length-limit c =
    let found = c.in-Some.ensures in
    ((found.fits.1, c.in-Some.head.0, found.fits.0, c.take_head.new.cursor, sym c.new-cursor.ensures ∙ found.stated), c.if-length-limit.true)

pub slice_bounds-bytes-end : goal.slice_bounds-bytes-end
slice_bounds-bytes-end c =
    let found = c.in-Some.ensures in
    let body = c.in-Some-take.body.now in
    let r : Record = record { tag = c.in-Some.head.0; body = body } in
    let whole = read_whole c.args.bytes.now c.take_head.new.cursor body c.take.new.self c.in-Some.head.0 c.in-Some.head.1 (sym c.new-cursor.ensures ∙ found.stated) c.in-Some-take.ensures.found c.in-Some-take.ensures.size in
    sym (length-take-le (5 + length body) c.args.bytes.now (omega (arith, ap length whole, length-append (encoding r) c.take.new.self, length-encoding r)))

pub invariant_of-result : goal.invariant_of-result
invariant_of-result c =
    let found = c.in-Some.ensures in
    let body = c.in-Some-take.body.now in
    let r : Record = record { tag = c.in-Some.head.0; body = body } in
    let whole = read_whole c.args.bytes.now c.take_head.new.cursor body c.take.new.self c.in-Some.head.0 c.in-Some.head.1 (sym c.new-cursor.ensures ∙ found.stated) c.in-Some-take.ensures.found c.in-Some-take.ensures.size in
    ap (take (5 + length body)) whole ∙ take_at (encoding r) c.take.new.self (5 + length body) (length-encoding r)

pub returns-in-Some-take : goal.returns-in-Some-take
returns-in-Some-take c =
    let found = c.in-Some.ensures in
    let body = c.in-Some-take.body.now in
    let r : Record = record { tag = c.in-Some.head.0; body = body } in
    let whole = read_whole c.args.bytes.now c.take_head.new.cursor body c.take.new.self c.in-Some.head.0 c.in-Some.head.1 (sym c.new-cursor.ensures ∙ found.stated) c.in-Some-take.ensures.found c.in-Some-take.ensures.size in
    let len : 5 + length body ≡ length (encoding r) = sym (length-encoding r) in
    (record { tag = found.fits.0; body = omega (arith, c.in-Some-take.ensures.size) }, len, rest_of c.args.bytes.now c.take.new.self r (5 + length body) len whole)
