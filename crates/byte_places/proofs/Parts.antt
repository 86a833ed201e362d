-- Parts of bytes, one after the other.
use Rattle.std.proofs.Common.{◌≡◌, ◌+◌, ◌*◌, ◌≤◌, ℕ, zero, suc, List, ◌++◌, take, drop, sym, ap, ◌∙◌, arith}
use Rattle.std.specs.List.{flat_map, range_with_len}
use Rattle.std.proofs.Math.Seq.{take-add}
use Rattle.std.proofs.lemmas.List.{drop-drop}
use Rattle.byte_places.specs.Places.{part}

-- two parts, one after the other
pub part_join : (place a b : ℕ) (bytes : List ℕ) → part place a bytes ++ part (place + a) b bytes ≡ part place (a + b) bytes
part_join place a b bytes =
    let next : drop a (drop place bytes) ≡ drop (place + a) bytes = drop-drop a place bytes in
    ap (λ xs. part place a bytes ++ take b xs) (sym next) ∙ sym (take-add a b (drop place bytes))

-- so many parts of one size, one after the other
pub parts_join : (encode : ℕ → List ℕ) (size place first count : ℕ) (bytes : List ℕ) → ((k : ℕ) → first ≤ k → k + 1 ≤ first + count → encode k ≡ part (place + size * k) size bytes) → flat_map encode (range_with_len first count) ≡ part (place + size * first) (size * count) bytes
parts_join encode size place first zero bytes each = ap (λ n. part (place + size * first) n bytes) (let none : 0 ≡ size * 0 = omega arith in none)
parts_join encode size place first (suc count) bytes each =
    let here = each first (omega arith) (omega arith) in
    let others = parts_join encode size place (first + 1) count bytes (λ k low high. each k (omega (arith, low)) (omega (arith, high))) in
    let next : place + size * (first + 1) ≡ place + size * first + size = omega arith in
    let whole : size + size * count ≡ size * suc count = omega arith in
    ap (λ xs. xs ++ flat_map encode (range_with_len (first + 1) count)) here
    ∙ ap (λ xs. part (place + size * first) size bytes ++ xs) (others ∙ ap (λ p. part p (size * count) bytes) next)
    ∙ part_join (place + size * first) size (size * count) bytes
    ∙ ap (λ n. part (place + size * first) n bytes) whole
