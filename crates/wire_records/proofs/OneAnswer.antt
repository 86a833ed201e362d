-- What bytes begin with is unique.
use Rattle.std.proofs.Common.{◌≡◌, ◌<◌, ◌^◌, ℕ, List, ◌++◌, length, length-append, refl, sym, ap, ◌∙◌, drop, arith}
use Rattle.std.proofs.lemmas.List.{drop_at}
use Rattle.wire_records.specs.declared.record.Framed.{Framed}
use Rattle.wire_records.specs.declared.record.Framed.TheVariants.{Whole, End, TooLarge, Short}
use Rattle.wire_records.specs.Records.{Record, IsRecord, encoding}
use Rattle.wire_records.specs.Framing.{IsPrefix}
use Rattle.wire_records.proofs.Encoded.{length-encoding, encoding_unique}
use Rattle.wire_records.proofs.Prefixes.{states_none-from_few, states_one, no_prefix-from_overlong}

-- no bytes hold no record
end_is_not_whole : (limit n : ℕ) (r : Record) (bytes : List ℕ) → IsPrefix (Whole r n) limit bytes → IsPrefix End limit bytes → ⊥
end_is_not_whole limit n r bytes whole none =
    omega (arith, ap length (sym whole.2 ∙ none), length-append (encoding r) (drop n bytes), length-encoding r)

-- no bytes state no length
end_is_not_overlong : (limit n : ℕ) (bytes : List ℕ) → IsPrefix (TooLarge n) limit bytes → IsPrefix End limit bytes → ⊥
end_is_not_overlong limit n bytes above none = states_none-from_few n bytes (omega (arith, ap length none)) above.0

-- a complete record states no length above the limit
overlong_is_not_whole : (limit n m : ℕ) (r : Record) (bytes : List ℕ) → limit < 2 ^ 32 → IsPrefix (Whole r n) limit bytes → IsPrefix (TooLarge m) limit bytes → ⊥
overlong_is_not_whole limit n m r bytes small whole above =
    no_prefix-from_overlong limit m bytes small above.0 above.1 r (drop n bytes) whole.0 whole.2

-- bytes that are less than a record state no length above the limit
overlong_is_not_short : (limit n : ℕ) (bytes : List ℕ) → IsPrefix (TooLarge n) limit bytes → IsPrefix Short limit bytes → ⊥
overlong_is_not_short limit n bytes above few = omega (arith, above.1, few.2 n above.0)

-- two complete records that the same bytes begin with are one
whole_unique : (limit n m : ℕ) (r s : Record) (bytes : List ℕ) → limit < 2 ^ 32 → IsPrefix (Whole r n) limit bytes → IsPrefix (Whole s m) limit bytes → Whole r n ≡ Whole s m
whole_unique limit n m r s bytes small p q =
    let same = encoding_unique limit r s (drop n bytes) (drop m bytes) small p.0 q.0 (sym p.2 ∙ q.2) in
    let taken : n ≡ m = p.1 ∙ ap (λ x. length (encoding x)) same.0 ∙ sym q.1 in
    ap (λ x. Whole x n) same.0 ∙ ap (λ k. Whole s k) taken

-- two lengths that the same bytes state are one
overlong_unique : (limit n m : ℕ) (bytes : List ℕ) → IsPrefix (TooLarge n) limit bytes → IsPrefix (TooLarge m) limit bytes → n ≡ m
overlong_unique limit n m bytes p q =
    let states = q.0 in
    states_one states.1 m n bytes states.3 states.2 states.0 states.4 p.0

-- what bytes begin with is unique
pub prefix_unique : (a b : Framed) (limit : ℕ) (bytes : List ℕ) → limit < 2 ^ 32 → IsPrefix a limit bytes → IsPrefix b limit bytes → a ≡ b
prefix_unique (Whole r n) (Whole s m) limit bytes small p q = whole_unique limit n m r s bytes small p q
prefix_unique (Whole r n) End limit bytes small p q = absurd (end_is_not_whole limit n r bytes p q)
prefix_unique (Whole r n) (TooLarge m) limit bytes small p q = absurd (overlong_is_not_whole limit n m r bytes small p q)
prefix_unique (Whole r n) Short limit bytes small p q = absurd (q.1 r (drop n bytes) p.0 p.2)
prefix_unique End (Whole r n) limit bytes small p q = absurd (end_is_not_whole limit n r bytes q p)
prefix_unique End End limit bytes small p q = refl
prefix_unique End (TooLarge n) limit bytes small p q = absurd (end_is_not_overlong limit n bytes q p)
prefix_unique End Short limit bytes small p q = absurd (q.0 p)
prefix_unique (TooLarge m) (Whole r n) limit bytes small p q = absurd (overlong_is_not_whole limit n m r bytes small q p)
prefix_unique (TooLarge n) End limit bytes small p q = absurd (end_is_not_overlong limit n bytes p q)
prefix_unique (TooLarge n) (TooLarge m) limit bytes small p q = ap TooLarge (overlong_unique limit n m bytes p q)
prefix_unique (TooLarge n) Short limit bytes small p q = absurd (overlong_is_not_short limit n bytes p q)
prefix_unique Short (Whole r n) limit bytes small p q = absurd (p.1 r (drop n bytes) q.0 q.2)
prefix_unique Short End limit bytes small p q = absurd (p.0 q)
prefix_unique Short (TooLarge n) limit bytes small p q = absurd (overlong_is_not_short limit n bytes q p)
prefix_unique Short Short limit bytes small p q = refl

-- a record that was written is what the bytes begin with, whatever follows it
written_is_prefix : (limit : ℕ) (r : Record) (rest : List ℕ) → IsRecord limit r → IsPrefix (Whole r (length (encoding r))) limit (encoding r ++ rest)
written_is_prefix limit r rest fits = (fits, refl, ap (λ xs. encoding r ++ xs) (sym (drop_at (encoding r) rest (length (encoding r)) refl)))

-- bytes that begin with a record that was written are framed as that record, whatever follows it
pub written_framed : (limit : ℕ) (r : Record) (rest : List ℕ) (prefix : Framed) → limit < 2 ^ 32 → IsRecord limit r → IsPrefix prefix limit (encoding r ++ rest) → prefix ≡ Whole r (length (encoding r))
written_framed limit r rest prefix small fits found =
    prefix_unique prefix (Whole r (length (encoding r))) limit (encoding r ++ rest) small found (written_is_prefix limit r rest fits)
