-- The parts of a record's encoding.
use Rattle.std.proofs.Common.{◌≡◌, ◌+◌, ◌<◌, ◌^◌, ℕ, List, ◌++◌, length, length-append, append_assoc, refl, sym, ap, ◌∙◌, take, drop, arith}
use Rattle.std.proofs.lemmas.List.{take_at, drop_at}
use Rattle.wire_fields.specs.Numbers.{unsigned}
use Rattle.wire_fields.proofs.Encoding.{length-unsigned, unsigned_unique}
use Rattle.wire_records.specs.Records.{Record, IsRecord, head, encoding}

-- a head takes five bytes
pub length-head : (tag n : ℕ) → length (head tag n) ≡ 5
unfolding head
length-head tag n = simp (length-append, length-unsigned)

-- a record takes five bytes, and those of its body
pub length-encoding : (r : Record) → length (encoding r) ≡ 5 + length r.body
unfolding encoding
length-encoding r = length-append (head r.tag (length r.body)) r.body ∙ ap (λ n. n + length r.body) (length-head r.tag (length r.body))

-- a head and a body that are written one after the other
pub head_and_body : (old body : List ℕ) (tag n : ℕ) → n ≡ length body → (old ++ head tag n) ++ body ≡ old ++ encoding (record { tag = tag; body = body })
unfolding encoding
head_and_body old body tag n e = rw e (append_assoc old (head tag (length body)) body)

-- a head and a body that are read one after the other
pub read_whole : (bytes first body rest : List ℕ) (tag n : ℕ) → bytes ≡ head tag n ++ first → first ≡ body ++ rest → length body ≡ n → bytes ≡ encoding (record { tag = tag; body = body }) ++ rest
unfolding encoding
read_whole bytes first body rest tag n a b e = rw (a, b, ← e) (sym (append_assoc (head tag (length body)) body rest))

-- two lists that begin alike with as many elements
pub append_unique : (a b x y : List ℕ) → length a ≡ length b → a ++ x ≡ b ++ y → (a ≡ b) × (x ≡ y)
append_unique a b x y len e = (
  sym (take_at a x (length a) refl) ∙ ap (take (length a)) e ∙ take_at b y (length a) (sym len),
  sym (drop_at a x (length a) refl) ∙ ap (drop (length a)) e ∙ drop_at b y (length a) (sym len),
)

-- a head is read once
pub head_unique : (tag n other m : ℕ) (x y : List ℕ) → tag < 256 → n < 2 ^ 32 → other < 256 → m < 2 ^ 32 → head tag n ++ x ≡ head other m ++ y → (tag ≡ other) × (n ≡ m) × (x ≡ y)
unfolding head
head_unique tag n other m x y a b c d e =
    let regrouped : unsigned 1 tag ++ (unsigned 4 n ++ x) ≡ unsigned 1 other ++ (unsigned 4 m ++ y) =
    sym (append_assoc (unsigned 1 tag) (unsigned 4 n) x) ∙ e ∙ append_assoc (unsigned 1 other) (unsigned 4 m) y
    in
    let tags = unsigned_unique 1 tag other _ _ a c regrouped in
    let lengths = unsigned_unique 4 n m x y b d tags.1 in
    (tags.0, lengths.0, lengths.1)

-- records with the same parts are the same
same_record : (r s : Record) → r.tag ≡ s.tag → r.body ≡ s.body → r ≡ s
same_record r s a b =
    let made : ℕ → List ℕ → Record = λ tag body. record { tag = tag; body = body } in
    ap (λ tag. made tag r.body) a ∙ ap (λ body. made s.tag body) b

-- bytes that begin with two records begin with one
pub encoding_unique : (limit : ℕ) (r s : Record) (x y : List ℕ) → limit < 2 ^ 32 → IsRecord limit r → IsRecord limit s → encoding r ++ x ≡ encoding s ++ y → (r ≡ s) × (x ≡ y)
unfolding encoding
encoding_unique limit r s x y small a b e =
    let heads =
    head_unique r.tag (length r.body) s.tag (length s.body) (r.body ++ x) (s.body ++ y) a.tag (omega (arith, a.body)) b.tag (omega (arith, b.body))
    (sym (append_assoc (head r.tag (length r.body)) r.body x) ∙ e ∙ append_assoc (head s.tag (length s.body)) s.body y)
    in
    let bodies = append_unique r.body s.body x y heads.1 heads.2 in
    (same_record r s heads.0 bodies.0, bodies.1)
