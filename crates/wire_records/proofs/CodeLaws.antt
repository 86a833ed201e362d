-- Values that are encoded one after the other are read in one way, and all bytes are read.
use Rattle.std.proofs.Common.{◌≡◌, ◌<◌, ◌≤◌, ◌+◌, ◌*◌, ℕ, zero, suc, List, [], ◌∷◌, ◌++◌, inl, inr, ◌⊎◌, length, length-append, append_assoc, refl, sym, ap, ◌∙◌, arith}
use Rattle.std.specs.Prelude.{All}
use Rattle.std.specs.List.{flat_map, AllByRecursion}
use Rattle.std.proofs.lemmas.List.Elements.{recursion_from_All, All-cons, All-nil}
use Rattle.wire_records.specs.Grammars.{Grammar, BeginsWith, BeginsWithNone, encode_all, both}

-- A code: each value takes some bytes, no value's encoding is a proper prefix of another's, and it is decidable
-- whether bytes begin with a value.
pub record IsCode {A : Type 0} (g : Grammar A) : Type 0 where
  pub some : (a : A) → g.IsLawful a → 0 < length (g.encode a)
  pub one : (a b : A) (x y : List ℕ) → g.IsLawful a → g.IsLawful b → g.encode a ++ x ≡ g.encode b ++ y → (a ≡ b) × (x ≡ y)
  pub told : (bytes : List ℕ) → ((a : A) × (rest : List ℕ) × BeginsWith g bytes a rest) ⊎ BeginsWithNone g bytes

-- as many values of a prefix-free encoding are read once, by recursion
counted : {A : Type 0} (Fits : A → Type 0) (encode : A → List ℕ) → ((a b : A) (x y : List ℕ) → Fits a → Fits b → encode a ++ x ≡ encode b ++ y → (a ≡ b) × (x ≡ y)) → (p q : List A) (x y : List ℕ) → AllByRecursion Fits p → AllByRecursion Fits q → length p ≡ length q → flat_map encode p ++ x ≡ flat_map encode q ++ y → (p ≡ q) × (x ≡ y)
counted Fits encode one [] [] x y h k len e = (refl, e)
counted Fits encode one [] (b ∷ q) x y h k len e = absurd (omega (arith, len))
counted Fits encode one (a ∷ p) [] x y h k len e = absurd (omega (arith, len))
counted Fits encode one (a ∷ p) (b ∷ q) x y h k len e =
    let first = one a b (flat_map encode p ++ x) (flat_map encode q ++ y) h.0 k.0 (sym (append_assoc (encode a) (flat_map encode p) x) ∙ e ∙ append_assoc (encode b) (flat_map encode q) y) in
    let others = counted Fits encode one p q x y h.1 k.1 (omega (arith, len)) first.1 in
    (rw (first.0, others.0) refl, others.1)

-- as many values of a prefix-free encoding are read once
pub counted_unique : {A : Type 0} (Fits : A → Type 0) (encode : A → List ℕ) → ((a b : A) (x y : List ℕ) → Fits a → Fits b → encode a ++ x ≡ encode b ++ y → (a ≡ b) × (x ≡ y)) → (p q : List A) (x y : List ℕ) → All Fits p → All Fits q → length p ≡ length q → flat_map encode p ++ x ≡ flat_map encode q ++ y → (p ≡ q) × (x ≡ y)
counted_unique Fits encode one p q x y h k len e = counted Fits encode one p q x y (recursion_from_All Fits p h) (recursion_from_All Fits q k) len e

-- values of one size take as many bytes together
pub counted_size : {A : Type 0} (encode : A → List ℕ) (size : ℕ) → ((a : A) → length (encode a) ≡ size) → (values : List A) → length (flat_map encode values) ≡ size * length values
counted_size encode size each [] = omega arith
counted_size encode size each (a ∷ values) =
    length-append (encode a) (flat_map encode values) ∙ ap (λ n. n + length (flat_map encode values)) (each a)
    ∙ ap (λ n. size + n) (counted_size encode size each values) ∙ omega arith

-- values, and a rest that begins with none, are one list of values and one rest
all_unique : {A : Type 0} (g : Grammar A) → IsCode g → (p q : List A) (x y : List ℕ) → AllByRecursion g.IsLawful p → AllByRecursion g.IsLawful q → BeginsWithNone g x → BeginsWithNone g y → encode_all g p ++ x ≡ encode_all g q ++ y → (p ≡ q) × (x ≡ y)
all_unique g code [] [] x y a b n m e = (refl, e)
all_unique g code [] (w ∷ q) x y a b n m e = absurd (n w (encode_all g q ++ y) b.0 (e ∙ append_assoc (g.encode w) (encode_all g q) y))
all_unique g code (v ∷ p) [] x y a b n m e = absurd (m v (encode_all g p ++ x) a.0 (sym e ∙ append_assoc (g.encode v) (encode_all g p) x))
all_unique g code (v ∷ p) (w ∷ q) x y a b n m e =
    let one = code.one v w (encode_all g p ++ x) (encode_all g q ++ y) a.0 b.0 (sym (append_assoc (g.encode v) (encode_all g p) x) ∙ e ∙ append_assoc (g.encode w) (encode_all g q) y) in
    let others = all_unique g code p q x y a.1 b.1 n m one.1 in
    (rw (one.0, others.0) refl, others.1)

-- values, and a rest that begins with none, are one list of values and one rest, as the definitions state it
pub values_unique : {A : Type 0} (g : Grammar A) → IsCode g → (p q : List A) (x y : List ℕ) → All g.IsLawful p → All g.IsLawful q → BeginsWithNone g x → BeginsWithNone g y → encode_all g p ++ x ≡ encode_all g q ++ y → (p ≡ q) × (x ≡ y)
values_unique g code p q x y a b n m e = all_unique g code p q x y (recursion_from_All g.IsLawful p a) (recursion_from_All g.IsLawful q b) n m e

-- The values that are encoded one after the other in bytes, up to a rest that begins with none.
pub record Parted {A : Type 0} (g : Grammar A) (bytes : List ℕ) : Type 0 where
  pub values : List A
  pub rest : List ℕ
  pub whole : bytes ≡ encode_all g values ++ rest
  pub each : All g.IsLawful values
  pub none : BeginsWithNone g rest

-- one value, and then what follows it
parted_more : {A : Type 0} (g : Grammar A) (bytes : List ℕ) (a : A) (rest : List ℕ) → BeginsWith g bytes a rest → Parted g rest → Parted g bytes
parted_more g bytes a rest first more = record {
  values = a ∷ more.values;
  rest = more.rest;
  whole = first.1 ∙ ap (λ xs. g.encode a ++ xs) more.whole ∙ sym (append_assoc (g.encode a) (encode_all g more.values) more.rest);
  each = All-cons g.IsLawful a more.values first.0 more.each;
  none = more.none;
}

-- bytes that begin with no value
parted_none : {A : Type 0} (g : Grammar A) (bytes : List ℕ) → BeginsWithNone g bytes → Parted g bytes
parted_none g bytes none = record { values = []; rest = bytes; whole = refl; each = All-nil g.IsLawful; none = none }

-- a value takes some bytes, so that fewer are left
fewer : {A : Type 0} (g : Grammar A) → IsCode g → (bytes : List ℕ) (a : A) (rest : List ℕ) → BeginsWith g bytes a rest → length rest < length bytes
fewer g code bytes a rest first = omega (arith, code.some a first.0, ap length first.1, length-append (g.encode a) rest)

-- bytes of at most this length are parted
parted_up_to : {A : Type 0} (g : Grammar A) → IsCode g → (most : ℕ) (bytes : List ℕ) → length bytes ≤ most → Parted g bytes
parted_up_to g code zero bytes short =
    elim (code.told bytes) [
      | inl found ↦ absurd (omega (arith, short, fewer g code bytes found.0 found.1 found.2))
      | inr none ↦ parted_none g bytes none
    ]
parted_up_to g code (suc most) bytes short =
    elim (code.told bytes) [
      | inl found ↦ parted_more g bytes found.0 found.1 found.2 (parted_up_to g code most found.1 (omega (arith, short, fewer g code bytes found.0 found.1 found.2)))
      | inr none ↦ parted_none g bytes none
    ]

-- all bytes are parted
pub parted : {A : Type 0} (g : Grammar A) → IsCode g → (bytes : List ℕ) → Parted g bytes
parted g code bytes = parted_up_to g code (length bytes) bytes (omega arith)

-- two values in a row, from their parts
pair_same : {A B : Type 0} (p q : A × B) → p.0 ≡ q.0 → p.1 ≡ q.1 → p ≡ q
pair_same p q a b = rw (a, b) refl

-- the bytes begin with two values if they begin with the first, and the rest with the second
both_told : {A B : Type 0} (g : Grammar A) (h : Grammar B) → IsCode g → IsCode h → (bytes : List ℕ) → ((pair : A × B) × (rest : List ℕ) × BeginsWith (both g h) bytes pair rest) ⊎ BeginsWithNone (both g h) bytes
both_told g h first second bytes =
    elim (first.told bytes) [
      | inl a ↦
          elim (second.told a.1) [
            | inl b ↦ inl ((a.0, b.0), b.1, ((a.2.0, b.2.0), a.2.1 ∙ ap (λ xs. g.encode a.0 ++ xs) b.2.1 ∙ sym (append_assoc (g.encode a.0) (h.encode b.0) b.1)))
            | inr none ↦ inr (λ pair rest lawful e.
                let one = first.one a.0 pair.0 a.1 (h.encode pair.1 ++ rest) a.2.0 lawful.0 (sym a.2.1 ∙ e ∙ append_assoc (g.encode pair.0) (h.encode pair.1) rest) in
                none pair.1 rest lawful.1 one.1)
          ]
      | inr none ↦ inr (λ pair rest lawful e. none pair.0 (h.encode pair.1 ++ rest) lawful.0 (e ∙ append_assoc (g.encode pair.0) (h.encode pair.1) rest))
    ]

-- two codes in a row are a code
pub both_code : {A B : Type 0} (g : Grammar A) (h : Grammar B) → IsCode g → IsCode h → IsCode (both g h)
both_code g h first second = record {
  some = λ pair lawful. omega (arith, first.some pair.0 lawful.0, length-append (g.encode pair.0) (h.encode pair.1));
  one = λ p q x y a b e.
      let asked = first.one p.0 q.0 (h.encode p.1 ++ x) (h.encode q.1 ++ y) a.0 b.0 (sym (append_assoc (g.encode p.0) (h.encode p.1) x) ∙ e ∙ append_assoc (g.encode q.0) (h.encode q.1) y) in
      let answered = second.one p.1 q.1 x y a.1 b.1 asked.1 in
      (pair_same p q asked.0 answered.0, answered.1);
  told = both_told g h first second;
}
