-- Values in bytes, each of the same number of bytes.
use Rattle.std.proofs.Common.{◌≡◌, ◌+◌, ◌*◌, ◌<◌, ◌≤◌, ℕ, zero, suc, List, [], ◌∷◌, ◌++◌, inl, inr, Some, None, length, get_or, take, drop, length-drop, refl, sym, ap, ◌∙◌, arith}
use Rattle.std.specs.Prelude.{slice_get}
use Rattle.std.specs.List.{flat_map}
use Rattle.std.proofs.Math.Nat.{mul-suc}
use Rattle.std.proofs.lemmas.Option.{none-some, slice_get_cases, slice_get_within, get_or_from_slice_get}
use Rattle.std.proofs.lemmas.List.{take_more, take-append-drop, length-take-le, drop-drop, drop_at, drop_more, drop_all, append-nil, nil_from_length}
use Rattle.std.proofs.lemmas.List.Elements.{All-nil, All-cons, All-take, All-drop}
use Rattle.wire_records.specs.Records.{AreBytes}
use Rattle.wire_records.proofs.CodeLaws.{counted_size, counted_unique}
use Rattle.journal_records.specs.Private.{values_in, EncodeValues}

-- An encoding of values by `size` bytes each, and how a value is read from them.
pub record IsFixed {A : Type 0} (Fits : A → Type 0) (encode : A → List ℕ) (read : List ℕ → A) (size : ℕ) : Type 0 where
  pub size_is : (a : A) → length (encode a) ≡ size
  pub one : (a b : A) (x y : List ℕ) → Fits a → Fits b → encode a ++ x ≡ encode b ++ y → (a ≡ b) × (x ≡ y)
  pub fits : (bytes : List ℕ) → length bytes ≡ size → AreBytes bytes → Fits (read bytes)
  pub encoded : (bytes : List ℕ) → length bytes ≡ size → AreBytes bytes → encode (read bytes) ≡ bytes

-- bytes for n values encode those that are read from them
pub values_encoded : {A : Type 0} (Fits : A → Type 0) (encode : A → List ℕ) (read : List ℕ → A) (size : ℕ) → IsFixed Fits encode read size → (n : ℕ) (bytes : List ℕ) → length bytes ≡ size * n → AreBytes bytes → EncodeValues Fits encode bytes (values_in read size n bytes)
unfolding values_in
values_encoded Fits encode read size fixed zero bytes len small =
    record { fit = All-nil Fits; encoded = nil_from_length bytes (omega (arith, len)) }
values_encoded Fits encode read size fixed (suc n) bytes len small =
    let prefix = take size bytes in
    let whole : length bytes ≡ size * n + size = len ∙ mul-suc size n in
    let prefix_len : length prefix ≡ size = length-take-le size bytes (omega (arith, whole)) in
    let prefix_small = All-take (λ b. b < 256) size bytes small in
    let rest_len : length (drop size bytes) ≡ size * n = length-drop size bytes ∙ omega (arith, whole) in
    let others = values_encoded Fits encode read size fixed n (drop size bytes) rest_len (All-drop (λ b. b < 256) size bytes small) in
    record {
      fit = All-cons Fits (read prefix) (values_in read size n (drop size bytes)) (fixed.fits prefix prefix_len prefix_small) others.fit;
      encoded =
          sym (take-append-drop size bytes) ∙ ap (λ xs. xs ++ drop size bytes) (sym (fixed.encoded prefix prefix_len prefix_small))
          ∙ ap (λ xs. encode (read prefix) ++ xs) others.encoded;
    }

-- how many are read
pub length-values : {A : Type 0} (read : List ℕ → A) (size n : ℕ) (bytes : List ℕ) → length (values_in read size n bytes) ≡ n
unfolding values_in
length-values read size zero bytes = refl
length-values read size (suc n) bytes = omega (arith, length-values read size n (drop size bytes))

-- how many bytes there are
pub length-encoded : {A : Type 0} (Fits : A → Type 0) (encode : A → List ℕ) (read : List ℕ → A) (size : ℕ) → IsFixed Fits encode read size → (bytes : List ℕ) (values : List A) → EncodeValues Fits encode bytes values → length bytes ≡ size * length values
length-encoded Fits encode read size fixed bytes values encodes = ap length encodes.encoded ∙ counted_size encode size fixed.size_is values

-- bytes encode one list of as many values
pub values_one : {A : Type 0} (Fits : A → Type 0) (encode : A → List ℕ) (read : List ℕ → A) (size : ℕ) → IsFixed Fits encode read size → (bytes : List ℕ) (p q : List A) → length p ≡ length q → EncodeValues Fits encode bytes p → EncodeValues Fits encode bytes q → p ≡ q
values_one Fits encode read size fixed bytes p q len a b =
    let same = counted_unique Fits encode fixed.one p q [] [] a.fit b.fit len (append-nil _ ∙ sym a.encoded ∙ b.encoded ∙ sym (append-nil _)) in
    same.0

-- the bytes from a place on encode the values from there on
from_place : {A : Type 0} (encode : A → List ℕ) (size : ℕ) → ((a : A) → length (encode a) ≡ size) → (k : ℕ) (values : List A) → drop (size * k) (flat_map encode values) ≡ flat_map encode (drop k values)
from_place encode size size_is zero values = let none : size * 0 ≡ 0 = omega arith in ap (λ n. drop n (flat_map encode values)) none
from_place encode size size_is (suc k) [] = drop_all (size * suc k) [] (omega arith)
from_place encode size size_is (suc k) (v ∷ values) =
    let split : size * suc k ≡ size + size * k = omega (arith, mul-suc size k) in
    ap (λ n. drop n (encode v ++ flat_map encode values)) split
    ∙ sym (drop-drop (size * k) size (encode v ++ flat_map encode values))
    ∙ ap (drop (size * k)) (drop_at (encode v) (flat_map encode values) size (size_is v))
    ∙ from_place encode size size_is k values

-- the value at a place is read from its bytes
pub at_place : {A : Type 0} (Fits : A → Type 0) (encode : A → List ℕ) (read : List ℕ → A) (size : ℕ) → IsFixed Fits encode read size → (bytes : List ℕ) (values : List A) (k : ℕ) (d : A) → EncodeValues Fits encode bytes values → k < length values → drop (size * k) bytes ≡ encode (get_or values k d) ++ flat_map encode (drop (k + 1) values)
at_place Fits encode read size fixed bytes values k d encodes within =
    ap (drop (size * k)) encodes.encoded ∙ from_place encode size fixed.size_is k values ∙ ap (flat_map encode) (drop_more values k d within)

-- the bytes encode as many values as were asked for
pub record AreRead {A : Type 0} (Fits : A → Type 0) (encode : A → List ℕ) (count : ℕ) (bytes : List ℕ) (values : List A) : Type 0 where
  pub count_is : length values ≡ count
  pub encodes : EncodeValues Fits encode bytes values

-- bytes for n values encode n values
pub are_read : {A : Type 0} (Fits : A → Type 0) (encode : A → List ℕ) (read : List ℕ → A) (size : ℕ) → IsFixed Fits encode read size → (count n : ℕ) (bytes : List ℕ) → n ≡ count → length bytes ≡ size * count → AreBytes bytes → AreRead Fits encode count bytes (values_in read size n bytes)
are_read Fits encode read size fixed count n bytes n_is len small = record {
  count_is = length-values read size n bytes ∙ n_is;
  encodes = values_encoded Fits encode read size fixed n bytes (len ∙ ap (λ k. size * k) (sym n_is)) small;
}

-- if there is no next value, all were read
pub ended : {A : Type 0} (values : List A) (place : ℕ) → None ≡ slice_get values place → length values ≤ place
ended values place none =
    elim ((slice_get_cases values place).1) [
      | inl found ↦ absurd (none-some found.0 (none ∙ found.2))
      | inr past ↦ past.0
    ]

-- one more value was read
pub read_more : {A : Type 0} (values : List A) (place : ℕ) (a : A) → Some a ≡ slice_get values place → take (place + 1) values ≡ take place values ++ a ∷ []
read_more values place a read =
    take_more values place a (slice_get_within values place a (sym read)) ∙ ap (λ x. take place values ++ x ∷ []) (get_or_from_slice_get values place a a (sym read))
