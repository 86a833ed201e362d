-- Each list of bytes has exactly one reading.
use Rattle.std.proofs.Common.{◌≡◌, ◌≢◌, ◌<◌, ◌≤◌, ◌+◌, ℕ, List, [], ◌∷◌, ◌++◌, inl, inr, ◌⊎◌, All, length, length-append, take, append_assoc, refl, sym, ap, ◌∙◌, arith}
use Rattle.std.proofs.lemmas.Bool.{cases_lt}
use Rattle.std.proofs.lemmas.List.{take_all, append-nil}
use Rattle.std.proofs.lemmas.Grind.{flat_map-append}
use Rattle.std.proofs.lemmas.List.Elements.{All-append}
use Rattle.wire_records.specs.Grammars.{Grammar, BeginsWithNone, encode_all}
use Rattle.wire_records.specs.Reading.{Format, Ending, End, Torn, TooLong, EndsAs, ReadsOn, Reading, NotFlow, File, Reads, StartsWith}
use Rattle.wire_records.proofs.CodeLaws.{IsCode, values_unique, parted}

-- A format that can be read: magics and units are codes, and it is decidable whether bytes are overlong.
pub record IsReadable {V U : Type 0} (format : Format V U) : Type 0 where
  pub magics : IsCode format.magics
  pub units : IsCode format.units
  pub overlong : (rest : List ℕ) → format.IsOverlong rest ⊎ (¬ format.IsOverlong rest)

-- there is one ending
ends_one : {V U : Type 0} (format : Format V U) (More : Type 0) (rest : List ℕ) (place : ℕ) (e f : Ending) → EndsAs format More rest place e → EndsAs format More rest place f → e ≡ f
ends_one format More rest place End End a b = refl
ends_one format More rest place End TooLong a b = absurd (a.1 b.1)
ends_one format More rest place End (Torn n) a b = absurd (elim b.1 [ inl over ↦ a.0 over | inr short ↦ short.1 a.2 ])
ends_one format More rest place TooLong End a b = absurd (b.1 a.1)
ends_one format More rest place TooLong TooLong a b = refl
ends_one format More rest place TooLong (Torn n) a b = absurd (elim b.1 [ inl over ↦ a.0 over | inr short ↦ short.0 a.1 ])
ends_one format More rest place (Torn n) End a b = absurd (elim a.1 [ inl over ↦ b.0 over | inr short ↦ short.1 b.2 ])
ends_one format More rest place (Torn n) TooLong a b = absurd (elim a.1 [ inl over ↦ b.0 over | inr short ↦ short.0 b.1 ])
ends_one format More rest place (Torn n) (Torn m) a b = ap Torn (a.0 ∙ sym b.0)

-- units and ending from a place on are the only ones
pub reads_on_one : {V U : Type 0} (format : Format V U) → IsReadable format → (place : ℕ) (More : Type 0) (bytes : List ℕ) (p q : List U) (e f : Ending) → ReadsOn format place More bytes p e → ReadsOn format place More bytes q f → (p ≡ q) × (e ≡ f)
reads_on_one format readable place More bytes p q e f a b =
    let parts = values_unique format.units readable.units p q a.rest b.rest a.each b.each a.none b.none (sym a.whole ∙ b.whole) in
    (parts.0, ends_one format More b.rest (place + length (encode_all format.units q)) e f (rw (← parts.0, ← parts.1) a.ends) b.ends)

-- there is only one reading
pub reads_one : {V U : Type 0} (format : Format V U) → IsReadable format → (limit : ℕ) (bytes : List ℕ) (r s : Reading V U) → Reads format limit bytes r → Reads format limit bytes s → r ≡ s
reads_one format readable limit bytes NotFlow NotFlow a b = refl
reads_one format readable limit bytes NotFlow (File w q f) a b = absurd (a w b.0 b.1.0 b.1.1)
reads_one format readable limit bytes (File v p e) NotFlow a b = absurd (b v a.0 a.1.0 a.1.1)
reads_one format readable limit bytes (File v p e) (File w q f) a b =
    let magic = readable.magics.one v w a.0 b.0 a.1.0 b.1.0 (sym a.1.1 ∙ b.1.1) in
    let here : ReadsOn format (length (format.magics.encode w)) (limit < length bytes) b.0 p e = rw (← magic.0, ← magic.1) a.2 in
    let on = reads_on_one format readable (length (format.magics.encode w)) (limit < length bytes) b.0 p q e f here b.2 in
    rw (magic.0, on.0, on.1) refl

-- a list has elements, or none
any_or_none : (xs : List ℕ) → (xs ≡ []) ⊎ (xs ≢ [])
any_or_none [] = inl refl
any_or_none (x ∷ xs) = inr (λ e. absurd cc)

-- there is an ending
ends_some : {V U : Type 0} (format : Format V U) → IsReadable format → (More : Type 0) → More ⊎ (¬ More) → (rest : List ℕ) (place : ℕ) → (ending : Ending) × EndsAs format More rest place ending
ends_some format readable More more rest place =
    elim (readable.overlong rest) [
      | inl over ↦ (Torn place, (refl, inl over))
      | inr short ↦
          elim more [
            | inl is ↦ (TooLong, (short, is))
            | inr not ↦ elim (any_or_none rest) [ inl none ↦ (End, (short, not, none)) | inr some ↦ (Torn place, (refl, inr (not, some))) ]
          ]
    ]

-- from a place on there are units and an ending
pub reads_on_some : {V U : Type 0} (format : Format V U) → IsReadable format → (place : ℕ) (More : Type 0) → More ⊎ (¬ More) → (bytes : List ℕ) → (units : List U) × (ending : Ending) × ReadsOn format place More bytes units ending
reads_on_some format readable place More more bytes =
    let parts = parted format.units readable.units bytes in
    let ends = ends_some format readable More more parts.rest (place + length (encode_all format.units parts.values)) in
    (parts.values, ends.0, record { rest = parts.rest; whole = parts.whole; each = parts.each; none = parts.none; ends = ends.1 })

-- there is more than the limit, or not
more_or_not : (limit n : ℕ) → (limit < n) ⊎ (¬ (limit < n))
more_or_not limit n = elim (cases_lt limit n) [ inl more ↦ inl more | inr not ↦ inr (λ more. omega (arith, more, not)) ]

-- there is a reading
pub reads_some : {V U : Type 0} (format : Format V U) → IsReadable format → (limit : ℕ) (bytes : List ℕ) → (r : Reading V U) × Reads format limit bytes r
reads_some {V} {U} format readable limit bytes =
    elim (readable.magics.told (take limit bytes)) [
      | inl magic ↦
          let on = reads_on_some format readable (length (format.magics.encode magic.0)) (limit < length bytes) (more_or_not limit (length bytes)) magic.1 in
          (File magic.0 on.0 on.1, (magic.1, magic.2, on.2))
      | inr none ↦ (NotFlow, none)
    ]

-- the first units of a file are the first of its reading
pub starts_first : {V U : Type 0} (format : Format V U) → IsReadable format → (limit : ℕ) (bytes : List ℕ) (v w : V) (units all : List U) (ending : Ending) → StartsWith format limit bytes v units → Reads format limit bytes (File w all ending) → (v ≡ w) × (more : List U) × (all ≡ units ++ more)
starts_first format readable limit bytes v w units all ending starts reads =
    let magic = readable.magics.one v w starts.body reads.0 starts.magic.0 reads.1.0 (sym starts.magic.1 ∙ reads.1.1) in
    let parts = parted format.units readable.units starts.rest in
    let whole : reads.0 ≡ encode_all format.units (units ++ parts.values) ++ parts.rest =
    sym magic.1 ∙ starts.whole ∙ ap (λ xs. encode_all format.units units ++ xs) parts.whole
    ∙ sym (append_assoc (encode_all format.units units) (encode_all format.units parts.values) parts.rest)
    ∙ ap (λ xs. xs ++ parts.rest) (sym (flat_map-append format.units.encode units parts.values))
    in
    let each = All-append format.units.IsLawful units parts.values starts.each parts.each in
    let same = values_unique format.units readable.units all (units ++ parts.values) reads.2.rest parts.rest reads.2.each each reads.2.none parts.none (sym reads.2.whole ∙ whole) in
    (magic.0, parts.values, same.0)

-- no bytes begin with no value
pub none_in_none : {A : Type 0} (g : Grammar A) → IsCode g → BeginsWithNone g []
none_in_none g code a rest lawful e = omega (arith, code.some a lawful, ap length e, length-append (g.encode a) rest)

-- a file within the limit is read as its units, to its end
pub file_read : {V U : Type 0} (format : Format V U) → IsReadable format → (¬ format.IsOverlong []) → (limit : ℕ) (v : V) (units : List U) → format.magics.IsLawful v → All format.units.IsLawful units → length (format.magics.encode v ++ encode_all format.units units) ≤ limit → Reads format limit (format.magics.encode v ++ encode_all format.units units) (File v units End)
file_read format readable short limit v units lawful each fits = (
  encode_all format.units units,
  (lawful, take_all limit (format.magics.encode v ++ encode_all format.units units) fits),
  record {
    rest = [];
    whole = sym (append-nil (encode_all format.units units));
    each = each;
    none = none_in_none format.units readable.units;
    ends = (short, λ more. omega (arith, more, fits), refl);
  },
)
