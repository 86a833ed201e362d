-- Requests from their encodings.
use Rattle.std.proofs.Common.{◌≡◌, ◌+◌, ◌*◌, ℕ, ℤ, List, [], ◌++◌, length, length-append, append_assoc, sym, ap, ◌∙◌, arith}
use Rattle.std.proofs.lemmas.List.{append-nil}
use Rattle.wire_fields.specs.Numbers.{unsigned, signed, IsUnsigned, IsSigned}
use Rattle.wire_fields.proofs.Encoding.{length-unsigned, length-signed, unsigned_unique, signed_unique}
use Rattle.weight_rows.specs.declared.entries.Entry.{Entry}
use Rattle.wire_records.specs.Commands.{Request}
use Rattle.wire_records.specs.Bodies.{entry_encoding, request_encoding, IsEntry, IsRequest}
use Rattle.wire_records.proofs.CodeLaws.{counted_unique, counted_size}

-- the numbers of a request, and how many legs it has
pub record Numbers : Type 0 where
  pub account : ℕ
  pub low : ℤ
  pub high : ℤ
  pub rate : ℕ
  pub cap : ℕ
  pub count : ℕ

-- they are in the ranges of their fields
pub record FitNumbers (n : Numbers) : Type 0 where
  pub account : IsUnsigned 4 n.account
  pub low : IsSigned 8 n.low
  pub high : IsSigned 8 n.high
  pub rate : IsUnsigned 4 n.rate
  pub cap : IsUnsigned 8 n.cap
  pub count : IsUnsigned 1 n.count

-- the encoding of the numbers of a request, and the bytes after it
abbrev pub numbers_and : Numbers → List ℕ → List ℕ
numbers_and n rest =
    unsigned 4 n.account ++ (signed 8 n.low ++ (signed 8 n.high ++ (unsigned 4 n.rate ++ (unsigned 8 n.cap ++ (unsigned 1 n.count ++ rest)))))

-- legs with the same parts are the same
pub same_entry : (e f : Entry) → e.asset ≡ f.asset → e.weight ≡ f.weight → e ≡ f
same_entry e f a b =
    let made : ℕ → ℤ → Entry = λ asset weight. record { asset = asset; weight = weight } in
    ap (λ asset. made asset e.weight) a ∙ ap (λ weight. made f.asset weight) b

-- bytes that begin with two legs begin with one
entry_unique : (e f : Entry) (x y : List ℕ) → IsEntry e → IsEntry f → entry_encoding e ++ x ≡ entry_encoding f ++ y → (e ≡ f) × (x ≡ y)
unfolding entry_encoding
entry_unique e f x y h k same =
    let regrouped = sym (append_assoc (unsigned 2 e.asset) (signed 4 e.weight) x) ∙ same ∙ append_assoc (unsigned 2 f.asset) (signed 4 f.weight) y in
    let assets = unsigned_unique 2 e.asset f.asset _ _ h.0 k.0 regrouped in
    let weights = signed_unique 4 e.weight f.weight x y (omega arith) h.1 k.1 assets.1 in
    (same_entry e f assets.0 weights.0, weights.1)

-- requests with the same parts are the same
same_request : (r s : Request) → r.account ≡ s.account → r.low ≡ s.low → r.high ≡ s.high → r.rate ≡ s.rate → r.cap ≡ s.cap → r.row ≡ s.row → r ≡ s
same_request r s account low high rate cap row =
    let made : ℕ → ℤ → ℤ → ℕ → ℕ → List Entry → Request = λ a l h q c x. record { account = a; low = l; high = h; rate = q; cap = c; row = x } in
    ap (λ a. made a r.low r.high r.rate r.cap r.row) account ∙ ap (λ l. made s.account l r.high r.rate r.cap r.row) low
    ∙ ap (λ h. made s.account s.low h r.rate r.cap r.row) high ∙ ap (λ q. made s.account s.low s.high q r.cap r.row) rate
    ∙ ap (λ c. made s.account s.low s.high s.rate c r.row) cap ∙ ap (λ x. made s.account s.low s.high s.rate s.cap x) row

-- the numbers of a request, and how many legs it has
abbrev pub numbers_of : Request → Numbers
numbers_of r = record { account = r.account; low = r.low; high = r.high; rate = r.rate; cap = r.cap; count = length r.row }

-- the numbers of a request are in the ranges of their fields
pub fit_numbers : (r : Request) → IsRequest r → FitNumbers (numbers_of r)
fit_numbers r fits = record { account = fits.account; low = fits.low; high = fits.high; rate = fits.rate; cap = fits.cap; count = fits.count }

-- Two requests have the same numbers.
pub record SameNumbers (m n : Numbers) : Type 0 where
  pub account : m.account ≡ n.account
  pub low : m.low ≡ n.low
  pub high : m.high ≡ n.high
  pub rate : m.rate ≡ n.rate
  pub cap : m.cap ≡ n.cap
  pub count : m.count ≡ n.count

-- bytes that begin with two requests' numbers begin with one's
pub numbers_unique : (m n : Numbers) (x y : List ℕ) → FitNumbers m → FitNumbers n → numbers_and m x ≡ numbers_and n y → SameNumbers m n × (x ≡ y)
numbers_unique m n x y h k same =
    let accounts = unsigned_unique 4 m.account n.account _ _ h.account k.account same in
    let lows = signed_unique 8 m.low n.low _ _ (omega arith) h.low k.low accounts.1 in
    let highs = signed_unique 8 m.high n.high _ _ (omega arith) h.high k.high lows.1 in
    let rates = unsigned_unique 4 m.rate n.rate _ _ h.rate k.rate highs.1 in
    let caps = unsigned_unique 8 m.cap n.cap _ _ h.cap k.cap rates.1 in
    let counts = unsigned_unique 1 m.count n.count x y h.count k.count caps.1 in
    (record { account = accounts.0; low = lows.0; high = highs.0; rate = rates.0; cap = caps.0; count = counts.0 }, counts.1)

-- two requests of one encoding are one
pub request_unique : (r s : Request) → IsRequest r → IsRequest s → request_encoding r ≡ request_encoding s → r ≡ s
unfolding request_encoding
request_unique r s h k same =
    let found = numbers_unique (numbers_of r) (numbers_of s) _ _ (fit_numbers r h) (fit_numbers s k) same in
    let numbers = found.0 in
    let rows = counted_unique IsEntry entry_encoding entry_unique r.row s.row [] [] h.row k.row numbers.count (append-nil _ ∙ found.1 ∙ sym (append-nil _)) in
    same_request r s numbers.account numbers.low numbers.high numbers.rate numbers.cap rows.0

-- a leg takes six bytes
pub entry_size : (e : Entry) → length (entry_encoding e) ≡ 6
unfolding entry_encoding
entry_size e = simp (length-append, length-unsigned, length-signed)

-- a request takes 33 bytes, and six for each leg
pub request_size : (r : Request) → length (request_encoding r) ≡ 33 + 6 * length r.row
unfolding request_encoding
request_size r = simp (length-append, length-unsigned, length-signed) (omega (arith, counted_size entry_encoding 6 entry_size r.row))
