-- Which bytes encode a request.
use Rattle.std.proofs.Common.{◌≡◌, ◌≢◌, ◌+◌, ◌-◌, ◌*◌, ◌<◌, ◌≤◌, ℕ, List, ◌++◌, inl, inr, ◌⊎◌, length, length-append, drop, length-drop, w64, refl, sym, ap, ◌∙◌, arith}
use Rattle.std.proofs.lemmas.Bool.{cases_lt, cases_eq}
use Rattle.std.proofs.lemmas.List.{drop-drop}
use Rattle.std.proofs.lemmas.List.Elements.{All-drop}
use Rattle.wire_fields.specs.Numbers.{unsigned, signed, IsUnsigned, IsSigned}
use Rattle.byte_places.specs.Places.{unsigned_at, signed_at}
use Rattle.byte_places.proofs.Digits.{IsEncodedAt, unsigned_encoded, signed_encoded_8, begins_with}
use Rattle.wire_fields.proofs.Encoding.{length-unsigned, unsigned_unique}
use Rattle.weight_rows.specs.declared.entries.Entry.{Entry}
use Rattle.wire_records.specs.Records.{AreBytes}
use Rattle.wire_records.specs.Commands.{Request}
use Rattle.wire_records.specs.Bodies.{request_encoding, entry_encoding}
use Rattle.wire_records.specs.Private.{entries_in, request_in, HoldRequest, EncodeEntries, EncodesRequest, EncodesNoRequest, EncodesUntil, EncodesNoUntil}
use Rattle.wire_records.proofs.CodeLaws.{counted_size}
use Rattle.wire_records.proofs.Fields.{prefix_number}
use Rattle.wire_records.proofs.Requests.{Numbers, FitNumbers, numbers_and, numbers_of, fit_numbers, numbers_unique, entry_size, request_size}
use Rattle.wire_records.proofs.Entries.{entries_encoded, length-entries}

-- the request of these numbers and legs
abbrev pub request_of : Numbers → List Entry → Request
request_of n row = record { account = n.account; low = n.low; high = n.high; rate = n.rate; cap = n.cap; row = row }

-- fewer bytes than a request's numbers take
pub none-from_few : (body : List ℕ) → length body < 33 → EncodesNoRequest body
none-from_few body few r is = omega (arith, few, ap length is.encoded, request_size r)

-- after the numbers there aren't exactly six bytes for each leg
pub none-from_other : (n : Numbers) (rest body : List ℕ) → FitNumbers n → body ≡ numbers_and n rest → length rest ≢ 6 * n.count → EncodesNoRequest body
unfolding request_encoding
none-from_other n rest body fit whole other r is =
    let found = numbers_unique n (numbers_of r) rest _ fit (fit_numbers r is.fits) (sym whole ∙ is.encoded) in
    other (ap length found.1 ∙ counted_size entry_encoding 6 entry_size r.row ∙ ap (λ k. 6 * k) (sym found.0.count))

-- after the numbers there are six bytes for each leg: the request is that of the numbers and of the legs that the bytes encode
pub request_found : (n : Numbers) (bytes body : List ℕ) → FitNumbers n → body ≡ numbers_and n bytes → length bytes ≡ 6 * n.count → EncodeEntries bytes (entries_in bytes) → EncodesRequest body (request_of n (entries_in bytes))
unfolding request_encoding
request_found n bytes body fit whole size encodes =
    let counted : n.count ≡ length (entries_in bytes) = omega (arith, size, length-entries bytes (entries_in bytes) encodes) in
    let following : unsigned 1 n.count ++ bytes ≡ unsigned 1 (length (entries_in bytes)) ++ _ = ap (λ k. unsigned 1 k ++ bytes) counted ∙ ap (λ xs. unsigned 1 (length (entries_in bytes)) ++ xs) encodes.encoded in
    record {
      fits = record { account = fit.account; low = fit.low; high = fit.high; rate = fit.rate; cap = fit.cap; count = omega (arith, fit.count, counted); row = encodes.fit };
      encoded = whole ∙ ap (λ xs. unsigned 4 n.account ++ (signed 8 n.low ++ (signed 8 n.high ++ (unsigned 4 n.rate ++ (unsigned 8 n.cap ++ xs))))) following;
    }

-- what follows a number at its place, once that is known to be encoded there
after : {A : Type 0} (Fits : A → Type 0) (encode : A → List ℕ) (size place : ℕ) (bytes : List ℕ) (value : A) → IsEncodedAt Fits encode size place bytes value → drop place bytes ≡ encode value ++ drop (place + size) bytes
after Fits encode size place bytes value at =
    begins_with Fits encode size place bytes (drop place bytes) value at refl ∙ ap (λ xs. encode value ++ xs) (drop-drop size place bytes)

-- numbers that were read one after the other
joined : (n : Numbers) (body a b c d e rest : List ℕ) → body ≡ unsigned 4 n.account ++ a → a ≡ signed 8 n.low ++ b → b ≡ signed 8 n.high ++ c → c ≡ unsigned 4 n.rate ++ d → d ≡ unsigned 8 n.cap ++ e → e ≡ unsigned 1 n.count ++ rest → body ≡ numbers_and n rest
joined n body a b c d e rest of_body of_a of_b of_c of_d of_e =
    rw (of_body, of_a, of_b, of_c, of_d, of_e) refl

-- the numbers at the beginning of bytes
abbrev pub numbers_in : List ℕ → Numbers
numbers_in bytes = record {
  account = unsigned_at 4 0 bytes;
  low = signed_at w64 4 bytes;
  high = signed_at w64 12 bytes;
  rate = unsigned_at 4 20 bytes;
  cap = unsigned_at 8 24 bytes;
  count = unsigned_at 1 32 bytes;
}

-- bytes begin with the numbers, if they are enough
pub numbers_there : (bytes : List ℕ) → 33 ≤ length bytes → AreBytes bytes → FitNumbers (numbers_in bytes) × (bytes ≡ numbers_and (numbers_in bytes) (drop 33 bytes))
numbers_there bytes enough small =
    let account = unsigned_encoded 4 0 bytes (omega arith) small in
    let low = signed_encoded_8 4 bytes (omega arith) small in
    let high = signed_encoded_8 12 bytes (omega arith) small in
    let rate = unsigned_encoded 4 20 bytes (omega arith) small in
    let cap = unsigned_encoded 8 24 bytes (omega arith) small in
    let count = unsigned_encoded 1 32 bytes (omega arith) small in (
      record { account = account.fits; low = low.fits; high = high.fits; rate = rate.fits; cap = cap.fits; count = count.fits },
      joined (numbers_in bytes) bytes (drop 4 bytes) (drop 12 bytes) (drop 20 bytes) (drop 24 bytes) (drop 32 bytes) (drop 33 bytes)
          (after (IsUnsigned 4) (unsigned 4) 4 0 bytes _ account) (after (IsSigned 8) (signed 8) 8 4 bytes _ low) (after (IsSigned 8) (signed 8) 8 12 bytes _ high)
          (after (IsUnsigned 4) (unsigned 4) 4 20 bytes _ rate) (after (IsUnsigned 8) (unsigned 8) 8 24 bytes _ cap) (after (IsUnsigned 1) (unsigned 1) 1 32 bytes _ count),
    )

-- what follows the numbers are the legs
pub row_there : (bytes : List ℕ) → HoldRequest bytes → EncodeEntries (drop 33 bytes) (entries_in (drop 33 bytes))
row_there bytes holds =
    entries_encoded (unsigned_at 1 32 bytes) (drop 33 bytes) (omega (arith, holds.size, length-drop 33 bytes)) (All-drop (λ n. n < 256) 33 bytes holds.small)

-- the bytes encode the request at their places
pub request_there : (bytes : List ℕ) → HoldRequest bytes → EncodesRequest bytes (request_in bytes)
request_there bytes holds =
    let there = numbers_there bytes (omega (arith, holds.size)) holds.small in
    request_found (numbers_in bytes) (drop 33 bytes) bytes there.0 there.1 (omega (arith, holds.size, length-drop 33 bytes)) (row_there bytes holds)

-- other bytes encode none
pub none_there : (bytes : List ℕ) → AreBytes bytes → 33 ≤ length bytes → length bytes ≢ 33 + 6 * unsigned_at 1 32 bytes → EncodesNoRequest bytes
none_there bytes small enough other =
    let there = numbers_there bytes enough small in
    none-from_other (numbers_in bytes) (drop 33 bytes) bytes there.0 there.1 (λ left. other (omega (arith, left, length-drop 33 bytes, enough)))

-- whether bytes encode a request
pub request_told : (body : List ℕ) → AreBytes body → ((request : Request) × EncodesRequest body request) ⊎ EncodesNoRequest body
request_told body small =
    elim (cases_lt (length body) 33) [
      | inl few ↦ inr (none-from_few body few)
      | inr enough ↦
          elim (cases_eq (length body) (33 + 6 * unsigned_at 1 32 body)) [
            | inl size ↦ inl (request_in body, request_there body (record { small = small; size = size }))
            | inr other ↦ inr (none_there body small enough other)
          ]
    ]

-- four bytes are a last batch, and what follows them is a request or isn't
pub until_from : (last : ℕ) (rest body : List ℕ) (request : Request) → IsUnsigned 4 last → body ≡ unsigned 4 last ++ rest → EncodesRequest rest request → EncodesUntil body last request
until_from last rest body request fits whole encodes = record { fits = (fits, encodes.fits); encoded = whole ∙ ap (λ xs. unsigned 4 last ++ xs) encodes.encoded }

pub none_until-from_rest : (last : ℕ) (rest body : List ℕ) → IsUnsigned 4 last → body ≡ unsigned 4 last ++ rest → EncodesNoRequest rest → EncodesNoUntil body
none_until-from_rest last rest body fits whole none other request encodes =
    let found = unsigned_unique 4 last other rest (request_encoding request) fits encodes.fits.0 (sym whole ∙ encodes.encoded) in
    none request (record { fits = encodes.fits.1; encoded = found.1 })

pub none_until-from_few : (body : List ℕ) → length body < 4 → EncodesNoUntil body
none_until-from_few body few last request encodes =
    omega (arith, few, ap length encodes.encoded, length-append (unsigned 4 last) (request_encoding request), length-unsigned 4 last)

-- whether bytes encode a last batch with a request after it
pub until_told : (body : List ℕ) → AreBytes body → ((last : ℕ) × (request : Request) × EncodesUntil body last request) ⊎ EncodesNoUntil body
until_told body small =
    elim (cases_lt (length body) 4) [
      | inl few ↦ inr (none_until-from_few body few)
      | inr enough ↦
          let prefix = prefix_number 4 (length body - 4) body (omega (arith, enough)) small in
          elim (request_told prefix.1 prefix.4) [
            | inl found ↦ inl (prefix.0, found.0, until_from prefix.0 prefix.1 body found.0 prefix.2 prefix.5 found.1)
            | inr none ↦ inr (none_until-from_rest prefix.0 prefix.1 body prefix.2 prefix.5 none)
          ]
    ]
