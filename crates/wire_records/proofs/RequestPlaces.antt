-- Requests and records whose bytes were written as they are.
use Rattle.std.proofs.Common.{◌≡◌, ◌+◌, ◌-◌, ◌*◌, ◌≤◌, ℕ, List, ◌++◌, length, length-append, take, drop, append_assoc, sym, ap, ◌∙◌, arith, None, Some}
use Rattle.std.specs.Prelude.{slice_index_or}
use Rattle.std.proofs.lemmas.List.{take_at, drop_at, take_rest}
use Rattle.wire_fields.specs.Numbers.{unsigned}
use Rattle.wire_fields.proofs.Encoding.{length-unsigned}
use Rattle.wire_records.specs.Records.{Record, AreBytes, AreEncoding, head, encoding}
use Rattle.wire_records.specs.Commands.{Request, Place}
use Rattle.wire_records.specs.CommandRecords.{IsCommand, body_of, record_of}
use Rattle.wire_records.specs.Bodies.{request_encoding, body_encoding}
use Rattle.wire_records.specs.Private.{request_in, HoldRequest, IsRequestAt, EncodesRequest}
use Rattle.wire_records.proofs.Encoded.{length-head, length-encoding}
use Rattle.wire_records.proofs.FieldForms.{body_is_plain, command_from}
use Rattle.wire_records.proofs.Requests.{numbers_of, fit_numbers, numbers_unique, request_size, request_unique}
use Rattle.wire_records.proofs.RequestsTold.{numbers_in, numbers_there, request_there}

-- bytes that encode a request hold it
pub holds_request : (bytes : List ℕ) (request : Request) → AreBytes bytes → EncodesRequest bytes request → HoldRequest bytes
unfolding request_encoding
holds_request bytes request small is =
    let size = ap length is.encoded ∙ request_size request in
    let there = numbers_there bytes (omega (arith, size)) small in
    let found = numbers_unique (numbers_in bytes) (numbers_of request) (drop 33 bytes) _ there.0 (fit_numbers request is.fits) (sym there.1 ∙ is.encoded) in
    record { small = small; size = size ∙ ap (λ n. 33 + 6 * n) (sym found.0.count) }

-- the request that they hold is that one
pub request_held : (bytes : List ℕ) (request : Request) → HoldRequest bytes → EncodesRequest bytes request → request_in bytes ≡ request
request_held bytes request holds is =
    let there = request_there bytes holds in
    request_unique (request_in bytes) request there.fits is.fits (sym there.encoded ∙ is.encoded)

-- the bytes at the place of a request encode it
pub encodes_at : (bytes : List ℕ) (place legs : ℕ) (request : Request) → IsRequestAt bytes place legs request → EncodesRequest (take (place + 33 + 6 * legs - place) (drop place bytes)) request
encodes_at bytes place legs request is =
    let size : length (request_encoding request) ≡ place + 33 + 6 * legs - place = request_size request ∙ omega (arith, is.count) in
    record {
      fits = is.fits;
      encoded = ap (λ xs. take (place + 33 + 6 * legs - place) (drop place xs)) is.encoded
          ∙ ap (take (place + 33 + 6 * legs - place)) (drop_at is.before (request_encoding request ++ is.after) place is.placed)
          ∙ take_at (request_encoding request) is.after (place + 33 + 6 * legs - place) size;
    }

-- and they are there
pub ends_within : (bytes : List ℕ) (place legs : ℕ) (request : Request) → IsRequestAt bytes place legs request → place + 33 + 6 * legs ≤ length bytes
ends_within bytes place legs request is =
    omega (arith, ap length is.encoded, length-append is.before (request_encoding request ++ is.after), length-append (request_encoding request) is.after, request_size request, is.count, is.placed)

-- the request of an order is after the head of its record
pub order_written : (bytes rest : List ℕ) (legs : ℕ) (request : Request) → legs ≡ length request.row → IsCommand (Place None request) → bytes ≡ encoding (record_of (Place None request)) ++ rest → IsRequestAt bytes 5 legs request
unfolding encoding body_encoding
order_written bytes rest legs request count fits whole =
    let body = body_of (Place None request) in
    let first = head 7 (length body) in
    record {
      fits = command_from (Place None request) fits;
      count = sym count;
      before = first;
      after = rest;
      encoded = whole ∙ ap (λ xs. (first ++ xs) ++ rest) (body_is_plain (Place None request)) ∙ append_assoc first (request_encoding request) rest;
      placed = length-head 7 (length body);
    }

-- and after its last batch, if it has one
pub until_written : (bytes rest : List ℕ) (legs last : ℕ) (request : Request) → legs ≡ length request.row → IsCommand (Place (Some last) request) → bytes ≡ encoding (record_of (Place (Some last) request)) ++ rest → IsRequestAt bytes 9 legs request
unfolding encoding body_encoding
until_written bytes rest legs last request count fits whole =
    let command = Place (Some last) request in
    let first = head 10 (length (body_of command)) in
    let number = unsigned 4 last in
    record {
      fits = (command_from command fits).1;
      count = sym count;
      before = first ++ number;
      after = rest;
      encoded = whole ∙ ap (λ xs. (first ++ xs) ++ rest) (body_is_plain command) ∙ ap (λ xs. xs ++ rest) (sym (append_assoc first number (request_encoding request))) ∙ append_assoc (first ++ number) (request_encoding request) rest;
      placed = length-append first number ∙ omega (arith, length-head 10 (length (body_of command)), length-unsigned 4 last);
    }

-- the first byte of a record is its tag
pub tag_first : (bytes : List ℕ) (r : Record) → AreEncoding r bytes → slice_index_or bytes 0 0 ≡ r.tag
unfolding encoding head unsigned
tag_first bytes r is = ap (λ xs. slice_index_or xs 0 0) is.encoded ∙ omega (arith, is.tag)

-- what follows the head is its body
pub body_after : (bytes : List ℕ) (r : Record) → AreEncoding r bytes → take (length bytes - 5) (drop 5 bytes) ≡ r.body
unfolding encoding
body_after bytes r is =
    take_rest bytes 5 ∙ ap (drop 5) is.encoded ∙ drop_at (head r.tag (length r.body)) r.body 5 (length-head r.tag (length r.body))

-- a record takes five bytes at least
pub some_bytes : (bytes : List ℕ) (r : Record) → AreEncoding r bytes → 5 ≤ length bytes
some_bytes bytes r is = omega (arith, ap length is.encoded, length-encoding r)
