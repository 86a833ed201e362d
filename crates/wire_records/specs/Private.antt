-- What the views of requests and of their legs are made of.
use Rattle.std.specs.Prelude.{◌≡◌, ◌⊎◌, ℕ, ◌+◌, ◌*◌, ◌++◌, List, [], ◌∷◌, length, drop, All, None, Some}
use Rattle.std.specs.List.{flat_map}
use Rattle.std.specs.Int.{cast_signed, w32, w64}
use Rattle.wire_fields.specs.Numbers.{unsigned, IsUnsigned}
use Rattle.byte_places.specs.Places.{unsigned_at, signed_at}
use Rattle.weight_rows.specs.declared.entries.Entry.{Entry}
use Rattle.wire_records.specs.Records.{AreBytes}
use Rattle.wire_records.specs.Commands.{Request, Command, Place}
use Rattle.wire_records.specs.Bodies.{entry_encoding, request_encoding, IsEntry, IsRequest}

-- the leg that these six bytes encode
abbrev pub entry_in : ℕ → ℕ → ℕ → ℕ → ℕ → ℕ → Entry
entry_in a b c d e f = record { asset = a * 256 + b; weight = cast_signed w32 (((c * 256 + d) * 256 + e) * 256 + f) }

-- the legs that bytes encode, six bytes each; fewer than six bytes encode none
unfoldable pub entries_in : List ℕ → List Entry
entries_in (a ∷ b ∷ c ∷ d ∷ e ∷ f ∷ rest) = entry_in a b c d e f ∷ entries_in rest
entries_in _ = []

-- these bytes are the encodings of these legs
pub record EncodeEntries (bytes : List ℕ) (row : List Entry) : Type 0 where
  pub fit : All IsEntry row
  pub encoded : bytes ≡ flat_map entry_encoding row

-- the request that bytes encode: each of its numbers is at a place of its own, and the legs follow them
abbrev pub request_in : List ℕ → Request
request_in bytes = record {
  account = unsigned_at 4 0 bytes;
  low = signed_at w64 4 bytes;
  high = signed_at w64 12 bytes;
  rate = unsigned_at 4 20 bytes;
  cap = unsigned_at 8 24 bytes;
  row = entries_in (drop 33 bytes);
}

-- bytes that a request is read from: its numbers, and six bytes for each leg that they state
pub record HoldRequest (bytes : List ℕ) : Type 0 where
  pub small : AreBytes bytes
  pub size : length bytes ≡ 33 + 6 * unsigned_at 1 32 bytes

-- this body encodes this request
pub record EncodesRequest (body : List ℕ) (request : Request) : Type 0 where
  pub fits : IsRequest request
  pub encoded : body ≡ request_encoding request

-- this body encodes no request
abbrev pub EncodesNoRequest : List ℕ → Type 0
EncodesNoRequest body = (request : Request) → ¬ EncodesRequest body request

-- the bytes have the encoding of this request, of so many legs, at this place
pub record IsRequestAt (bytes : List ℕ) (place legs : ℕ) (request : Request) : Type 0 where
  pub fits : IsRequest request
  pub count : length request.row ≡ legs
  pub before : List ℕ
  pub after : List ℕ
  pub encoded : bytes ≡ before ++ (request_encoding request ++ after)
  pub placed : length before ≡ place

-- this body encodes this last batch and, after it, this request
pub record EncodesUntil (body : List ℕ) (last : ℕ) (request : Request) : Type 0 where
  pub fits : IsUnsigned 4 last × IsRequest request
  pub encoded : body ≡ unsigned 4 last ++ request_encoding request

-- this body encodes no last batch with a request after it
abbrev pub EncodesNoUntil : List ℕ → Type 0
EncodesNoUntil body = (last : ℕ) (request : Request) → ¬ EncodesUntil body last request

-- the tag of a command of an account and an amount of ticks, or an account and an order
abbrev pub IsAccountTag : ℕ → Type 0
IsAccountTag tag = (tag ≡ 3) ⊎ (tag ≡ 5) ⊎ (tag ≡ 8) ⊎ (tag ≡ 11)

-- the tag of a command of an account, an asset and an amount of units
abbrev pub IsAssetTag : ℕ → Type 0
IsAssetTag tag = (tag ≡ 4) ⊎ (tag ≡ 6) ⊎ (tag ≡ 12)

-- the most bytes of the record of a command: exact for an order with this many legs, and 19 for any other command
abbrev pub room_of : Command → ℕ
room_of (Place None request) = 38 + 6 * length request.row
room_of (Place (Some last) request) = 42 + 6 * length request.row
room_of _ = 19
