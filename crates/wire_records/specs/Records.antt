-- What a record is, and how it is encoded in bytes.
use Rattle.std.specs.Prelude.{◌≡◌, ◌≢◌, ◌<◌, ◌≤◌, ◌^◌, ℕ, List, ◌++◌, length, All}
use Rattle.wire_fields.specs.Numbers.{unsigned}

-- numbers below 256, which are bytes
abbrev pub AreBytes : List ℕ → Type 0
AreBytes bytes = All (λ b. b < 256) bytes

-- a record: a tag and a body
pub record Record : Type 0 where
  pub tag : ℕ
  pub body : List ℕ

-- a record whose tag is a byte, and whose body has at most so many bytes
pub record IsRecord (limit : ℕ) (r : Record) : Type 0 where
  pub tag : r.tag < 256
  pub body : length r.body ≤ limit

-- the head of a record: the tag in one byte, and the length of the body in four
unfoldable pub head : ℕ → ℕ → List ℕ
head tag n = unsigned 1 tag ++ unsigned 4 n

-- the encoding of a record: the tag and the length of the body, and then the body
unfoldable pub encoding : Record → List ℕ
encoding r = head r.tag (length r.body) ++ r.body

-- the bytes are the encoding of this record, whose tag and length fit their fields
pub record AreEncoding (r : Record) (bytes : List ℕ) : Type 0 where
  pub tag : r.tag < 256
  pub body : length r.body < 2 ^ 32
  pub encoded : bytes ≡ encoding r

-- the bytes begin with a head that states this length of a body, whether or not the body follows
abbrev pub StatesLength : ℕ → List ℕ → Type 0
StatesLength n bytes = (n < 2 ^ 32) × (tag : ℕ) × (tag < 256) × (rest : List ℕ) × (bytes ≡ head tag n ++ rest)

-- the bytes don't begin with a complete record
abbrev pub HasNoPrefix : ℕ → List ℕ → Type 0
HasNoPrefix limit bytes = (r : Record) (rest : List ℕ) → IsRecord limit r → bytes ≢ encoding r ++ rest

-- the longest body of a command record, in bytes
abbrev pub most_body : ℕ
most_body = 1024

-- the length of the longest command record, in bytes: 5 of its head, and a body at its limit
abbrev pub longest_record : ℕ
longest_record = 1029
