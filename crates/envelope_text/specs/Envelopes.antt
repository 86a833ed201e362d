-- Lines with a sender.
use Rattle.std.specs.Prelude.{◌≡◌, ℕ, ◌<◌, ◌^◌, List, [], ◌∷◌, length, codes, IsUtf8, Option, Some, None}
use Rattle.std.specs.Str.Parse.{IsNumeral, digits_value, without_leading_plus}
use Rattle.json.specs.Json.{Json, Members, document}
use Rattle.json.specs.Find.{get, as_str, as_number, as_object}
use Rattle.json.specs.Strict.{keys, HasUniqueKeys}

-- an envelope: who sent a text, perhaps under which number, and the text
pub record Sent : Type 0 where
  pub from : ℕ
  pub id : Option ℕ
  pub text : List ℕ

-- a value is this whole number of 64 bits: digits alone, since no number begins with a plus
abbrev pub IsWhole : Json → ℕ → Type 0
IsWhole j number =
    (digits : List ℕ) × (as_number j ≡ Some digits) × IsNumeral 10 (without_leading_plus digits) × (number < 2 ^ 64) × (number ≡ digits_value 10 (without_leading_plus digits))

-- an object has this whole number at a key
abbrev pub HasWhole : Json → List ℕ → ℕ → Type 0
HasWhole j key number = (value : Json) × (get key j ≡ Some value) × IsWhole value number

-- an object has this text at a key
abbrev pub HasText : Json → List ℕ → List ℕ → Type 0
HasText j key text = (value : Json) × (get key j ≡ Some value) × (as_str value ≡ Some text)

-- an object has so many members
abbrev pub HasCount : Json → ℕ → Type 0
HasCount j count = (members : Members) × (as_object j ≡ Some members) × (length (keys members) ≡ count)

-- a value has the member for the number, below 2^63, or none, and no others but two
abbrev pub HasId : Json → Option ℕ → Type 0
HasId j None = HasCount j 2
HasId j (Some id) = HasWhole j (codes "id") id × (id < 2 ^ 63) × HasCount j 3

-- a value is the object of an envelope: it has the sender's number of 32 bits, the text, perhaps the number of the text, and no other members
pub record HasMembers (j : Json) (sent : Sent) : Type 0 where
  pub from : HasWhole j (codes "from") sent.from
  pub small : sent.from < 2 ^ 32
  pub text : HasText j (codes "line") sent.text
  pub id : HasId j sent.id

-- A line is this envelope: the UTF-8 of an object with its members, each once, however their names are escaped.
pub record IsEnvelope (line : List ℕ) (sent : Sent) : Type 0 where
  pub utf8 : IsUtf8 line
  pub value : Json
  pub reads : document line ≡ Some value
  pub once : HasUniqueKeys value
  pub members : HasMembers value sent
