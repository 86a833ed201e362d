-- Which commands a line of JSON asks for: one, or those of a ladder.
use Rattle.std.specs.Prelude.{◌≡◌, ℕ, ◌-◌, ◌<◌, ◌^◌, ℤ, nat_le, if◌then◌else◌, ◌⊎◌, List, [], ◌∷◌, ◌++◌, length, replicate, map, codes, position, bytes_eq, All, IsUtf8, Option, Some, None, option_map, option_and_then}
use Rattle.std.specs.List.Sorted.{IsStrictlyIncreasing}
use Rattle.wire_fields.specs.Numbers.{IsSigned}
use Rattle.weight_rows.specs.declared.entries.Entry.{Entry}
use Rattle.weight_rows.specs.Rows.{assets_of}
use Rattle.serde_json.specs.Data.{Data, Items, no_items, item, Members, no_members, member}
use Rattle.serde_json.specs.Read.{read}
use Rattle.serde_json.specs.Events.{members_len}
use Rattle.serde_json.specs.Find.{get, as_str, as_number, as_u64, as_i64, as_array, as_object}
use Rattle.wire_records.specs.Commands.{Request, Command, AddAsset, OpenAccount, Deposit, Withdraw, Place, CancelOrder, RunBatch, SetCredit}
use Rattle.wire_records.specs.Versions.{IsOfVersion}
use Rattle.wire_records.specs.Limits.{limits_of}
use Rattle.wire_records.specs.declared.version.Version.{Version}
use Rattle.ticker_table.specs.Adding.{IsAddable}
use Rattle.curve_ladder.specs.declared.points.Point.{Point}
use Rattle.curve_ladder.specs.Ladders.{Ladder, IsLadder}
use Rattle.curve_ladder.specs.Segments.{requests_of}

-- a blank line: spaces (32), tabs (9) and carriage returns (13) alone, or nothing
abbrev pub IsBlank : List ℕ → Type 0
IsBlank line = All (λ byte. (byte ≡ 32) ⊎ (byte ≡ 9) ⊎ (byte ≡ 13)) line

-- the whole number that a value is, 0 or more
abbrev pub whole_of : Data → Option ℕ
whole_of d = option_and_then as_u64 (as_number d)

-- the whole number that a value is, negative or not
abbrev pub signed_of : Data → Option ℤ
signed_of d = option_and_then as_i64 (as_number d)

-- a text of at most 8 bytes, padded with spaces (32) to 8
abbrev pub padded : List ℕ → Option (List ℕ)
padded text = if nat_le (length text) 8 then Some (text ++ replicate (8 - length text) 32) else None

-- the number of the asset that a text names, given the tickers in the order of their numbers
abbrev pub asset_named : List (List ℕ) → List ℕ → Option ℕ
asset_named tickers text = option_and_then (λ ticker. position (bytes_eq ticker) tickers) (padded text)

-- a leg is one of these members: its key names the asset, and its value is the weight, a whole number of 32 bits with a sign
abbrev pub IsEntryOf : List (List ℕ) → Members → Entry → Type 0
IsEntryOf tickers no_members e = ⊥
IsEntryOf tickers (member key value members) e =
    ((asset_named tickers key ≡ Some e.asset) × (signed_of value ≡ Some e.weight) × IsSigned 4 e.weight) ⊎ IsEntryOf tickers members e

-- Members are a weight vector: it has as many legs as there are members, with ascending assets, and each leg is a member. So each
-- member is a leg, and no two name the same asset.
pub record AreWeights (tickers : List (List ℕ)) (members : Members) (row : List Entry) : Type 0 where
  pub ascending : IsStrictlyIncreasing (assets_of row)
  pub count : length row ≡ members_len members
  pub each : All (IsEntryOf tickers members) row

-- a value is a point of a ladder: an array of its price, a whole number of 64 bits with a sign, and its rate, one of 32 bits without
pub record IsPoint (d : Data) (p : Point) : Type 0 where
  pub price : Data
  pub rate : Data
  pub two : as_array d ≡ Some (item price (item rate no_items))
  pub price_is : signed_of price ≡ Some p.price
  pub rate_is : whole_of rate ≡ Some p.rate
  pub small : p.rate < 2 ^ 32

-- values are these points, one by one
abbrev pub ArePoints : Items → List Point → Type 0
ArePoints no_items [] = Unit {0}
ArePoints no_items (p ∷ points) = ⊥
ArePoints (item d items) [] = ⊥
ArePoints (item d items) (p ∷ points) = IsPoint d p × ArePoints items points

-- What may be at a key: a text as it is, a ticker, which is a text of ASCII alone, padded to 8 bytes, a text that names an asset, a whole
-- number of 32 bits or of 64, one of 64 with a sign, a weight vector, and points.
pub data Value : Type 0 where
  Text : (text : List ℕ) → Value
  Ticker : (ticker : List ℕ) → Value
  Asset : (asset : ℕ) → Value
  Small : (number : ℕ) → Value
  Number : (number : ℕ) → Value
  Signed : (number : ℤ) → Value
  Weights : (row : List Entry) → Value
  Points : (points : List Point) → Value

-- a JSON value has this meaning, given the tickers of the lines before
abbrev pub HasMeaning : List (List ℕ) → Data → Value → Type 0
HasMeaning tickers d (Text text) = as_str d ≡ Some text
HasMeaning tickers d (Ticker ticker) = (text : List ℕ) × (as_str d ≡ Some text) × All (λ byte. byte < 128) text × (padded text ≡ Some ticker)
HasMeaning tickers d (Asset asset) = (text : List ℕ) × (as_str d ≡ Some text) × (asset_named tickers text ≡ Some asset)
HasMeaning tickers d (Small number) = (whole_of d ≡ Some number) × (number < 2 ^ 32)
HasMeaning tickers d (Number number) = whole_of d ≡ Some number
HasMeaning tickers d (Signed number) = signed_of d ≡ Some number
HasMeaning tickers d (Weights row) = (members : Members) × (as_object d ≡ Some members) × AreWeights tickers members row
HasMeaning tickers d (Points points) = (items : Items) × (as_array d ≡ Some items) × ArePoints items points

-- an object has a value of this meaning at a key
abbrev pub HasAt : List (List ℕ) → Data → List ℕ → Value → Type 0
HasAt tickers d key is = (value : Data) × (get key d ≡ Some value) × HasMeaning tickers value is

-- an object has `count` keys
abbrev pub HasKeys : ℕ → Data → Type 0
HasKeys count d = option_map members_len (as_object d) ≡ Some count

-- an object has these members, each at a key of its own, and no further keys
abbrev pub HasMembers : List (List ℕ) → Data → List (List ℕ × Value) → Type 0
HasMembers tickers d members = All (λ m. HasAt tickers d m.0 m.1) members × HasKeys (length members) d

-- the members of the object that asks for an order, besides `do` and `last`
abbrev pub order_members : Request → List (List ℕ × Value)
order_members r =
    (codes "account", Small r.account) ∷ (codes "low", Signed r.low) ∷ (codes "high", Signed r.high) ∷ (codes "rate", Small r.rate) ∷ (codes "cap", Number r.cap) ∷ (codes "weights", Weights r.row) ∷ []

-- the members of the object that asks for a deposit, a withdrawal or a credit, besides `do`: of money in ticks, and of an asset in units
abbrev pub amount_members : ℕ → Option ℕ → ℕ → List (List ℕ × Value)
amount_members account None ticks = (codes "account", Small account) ∷ (codes "ticks", Number ticks) ∷ []
amount_members account (Some asset) units = (codes "account", Small account) ∷ (codes "asset", Asset asset) ∷ (codes "units", Number units) ∷ []

-- the members of the object that asks for a command
abbrev pub members_of : Command → List (List ℕ × Value)
members_of (AddAsset ticker) = (codes "do", Text (codes "asset")) ∷ (codes "ticker", Ticker ticker) ∷ []
members_of OpenAccount = (codes "do", Text (codes "account")) ∷ []
members_of (Deposit account kind count) = (codes "do", Text (codes "deposit")) ∷ amount_members account kind count
members_of (Withdraw account kind count) = (codes "do", Text (codes "withdraw")) ∷ amount_members account kind count
members_of (Place None request) = (codes "do", Text (codes "place")) ∷ order_members request
members_of (CancelOrder account order) = (codes "do", Text (codes "cancel")) ∷ (codes "account", Small account) ∷ (codes "order", Number order) ∷ []
members_of (RunBatch budget) = (codes "do", Text (codes "batch")) ∷ (codes "budget", Small budget) ∷ []
members_of (Place (Some last) request) = (codes "do", Text (codes "place")) ∷ (codes "last", Small last) ∷ order_members request
members_of (SetCredit account kind count) = (codes "do", Text (codes "credit")) ∷ amount_members account kind count

-- the members of the object that asks for a ladder's orders
abbrev pub ladder_members : Ladder → ℕ → List Entry → List (List ℕ × Value)
ladder_members l account row =
    (codes "do", Text (codes "ladder")) ∷ (codes "account", Small account) ∷ (codes "points", Points l.points) ∷ (codes "turns", Small l.turns) ∷ (codes "weights", Weights row) ∷ []

-- An object asks for the orders of a ladder: it has the ladder's members, and the ladder has no fault. The commands place its orders, one for
-- each drop of its rate, in ascending prices; each version has them.
pub record AsksLadder (tickers : List (List ℕ)) (d : Data) (commands : List Command) : Type 0 where
  pub ladder : Ladder
  pub account : ℕ
  pub row : List Entry
  pub members : HasMembers tickers d (ladder_members ladder account row)
  pub lawful : IsLadder ladder
  pub commands_are : commands ≡ map (Place None) (requests_of ladder account row)

-- what a line may ask for: one command, or those of a ladder, which may be one too
pub data Asked : Type 0 where
  Alone : (command : Command) → Asked
  OfLadder : (commands : List Command) → Asked

-- the commands that are asked for, in order
abbrev pub commands_of : Asked → List Command
commands_of (Alone command) = command ∷ []
commands_of (OfLadder commands) = commands

-- an object asks for this in a version
abbrev pub ObjectAsks : Version → List (List ℕ) → Data → Asked → Type 0
ObjectAsks version tickers d (Alone command) = HasMembers tickers d (members_of command) × IsOfVersion version command
ObjectAsks version tickers d (OfLadder commands) = AsksLadder tickers d commands

-- a line asks for this in a version: it isn't blank, and it is the UTF-8 of an object that does
pub record LineAsks (version : Version) (tickers : List (List ℕ)) (line : List ℕ) (asked : Asked) : Type 0 where
  pub written : ¬ IsBlank line
  pub utf8 : IsUtf8 line
  pub value : Data
  pub reads : read line ≡ Some value
  pub asks : ObjectAsks version tickers value asked

-- a command adds this ticker in a version: it is AddAsset with this ticker, and the ticker can be added
abbrev pub AddsTicker : Version → List (List ℕ) → Command → List ℕ → Type 0
AddsTicker version tickers command ticker = (command ≡ AddAsset ticker) × IsAddable (limits_of version).assets tickers ticker

-- the tickers after a command: those before it, followed by the one that it adds, if it adds one
abbrev pub Leaves : Version → List (List ℕ) → Command → List (List ℕ) → Type 0
Leaves version tickers command after =
    ((ticker : List ℕ) × AddsTicker version tickers command ticker × (after ≡ tickers ++ ticker ∷ [])) ⊎ (((ticker : List ℕ) → ¬ AddsTicker version tickers command ticker) × (after ≡ tickers))

-- the tickers after several commands, one after the other
abbrev pub Leave : Version → List (List ℕ) → List Command → List (List ℕ) → Type 0
Leave version tickers [] after = after ≡ tickers
Leave version tickers (command ∷ commands) after = (next : List (List ℕ)) × Leaves version tickers command next × Leave version next commands after

-- a line asks for this in a version, given the tickers of the lines before, and `after` are the tickers after it
pub record Says (version : Version) (tickers : List (List ℕ)) (line : List ℕ) (asked : Asked) (after : List (List ℕ)) : Type 0 where
  pub asks : LineAsks version tickers line asked
  pub leaves : Leave version tickers (commands_of asked) after

-- a line that is neither blank nor asks for commands
pub record SaysNothing (version : Version) (tickers : List (List ℕ)) (line : List ℕ) : Type 0 where
  pub written : ¬ IsBlank line
  pub no_command : (asked : Asked) → ¬ LineAsks version tickers line asked
