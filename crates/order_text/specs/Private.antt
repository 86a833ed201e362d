-- Definitions that only private code uses.
use Rattle.std.specs.Prelude.{◌≡◌, ℕ, ◌^◌, ◌==◌, ◌&&◌, ℤ, pos, neg_ℤ, int_lt, int_le, nat_lt, if◌then◌else◌, ◌⊎◌, List, [], ◌∷◌, ◌++◌, length, drop, map, All, codes, Option, Some, None, option_map, option_and_then, Result, Ok, Err}
use Rattle.std.specs.List.{AllByRecursion}
use Rattle.weight_rows.specs.declared.entries.Entry.{Entry}
use Rattle.serde_json.specs.Data.{Data, Items, no_items, item, Members, no_members, member}
use Rattle.serde_json.specs.Find.{get, as_str, as_array, as_object}
use Rattle.ticker_table.specs.Adding.{IsAddable}
use Rattle.wire_records.specs.Commands.{Request, Command, AddAsset, OpenAccount, Deposit, Withdraw, Place, CancelOrder, RunBatch, SetCredit}
use Rattle.wire_records.specs.CommandRecords.{HasShortRow}
use Rattle.wire_records.specs.Versions.{IsOfVersion}
use Rattle.wire_records.specs.Views.{command_in}
use Rattle.wire_records.specs.declared.command.Command as owned
use Rattle.wire_records.specs.declared.version.Version.{Version}
use Rattle.wire_records.specs.declared.version.Version.TheVariants.{One, Two}
use Rattle.curve_ladder.specs.declared.points.Point.{Point}
use Rattle.curve_ladder.specs.Ladders.{Ladder, IsLadder}
use Rattle.curve_ladder.specs.Segments.{requests_of}
use Rattle.order_text.specs.declared.line.LineRead.{LineRead}
use Rattle.order_text.specs.declared.line.LineRead.TheVariants as line_is
use Rattle.order_text.specs.declared.line.LineFault.{LineFault}
use Rattle.order_text.specs.declared.word.Word.{Word}
use Rattle.order_text.specs.declared.word.Word.TheVariants as words
use Rattle.order_text.specs.declared.line.LineFault.TheVariants.{NoCommand, Memory}
use Rattle.order_text.specs.declared.question.Question.{Question}
use Rattle.order_text.specs.declared.question.Question.TheVariants.{Market, Own, Account, Exchange}
use Rattle.order_text.specs.Questions.{question_members}
use Rattle.order_text.specs.Lines.{HasKeys, whole_of, signed_of, asset_named, Value, Asset, Small, Number, Signed, HasAt, order_members, members_of, ladder_members, AsksLadder, Asked, ObjectAsks, Leaves, Alone}

-- the text at a key
abbrev pub text_at : List ℕ → Data → Option (List ℕ)
text_at key d = option_and_then as_str (get key d)

-- the whole number at a key, 0 or more
abbrev pub number_at : List ℕ → Data → Option ℕ
number_at key d = option_and_then whole_of (get key d)

-- the whole number at a key, negative or not
abbrev pub signed_member : List ℕ → Data → Option ℤ
signed_member key d = option_and_then signed_of (get key d)

-- the members of the object at a key
abbrev pub members_at : List ℕ → Data → Option Members
members_at key d = option_and_then as_object (get key d)

-- the values of the array at a key
abbrev pub items_at : List ℕ → Data → Option Items
items_at key d = option_and_then as_array (get key d)

-- the tickers after a ticker, of which a table has at most so many: those before it, followed by it if it can be added
abbrev pub AreWith : ℕ → List (List ℕ) → List ℕ → List (List ℕ) → Type 0
AreWith most tickers ticker after =
    (IsAddable most tickers ticker × (after ≡ tickers ++ ticker ∷ [])) ⊎ ((¬ IsAddable most tickers ticker) × (after ≡ tickers))

-- the text at `do` of the object that asks for a command
abbrev pub word_of : Command → List ℕ
word_of (AddAsset ticker) = codes "asset"
word_of OpenAccount = codes "account"
word_of (Deposit account kind count) = codes "deposit"
word_of (Withdraw account kind count) = codes "withdraw"
word_of (Place last request) = codes "place"
word_of (CancelOrder account order) = codes "cancel"
word_of (RunBatch budget) = codes "batch"
word_of (SetCredit account kind count) = codes "credit"

-- the text of a word
abbrev pub encoded : Word → List ℕ
encoded words.Asset = codes "asset"
encoded words.Account = codes "account"
encoded words.Deposit = codes "deposit"
encoded words.Withdraw = codes "withdraw"
encoded words.Place = codes "place"
encoded words.Cancel = codes "cancel"
encoded words.Batch = codes "batch"
encoded words.Credit = codes "credit"
encoded words.Ladder = codes "ladder"

-- an object has this word at `do`
abbrev pub IsWord : Word → Data → Type 0
IsWord word d = text_at (codes "do") d ≡ Some (encoded word)

-- the answer for a command that was found, or for none
abbrev pub alone : Option owned.Command → Result LineRead LineFault
alone (Some command) = Ok (line_is.Asks command)
alone None = Err NoCommand

-- an object has these members
abbrev pub Has : List (List ℕ) → Data → List (List ℕ × Value) → Type 0
Has tickers d members = AllByRecursion (λ m. HasAt tickers d m.0 m.1) members

-- an object has the members of an order, besides `do`
abbrev pub HasOrderMembers : List (List ℕ) → Data → Request → Type 0
HasOrderMembers tickers d request = Has tickers d (order_members request)

-- an object has the members of a command, besides `do`, and no further keys
abbrev pub Fits : List (List ℕ) → Data → Command → Type 0
Fits tickers d command = Has tickers d (drop 1 (members_of command)) × HasKeys (length (members_of command)) d

-- the command of a version that an object with this word at `do` asks for, or `None` if it asks for none
abbrev pub FindsCommand : List ℕ → Version → List (List ℕ) → Data → Option owned.Command → Type 0
FindsCommand word version tickers d (Some command) =
    (word_of (command_in command) ≡ word) × Fits tickers d (command_in command) × IsOfVersion version (command_in command) × HasShortRow (command_in command)
FindsCommand word version tickers d None = (command : Command) → word_of command ≡ word → ¬ Fits tickers d command

-- the answer for an object that may ask for an order without a last batch
abbrev pub AnswersOrder : List (List ℕ) → Data → Result owned.Command LineFault → Type 0
AnswersOrder tickers d (Ok command) =
    (word_of (command_in command) ≡ codes "place") × Fits tickers d (command_in command) × IsOfVersion One (command_in command) × HasShortRow (command_in command)
AnswersOrder tickers d (Err NoCommand) = (request : Request) → HasOrderMembers tickers d request → ¬ HasKeys 7 d
AnswersOrder tickers d (Err Memory) = Unit {0}

-- the answer for an object that may ask for an order with a last batch
abbrev pub IsUntil : List (List ℕ) → Data → Result owned.Command LineFault → Type 0
IsUntil tickers d (Ok command) =
    (word_of (command_in command) ≡ codes "place") × Fits tickers d (command_in command) × IsOfVersion Two (command_in command) × HasShortRow (command_in command)
IsUntil tickers d (Err NoCommand) = (last : ℕ) (request : Request) → HasAt tickers d (codes "last") (Small last) → HasOrderMembers tickers d request → ¬ HasKeys 8 d
IsUntil tickers d (Err Memory) = Unit {0}

-- the answer for an object that may ask for an order of a version
abbrev pub IsPlaced : Version → List (List ℕ) → Data → Result owned.Command LineFault → Type 0
IsPlaced version tickers d (Ok command) =
    (word_of (command_in command) ≡ codes "place") × Fits tickers d (command_in command) × IsOfVersion version (command_in command) × HasShortRow (command_in command)
IsPlaced version tickers d (Err NoCommand) = (command : Command) → word_of command ≡ codes "place" → IsOfVersion version command → ¬ Fits tickers d command
IsPlaced version tickers d (Err Memory) = Unit {0}

-- an object has the members of a ladder, besides `do`
abbrev pub HasLadder : List (List ℕ) → Data → Ladder → ℕ → List Entry → Type 0
HasLadder tickers d l account row = Has tickers d (drop 1 (ladder_members l account row))

-- the answer for an object that may ask for the orders of a ladder
abbrev pub IsLaddered : List (List ℕ) → Data → Result (List owned.Command) LineFault → Type 0
IsLaddered tickers d (Ok commands) =
    ((l : Ladder) × (account : ℕ) × (row : List Entry) × HasLadder tickers d l account row × HasKeys 5 d × IsLadder l × (map command_in commands ≡ map (Place None) (requests_of l account row)))
    × All (λ command. HasShortRow (command_in command)) commands
IsLaddered tickers d (Err NoCommand) = (l : Ladder) (account : ℕ) (row : List Entry) → HasLadder tickers d l account row → HasKeys 5 d → ¬ IsLadder l
IsLaddered tickers d (Err Memory) = Unit {0}

-- the answer for an object in a version
abbrev pub AnswersObject : Version → List (List ℕ) → Data → Result LineRead LineFault → Type 0
AnswersObject version tickers d (Ok line_is.Blank) = ⊥
AnswersObject version tickers d (Ok (line_is.Asks command)) = ObjectAsks version tickers d (Alone (command_in command)) × HasShortRow (command_in command)
AnswersObject version tickers d (Ok (line_is.Many commands)) = AsksLadder tickers d (map command_in commands) × All (λ command. HasShortRow (command_in command)) commands
AnswersObject version tickers d (Err NoCommand) = (asked : Asked) → ¬ ObjectAsks version tickers d asked
AnswersObject version tickers d (Err Memory) = Unit {0}

-- what was read asks for a command that may add a ticker: for one
abbrev pub AddsSome : LineRead → Type 0
AddsSome line_is.Blank = ⊥
AddsSome (line_is.Asks command) = Unit {0}
AddsSome (line_is.Many commands) = ⊥

-- the tickers after a line that was read
abbrev pub AreAfter : Version → List (List ℕ) → LineRead → List (List ℕ) → Type 0
AreAfter version tickers line_is.Blank after = after ≡ tickers
AreAfter version tickers (line_is.Asks command) after = Leaves version tickers (command_in command) after
AreAfter version tickers (line_is.Many commands) after = after ≡ tickers

-- an object with an account and ticks besides `do`, and no further keys
abbrev pub HasMoney : Data → ℕ → ℕ → Type 0
HasMoney d account ticks = HasAt [] d (codes "account") (Small account) × HasAt [] d (codes "ticks") (Number ticks) × HasKeys 3 d

-- an object with an account, an asset and units besides `do`, and no further keys
abbrev pub HasUnits : List (List ℕ) → Data → ℕ → ℕ → ℕ → Type 0
HasUnits tickers d account asset units =
    HasAt tickers d (codes "account") (Small account) × HasAt tickers d (codes "asset") (Asset asset) × HasAt tickers d (codes "units") (Number units) × HasKeys 4 d

-- an object with the members of an order except its weights
abbrev pub HasLimits : Data → ℕ → ℤ → ℤ → ℕ → ℕ → Type 0
HasLimits d account low high rate cap =
    HasAt [] d (codes "account") (Small account) × HasAt [] d (codes "low") (Signed low) × HasAt [] d (codes "high") (Signed high) × HasAt [] d (codes "rate") (Small rate) × HasAt [] d (codes "cap") (Number cap)

-- ---- the points of an array, one after the other

-- a number of 32 bits, if it is one
abbrev pub in_32_bits : ℕ → Option ℕ
in_32_bits n = if nat_lt n (2 ^ 32) then Some n else None

-- the rate that a value is
abbrev pub rate_of : Data → Option ℕ
rate_of d = option_and_then in_32_bits (whole_of d)

-- the point that two values are
abbrev pub point_in : Items → Option Point
point_in no_items = None
point_in (item price no_items) = None
point_in (item price (item rate no_items)) = option_and_then (λ p. option_map (λ r. record { price = p; rate = r }) (rate_of rate)) (signed_of price)
point_in (item price (item rate (item more items))) = None

-- the point that a value is
abbrev pub point_of : Data → Option Point
point_of d = option_and_then point_in (as_array d)

-- points with one more for each value, or `None` if a value is no point
abbrev pub put_points : Items → List Point → Option (List Point)
put_points no_items points = Some points
put_points (item d items) points = option_and_then (λ p. put_points items (points ++ p ∷ [])) (point_of d)

-- ---- the weight vector of an object of weights, one member after the other

-- a signed number of 32 bits, if it is one
abbrev pub in_signed_32_bits : ℤ → Option ℤ
in_signed_32_bits z = if int_le (neg_ℤ (pos (2 ^ 31))) z && int_lt z (pos (2 ^ 31)) then Some z else None

-- the weight that a value is
abbrev pub weight_of : Data → Option ℤ
weight_of d = option_and_then in_signed_32_bits (signed_of d)

-- the leg that a member is
abbrev pub entry_of : List (List ℕ) → List ℕ → Data → Option Entry
entry_of tickers key d =
    option_and_then (λ asset. option_map (λ weight. record { asset = asset; weight = weight }) (weight_of d)) (asset_named tickers key)

-- legs by ascending asset number with one more at its place, or `None` if its asset is there already
abbrev pub put_entry : Entry → List Entry → Option (List Entry)
put_entry e [] = Some (e ∷ [])
put_entry e (first ∷ row) =
    if e.asset == first.asset then None else (if nat_lt e.asset first.asset then Some (e ∷ first ∷ row) else option_map (λ more. first ∷ more) (put_entry e row))

-- legs by ascending asset number with one more for each member, or `None` if a member is no leg or names an asset again
abbrev pub put_members : List (List ℕ) → Members → List Entry → Option (List Entry)
put_members tickers no_members row = Some row
put_members tickers (member key value members) row =
    option_and_then (λ more. put_members tickers members more) (option_and_then (λ e. put_entry e row) (entry_of tickers key value))

-- ---- questions

-- the text at `ask` of the object that asks a question
abbrev pub asked_in : Question → List ℕ
asked_in Market = codes "market"
asked_in Own = codes "account"
asked_in (Account number) = codes "account"
asked_in Exchange = codes "exchange"

-- an object has the members of a question, besides `ask`, and no further keys
abbrev pub FitsQuestion : Data → Question → Type 0
FitsQuestion d question = Has [] d (drop 1 (question_members question)) × HasKeys (length (question_members question)) d

-- the question that an object with this text at `ask` asks, or `None` if it asks none
abbrev pub FindsQuestion : List ℕ → Data → Option Question → Type 0
FindsQuestion text d (Some question) = (asked_in question ≡ text) × FitsQuestion d question
FindsQuestion text d None = (question : Question) → asked_in question ≡ text → ¬ FitsQuestion d question
