-- A line has one answer.
use Rattle.std.proofs.Common.{◌≡◌, ◌≢◌, ℕ, List, [], ◌∷◌, ◌++◌, length, drop, map, Some, Result, Ok, Err, refl, sym, ap, subst, ◌∙◌, inl, inr, rules, Bool, true, false, true≢false, None}
use Rattle.wire_records.specs.Commands.{Command, AddAsset, OpenAccount, Deposit, Withdraw, Place, CancelOrder, RunBatch, SetCredit}
use Rattle.serde_json.specs.Data.{Data}
use Rattle.wire_records.specs.Views.{command_in}
use Rattle.wire_records.specs.declared.command.Command as owned
use Rattle.wire_records.specs.declared.command.Command.TheVariants as own
use Rattle.order_text.specs.declared.line.LineRead.{LineRead}
use Rattle.order_text.specs.declared.line.LineRead.TheVariants.{Blank}
use Rattle.order_text.specs.declared.line.LineRead.TheVariants as line_is
use Rattle.order_text.specs.declared.line.LineFault.{LineFault}
use Rattle.order_text.specs.declared.line.LineFault.TheVariants.{NoCommand, Memory}
use Rattle.wire_records.specs.declared.version.Version.{Version}
use Rattle.order_text.specs.Lines.{HasKeys, padded, asset_named, Value, Text, Ticker, Asset, Small, Number, Signed, Weights, Points, HasAt, members_of, ladder_members, AsksLadder, Asked, Alone, OfLadder, ObjectAsks, commands_of, LineAsks, Leaves, Leave, Says}
use Rattle.order_text.specs.Private.{text_at, number_at, signed_member, members_at, items_at, word_of, Has, put_members, put_points}
use Rattle.order_text.proofs.AskedFor.{word_asked, fits_asked}
use Rattle.order_text.proofs.Weights.{made_where}
use Rattle.order_text.proofs.Ladders.{made_where as points_made_where, has_ladder, ladder_asked, not_alone, ladders_are}
use Rattle.curve_ladder.specs.declared.points.Point.{Point}
use Rattle.weight_rows.specs.declared.entries.Entry.{Entry}
use Rattle.std.specs.Prelude.{option_and_then, unwrap_or, codes}
use Rattle.std.specs.List.{AllByRecursion}
use Rattle.order_text.specs.Answers.{IsLineRead, may_run_out}
use Rattle.order_text.specs.Laws.{OneSaying, OneTable}

-- the Rust value of a command
abbrev own_of : Command → owned.Command
own_of (AddAsset ticker) = own.AddAsset ticker
own_of OpenAccount = own.OpenAccount
own_of (Deposit account None ticks) = own.DepositMoney account ticks
own_of (Deposit account (Some asset) units) = own.DepositAsset account asset units
own_of (Withdraw account None ticks) = own.WithdrawMoney account ticks
own_of (Withdraw account (Some asset) units) = own.WithdrawAsset account asset units
own_of (Place None r) = own.PlaceOrder r.account r.low r.high r.rate r.cap r.row
own_of (CancelOrder account order) = own.CancelOrder account order
own_of (RunBatch budget) = own.RunBatch budget
own_of (Place (Some last) r) = own.PlaceUntil last r.account r.low r.high r.rate r.cap r.row
own_of (SetCredit account None ticks) = own.SetMoneyCredit account ticks
own_of (SetCredit account (Some asset) units) = own.SetUnitCredit account asset units

own_is : (c : owned.Command) → own_of (command_in c) ≡ c
own_is (own.AddAsset ticker) = refl
own_is command = refl

plain_is : (c : Command) → command_in (own_of c) ≡ c
plain_is (Deposit account None ticks) = refl
plain_is (Withdraw account None ticks) = refl
plain_is (Place None r) = refl
plain_is (SetCredit account None ticks) = refl
plain_is command = refl

same_own : (a b : owned.Command) → command_in a ≡ command_in b → a ≡ b
same_own a b same = sym (own_is a) ∙ ap own_of same ∙ own_is b

-- lists of Rust values with equal commands are equal
same_owns : (a b : List owned.Command) → map command_in a ≡ map command_in b → a ≡ b
same_owns [] [] same = refl
same_owns [] (y ∷ b) same = absurd (cc)
same_owns (x ∷ a) [] same = absurd (cc)
same_owns (x ∷ a) (y ∷ b) same =
    let first : command_in x ≡ command_in y = cc in
    let rest : map command_in a ≡ map command_in b = cc in
    rw (same_own x y first, same_owns a b rest) refl

plains_are : (cs : List Command) → map command_in (map own_of cs) ≡ cs
plains_are [] = refl
plains_are (c ∷ cs) = rw (plain_is c, plains_are cs) refl

-- two equal things that are asked for hold the same
alone_is : (a b : Command) → Alone a ≡ Alone b → a ≡ b
alone_is a b same = cc

ladder_is : (a b : List Command) → OfLadder a ≡ OfLadder b → a ≡ b
ladder_is a b same = cc

abbrev Answer : Type 0
Answer = Result LineRead LineFault

abbrev asks_own : owned.Command → Answer
asks_own c = Ok (line_is.Asks c)

abbrev asks_owns : List owned.Command → Answer
asks_owns cs = Ok (line_is.Many cs)

-- equal commands that add an asset have one ticker
ticker_is : (a b : List ℕ) → AddAsset a ≡ AddAsset b → a ≡ b
ticker_is a b same = cc

-- a command leaves one table
one_after : (version : Version) (tickers : List (List ℕ)) (command : Command) (after other : List (List ℕ)) → Leaves version tickers command after → Leaves version tickers command other → after ≡ other
one_after version tickers command after other (inl a) (inl b) =
    let ticker = ticker_is a.0 b.0 (sym a.1.0 ∙ b.1.0) in
    a.2 ∙ ap (λ (t : List ℕ). tickers ++ t ∷ []) ticker ∙ sym b.2
one_after version tickers command after other (inl a) (inr b) = absurd (b.0 a.0 a.1)
one_after version tickers command after other (inr a) (inl b) = absurd (a.0 b.0 b.1)
one_after version tickers command after other (inr a) (inr b) = a.1 ∙ sym b.1

pub one_table : OneTable
one_table version tickers [] after other a b = a ∙ sym b
one_table version tickers (command ∷ commands) after other a b =
    let same = one_after version tickers command a.0 b.0 a.1 b.1 in
    one_table version b.0 commands after other (subst (λ t. Leave version t commands after) same a.2) b.2

-- the value at a key, as an equation
abbrev Gives : List (List ℕ) → Data → List ℕ → Value → Type 0
Gives tickers d key (Text text) = text_at key d ≡ Some text
Gives tickers d key (Ticker ticker) = option_and_then padded (text_at key d) ≡ Some ticker
Gives tickers d key (Asset asset) = option_and_then (asset_named tickers) (text_at key d) ≡ Some asset
Gives tickers d key (Small number) = number_at key d ≡ Some number
Gives tickers d key (Number number) = number_at key d ≡ Some number
Gives tickers d key (Signed number) = signed_member key d ≡ Some number
Gives tickers d key (Weights row) = option_and_then (λ members. put_members tickers members []) (members_at key d) ≡ Some row
Gives tickers d key (Points points) = option_and_then (λ items. put_points items []) (items_at key d) ≡ Some points

gives : (tickers : List (List ℕ)) (d : Data) (key : List ℕ) (value : Value) → HasAt tickers d key value → Gives tickers d key value
gives tickers d key (Text text) has = rw has.1 has.2
gives tickers d key (Ticker ticker) has = rw (has.1, has.2.1) has.2.3
gives tickers d key (Asset asset) has = rw (has.1, has.2.1) has.2.2
gives tickers d key (Small number) has = rw has.1 has.2.0
gives tickers d key (Number number) has = rw has.1 has.2
gives tickers d key (Signed number) has = rw has.1 has.2
gives tickers d key (Weights row) has = rw (has.1, has.2.1) (made_where tickers has.2.0 row has.2.2)
gives tickers d key (Points points) has = rw (has.1, has.2.1) (points_made_where has.2.0 points has.2.2)

all_give : (tickers : List (List ℕ)) (d : Data) (members : List (List ℕ × Value)) → Has tickers d members → AllByRecursion (λ m. Gives tickers d m.0 m.1) members
all_give tickers d [] has = tt
all_give tickers d (m ∷ members) has = (gives tickers d m.0 m.1 has.0, all_give tickers d members has.1)

-- What an object that asks for a command gives.
record Tells (tickers : List (List ℕ)) (d : Data) (command : Command) : Type 0 where
  word : text_at (codes "do") d ≡ Some (word_of command)
  fields : AllByRecursion (λ m. Gives tickers d m.0 m.1) (drop 1 (members_of command))
  keys : HasKeys (length (members_of command)) d

tells : (version : Version) (tickers : List (List ℕ)) (d : Data) (command : Command) → ObjectAsks version tickers d (Alone command) → Tells tickers d command
tells version tickers d command asks =
    let fits = fits_asked version tickers d command asks in
    record { word = word_asked version tickers d command asks; fields = all_give tickers d (drop 1 (members_of command)) fits.0; keys = fits.1 }

-- an object gives one command alone
one_told : (tickers : List (List ℕ)) (d : Data) (a b : Command) → Tells tickers d a → Tells tickers d b → a ≡ b
one_told = search (rules, refl)

-- an object asks for one command
one_asked : (version : Version) (tickers : List (List ℕ)) (d : Data) (a b : Command) → ObjectAsks version tickers d (Alone a) → ObjectAsks version tickers d (Alone b) → a ≡ b
one_asked version tickers d a b x y = one_told tickers d a b (tells version tickers d a x) (tells version tickers d b y)

-- an object asks for the orders of one ladder: its values are determined
nat_is : (a b : ℕ) → Some a ≡ Some b → a ≡ b
nat_is a b is = ap (λ o. unwrap_or o 0) is

row_is : (a b : List Entry) → Some a ≡ Some b → a ≡ b
row_is a b is = ap (λ o. unwrap_or o []) is

points_are : (a b : List Point) → Some a ≡ Some b → a ≡ b
points_are a b is = ap (λ o. unwrap_or o []) is

one_ladder : (tickers : List (List ℕ)) (d : Data) (a b : List Command) → AsksLadder tickers d a → AsksLadder tickers d b → a ≡ b
one_ladder tickers d a b x y =
    let one = all_give tickers d (drop 1 (ladder_members x.ladder x.account x.row)) (has_ladder tickers d a x) in
    let other = all_give tickers d (drop 1 (ladder_members y.ladder y.account y.row)) (has_ladder tickers d b y) in
    let account : x.account ≡ y.account = nat_is x.account y.account (sym one.0 ∙ other.0) in
    let points : x.ladder.points ≡ y.ladder.points = points_are x.ladder.points y.ladder.points (sym one.1.0 ∙ other.1.0) in
    let turns : x.ladder.turns ≡ y.ladder.turns = nat_is x.ladder.turns y.ladder.turns (sym one.1.1.0 ∙ other.1.1.0) in
    let row : x.row ≡ y.row = row_is x.row y.row (sym one.1.1.1.0 ∙ other.1.1.1.0) in
    x.commands_are ∙ rw (ladders_are x.ladder y.ladder points turns, account, row) refl ∙ sym y.commands_are

-- an object asks for one thing
one_for : (version : Version) (tickers : List (List ℕ)) (d : Data) (a b : Asked) → ObjectAsks version tickers d a → ObjectAsks version tickers d b → a ≡ b
one_for version tickers d (Alone a) (Alone b) x y = ap Alone (one_asked version tickers d a b x y)
one_for version tickers d (Alone a) (OfLadder b) x y = absurd (not_alone tickers d version a (ladder_asked tickers d b y) x)
one_for version tickers d (OfLadder a) (Alone b) x y = absurd (not_alone tickers d version b (ladder_asked tickers d a x) y)
one_for version tickers d (OfLadder a) (OfLadder b) x y = ap OfLadder (one_ladder tickers d a b x y)

one_value : (version : Version) (tickers : List (List ℕ)) (c d : Data) (a b : Asked) → Some c ≡ Some d → ObjectAsks version tickers c a → ObjectAsks version tickers d b → a ≡ b
one_value version tickers c d a b same x y =
    let value : c ≡ d = cc in
    one_for version tickers d a b (subst (λ v. ObjectAsks version tickers v a) value x) y

-- a line asks for one thing
pub one_thing : (version : Version) (tickers : List (List ℕ)) (line : List ℕ) (a b : Asked) → LineAsks version tickers line a → LineAsks version tickers line b → a ≡ b
one_thing version tickers line a b x y = one_value version tickers x.value y.value a b (sym x.reads ∙ y.reads) x.asks y.asks

pub one_saying : OneSaying
one_saying version tickers line a b after other x y =
    let same = one_thing version tickers line a b x.asks y.asks in
    (same, one_table version tickers (commands_of b) after other (subst (λ asked. Leave version tickers (commands_of asked) after) same x.leaves) y.leaves)

pub one_answer : OneSaying → (version : Version) (tickers : List (List ℕ)) (line : List ℕ) (a b : Answer) (after other : List (List ℕ)) → a ≢ may_run_out → b ≢ may_run_out
    → IsLineRead version tickers line after a → IsLineRead version tickers line other b → (a ≡ b) × (after ≡ other)
one_answer one version tickers line (Ok Blank) (Ok Blank) after other x y p q = (refl, p.1 ∙ sym q.1)
one_answer one version tickers line (Ok Blank) (Ok (line_is.Asks d)) after other x y p q = absurd (q.asks.written p.0)
one_answer one version tickers line (Ok Blank) (Ok (line_is.Many ds)) after other x y p q = absurd (q.asks.written p.0)
one_answer one version tickers line (Ok Blank) (Err NoCommand) after other x y p q = absurd (q.0.written p.0)
one_answer one version tickers line (Ok Blank) (Err Memory) after other x y p q = absurd (y refl)
one_answer one version tickers line (Ok (line_is.Asks c)) (Ok Blank) after other x y p q = absurd (p.asks.written q.0)
one_answer one version tickers line (Ok (line_is.Asks c)) (Ok (line_is.Asks d)) after other x y p q =
    let same = one version tickers line (Alone (command_in c)) (Alone (command_in d)) after other p q in
    (ap asks_own (same_own c d (alone_is (command_in c) (command_in d) same.0)), same.1)
one_answer one version tickers line (Ok (line_is.Asks c)) (Ok (line_is.Many ds)) after other x y p q =
    absurd (let same = (one version tickers line (Alone (command_in c)) (OfLadder (map command_in ds)) after other p q).0 in cc)
one_answer one version tickers line (Ok (line_is.Asks c)) (Err NoCommand) after other x y p q = absurd (q.0.no_command (Alone (command_in c)) p.asks)
one_answer one version tickers line (Ok (line_is.Asks c)) (Err Memory) after other x y p q = absurd (y refl)
one_answer one version tickers line (Ok (line_is.Many cs)) (Ok Blank) after other x y p q = absurd (p.asks.written q.0)
one_answer one version tickers line (Ok (line_is.Many cs)) (Ok (line_is.Asks d)) after other x y p q =
    absurd (let same = (one version tickers line (OfLadder (map command_in cs)) (Alone (command_in d)) after other p q).0 in cc)
one_answer one version tickers line (Ok (line_is.Many cs)) (Ok (line_is.Many ds)) after other x y p q =
    let same = one version tickers line (OfLadder (map command_in cs)) (OfLadder (map command_in ds)) after other p q in
    (ap asks_owns (same_owns cs ds (ladder_is (map command_in cs) (map command_in ds) same.0)), same.1)
one_answer one version tickers line (Ok (line_is.Many cs)) (Err NoCommand) after other x y p q = absurd (q.0.no_command (OfLadder (map command_in cs)) p.asks)
one_answer one version tickers line (Ok (line_is.Many cs)) (Err Memory) after other x y p q = absurd (y refl)
one_answer one version tickers line (Err NoCommand) (Ok Blank) after other x y p q = absurd (p.0.written q.0)
one_answer one version tickers line (Err NoCommand) (Ok (line_is.Asks d)) after other x y p q = absurd (p.0.no_command (Alone (command_in d)) q.asks)
one_answer one version tickers line (Err NoCommand) (Ok (line_is.Many ds)) after other x y p q = absurd (p.0.no_command (OfLadder (map command_in ds)) q.asks)
one_answer one version tickers line (Err NoCommand) (Err NoCommand) after other x y p q = (refl, p.1 ∙ sym q.1)
one_answer one version tickers line (Err NoCommand) (Err Memory) after other x y p q = absurd (y refl)
one_answer one version tickers line (Err Memory) b after other x y p q = absurd (x refl)

-- a command isn't without tickers that it leaves
some_after : (version : Version) (tickers : List (List ℕ)) (command : Command) → ((after : List (List ℕ)) → Leaves version tickers command after → ⊥) → ⊥
some_after version tickers command none = none tickers (inr (λ ticker adds. none (tickers ++ ticker ∷ []) (inl (ticker, adds, refl)), refl))

-- several commands aren't without tickers that they leave
some_after_all : (version : Version) (tickers : List (List ℕ)) (commands : List Command) → ((after : List (List ℕ)) → Leave version tickers commands after → ⊥) → ⊥
some_after_all version tickers [] none = none tickers refl
some_after_all version tickers (command ∷ commands) none =
    some_after version tickers command (λ next leaves. some_after_all version next commands (λ after rest. none after (next, leaves, rest)))

abbrev is_wanting : Answer → Bool
is_wanting (Ok read) = false
is_wanting (Err NoCommand) = false
is_wanting (Err Memory) = true

told : (result : Answer) → is_wanting result ≡ false → result ≢ may_run_out
told result is same = true≢false (sym (ap is_wanting same) ∙ is)

pub none_is_unanswered : (version : Version) (tickers : List (List ℕ)) (line : List ℕ) → ((after : List (List ℕ)) (result : Answer) → result ≢ may_run_out → IsLineRead version tickers line after result → ⊥) → ⊥
none_is_unanswered version tickers line none =
    none tickers (Err NoCommand) (told (Err NoCommand) refl) (
      record {
        written = λ blank. none tickers (Ok Blank) (told (Ok Blank) refl) (blank, refl);
        no_command = λ asked asks. some_after_all version tickers (commands_of asked) (λ after leaves. answered asked after (record { asks = asks; leaves = leaves }));
      },
      refl,
    )
  where
    answered : (asked : Asked) (after : List (List ℕ)) → Says version tickers line asked after → ⊥
    answered (Alone command) after says = none after (Ok (line_is.Asks (own_of command))) (told (Ok (line_is.Asks (own_of command))) refl) (rw (plain_is command) says)
    answered (OfLadder commands) after says = none after (Ok (line_is.Many (map own_of commands))) (told (Ok (line_is.Many (map own_of commands))) refl) (rw (plains_are commands) says)
