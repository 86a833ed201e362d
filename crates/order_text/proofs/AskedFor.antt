-- What an object asks for by its word.
use Rattle.std.proofs.Common.{◌≡◌, ℕ, suc, ℤ, ◌≤◌, List, [], ◌∷◌, length, drop, Option, Some, None, Result, Ok, Err, refl, sym, ap, subst, ◌∙◌, arith, rules}
use Rattle.std.specs.Prelude.{codes, unwrap_or, option_and_then}
use Rattle.weight_rows.specs.declared.entries.Entry.{Entry}
use Rattle.serde_json.specs.Data.{Data}
use Rattle.serde_json.specs.Find.{get, as_str}
use Rattle.wire_records.specs.Commands.{Request, Command, AddAsset, Deposit, Withdraw, Place, CancelOrder, RunBatch, SetCredit}
use Rattle.wire_records.specs.declared.command.Command as owned
use Rattle.wire_records.specs.Versions.{most_tag, HasLastBatches, HasCredit, IsOfVersion}
use Rattle.wire_records.specs.Views.{command_in}
use Rattle.wire_records.specs.declared.version.Version.{Version}
use Rattle.wire_records.specs.declared.version.Version.TheVariants.{One, Two}
use Rattle.wire_records.proofs.Numbered.{first_tags, all_tags}
use Rattle.order_text.specs.declared.line.LineFault.{LineFault}
use Rattle.order_text.specs.declared.line.LineFault.TheVariants.{NoCommand, Memory}
use Rattle.std.proofs.lemmas.List.Elements.{All-from_recursion, recursion_from_All}
use Rattle.order_text.specs.Lines.{HasKeys, Value, Text, Ticker, Small, Number, Weights, HasAt, order_members, amount_members, members_of, ObjectAsks, Alone}
use Rattle.order_text.specs.Private.{text_at, word_of, Has, HasOrderMembers, Fits, AnswersOrder, IsUntil, IsPlaced, HasMoney, HasUnits, HasLimits}

-- a command of the first version is one of each
pub of_each : (version : Version) (command : Command) → IsOfVersion One command → IsOfVersion version command
of_each version command of = (of.0, omega (arith, of.1, first_tags version))

-- a command of version two is one of each version that has more commands than version one
pub of_later : (version : Version) (command : Command) → 10 ≤ most_tag version → IsOfVersion Two command → IsOfVersion version command
of_later version command more of = (of.0, omega (arith, of.1, all_tags version more))

-- which commands have which word
asset_is : (command : Command) → word_of command ≡ codes "asset" → (ticker : List ℕ) × (command ≡ AddAsset ticker)
asset_is = search (rules, refl)

deposit_is : (command : Command) → word_of command ≡ codes "deposit" → (account : ℕ) × (kind : Option ℕ) × (count : ℕ) × (command ≡ Deposit account kind count)
deposit_is = search (rules, refl)

withdraw_is : (command : Command) → word_of command ≡ codes "withdraw" → (account : ℕ) × (kind : Option ℕ) × (count : ℕ) × (command ≡ Withdraw account kind count)
withdraw_is = search (rules, refl)

credit_is : (command : Command) → word_of command ≡ codes "credit" → (account : ℕ) × (kind : Option ℕ) × (count : ℕ) × (command ≡ SetCredit account kind count)
credit_is = search (rules, refl)

-- a command with the word of credit is one of a version that has credit
pub gives_credit : (version : Version) (command : Command) → word_of command ≡ codes "credit" → IsOfVersion version command → HasCredit version
gives_credit version command word of = let is = credit_is command word in by_kind is.0 is.1 is.2 (subst (IsOfVersion version) is.3 of)
  where
    by_kind : (account : ℕ) (kind : Option ℕ) (count : ℕ) → IsOfVersion version (SetCredit account kind count) → HasCredit version
    by_kind account None ticks of = of.1
    by_kind account (Some asset) units of = omega (arith, of.1)

cancel_is : (command : Command) → word_of command ≡ codes "cancel" → (account order : ℕ) × (command ≡ CancelOrder account order)
cancel_is = search (rules, refl)

batch_is : (command : Command) → word_of command ≡ codes "batch" → (budget : ℕ) × (command ≡ RunBatch budget)
batch_is = search (rules, refl)

place_is : (command : Command) → word_of command ≡ codes "place" → (last : Option ℕ) × (request : Request) × (command ≡ Place last request)
place_is = search (rules, refl)

-- the text at a key, both ways
pub text_of : (tickers : List (List ℕ)) (d : Data) (key text : List ℕ) → HasAt tickers d key (Text text) → text_at key d ≡ Some text
text_of tickers d key text has = rw has.1 has.2

pub text_where : (tickers : List (List ℕ)) (d : Data) (key text : List ℕ) → text_at key d ≡ Some text → HasAt tickers d key (Text text)
text_where tickers d key text is = by (get key d) refl is
  where
    by : (o : Option Data) → get key d ≡ o → option_and_then as_str o ≡ Some text → HasAt tickers d key (Text text)
    by None there is = absurd cc
    by (Some value) there is = (value, there, is)

-- an object's members begin with the word at `do`
word_first : (command : Command) → members_of command ≡ (codes "do", Text (word_of command)) ∷ drop 1 (members_of command)
word_first (Place None request) = refl
word_first command = refl

-- the members after the first
pub rest_of : (tickers : List (List ℕ)) (d : Data) (m : List ℕ × Value) (members : List (List ℕ × Value)) → Has tickers d (m ∷ members) → Has tickers d members
rest_of tickers d m members has = has.1

-- an object that asks for a command has the word at `do`, and the other members
all_asked : (version : Version) (tickers : List (List ℕ)) (d : Data) (command : Command) → ObjectAsks version tickers d (Alone command) → Has tickers d ((codes "do", Text (word_of command)) ∷ drop 1 (members_of command))
all_asked version tickers d command asks = subst (Has tickers d) (word_first command) (recursion_from_All (λ m. HasAt tickers d m.0 m.1) (members_of command) asks.0.0)

pub word_asked : (version : Version) (tickers : List (List ℕ)) (d : Data) (command : Command) → ObjectAsks version tickers d (Alone command) → text_at (codes "do") d ≡ Some (word_of command)
word_asked version tickers d command asks = text_of tickers d (codes "do") (word_of command) (all_asked version tickers d command asks).0

pub fits_asked : (version : Version) (tickers : List (List ℕ)) (d : Data) (command : Command) → ObjectAsks version tickers d (Alone command) → Fits tickers d command
fits_asked version tickers d command asks = (rest_of tickers d (codes "do", Text (word_of command)) (drop 1 (members_of command)) (all_asked version tickers d command asks), asks.0.1)

-- an object with the word at `do` and the other members asks for the command
pub asks_of : (version : Version) (tickers : List (List ℕ)) (d : Data) (command : Command) → text_at (codes "do") d ≡ Some (word_of command) → Fits tickers d command → IsOfVersion version command → ObjectAsks version tickers d (Alone command)
asks_of version tickers d command word fits of =
    ((All-from_recursion (λ m. HasAt tickers d m.0 m.1) (members_of command) (subst (Has tickers d) (sym (word_first command)) (text_where tickers d (codes "do") (word_of command) word, fits.0)), fits.1), of)

module _ (tickers : List (List ℕ)) (d : Data) where
  -- this word is at `do`
  abbrev Word : List ℕ → Type 0
  Word word = text_at (codes "do") d ≡ Some word

  -- the word of a command that is asked for
  pub one_word : (version : Version) (word : List ℕ) (command : Command) → text_at (codes "do") d ≡ Some word → ObjectAsks version tickers d (Alone command) → word_of command ≡ word
  one_word version word command asked asks = ap (λ o. unwrap_or o []) (sym (word_asked version tickers d command asks) ∙ asked)

  -- an object that lacks a field of a command with a word of its own doesn't ask for it
  pub no_asset : ((ticker : List ℕ) → HasAt [] d (codes "ticker") (Ticker ticker) → ⊥) → (command : Command) → word_of command ≡ codes "asset" → Fits tickers d command → ⊥
  no_asset none command word fits = let is = asset_is command word in none is.0 (subst (Fits tickers d) is.1 fits).0.0

  pub no_cancel : ((account order : ℕ) → HasAt [] d (codes "account") (Small account) → HasAt [] d (codes "order") (Number order) → ⊥) → (command : Command) → word_of command ≡ codes "cancel" → Fits tickers d command → ⊥
  no_cancel none command word fits =
      let is = cancel_is command word in
      let has = (subst (Fits tickers d) is.2 fits).0 in
      none is.0 is.1 has.0 has.1.0

  pub no_batch : ((budget : ℕ) → HasAt [] d (codes "budget") (Small budget) → ⊥) → (command : Command) → word_of command ≡ codes "batch" → Fits tickers d command → ⊥
  no_batch none command word fits = let is = batch_is command word in none is.0 (subst (Fits tickers d) is.1 fits).0.0

  -- an object with neither form of an amount has none
  no_amount : ((account ticks : ℕ) → HasMoney d account ticks → ⊥) → ((account asset units : ℕ) → HasUnits tickers d account asset units → ⊥)
      → (account : ℕ) (kind : Option ℕ) (count : ℕ) → Has tickers d (amount_members account kind count) → HasKeys (suc (length (amount_members account kind count))) d → ⊥
  no_amount by_money by_units account None ticks has keys = by_money account ticks (has.0, has.1.0, keys)
  no_amount by_money by_units account (Some asset) units has keys = by_units account asset units (has.0, has.1.0, has.1.1.0, keys)

  -- an object with neither form of a deposit asks for none
  pub no_deposit : ((account ticks : ℕ) → HasMoney d account ticks → ⊥) → ((account asset units : ℕ) → HasUnits tickers d account asset units → ⊥)
      → (command : Command) → word_of command ≡ codes "deposit" → Fits tickers d command → ⊥
  no_deposit by_money by_units command word fits =
      let is = deposit_is command word in
      let has = subst (Fits tickers d) is.3 fits in
      no_amount by_money by_units is.0 is.1 is.2 has.0 has.1

  -- an object with neither form of a withdrawal asks for none
  pub no_withdraw : ((account ticks : ℕ) → HasMoney d account ticks → ⊥) → ((account asset units : ℕ) → HasUnits tickers d account asset units → ⊥)
      → (command : Command) → word_of command ≡ codes "withdraw" → Fits tickers d command → ⊥
  no_withdraw by_money by_units command word fits =
      let is = withdraw_is command word in
      let has = subst (Fits tickers d) is.3 fits in
      no_amount by_money by_units is.0 is.1 is.2 has.0 has.1

  -- an object with neither form of a credit asks for none
  pub no_credit : ((account ticks : ℕ) → HasMoney d account ticks → ⊥) → ((account asset units : ℕ) → HasUnits tickers d account asset units → ⊥)
      → (command : Command) → word_of command ≡ codes "credit" → Fits tickers d command → ⊥
  no_credit by_money by_units command word fits =
      let is = credit_is command word in
      let has = subst (Fits tickers d) is.3 fits in
      no_amount by_money by_units is.0 is.1 is.2 has.0 has.1

  -- an object without the fields of an order, with a last batch or without one, asks for none
  no_order : (version : Version) → ((request : Request) → HasOrderMembers tickers d request → HasKeys 7 d → ⊥)
      → ((last : ℕ) (request : Request) → IsOfVersion version (Place (Some last) request) → HasAt tickers d (codes "last") (Small last) → HasOrderMembers tickers d request → HasKeys 8 d → ⊥)
      → (command : Command) → word_of command ≡ codes "place" → IsOfVersion version command → Fits tickers d command → ⊥
  no_order version none no_until command word of fits =
      let is = place_is command word in by_last is.0 is.1 (subst (IsOfVersion version) is.2 of) (subst (Fits tickers d) is.2 fits)
    where
      by_last : (last : Option ℕ) (request : Request) → IsOfVersion version (Place last request) → Fits tickers d (Place last request) → ⊥
      by_last None request of has = none request has.0 has.1
      by_last (Some last) request of has = no_until last request of has.0.0 (rest_of tickers d (codes "last", Small last) (order_members request) has.0) has.1

  -- an object doesn't have both seven keys and eight
  one_count : HasKeys 7 d → HasKeys 8 d → ⊥
  one_count seven eight = let apart : 7 ≡ 8 = ap (λ o. unwrap_or o 0) (sym seven ∙ eight) in absurd (omega (arith, apart))

  -- the order of a version without last batches
  pub placed_without_last : (version : Version) → (¬ HasLastBatches version) → (result : Result owned.Command LineFault) → AnswersOrder tickers d result → IsPlaced version tickers d result
  placed_without_last version no_last (Ok command) is = (is.0, is.1, of_each version (command_in command) is.2, is.3)
  placed_without_last version no_last (Err NoCommand) none = no_order version none (λ last request of at has keys. no_last of.1)
  placed_without_last version no_last (Err Memory) is = is

  -- the order of a version with last batches, if there are seven keys, or if there aren't
  pub placed_with_seven : (version : Version) → HasKeys 7 d → (result : Result owned.Command LineFault) → AnswersOrder tickers d result → IsPlaced version tickers d result
  placed_with_seven version seven (Ok command) is = (is.0, is.1, of_each version (command_in command) is.2, is.3)
  placed_with_seven version seven (Err NoCommand) none = no_order version none (λ last request of at has keys. one_count seven keys)
  placed_with_seven version seven (Err Memory) is = is

  pub placed_without_seven : (version : Version) → HasLastBatches version → (¬ HasKeys 7 d) → (result : Result owned.Command LineFault) → IsUntil tickers d result → IsPlaced version tickers d result
  placed_without_seven version has_last not_seven (Ok command) is = (is.0, is.1, of_later version (command_in command) has_last is.2, is.3)
  placed_without_seven version has_last not_seven (Err NoCommand) none = no_order version (λ request has keys. not_seven keys) (λ last request of at has keys. none last request at has keys)
  placed_without_seven version has_last not_seven (Err Memory) is = is

  -- the weights of an order that an object has
  pub weights_of : (request : Request) → HasOrderMembers tickers d request → HasAt tickers d (codes "weights") (Weights request.row)
  weights_of request fields = fields.1.1.1.1.1.0

  -- an object without a weight vector asks for no order
  pub order_failed : (fault : LineFault) → (fault ≡ NoCommand → (row : List Entry) → HasAt tickers d (codes "weights") (Weights row) → ⊥) → AnswersOrder tickers d (Err fault)
  order_failed NoCommand none = λ request fields keys. none refl request.row (weights_of request fields)
  order_failed Memory none = tt

  pub until_failed : (fault : LineFault) → (fault ≡ NoCommand → (row : List Entry) → HasAt tickers d (codes "weights") (Weights row) → ⊥) → IsUntil tickers d (Err fault)
  until_failed NoCommand none = λ last request at fields keys. none refl request.row (weights_of request fields)
  until_failed Memory none = tt

  -- an object without the numbers of an order has no order
  pub no_request : ((account : ℕ) (low high : ℤ) (rate cap : ℕ) → HasLimits d account low high rate cap → ⊥) → (request : Request) → HasOrderMembers tickers d request → ⊥
  no_request none r fields = none r.account r.low r.high r.rate r.cap (fields.0, fields.1.0, fields.1.1.0, fields.1.1.1.0, fields.1.1.1.1.0)
