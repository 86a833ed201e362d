-- What a line asks for is asked for by its echo too.
use Rattle.std.proofs.Common.{◌≡◌, inl, inr, ℕ, ◌-◌, ◌<◌, Bool, true, false, List, [], ◌∷◌, ◌++◌, length, map, nat_le, if◌then◌else◌, Some, None, All, refl, sym, ap, subst, codes, arith, replicate}
use Rattle.std.specs.Prelude.{unwrap_or}
use Rattle.std.specs.List.{AllByRecursion}
use Rattle.std.proofs.lemmas.List.Elements.{All-nil, All-cons, All-append, All-replicate, All-weaker, All-from_recursion, recursion_from_All}
use Rattle.json.specs.Print.{escape_byte}
use Rattle.serde_json.specs.Data.{Data, Members, no_members, member}
use Rattle.weight_rows.specs.declared.entries.Entry.{Entry}
use Rattle.wire_records.specs.Commands.{Command, AddAsset, OpenAccount, Deposit, Withdraw, Place, CancelOrder, RunBatch, SetCredit}
use Rattle.wire_records.specs.CommandRecords.{IsCommand}
use Rattle.wire_records.specs.Bodies.{FitsCommand}
use Rattle.wire_records.specs.Versions.{IsOfVersion}
use Rattle.wire_records.specs.declared.version.Version.{Version}
use Rattle.wire_records.proofs.FieldForms.{command_from}
use Rattle.ticker_table.specs.Tickers.{AreTickers}
use Rattle.curve_ladder.specs.declared.segment.Segment.{Segment}
use Rattle.curve_ladder.specs.Segments.{segments_of, request_of}
use Rattle.order_text.specs.Lines.{padded, IsEntryOf, AreWeights, Small, HasAt, members_of, order_members, Asked, Alone, OfLadder, commands_of, LineAsks, ObjectAsks}
use Rattle.order_text.proofs.AskedFor.{fits_asked, rest_of, weights_of}
use Rattle.order_text.proofs.ShortRows.{named_below, ladder_row}
use Rattle.order_text.proofs.Fitting.{commands_fit}
use Rattle.order_text.proofs.OneAnswers.{one_thing}
use Rattle.answer_laws.specs.Laws.{echo_of, AsksForJust, MayBeAfter, TheEchoIsTheCommand}
use Rattle.answer_laws.proofs.Legs.{IsLeg}
use Rattle.answer_laws.proofs.Escapes.{asset_asks}
use Rattle.answer_laws.proofs.Echoes.{open_asks, cancel_asks, batch_asks, money_asks, units_asks, place_asks, place_until_asks}

-- a padded text of ASCII
list_is : (a b : List ℕ) → Some a ≡ Some b → a ≡ b
list_is a b is = ap (λ o. unwrap_or o []) is

ascii_padded : (text ticker : List ℕ) → All (λ byte. byte < 128) text → padded text ≡ Some ticker → All (λ byte. byte < 128) ticker
ascii_padded text ticker ascii is = by (nat_le (length text) 8) is
  where
    by : (b : Bool) → (if b then Some (text ++ replicate (8 - length text) 32) else None) ≡ Some ticker → All (λ byte. byte < 128) ticker
    by true e =
        subst (All (λ byte. byte < 128)) (list_is (text ++ replicate (8 - length text) 32) ticker e)
        (All-append (λ byte. byte < 128) text (replicate (8 - length text) 32) ascii (All-replicate (λ byte. byte < 128) (8 - length text) 32 (omega arith)))
    by false e = absurd (cc)

module _ (version : Version) (tickers : List (List ℕ)) (are : AreTickers tickers) where
  -- the members of a command ask for it
  abbrev EchoAsks : Command → Type 0
  EchoAsks command = LineAsks version tickers (echo_of tickers command) (Alone command)

  -- the legs of a weight vector
  leg_of : (members : Members) (e : Entry) → IsEntryOf tickers members e → IsLeg tickers e
  leg_of no_members e is = absurd is
  leg_of (member key value more) e (inl is) = (named_below tickers key e.asset is.0, is.2)
  leg_of (member key value more) e (inr is) = leg_of more e is

  legs_of : (read : Members) (row : List Entry) → AreWeights tickers read row → AllByRecursion (IsLeg tickers) row
  legs_of read row weights = recursion_from_All (IsLeg tickers) row (All-weaker (IsEntryOf tickers read) (IsLeg tickers) (λ e is. leg_of read e is) row weights.each)

  -- a command that an object asks for
  alone : (d : Data) (command : Command) → FitsCommand command → ObjectAsks version tickers d (Alone command) → EchoAsks command
  unfolding escape_byte
  alone d (AddAsset ticker) fits asks =
      let f = (fits_asked version tickers d (AddAsset ticker) asks).0.0.2 in
      asset_asks version tickers ticker fits.0 (ascii_padded f.0 ticker f.2 f.3) asks.1
  alone d OpenAccount fits asks = open_asks version tickers asks.1
  alone d (Deposit account None ticks) fits asks = money_asks version tickers (codes "deposit") refl refl account fits.0 ticks fits.1 (Deposit account None ticks) refl asks.1
  alone d (Deposit account (Some asset) units) fits asks =
      let named = (fits_asked version tickers d (Deposit account (Some asset) units) asks).0.1.0.2 in
      units_asks version tickers (codes "deposit") refl refl account fits.0 are asset (named_below tickers named.0 asset named.2) units fits.2 (Deposit account (Some asset) units) refl asks.1
  alone d (Withdraw account None ticks) fits asks = money_asks version tickers (codes "withdraw") refl refl account fits.0 ticks fits.1 (Withdraw account None ticks) refl asks.1
  alone d (Withdraw account (Some asset) units) fits asks =
      let named = (fits_asked version tickers d (Withdraw account (Some asset) units) asks).0.1.0.2 in
      units_asks version tickers (codes "withdraw") refl refl account fits.0 are asset (named_below tickers named.0 asset named.2) units fits.2 (Withdraw account (Some asset) units) refl asks.1
  alone d (Place None r) fits asks =
      let weights = (weights_of tickers d r (fits_asked version tickers d (Place None r) asks).0).2 in
      place_asks version tickers are r fits (legs_of weights.0 r.row weights.2) weights.0 weights.2 asks.1
  alone d (CancelOrder account order) fits asks = cancel_asks version tickers account order fits.0 fits.1 asks.1
  alone d (RunBatch budget) fits asks = batch_asks version tickers budget fits asks.1
  alone d (Place (Some last) r) fits asks =
      let has = (fits_asked version tickers d (Place (Some last) r) asks).0 in
      let weights = (weights_of tickers d r (rest_of tickers d (codes "last", Small last) (order_members r) has)).2 in
      place_until_asks version tickers are r fits.1 (legs_of weights.0 r.row weights.2) last fits.0 weights.0 weights.2 asks.1
  alone d (SetCredit account None ticks) fits asks = money_asks version tickers (codes "credit") refl refl account fits.0 ticks fits.1 (SetCredit account None ticks) refl asks.1
  alone d (SetCredit account (Some asset) units) fits asks =
      let named = (fits_asked version tickers d (SetCredit account (Some asset) units) asks).0.1.0.2 in
      units_asks version tickers (codes "credit") refl refl account fits.0 are asset (named_below tickers named.0 asset named.2) units fits.2 (SetCredit account (Some asset) units) refl asks.1

  -- the orders of a ladder
  each_order : (account : ℕ) (row : List Entry) (read : Members) → AreWeights tickers read row → (segments : List Segment) → AllByRecursion IsCommand (map (Place None) (map (request_of account row) segments))
      → AllByRecursion (IsOfVersion version) (map (Place None) (map (request_of account row) segments)) → AllByRecursion EchoAsks (map (Place None) (map (request_of account row) segments))
  each_order account row read weights [] fit of = tt
  each_order account row read weights (s ∷ segments) fit of = (
    place_asks version tickers are (request_of account row s) (command_from (Place None (request_of account row s)) fit.0) (legs_of read row weights) read weights of.0,
    each_order account row read weights segments fit.1 of.1,
  )

  -- each command that a line asks for
  each : (line : List ℕ) (asked : Asked) → LineAsks version tickers line asked → All EchoAsks (commands_of asked)
  each line (Alone command) asks =
      let fit = commands_fit version tickers line (Alone command) are asks in
      All-cons EchoAsks command [] (alone asks.value command (command_from command (recursion_from_All IsCommand (command ∷ []) fit.0).0) asks.asks) (All-nil EchoAsks)
  each line (OfLadder commands) asks =
      let fit = commands_fit version tickers line (OfLadder commands) are asks in
      let ladder = asks.asks in
      let weights = (ladder_row tickers asks.value commands ladder).2 in
      let orders = map (Place None) (map (request_of ladder.account ladder.row) (segments_of ladder.ladder)) in
      subst (All EchoAsks) (sym ladder.commands_are) (All-from_recursion EchoAsks orders (each_order ladder.account ladder.row weights.0 weights.2 (segments_of ladder.ladder)
      (recursion_from_All IsCommand orders (subst (All IsCommand) ladder.commands_are fit.0)) (recursion_from_All (IsOfVersion version) orders (subst (All (IsOfVersion version)) ladder.commands_are fit.1))))

  -- ---- with the tickers after the command

  -- an asset's ticker is read alike with other tickers
  with_others : (after : List (List ℕ)) (ticker text : List ℕ) → LineAsks version tickers text (Alone (AddAsset ticker)) → LineAsks version after text (Alone (AddAsset ticker))
  with_others after ticker text asks = record {
    written = asks.written;
    utf8 = asks.utf8;
    value = asks.value;
    reads = asks.reads;
    asks = (
      (
        All-from_recursion (λ m. HasAt after asks.value m.0 m.1) (members_of (AddAsset ticker)) (recursion_from_All (λ m. HasAt tickers asks.value m.0 m.1) (members_of (AddAsset ticker)) asks.asks.0.0),
        asks.asks.0.1,
      ),
      asks.asks.1,
    );
  }

  -- it asks for nothing else
  just : (other : List (List ℕ)) (text : List ℕ) (command : Command) → LineAsks version other text (Alone command) → AsksForJust version other text command
  just other text command asks = (asks, λ asked also. one_thing version other text asked (Alone command) also asks)

  abbrev IsEcho : List (List ℕ) → Command → Type 0
  IsEcho after command = AsksForJust version tickers (echo_of after command) command × AsksForJust version after (echo_of after command) command

  answered : (command : Command) → EchoAsks command → (after : List (List ℕ)) → MayBeAfter tickers command after → IsEcho after command
  answered command asks after (inl same) = subst (λ (ts : List (List ℕ)). IsEcho ts command) (sym same) (just tickers (echo_of tickers command) command asks, just tickers (echo_of tickers command) command asks)
  answered command asks after (inr (ticker, is, longer)) =
      subst (IsEcho after) (sym is) (
      let echo = subst EchoAsks is asks in
      (just tickers (echo_of tickers (AddAsset ticker)) (AddAsset ticker) echo, just after (echo_of tickers (AddAsset ticker)) (AddAsset ticker) (with_others after ticker (echo_of tickers (AddAsset ticker)) echo))
      )

pub the_echo_is_the_command : TheEchoIsTheCommand
the_echo_is_the_command version tickers line asked are asks =
    All-weaker (EchoAsks version tickers are) (λ command. (after : List (List ℕ)) → MayBeAfter tickers command after → IsEcho version tickers are after command) (λ command echo. answered version tickers are command echo) (commands_of asked)
    (each version tickers are line asked asks)
