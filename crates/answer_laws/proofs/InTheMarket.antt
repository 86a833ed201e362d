-- The echoes of commands that are served in a market, whose tickers they may add to.
use Rattle.std.proofs.Common.{◌≡◌, ℕ, List, [], ◌∷◌, map, inl, inr, Option, Some, None, Result, refl, sym, ap, subst, ◌∙◌, All, MatchOption}
use Rattle.std.specs.List.{AllByRecursion}
use Rattle.std.proofs.lemmas.List.Elements.{recursion_from_All}
use Rattle.wire_records.specs.Commands.{Request, Command, AddAsset, OpenAccount, Deposit, Withdraw, Place, CancelOrder, RunBatch, SetCredit, Answer, Plain}
use Rattle.wire_records.specs.CommandRecords.{record_of, IsCommand}
use Rattle.wire_records.specs.Versions.{IsOfVersion, IsReadAs}
use Rattle.wire_records.specs.declared.command.BodyFault.{BodyFault}
use Rattle.wire_records.specs.declared.version.Version.{Version}
use Rattle.wire_records.specs.declared.reply.Refusal.{Refusal}
use Rattle.wire_records.specs.declared.reply.Reply.TheVariants.{Refused}
use Rattle.wire_records.proofs.Readings.{command_read}
use Rattle.flow_orders.specs.Outcomes.{Outcome, BatchRule, Cleared, Skipped}
use Rattle.curve_ladder.specs.Segments.{requests_of}
use Rattle.market_rules.specs.Market.{Market}
use Rattle.market_rules.specs.Step.{gives, after_batch, Accepts, Serves, ServesRead}
use Rattle.market_rules.specs.Journal.{Step}
use Rattle.order_text.specs.Lines.{Alone, OfLadder}
use Rattle.order_text.proofs.Fitting.{commands_fit}
use Rattle.answer_laws.specs.Laws.{echo_of, AsksForJust, MayBeAfter, IsEchoed, AreEchoed, TheEchoInTheMarket}
use Rattle.answer_laws.proofs.TheEcho.{the_echo_is_the_command}

-- a market that has the tickers that it may have after a command, and the version
abbrev Keeps : Market → Command → Market → Type 0
Keeps old command new = MayBeAfter old.tickers command new.tickers × (new.version ≡ old.version)

-- a market with other fields changed
same : (old new made : Market) (command : Command) → new ≡ made → made.tickers ≡ old.tickers → made.version ≡ old.version → Keeps old command new
same old new made command is tickers version = (inl (ap (λ (m : Market). m.tickers) is ∙ tickers), ap (λ (m : Market). m.version) is ∙ version)

batch_tickers : (old : Market) (outcome : Outcome) → ((after_batch old outcome).tickers ≡ old.tickers) × ((after_batch old outcome).version ≡ old.version)
batch_tickers old (Cleared c) = (refl, refl)
batch_tickers old (Skipped s) = (refl, refl)

module _ (Rule : BatchRule) where
  accepted : (old : Market) (command : Command) (answer : Answer Outcome) (new : Market) → Accepts Rule old command answer new → Keeps old command new
  accepted old (AddAsset ticker) answer new accepts = (inr (ticker, refl, ap (λ (m : Market). m.tickers) accepts.1), ap (λ (m : Market). m.version) accepts.1)
  accepted old OpenAccount answer new accepts = same old new _ OpenAccount accepts.1 refl refl
  accepted old (Deposit account kind count) answer new accepts = same old new _ (Deposit account kind count) accepts.1 refl refl
  accepted old (Withdraw account kind count) answer new accepts = same old new _ (Withdraw account kind count) accepts.1 refl refl
  accepted old (Place last r) answer new accepts = same old new _ (Place last r) accepts.1 refl refl
  accepted old (CancelOrder account number) answer new accepts = same old new _ (CancelOrder account number) accepts.1 refl refl
  accepted old (RunBatch budget) answer new accepts =
      let batch = batch_tickers old accepts.0 in
      same old new (after_batch old accepts.0) (RunBatch budget) accepts.2.1 batch.0 batch.1
  accepted old (SetCredit account kind count) answer new accepts = same old new _ (SetCredit account kind count) accepts.1 refl refl

  answered : (old : Market) (command : Command) (answer : Answer Outcome) (new : Market) (first : Option Refusal)
      → MatchOption first (Accepts Rule old command answer new) (λ refusal. gives (Plain (Refused refusal)) old answer new) → Keeps old command new
  answered old command answer new None accepts = accepted old command answer new accepts
  answered old command answer new (Some refusal) refused = same old new old command refused.1 refl refl

  tickers_kept : (old : Market) (command : Command) (answer : Answer Outcome) (new : Market) → Serves Rule old command answer new → Keeps old command new
  tickers_kept old command answer new serves = answered old command answer new serves.first serves.answered

  -- a step on the record of a command serves it
  step_serves : (old : Market) (command : Command) (answer : Answer Outcome) (new : Market) → IsCommand command → IsOfVersion old.version command → Step IsReadAs Rule old (record_of command) answer new → Serves Rule old command answer new
  step_serves old command answer new fits of step =
      subst (λ (read : Result Command BodyFault). ServesRead Rule old read answer new)
      (command_read old.version command (record_of command) step.read of (record { fits = fits; encoded = refl }) step.encoded) step.served

  -- what is said of a command, of tickers and a version
  abbrev Echoes : Version → List (List ℕ) → Command → Type 0
  Echoes version tickers command = (after : List (List ℕ)) → MayBeAfter tickers command after → AsksForJust version tickers (echo_of after command) command × AsksForJust version after (echo_of after command) command

  echoed : (old new : Market) (command : Command) → Keeps old command new → Echoes old.version old.tickers command → IsEchoed old new command
  echoed old new command keeps echoes =
      let both = echoes new.tickers keeps.0 in
      record { before = both.0; after = subst (λ (v : Version). AsksForJust v new.tickers (echo_of new.tickers command) command) (sym keeps.1) both.1 }

  -- orders leave the tickers
  place_kept : (old new : Market) (r : Request) → Keeps old (Place None r) new → new.tickers ≡ old.tickers
  place_kept old new r (inl is, version) = is
  place_kept old new r (inr (ticker, is, longer), version) = absurd (cc)

  orders_echoed : (old : Market) (requests : List Request) → AllByRecursion IsCommand (map (Place None) requests) → AllByRecursion (IsOfVersion old.version) (map (Place None) requests)
      → AllByRecursion (Echoes old.version old.tickers) (map (Place None) requests) → AreEchoed Rule old (map (Place None) requests)
  orders_echoed old [] fit of echo = tt
  orders_echoed old (r ∷ requests) fit of echo = λ answer new step.
      let keeps = tickers_kept old (Place None r) answer new (step_serves old (Place None r) answer new fit.0 of.0 step) in (
        echoed old new (Place None r) keeps echo.0,
        orders_echoed new requests fit.1 (subst (λ (v : Version). AllByRecursion (IsOfVersion v) (map (Place None) requests)) (sym keeps.1) of.1)
            (subst (λ (v : Version). AllByRecursion (Echoes v new.tickers) (map (Place None) requests)) (sym keeps.1)
            (subst (λ (ts : List (List ℕ)). AllByRecursion (Echoes old.version ts) (map (Place None) requests)) (sym (place_kept old new r keeps)) echo.1)),
      )

  pub the_echo_in_the_market : TheEchoInTheMarket Rule
  the_echo_in_the_market market line (Alone command) are asks =
      let fit = commands_fit market.version market.tickers line (Alone command) are asks in
      let echo = recursion_from_All (Echoes market.version market.tickers) (command ∷ []) (the_echo_is_the_command market.version market.tickers line (Alone command) are asks) in
      λ answer new step. (
        echoed market new command
            (tickers_kept market command answer new (step_serves market command answer new (recursion_from_All IsCommand (command ∷ []) fit.0).0 (recursion_from_All (IsOfVersion market.version) (command ∷ []) fit.1).0 step)) echo.0,
        tt,
      )
  the_echo_in_the_market market line (OfLadder commands) are asks =
      let fit = commands_fit market.version market.tickers line (OfLadder commands) are asks in
      let echo = the_echo_is_the_command market.version market.tickers line (OfLadder commands) are asks in
      let ladder = asks.asks in
      let requests = requests_of ladder.ladder ladder.account ladder.row in
      let is = ladder.commands_are in
      subst (AreEchoed Rule market) (sym is) (orders_echoed market requests (recursion_from_All IsCommand (map (Place None) requests) (subst (All IsCommand) is fit.0))
      (recursion_from_All (IsOfVersion market.version) (map (Place None) requests) (subst (All (IsOfVersion market.version)) is fit.1))
      (recursion_from_All (Echoes market.version market.tickers) (map (Place None) requests) (subst (All (Echoes market.version market.tickers)) is echo)))
