-- The tickers of a market after it served a command are those that the command leaves.
use Rattle.std.proofs.Common.{◌≡◌, ℕ, List, length, Option, Some, None, Result, inl, inr, refl, sym, ap, subst, ◌∙◌, arith}
use Rattle.ticker_table.specs.Adding.{IsAddable}
use Rattle.wire_records.specs.Limits.{limits_of}
use Rattle.wire_records.specs.Records.{Record}
use Rattle.wire_records.specs.Commands.{Command, AddAsset, RunBatch, Answer}
use Rattle.wire_records.specs.CommandRecords.{Encodes}
use Rattle.wire_records.specs.Versions.{IsOfVersion, IsReadAs}
use Rattle.wire_records.specs.declared.reply.Refusal.{Refusal}
use Rattle.wire_records.specs.declared.command.BodyFault.{BodyFault}
use Rattle.wire_records.proofs.Readings.{command_read}
use Rattle.flow_orders.specs.Outcomes.{Outcome, BatchRule, Cleared, Skipped}
use Rattle.market_rules.specs.Market.{Market}
use Rattle.market_rules.specs.Step.{FirstRefusal, Accepts, Serves, ServesRead, after_batch}
use Rattle.market_rules.proofs.ByFirst.{Answers}
use Rattle.market_rules.specs.Journal.{Step}
use Rattle.market_rules.proofs.Accepted.{past_when, past_unless, not_least}
use Rattle.order_text.specs.Lines.{Leaves}

-- a ticker that is refused can't be added
not_addable : (m : Market) (ticker : List ℕ) (first : Refusal) → FirstRefusal m (AddAsset ticker) (Some first) → IsAddable (limits_of m.version).assets m.tickers ticker → ⊥
not_addable m ticker first (inl invalid) addable = invalid.0 addable.valid
not_addable m ticker first (inr (valid, inl taken)) addable = addable.absent taken.0
not_addable m ticker first (inr (valid, inr (absent, inl full))) addable = omega (arith, full.0, addable.place)
not_addable m ticker first (inr (valid, inr (absent, inr (place, none)))) addable = absurd cc

-- a ticker that is accepted can be added
addable : (m : Market) (ticker : List ℕ) → FirstRefusal m (AddAsset ticker) None → IsAddable (limits_of m.version).assets m.tickers ticker
addable m ticker none =
    let valid = past_unless none in
    let absent = past_when valid.1 in
    let place = past_when absent.1 in
    record { valid = valid.0; absent = absent.0; place = not_least (limits_of m.version).assets (length m.tickers) place.0 }

-- a batch leaves the tickers
batch_tickers : (m : Market) (outcome : Outcome) → (after_batch m outcome).tickers ≡ m.tickers
batch_tickers m (Cleared c) = refl
batch_tickers m (Skipped s) = refl

-- a market has the tickers of the market that it equals
pub made_tickers : (new made : Market) → new ≡ made → new.tickers ≡ made.tickers
made_tickers new made is = ap (λ (m : Market). m.tickers) is

-- a refused command leaves the tickers
refused_tickers : (m : Market) (command : Command) (first : Refusal) → FirstRefusal m command (Some first) → Leaves m.version m.tickers command m.tickers
refused_tickers m command first refused = inr (λ ticker adds. not_addable m ticker first (subst (λ (c : Command). FirstRefusal m c (Some first)) adds.0 refused) adds.1, refl)

-- a command that adds no asset adds no ticker
kept_tickers : (m new made : Market) (command : Command) → ((ticker : List ℕ) → command ≡ AddAsset ticker → ⊥) → new ≡ made → made.tickers ≡ m.tickers → Leaves m.version m.tickers command new.tickers
kept_tickers m new made command other is kept = inr (λ ticker adds. other ticker adds.0, made_tickers new made is ∙ kept)

-- how a batch may end
module _ (Rule : BatchRule) where
  -- an accepted command leaves the tickers, unless it adds an asset, and with it one ticker
  accepted_tickers : (m : Market) (command : Command) (answer : Answer Outcome) (new : Market) → FirstRefusal m command None → Accepts Rule m command answer new → Leaves m.version m.tickers command new.tickers
  accepted_tickers m (AddAsset ticker) answer new none accepts = inl (ticker, (refl, addable m ticker none), made_tickers new _ accepts.1)
  accepted_tickers m (RunBatch budget) answer new none accepts = kept_tickers m new (after_batch m accepts.0) (RunBatch budget) (λ ticker e. absurd cc) accepts.2.1 (batch_tickers m accepts.0)
  accepted_tickers m command answer new none accepts = kept_tickers m new _ command (λ ticker e. absurd cc) accepts.1 refl

  -- an answered command leaves the tickers that it leaves alone
  answered_tickers : (m : Market) (command : Command) (first : Option Refusal) (answer : Answer Outcome) (new : Market) → FirstRefusal m command first → Answers Rule m command first answer new
      → Leaves m.version m.tickers command new.tickers
  answered_tickers m command (Some first) answer new refused answered = subst (Leaves m.version m.tickers command) (sym (made_tickers new m answered.1)) (refused_tickers m command first refused)
  answered_tickers m command None answer new refused answered = accepted_tickers m command answer new refused answered

  -- so does a command that is served
  pub served_tickers : (m : Market) (command : Command) (answer : Answer Outcome) (new : Market) → Serves Rule m command answer new → Leaves m.version m.tickers command new.tickers
  served_tickers m command answer new served = answered_tickers m command served.first answer new served.refused served.answered

  -- and a step of a command's record
  pub step_tickers : (m : Market) (command : Command) (asked : Record) (answer : Answer Outcome) (new : Market) → IsOfVersion m.version command → Encodes command asked → Step IsReadAs Rule m asked answer new → Leaves m.version m.tickers command new.tickers
  step_tickers m command asked answer new of encodes step =
      let served = subst (λ (read : Result Command BodyFault). ServesRead Rule m read answer new) (command_read m.version command asked step.read of encodes step.encoded) step.served in
      served_tickers m command answer new served
