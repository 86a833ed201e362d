-- The lines of an entry, by what the statement holds, are those of what the account sees of it.
use Rattle.std.proofs.Common.{◌≡◌, ℕ, List, [], ◌∷◌, ◌++◌, length, Result, Ok, Err, refl, sym, ap, subst, ◌∙◌, arith}
use Rattle.std.proofs.lemmas.List.{append-nil}
use Rattle.wire_records.specs.Records.{Record}
use Rattle.wire_records.specs.Versions.{IsReadAs}
use Rattle.wire_records.specs.Commands.{Command, RunBatch, Answer, Plain, Batch}
use Rattle.wire_records.specs.declared.command.BodyFault.{BodyFault}
use Rattle.wire_records.specs.declared.reply.Refusal.{Refusal}
use Rattle.wire_records.specs.declared.reply.Reply.{Reply}
use Rattle.wire_records.specs.declared.reply.Reply.TheVariants.{Refused}
use Rattle.wire_records.proofs.Readings.{reading_unique}
use Rattle.flow_orders.specs.Outcomes.{Clearing, Outcome, Cleared, Skipped, IsAdmissibleOutcome, IsAdmissibleClearing}
use Rattle.journal_records.specs.Replies.{EncodesAnswer}
use Rattle.journal_records.proofs.Encoded.{answer_unique}
use Rattle.market_rules.specs.Market.{Market, IsConsistent, start_prices}
use Rattle.market_rules.specs.Step.{Serves, ServesRead, refusal_of}
use Rattle.market_rules.proofs.LawProofs.{batch_of}
use Rattle.batch_audit.specs.Legal.{IsLegalPair}
use Rattle.batch_audit.specs.Judging.{Changes, IsChangeOf}
use Rattle.batch_audit.specs.declared.change.Change.{Change}
use Rattle.statement_rules.specs.Views.{Event, Clears, Skips, event_if, is_there, seen, seen_plain, own_fills}
use Rattle.statement_rules.specs.Holdings.{Holding, after, after_all, IsHeld}
use Rattle.statement_rules.specs.Statements.{event_lines, lines_from}
use Rattle.statement_rules.proofs.Told.{told}
use Rattle.statement_rules.proofs.ViewLaws.{consistent_after}
use Rattle.account_statement.specs.Telling.{Statement, holding_of, Agrees, IsTold}
use Rattle.account_statement.specs.Private.{AreAlike, fills_for, seen_by, IsServed, Tells}
use Rattle.account_statement.proofs.OwnRates.{rates_found, own_found, fills_ascend}

-- a holding that is like one that agrees with a market agrees with it too
pub agrees_alike : (account : ℕ) (m : Market) (h g : Holding) → IsConsistent m → AreAlike g h → IsHeld account m h → IsHeld account m g
agrees_alike account m h g consistent like held = record {
  tickers = like.tickers ∙ held.tickers;
  opened = like.is_open ∙ held.opened;
  money = λ some. like.money ∙ held.money some;
  units = λ some asset is. like.units asset (omega (arith, is, ap length held.tickers, consistent.one_each.tickers)) ∙ held.units some asset is;
  orders = like.orders ∙ held.orders;
}

-- a holding is like itself
pub alike_same : (h g : Holding) → g ≡ h → AreAlike g h
alike_same h g same = subst (λ (x : Holding). AreAlike x h) (sym same) (record { tickers = refl; is_open = refl; money = refl; units = λ asset inside. refl; orders = refl })

-- the own fills of a market are those that are found under the numbers of the own orders
pub own_fills_are : (account : ℕ) (m : Market) (h : Holding) (c : Clearing) → IsConsistent m → IsHeld account m h → IsAdmissibleClearing m.orders (start_prices m) c → own_fills account m c ≡ fills_for c.fills h.orders
own_fills_are account m h c consistent held right =
    own_found account c.fills m.orders c.fills right.numbers (rates_found c.fills (fills_ascend m.orders c.fills right.numbers consistent.ascending))
    ∙ ap (fills_for c.fills) (sym held.orders)

-- what an account sees of an answered command is determined by what the statement holds
pub seen_is : (s : Statement) (m : Market) (c : Command) (a : Answer Outcome) (n : Market) → IsConsistent m → Agrees m s → Serves IsAdmissibleOutcome m c a n → seen s.account m (Ok c) a ≡ seen_by s c a
seen_is s m c (Plain answer) n consistent held serves = ap (λ b. seen_plain s.account b c answer) (sym held.opened)
seen_is s m c (Batch batch (Cleared k)) n consistent held serves =
    let right = (batch_of IsAdmissibleOutcome m c batch (Cleared k) n serves).ruled in
    ap (λ fills. event_if (is_there m s.account) (Clears batch k.prices fills)) (own_fills_are s.account m (holding_of s) k consistent held right)
    ∙ ap (λ b. event_if b (Clears batch k.prices (fills_for k.fills s.orders))) (sym held.opened)
seen_is s m c (Batch batch (Skipped k)) n consistent held serves = ap (λ b. event_if b (Skips batch)) (sym held.opened)

-- without events nothing is written, and nothing changes
pub nothing_told : (events : List Event) (s : Statement) (text : List ℕ) → events ≡ [] → Tells events s s text text
nothing_told events s text none = record {
  account = refl;
  after = alike_same (after_all (holding_of s) events) (holding_of s) (sym (ap (after_all (holding_of s)) none));
  text = sym (ap (λ l. text ++ lines_from (holding_of s) l) none ∙ append-nil text);
}

-- an outcome is no refusal
outcome_is_no_reply : (batch : ℕ) (o : Outcome) (refusal : Refusal) → ◌≡◌ {A = Answer Outcome} (Batch batch o) (Plain (Refused refusal)) → ⊥
outcome_is_no_reply batch o refusal same = cc

module _ (m : Market) (pair : Record × Record) (old : Statement) (consistent : IsConsistent m) (agrees : Agrees m old) where
  -- a valid entry's record is read as it is in its step
  same_read : (read : Result Command BodyFault) (next : Market) (legal : IsLegalPair m pair next) → IsReadAs m.version pair.0 read → legal.step.read ≡ read
  same_read read next legal reads = reading_unique m.version pair.0 legal.step.read read legal.step.encoded reads

  same_answer : (a : Answer Outcome) (next : Market) (legal : IsLegalPair m pair next) → EncodesAnswer pair.1 a → legal.answer ≡ a
  same_answer a next legal encodes = answer_unique legal.answer a legal.encoded.fits encodes.fits (sym legal.encoded.encoded ∙ encodes.encoded)

  pub served_as : (c : Command) (a : Answer Outcome) (next : Market) → IsLegalPair m pair next → IsReadAs m.version pair.0 (Ok c) → EncodesAnswer pair.1 a → Serves IsAdmissibleOutcome m c a next
  served_as c a next legal reads encodes =
      subst (λ x. ServesRead IsAdmissibleOutcome m (Ok c) x next) (same_answer a next legal encodes)
      (subst (λ r. ServesRead IsAdmissibleOutcome m r legal.answer next) (same_read (Ok c) next legal reads) legal.step.served)

  -- some market answers the command so
  pub is_served : (c : Command) (a : Answer Outcome) → (next : Market) × IsLegalPair m pair next → IsReadAs m.version pair.0 (Ok c) → EncodesAnswer pair.1 a → IsServed old c a
  is_served c a (next, legal) reads encodes = record {
    market = m;
    next = next;
    consistent = consistent;
    consistent_next = consistent_after m pair.0 legal.answer next legal.step.read consistent legal.step.encoded legal.step.served;
    agrees = agrees;
    served = served_as c a next legal reads encodes;
  }

  -- the statement takes a command with its answer
  pub is_told : (new : Statement) (before now : List ℕ) (c : Command) (a : Answer Outcome) → IsReadAs m.version pair.0 (Ok c) → EncodesAnswer pair.1 a → Tells (seen_by old c a) old new before now
      → (next : Market) (legal : IsLegalPair m pair next) → IsTold m pair old new before now next legal
  is_told new before now c a reads encodes tells next legal = record {
    agrees = subst (λ k. IsHeld k next (holding_of new)) (sym tells.account)
        (agrees_alike old.account next (after_all (holding_of old) (seen_by old c a)) (holding_of new) consistent_next tells.after
        (subst (λ l. IsHeld old.account next (after_all (holding_of old) l)) seen_so (told old.account m (holding_of old) consistent agrees (Ok c) a next serves)));
    text = tells.text ∙ ap (λ l. before ++ lines_from (holding_of old) l) (sym (again ∙ seen_so));
  }
    where
      consistent_next : IsConsistent next
      consistent_next = consistent_after m pair.0 legal.answer next legal.step.read consistent legal.step.encoded legal.step.served

      serves : Serves IsAdmissibleOutcome m c a next
      serves = served_as c a next legal reads encodes

      seen_so : seen old.account m (Ok c) a ≡ seen_by old c a
      seen_so = seen_is old m c a next consistent agrees serves

      again : seen old.account m legal.step.read legal.answer ≡ seen old.account m (Ok c) a
      again = ap (λ r. seen old.account m r legal.answer) (same_read (Ok c) next legal reads) ∙ ap (seen old.account m (Ok c)) (same_answer a next legal encodes)

  -- the statement takes a record that is no command, which has no lines
  pub is_not_told : (text : List ℕ) (why : BodyFault) → IsReadAs m.version pair.0 (Err why) → (next : Market) (legal : IsLegalPair m pair next) → IsTold m pair old old text text next legal
  is_not_told text why reads next legal = record {
    agrees = told old.account m (holding_of old) consistent agrees (Err why) legal.answer next (subst (λ r. ServesRead IsAdmissibleOutcome m r legal.answer next) same legal.step.served);
    text = sym (append-nil text) ∙ ap (λ r. text ++ lines_from (holding_of old) (seen old.account m r legal.answer)) (sym same);
  }
    where
      same : legal.step.read ≡ Err why
      same = same_read (Err why) next legal reads

  -- what a valid entry's record is read as
  read_as : (change : Change) (is : IsChangeOf m pair change) (read : Result Command BodyFault) → is.legal.step.read ≡ read → IsReadAs m.version pair.0 read
  read_as change is read same = subst (IsReadAs m.version pair.0) same is.legal.step.encoded

  module _ (change : Change) (is : IsChangeOf m pair change) (c : Command)
      (reads : (m : Market) (read : Result Command BodyFault) (n : Market) → Changes m read change n → read ≡ Ok c) where
    -- the entry's command is the one that its record is read as
    pub command_read : IsReadAs m.version pair.0 (Ok c)
    command_read = read_as change is (Ok c) (reads m is.legal.step.read is.new is.changes)

    -- some market answers the entry's command so
    pub command_served : (reply : Reply) → EncodesAnswer pair.1 (Plain reply) → IsServed old c (Plain reply)
    command_served reply encodes = is_served c (Plain reply) (is.new, is.legal) command_read encodes

  -- an entry without a command of its own, or with one for a batch that was held, has no lines
  pub is_silent : (text : List ℕ) (change : Change) (reply : Reply) (is : IsChangeOf m pair change)
      → ((m : Market) (read : Result Command BodyFault) (n : Market) → Changes m read change n → (c : Command) → read ≡ Ok c → (budget : ℕ) × (c ≡ RunBatch budget))
      → EncodesAnswer pair.1 (Plain reply) → (next : Market) (legal : IsLegalPair m pair next) → IsTold m pair old old text text next legal
  is_silent text change reply is none encodes =
      by is.legal.step.read (read_as change is is.legal.step.read refl) (none m is.legal.step.read is.new is.changes)
    where
      unseen : (c : Command) → (budget : ℕ) × (c ≡ RunBatch budget) → seen_by old c (Plain reply) ≡ []
      unseen c (budget, same) = ap (λ x. seen_by old x (Plain reply)) same

      by : (read : Result Command BodyFault) → IsReadAs m.version pair.0 read → ((c : Command) → read ≡ Ok c → (budget : ℕ) × (c ≡ RunBatch budget))
          → (next : Market) (legal : IsLegalPair m pair next) → IsTold m pair old old text text next legal
      by (Err why) reads batch = is_not_told text why reads
      by (Ok c) reads batch = is_told old text text c (Plain reply) reads encodes (nothing_told (seen_by old c (Plain reply)) old text (unseen c (batch c refl)))

  module _ (change : Change) (is : IsChangeOf m pair change) (batch : ℕ) (o : Outcome) (encodes : EncodesAnswer pair.1 (Batch batch o)) where
    -- an entry whose reply is an outcome has a command
    pub outcome_read : (c : Command) × IsReadAs m.version pair.0 (Ok c)
    outcome_read = by is.legal.step.read (read_as change is is.legal.step.read refl) is.legal.step.served
      where
        by : (read : Result Command BodyFault) → IsReadAs m.version pair.0 read → ServesRead IsAdmissibleOutcome m read is.legal.answer is.new
            → (c : Command) × IsReadAs m.version pair.0 (Ok c)
        by (Ok c) reads served = (c, reads)
        by (Err why) reads served = absurd (outcome_is_no_reply batch o (refusal_of why) (sym (same_answer (Batch batch o) is.new is.legal encodes) ∙ served.0))

    -- some market answers that command so
    pub outcome_served : IsServed old outcome_read.0 (Batch batch o)
    outcome_served = is_served outcome_read.0 (Batch batch o) (is.new, is.legal) outcome_read.1 encodes

    -- the statement takes the outcome
    pub outcome_told : (new : Statement) (before now : List ℕ) → Tells (seen_by old outcome_read.0 (Batch batch o)) old new before now
        → (next : Market) (legal : IsLegalPair m pair next) → IsTold m pair old new before now next legal
    outcome_told new before now tells = is_told new before now outcome_read.0 (Batch batch o) outcome_read.1 encodes tells

-- what is appended to an empty text is appended to any text
pub told_after : (m : Market) (pair : Record × Record) (old new : Statement) (before empty text now : List ℕ) (next : Market) (legal : IsLegalPair m pair next)
    → empty ≡ [] → now ≡ before ++ text → IsTold m pair old new empty text next legal → IsTold m pair old new before now next legal
told_after m pair old new before empty text now next legal none whole told_so = record {
  agrees = told_so.agrees;
  text = whole ∙ ap (λ l. before ++ l) (told_so.text ∙ ap (λ l. l ++ lines_from (holding_of old) (seen old.account m legal.step.read legal.answer)) none);
}

-- what the statement takes of one event is what it takes of a command of which the account sees this event
pub told_seen : (events : List Event) (event : Event) (s new : Statement) (before now : List ℕ) → events ≡ event ∷ [] → Tells (event ∷ []) s new before now → Tells events s new before now
told_seen events event s new before now is tells = subst (λ l. Tells l s new before now) (sym is) tells

-- an event is taken by its line and its change
pub told_event : (event : Event) (s new : Statement) (before now : List ℕ) → new.account ≡ s.account → AreAlike (holding_of new) (after (holding_of s) event)
    → now ≡ before ++ event_lines (holding_of s) event → Tells (event ∷ []) s new before now
told_event event s new before now account alike line = record {
  account = account;
  after = alike;
  text = line ∙ ap (λ l. before ++ l) (sym (append-nil (event_lines (holding_of s) event)));
}
