-- What holds of the lines of many senders that are served one after the other, from any market and any counts on. Each law has a function.
use Rattle.std.specs.Prelude.{◌≡◌, ◌≢◌, ℕ, ◌+◌, ◌<◌, List, [], ◌++◌, length, take, All, slice_index_or, Some}
use Rattle.wire_records.specs.Records.{Record}
use Rattle.wire_records.specs.Commands.{Command, Pair}
use Rattle.wire_records.specs.Versions.{IsReadAs}
use Rattle.flow_orders.specs.Outcomes.{Outcome, IsAdmissibleOutcome}
use Rattle.canonical_rule.specs.Canonical.{IsCanonicalOutcome}
use Rattle.market_rules.specs.Market.{Market, IsConsistent}
use Rattle.market_rules.specs.Journal.{Follows}
use Rattle.market_rules.specs.Laws.{Leads}
use Rattle.order_text.specs.Questions.{AsksQuestion}
use Rattle.order_text.specs.declared.question.Question.{Question}
use Rattle.envelope_text.specs.Envelopes.{Sent, IsEnvelope}
use Rattle.answer_text.specs.declared.header.Recipient.{Recipient}
use Rattle.statement_rules.specs.Holdings.{own_orders}
use Rattle.desk_messages.specs.Desks.{Desks, recipient_of, tally_of, no_desks}
use Rattle.desk_lines.specs.Hearing.{Heard, Nothing}
use Rattle.desk_session.specs.Lines.{IsLineServed, AreLinesServed, IsLineBegun, AreServedInto, AreFirstServed}
use Rattle.desk_laws.specs.Heard.{IsCounted, counted_for, AreHeardAs}
use Rattle.desk_laws.specs.Rights.{IsLineOf, IsNotOperators, IsOfOthers, IsOwnEntry, IsAskedFor}

-- some entries
abbrev pub Entries : Type 0
Entries = List (Pair Record Outcome)

-- some texts
abbrev pub Texts : Type 0
Texts = List (List ℕ)

-- ---- a line that is sent twice

-- each of the lines that were served was heard in some way, and lines that were heard so were served
pub record ServedLinesAreHeard : Type 0 where
  pub some : (old new : Market) (d later : Desks) (count : ℕ) (lines : List (List ℕ)) (pairs : Entries) (texts : Texts)
      → AreLinesServed IsAdmissibleOutcome old d count lines pairs texts new later
      → (said : List Heard) × (length said ≡ length lines) × AreHeardAs IsAdmissibleOutcome old d count lines said pairs texts new later
  pub are : (old new : Market) (d later : Desks) (count : ℕ) (lines : List (List ℕ)) (said : List Heard) (pairs : Entries) (texts : Texts)
      → AreHeardAs IsAdmissibleOutcome old d count lines said pairs texts new later → AreLinesServed IsAdmissibleOutcome old d count lines pairs texts new later

-- of two lines of one sender with one number, at two places, at most one is counted
abbrev pub CountedOnce : Type 0
CountedOnce =
    (old new : Market) (d later : Desks) (count : ℕ) (lines : List (List ℕ)) (said : List Heard) (pairs : Entries) (texts : Texts) (i j : ℕ) (a b : Sent) (id : ℕ)
    → AreHeardAs IsAdmissibleOutcome old d count lines said pairs texts new later → i < j → j < length lines
    → IsEnvelope (slice_index_or lines i []) a → IsEnvelope (slice_index_or lines j []) b → a.from ≡ b.from → a.id ≡ Some id → b.id ≡ Some id
    → ¬ (IsCounted (slice_index_or said i Nothing) × IsCounted (slice_index_or said j Nothing))

-- A line with a number that is counted has its place among the lines that count for its sender: the number is 1 more than how many counted before it. `after` is so
-- after any counts, and `first` if nothing was counted before these lines.
pub record CountedInOrder : Type 0 where
  pub after : (old new : Market) (d later : Desks) (count : ℕ) (lines : List (List ℕ)) (said : List Heard) (pairs : Entries) (texts : Texts) (i : ℕ) (sent : Sent) (id : ℕ)
      → AreHeardAs IsAdmissibleOutcome old d count lines said pairs texts new later → i < length lines
      → IsEnvelope (slice_index_or lines i []) sent → sent.id ≡ Some id → IsCounted (slice_index_or said i Nothing)
      → id ≡ (tally_of d (recipient_of sent.from)).lines + counted_for sent.from (take i said) + 1
  pub first : (old new : Market) (later : Desks) (accounts count : ℕ) (lines : List (List ℕ)) (said : List Heard) (pairs : Entries) (texts : Texts) (i : ℕ) (sent : Sent) (id : ℕ)
      → AreHeardAs IsAdmissibleOutcome old (no_desks accounts) count lines said pairs texts new later → i < length lines
      → IsEnvelope (slice_index_or lines i []) sent → sent.id ≡ Some id → IsCounted (slice_index_or said i Nothing)
      → id ≡ counted_for sent.from (take i said) + 1

-- ---- the market

-- lines from a consistent market on lead to a consistent one of the same version, also if only the first commands of the last line are served
pub record LinesKeepConsistency : Type 0 where
  pub whole : (old new : Market) (d later : Desks) (count : ℕ) (lines : List (List ℕ)) (pairs : Entries) (texts : Texts)
      → IsConsistent old → AreLinesServed IsAdmissibleOutcome old d count lines pairs texts new later → IsConsistent new × (new.version ≡ old.version)
  pub begun : (old new : Market) (d later : Desks) (count : ℕ) (lines : List (List ℕ)) (line : List ℕ) (next : List Command) (pairs : Entries) (texts : Texts)
      → IsConsistent old → AreServedInto IsAdmissibleOutcome old d count lines line next pairs texts new later → IsConsistent new × (new.version ≡ old.version)

-- ---- what a sender may do

-- each entry that a line of an account adds is a placement or a cancel of this account, also if only the first commands of the line are served
pub record AccountsPlaceAndCancel : Type 0 where
  pub whole : (old new : Market) (d later : Desks) (count : ℕ) (line : List ℕ) (pairs : Entries) (texts : Texts) (account : ℕ)
      → IsConsistent old → account ≢ 0 → IsLineOf account line → IsLineServed IsAdmissibleOutcome old d count line pairs texts new later
      → All (IsOwnEntry old.version account) pairs
  pub begun : (old new : Market) (d later : Desks) (count : ℕ) (line : List ℕ) (sender : Recipient) (next : List Command) (pairs : Entries) (texts : Texts) (account : ℕ)
      → IsConsistent old → account ≢ 0 → IsLineOf account line → IsLineBegun IsAdmissibleOutcome old d count line sender next pairs texts new later
      → All (IsOwnEntry old.version account) pairs

-- each entry that lines add is asked for by one of them: by one of the operator's, or, if it is a placement or a cancel of an account, by one of this account's own;
-- so is each that the first of some lines add
pub record EntriesAreAskedFor : Type 0 where
  pub all : (start new : Market) (d later : Desks) (count : ℕ) (lines : List (List ℕ)) (pairs : Entries) (texts : Texts)
      → IsConsistent start → AreLinesServed IsAdmissibleOutcome start d count lines pairs texts new later → All (IsAskedFor start.version lines) pairs
  pub first : (start : Market) (d : Desks) (count : ℕ) (lines : List (List ℕ)) (pairs : Entries) (texts : Texts)
      → IsConsistent start → AreFirstServed IsAdmissibleOutcome start d count lines pairs texts → All (IsAskedFor start.version lines) pairs

-- lines that are neither the operator's nor an account's own leave this account's live orders as they are, also if only the first commands of the last line are
-- served
pub record OthersChangeNoOrders : Type 0 where
  pub whole : (old new : Market) (d later : Desks) (count : ℕ) (lines : List (List ℕ)) (pairs : Entries) (texts : Texts) (account : ℕ)
      → IsConsistent old → All (IsOfOthers account) lines → AreLinesServed IsAdmissibleOutcome old d count lines pairs texts new later
      → own_orders account new.orders ≡ own_orders account old.orders
  pub begun : (old new : Market) (d later : Desks) (count : ℕ) (lines : List (List ℕ)) (line : List ℕ) (next : List Command) (pairs : Entries) (texts : Texts) (account : ℕ)
      → IsConsistent old → All (IsOfOthers account) lines → IsOfOthers account line → AreServedInto IsAdmissibleOutcome old d count lines line next pairs texts new later
      → own_orders account new.orders ≡ own_orders account old.orders

-- lines that aren't the operator's change nothing but which orders are live and the number of the next one: all balances, credits and totals stay, and so do
-- what the exchange holds, assets, batches and prices
pub record AccountsChangeOnlyOrders : Type 0 where
  pub whole : (old new : Market) (d later : Desks) (count : ℕ) (lines : List (List ℕ)) (pairs : Entries) (texts : Texts)
      → IsConsistent old → All IsNotOperators lines → AreLinesServed IsAdmissibleOutcome old d count lines pairs texts new later
      → new ≡ record old { orders = new.orders; next_order = new.next_order }
  pub begun : (old new : Market) (d later : Desks) (count : ℕ) (lines : List (List ℕ)) (line : List ℕ) (next : List Command) (pairs : Entries) (texts : Texts)
      → IsConsistent old → All IsNotOperators lines → IsNotOperators line → AreServedInto IsAdmissibleOutcome old d count lines line next pairs texts new later
      → new ≡ record old { orders = new.orders; next_order = new.next_order }

-- a question of any sender adds no entry and changes nothing of the market
abbrev pub QuestionsChangeNothing : Type 0
QuestionsChangeNothing =
    (old new : Market) (d later : Desks) (count : ℕ) (line : List ℕ) (pairs : Entries) (texts : Texts) (sent : Sent) (question : Question)
    → IsEnvelope line sent → AsksQuestion sent.text question → IsLineServed IsAdmissibleOutcome old d count line pairs texts new later
    → (pairs ≡ []) × (new ≡ old)

-- ---- the same lines again

-- from one market and the same counts the same lines get the same entries and texts by the canonical rule, and lead to the same market and counts
abbrev pub LinesHaveOneOutcome : Type 0
LinesHaveOneOutcome =
    (start : Market) (d : Desks) (count : ℕ) (lines : List (List ℕ)) (p q : Entries) (t u : Texts) (m n : Market) (x y : Desks)
    → AreLinesServed IsCanonicalOutcome start d count lines p t m x → AreLinesServed IsCanonicalOutcome start d count lines q u n y
    → (p ≡ q) × (t ≡ u) × (m ≡ n) × (x ≡ y)

-- from a consistent market no lines are without an outcome by the canonical rule
abbrev pub LinesHaveSomeOutcome : Type 0
LinesHaveSomeOutcome =
    (start : Market) (d : Desks) (count : ℕ) (lines : List (List ℕ)) → IsConsistent start
    → ¬ ((pairs : Entries) (texts : Texts) (m : Market) (x : Desks) → ¬ AreLinesServed IsCanonicalOutcome start d count lines pairs texts m x)

-- what the first of some lines get, of the last of them perhaps only the first commands, is a first part of what all of them get
abbrev pub FirstLinesGetFirstParts : Type 0
FirstLinesGetFirstParts =
    (start : Market) (d : Desks) (count : ℕ) (lines : List (List ℕ)) (p q : Entries) (t u : Texts) (m : Market) (x : Desks)
    → AreFirstServed IsCanonicalOutcome start d count lines p t → AreLinesServed IsCanonicalOutcome start d count lines q u m x
    → ((more : Entries) × (q ≡ p ++ more)) × ((more : Texts) × (u ≡ t ++ more))

-- lines that are served by the canonical rule from a consistent market are served validly
abbrev pub CanonicalLinesAreValid : Type 0
CanonicalLinesAreValid =
    (start : Market) (d : Desks) (count : ℕ) (lines : List (List ℕ)) (pairs : Entries) (texts : Texts) (m : Market) (x : Desks)
    → IsConsistent start → AreLinesServed IsCanonicalOutcome start d count lines pairs texts m x → AreLinesServed IsAdmissibleOutcome start d count lines pairs texts m x

-- lines that are served validly are served by the canonical rule if their entries are steps by it; so are the first of some lines
pub record CanonicalEntriesMakeCanonicalLines : Type 0 where
  pub all : (start : Market) (d : Desks) (count : ℕ) (lines : List (List ℕ)) (pairs : Entries) (texts : Texts) (m n : Market) (x : Desks)
      → Follows IsReadAs IsCanonicalOutcome start pairs n → AreLinesServed IsAdmissibleOutcome start d count lines pairs texts m x
      → AreLinesServed IsCanonicalOutcome start d count lines pairs texts m x
  pub first : (start : Market) (d : Desks) (count : ℕ) (lines : List (List ℕ)) (pairs : Entries) (texts : Texts) (n : Market)
      → Follows IsReadAs IsCanonicalOutcome start pairs n → AreFirstServed IsAdmissibleOutcome start d count lines pairs texts
      → AreFirstServed IsCanonicalOutcome start d count lines pairs texts

-- The first of some lines got entries by the canonical rule, of which a file has the first ones, and these lead to a market. From there more entries were made
-- by the canonical rule. If other lines ask for all that the file has then, these entries are those that they get by the canonical rule from the beginning on, and so
-- are the texts, the market and the counts (`all`); if only the first of them ask for all that it has, they are a first part of that (`first`).
pub record ResumedLinesAreOneRun : Type 0 where
  pub all : (start before : Market) (d : Desks) (count : ℕ) (earlier lines : List (List ℕ)) (old lost more p : Entries) (told texts t : Texts) (new m n : Market) (x y : Desks)
      → AreFirstServed IsCanonicalOutcome start d count earlier (old ++ lost) told → Leads start old before → Follows IsReadAs IsCanonicalOutcome before more new
      → AreLinesServed IsAdmissibleOutcome start d count lines (old ++ more) texts m x → AreLinesServed IsCanonicalOutcome start d count lines p t n y
      → (old ++ more ≡ p) × (texts ≡ t) × (m ≡ n) × (x ≡ y)
  pub first : (start before : Market) (d : Desks) (count : ℕ) (earlier lines : List (List ℕ)) (old lost more p : Entries) (told texts t : Texts) (new n : Market) (y : Desks)
      → AreFirstServed IsCanonicalOutcome start d count earlier (old ++ lost) told → Leads start old before → Follows IsReadAs IsCanonicalOutcome before more new
      → AreFirstServed IsAdmissibleOutcome start d count lines (old ++ more) texts → AreLinesServed IsCanonicalOutcome start d count lines p t n y
      → ((rest : Entries) × (p ≡ (old ++ more) ++ rest)) × ((rest : Texts) × (t ≡ texts ++ rest))
