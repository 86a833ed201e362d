-- What an account is told, and what it isn't. The crate has a function for each of these.
use Rattle.std.specs.Prelude.{◌≡◌, ℕ, ◌<◌, List, [], ◌∷◌}
use Rattle.std.specs.List.{flat_map}
use Rattle.wire_records.specs.Records.{Record}
use Rattle.wire_records.specs.Commands.{Pair}
use Rattle.flow_orders.specs.Outcomes.{Outcome, IsAdmissibleOutcome}
use Rattle.flow_accounts.specs.Balances.{account_count}
use Rattle.market_rules.specs.Market.{Market, IsConsistent}
use Rattle.market_history.specs.Histories.{Start, market_of, CanStart}
use Rattle.statement_rules.specs.Views.{Event, Sees}
use Rattle.desk_messages.specs.Desks.{Desks, no_desks}
use Rattle.desk_session.specs.Lines.{AreLinesServed, AreFirstServed}
use Rattle.desk_privacy.specs.Letters.{Letter, bytes_of, letters_for}
use Rattle.desk_privacy.specs.Observing.{Observation, NextLine, OtherLine, ToAll, ToIt, AreLinesServedTo, AreFirstServedTo}
use Rattle.desk_privacy.specs.Knowing.{AreAlike, CountsAlike, CountsAll}

-- what the account sees of entries, among what it observes
abbrev pub view_in : Observation → List Event
view_in (NextLine text) = []
view_in OtherLine = []
view_in (ToAll news) = []
view_in (ToIt event) = event ∷ []

-- The texts that answer lines are the letters' bytes, one after the other, so whatever is written is in a letter. Lines that are served have their letters
-- and what an account observes, and only these.
pub record LettersAreWritten : Type 0 where
  pub some : (account : ℕ) (old new : Market) (d later : Desks) (count : ℕ) (lines : List (List ℕ)) (pairs : List (Pair Record Outcome)) (texts : List (List ℕ))
      → AreLinesServed IsAdmissibleOutcome old d count lines pairs texts new later
      → (letters : List Letter) × (noted : List Observation) × AreLinesServedTo account old d count lines pairs letters noted new later × (flat_map (λ (text : List ℕ). text) texts ≡ bytes_of letters)
  pub served : (account : ℕ) (old new : Market) (d later : Desks) (count : ℕ) (lines : List (List ℕ)) (pairs : List (Pair Record Outcome)) (letters : List Letter) (noted : List Observation)
      → AreLinesServedTo account old d count lines pairs letters noted new later
      → (texts : List (List ℕ)) × AreLinesServed IsAdmissibleOutcome old d count lines pairs texts new later × (flat_map (λ (text : List ℕ). text) texts ≡ bytes_of letters)
  pub one : (account : ℕ) (old : Market) (d : Desks) (count : ℕ) (lines : List (List ℕ)) (pairs : List (Pair Record Outcome))
      (x y : List Letter) (v w : List Observation) (m n : Market) (e f : Desks)
      → AreLinesServedTo account old d count lines pairs x v m e → AreLinesServedTo account old d count lines pairs y w n f → (x ≡ y) × (v ≡ w)

-- what the account sees, among what it observes, is its view of the entries
abbrev pub ViewsAreObserved : Type 0
ViewsAreObserved = (account : ℕ) (old new : Market) (d later : Desks) (count : ℕ) (lines : List (List ℕ)) (pairs : List (Pair Record Outcome)) (letters : List Letter) (noted : List Observation)
    → AreLinesServedTo account old d count lines pairs letters noted new later → Sees account old pairs (flat_map view_in noted) new

-- What is written to an account and to all depends on nothing but the market and the counts as the account knows them at the beginning, and on what it
-- observes then: its own lines, what all are told, and what it sees of the entries, in this order. So it is the same, byte for byte, whatever else is in the
-- markets, whatever lines others send and however many, and whatever comes of them. In the end the account knows the same too.
abbrev pub LettersArePrivate : Type 0
LettersArePrivate = (account : ℕ) (one other : Market) (d e : Desks) (count number : ℕ) (lines others : List (List ℕ)) (pairs more : List (Pair Record Outcome))
    (letters written : List Letter) (noted known : List Observation) (m n : Market) (later after : Desks)
    → 0 < account → IsConsistent one → IsConsistent other → CountsAll one d → CountsAll other e → AreAlike account one other → CountsAlike account d e
    → AreLinesServedTo account one d count lines pairs letters noted m later → AreLinesServedTo account other e number others more written known n after → noted ≡ known
    → (letters_for account letters ≡ letters_for account written) × AreAlike account m n × CountsAlike account later after

-- So it is of two inputs, each from its beginning on, before which nothing was counted: an empty market of a version, or a checkpoint.
abbrev pub InputsArePrivate : Type 0
InputsArePrivate = (account : ℕ) (one other : Start) (lines others : List (List ℕ)) (pairs more : List (Pair Record Outcome)) (letters written : List Letter)
    (noted known : List Observation) (m n : Market) (later after : Desks)
    → 0 < account → CanStart one → CanStart other → AreAlike account (market_of one) (market_of other)
    → AreLinesServedTo account (market_of one) (no_desks (account_count (market_of one).balances)) 0 lines pairs letters noted m later
    → AreLinesServedTo account (market_of other) (no_desks (account_count (market_of other).balances)) 0 others more written known n after → noted ≡ known
    → letters_for account letters ≡ letters_for account written

-- ---- lines of which only the first are served

-- The first lines that are served, and perhaps the first commands of one more, have their letters and what an account observes too.
abbrev pub FirstLettersAreWritten : Type 0
FirstLettersAreWritten = (account : ℕ) (old : Market) (d : Desks) (count : ℕ) (lines : List (List ℕ)) (pairs : List (Pair Record Outcome)) (texts : List (List ℕ))
    → AreFirstServed IsAdmissibleOutcome old d count lines pairs texts
    → (letters : List Letter) × (noted : List Observation) × AreFirstServedTo account old d count lines pairs letters noted × (flat_map (λ (text : List ℕ). text) texts ≡ bytes_of letters)

-- So what is written to an account and to all is the same of two inputs wherever a run stops, if it stopped where the account has observed the same.
abbrev pub FirstLettersArePrivate : Type 0
FirstLettersArePrivate = (account : ℕ) (one other : Start) (lines others : List (List ℕ)) (pairs more : List (Pair Record Outcome)) (letters written : List Letter) (noted known : List Observation)
    → 0 < account → CanStart one → CanStart other → AreAlike account (market_of one) (market_of other)
    → AreFirstServedTo account (market_of one) (no_desks (account_count (market_of one).balances)) 0 lines pairs letters noted
    → AreFirstServedTo account (market_of other) (no_desks (account_count (market_of other).balances)) 0 others more written known → noted ≡ known
    → letters_for account letters ≡ letters_for account written
