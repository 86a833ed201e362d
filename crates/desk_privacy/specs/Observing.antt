-- What an account observes of a market of many senders, and what is written meanwhile.
use Rattle.std.specs.Prelude.{◌≡◌, ◌⊎◌, ℕ, ◌+◌, ◌==◌, if◌then◌else◌, ℤ, List, [], ◌∷◌, ◌++◌, length, map}
use Rattle.wire_records.specs.Records.{Record}
use Rattle.wire_records.specs.Commands.{Command, AddAsset, OpenAccount, Deposit, Withdraw, Place, CancelOrder, RunBatch, SetCredit, Answer, Plain, Batch, Pair}
use Rattle.wire_records.specs.CommandRecords.{record_of}
use Rattle.wire_records.specs.Versions.{IsReadAs}
use Rattle.wire_records.specs.declared.reply.Reply.{Reply}
use Rattle.flow_orders.specs.Outcomes.{Outcome, Cleared, Skipped, IsAdmissibleOutcome}
use Rattle.market_rules.specs.Market.{Market}
use Rattle.market_rules.specs.Journal.{Step}
use Rattle.order_text.specs.Lines.{Asked, commands_of}
use Rattle.answer_text.specs.declared.header.Recipient.{Recipient}
use Rattle.answer_text.specs.declared.header.Recipient.TheVariants as recipient
use Rattle.statement_rules.specs.Views.{Event, by_reply, seen}
use Rattle.desk_messages.specs.Desks.{Desks, tally_of, with_read, with_line}
use Rattle.desk_messages.specs.Messages.{Message, told, opened_by, with_opened, no_envelope, expected, error_to}
use Rattle.desk_lines.specs.Hearing.{Heard, IsHeard}
use Rattle.desk_lines.specs.Hearing as heard
use Rattle.desk_lines.specs.Wishes.{Wish, IsWish}
use Rattle.desk_lines.specs.Wishes as wish
use Rattle.desk_session.specs.Lines.{entry_messages, answer_members, fault_word, answer_to}
use Rattle.desk_privacy.specs.Letters.{Letter, letters_of}

-- What all are told of an entry: an asset that was added, with its ticker, or a batch, with its number and whether it cleared, and then with its prices,
-- in grains.
pub data News : Type 0 where
  AssetAdded : (ticker : List ℕ) → News
  BatchCleared : (batch : ℕ) (prices : List ℤ) → News
  BatchSkipped : (batch : ℕ) → News

-- What an account observes: the text of a line of its own that was its next one, that a line of its own came that wasn't, what all are told, and what it
-- sees of an entry.
pub data Observation : Type 0 where
  NextLine : (text : List ℕ) → Observation
  OtherLine : Observation
  ToAll : (news : News) → Observation
  ToIt : (event : Event) → Observation

-- ---- entries

-- what all are told of a command with a plain answer
abbrev pub plain_news : Command → Reply → List News
plain_news (AddAsset ticker) reply = by_reply (λ refusal. []) (λ number. AssetAdded ticker ∷ []) reply
plain_news OpenAccount reply = []
plain_news (Deposit account kind count) reply = []
plain_news (Withdraw account kind count) reply = []
plain_news (Place last request) reply = []
plain_news (CancelOrder account order) reply = []
plain_news (RunBatch budget) reply = []
plain_news (SetCredit account kind count) reply = []

-- what all are told of a command with this answer
abbrev pub news_of : Command → Answer Outcome → List News
news_of command (Plain reply) = plain_news command reply
news_of command (Batch batch (Cleared c)) = BatchCleared batch c.prices ∷ []
news_of command (Batch batch (Skipped s)) = BatchSkipped batch ∷ []

module _ (account : ℕ) where
  -- what the account observes of an entry: what all are told, and then what it sees of the entry
  abbrev pub observed : Command → Answer Outcome → List Event → List Observation
  observed command answer view = map ToAll (news_of command answer) ++ map ToIt view

  -- The commands of a line of a sender get these entries, each one step of the market, these letters are written, and the account observes this. `count`
  -- entries are before them.
  abbrev pub AreServedTo : Market → Desks → (count : ℕ) → Recipient → (line : ℕ) → List Command → List (Pair Record Outcome) → List Letter → List Observation → Market → Desks → Type 0
  AreServedTo old d count sender line [] pairs letters noted new later = (pairs ≡ []) × (letters ≡ []) × (noted ≡ []) × (new ≡ old) × (later ≡ d)
  AreServedTo old d count sender line (command ∷ commands) pairs letters noted new later =
      (pair : Pair Record Outcome) × (next : Market) × (more : List (Pair Record Outcome)) × (others : List Letter) × (rest : List Observation)
      × (pair.asked ≡ record_of command) × (step : Step IsReadAs IsAdmissibleOutcome old pair.asked pair.answer next)
      × AreServedTo next (told (with_opened (opened_by pair.answer) d) (entry_messages (with_opened (opened_by pair.answer) d) old next sender line (count + 1) command pair.answer))
      (count + 1) sender line commands more others rest new later
      × (pairs ≡ pair ∷ more)
      × (letters ≡ letters_of (with_opened (opened_by pair.answer) d) (entry_messages (with_opened (opened_by pair.answer) d) old next sender line (count + 1) command pair.answer) ++ others)
      × (noted ≡ observed command pair.answer (seen account old step.read pair.answer) ++ rest)

  -- ---- lines

  -- no entry is added, these messages are written, and the account observes nothing of it
  abbrev pub SaysAlone : Market → Desks → List Message → List (Pair Record Outcome) → List Letter → List Observation → Market → Desks → Type 0
  SaysAlone old d messages pairs letters noted new later = (pairs ≡ []) × (letters ≡ letters_of d messages) × (noted ≡ []) × (new ≡ old) × (later ≡ told d messages)

  -- what comes of the text of a line of a sender that was counted, and what the account observes of that
  abbrev pub ComesOfWishTo : Market → Desks → (count : ℕ) → Recipient → (line : ℕ) → Wish → List (Pair Record Outcome) → List Letter → List Observation → Market → Desks → Type 0
  ComesOfWishTo old d count sender line wish.Nothing = SaysAlone old d []
  ComesOfWishTo old d count sender line (wish.Serve asked) = AreServedTo old d count sender line (commands_of asked)
  ComesOfWishTo old d count sender line (wish.Answer q) = SaysAlone old d (answer_to sender line (answer_members old sender q) ∷ [])
  ComesOfWishTo old d count sender line (wish.Refuse why) = SaysAlone old d (error_to sender line (fault_word why) ∷ [])

  -- what an account observes of a line before anything comes of it: whether it is its own, and then its text, if it is its next one
  abbrev pub own_line : Heard → List Observation
  own_line heard.Nothing = []
  own_line heard.Noise = []
  own_line (heard.Other recipient.Operator) = []
  own_line (heard.Other (recipient.Desk sender)) = if sender == account then OtherLine ∷ [] else []
  own_line (heard.Other recipient.All) = []
  own_line (heard.From recipient.Operator text) = []
  own_line (heard.From (recipient.Desk sender) text) = if sender == account then NextLine text ∷ [] else []
  own_line (heard.From recipient.All text) = []

  -- what comes of a line, and what the account observes of that
  abbrev pub ComesTo : Market → Desks → (count : ℕ) → Heard → List (Pair Record Outcome) → List Letter → List Observation → Market → Desks → Type 0
  ComesTo old d count heard.Nothing = SaysAlone old (with_read d) []
  ComesTo old d count heard.Noise = SaysAlone old (with_read d) (no_envelope (d.total.lines + 1) ∷ [])
  ComesTo old d count (heard.Other sender) = SaysAlone old (with_read d) (expected sender ((tally_of d sender).lines + 1) ∷ [])
  ComesTo old d count (heard.From sender text) =
      λ pairs letters noted new later. (wished : Wish) × IsWish old.version old.tickers d sender text wished
      × ComesOfWishTo old (with_line d sender) count sender ((tally_of d sender).lines + 1) wished pairs letters noted new later

  -- A line adds these entries, these letters are written, and the account observes this. `count` entries are before it.
  abbrev pub IsLineServedTo : Market → Desks → (count : ℕ) → List ℕ → List (Pair Record Outcome) → List Letter → List Observation → Market → Desks → Type 0
  IsLineServedTo old d count line pairs letters noted new later =
      (said : Heard) × (after : List Observation) × IsHeard d line said × ComesTo old d count said pairs letters after new later × (noted ≡ own_line said ++ after)

  -- Lines of many senders add these entries, one line after the other, these letters are written, and the account observes this, all in their order.
  abbrev pub AreLinesServedTo : Market → Desks → (count : ℕ) → List (List ℕ) → List (Pair Record Outcome) → List Letter → List Observation → Market → Desks → Type 0
  AreLinesServedTo old d count [] pairs letters noted new later = (pairs ≡ []) × (letters ≡ []) × (noted ≡ []) × (new ≡ old) × (later ≡ d)
  AreLinesServedTo old d count (line ∷ lines) pairs letters noted new later =
      (first : List (Pair Record Outcome)) × (own : List Letter) × (now : List Observation) × (next : Market) × (between : Desks)
      × (more : List (Pair Record Outcome)) × (others : List Letter) × (rest : List Observation)
      × IsLineServedTo old d count line first own now next between × AreLinesServedTo next between (count + length first) lines more others rest new later
      × (pairs ≡ first ++ more) × (letters ≡ own ++ others) × (noted ≡ now ++ rest)

  -- The first commands of a line are served, and `next` are its others: the line is the next one of its sender, and asks for them all. These letters are
  -- written, and the account observes this.
  pub record IsLineBegunTo (old : Market) (d : Desks) (count : ℕ) (line : List ℕ) (pairs : List (Pair Record Outcome)) (letters : List Letter) (noted : List Observation) (new : Market) (later : Desks) : Type 0 where
    pub sender : Recipient
    pub text : List ℕ
    pub asked : Asked
    pub is_heard : IsHeard d line (heard.From sender text)
    pub wished : IsWish old.version old.tickers d sender text (wish.Serve asked)
    pub first : List Command
    pub next : List Command
    pub parts : commands_of asked ≡ first ++ next
    pub after : List Observation
    pub served : AreServedTo old (with_line d sender) count sender ((tally_of d sender).lines + 1) first pairs letters after new later
    pub noted_is : noted ≡ own_line (heard.From sender text) ++ after

  -- lines are served, and of one more line the first commands
  pub record AreServedIntoTo (old : Market) (d : Desks) (count : ℕ) (lines : List (List ℕ)) (line : List ℕ) (pairs : List (Pair Record Outcome)) (letters : List Letter) (noted : List Observation) (new : Market) (later : Desks) : Type 0 where
    pub first : List (Pair Record Outcome)
    pub own : List Letter
    pub now : List Observation
    pub mid : Market
    pub between : Desks
    pub whole : AreLinesServedTo old d count lines first own now mid between
    pub more : List (Pair Record Outcome)
    pub others : List Letter
    pub rest : List Observation
    pub begun : IsLineBegunTo mid between (count + length first) line more others rest new later
    pub pairs_are : pairs ≡ first ++ more
    pub letters_are : letters ≡ own ++ others
    pub noted_is : noted ≡ now ++ rest

  -- The first of these lines add these entries, these letters are written, and the account observes this; of the last of them perhaps only the first
  -- commands are served.
  pub record AreFirstServedTo (old : Market) (d : Desks) (count : ℕ) (lines : List (List ℕ)) (pairs : List (Pair Record Outcome)) (letters : List Letter) (noted : List Observation) : Type 0 where
    pub whole : List (List ℕ)
    pub rest : List (List ℕ)
    pub parts : lines ≡ whole ++ rest
    pub new : Market
    pub later : Desks
    pub served : AreLinesServedTo old d count whole pairs letters noted new later
        ⊎ ((line : List ℕ) × (more : List (List ℕ)) × (rest ≡ line ∷ more) × AreServedIntoTo old d count whole line pairs letters noted new later)
