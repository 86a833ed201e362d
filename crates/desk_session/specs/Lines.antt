-- What comes of the lines of many senders: which entries their commands get, and which texts are written.
use Rattle.std.specs.Prelude.{◌≡◌, ◌⊎◌, ℕ, ◌+◌, List, [], ◌∷◌, ◌++◌, length, codes, Some, None}
use Rattle.wire_records.specs.Records.{Record}
use Rattle.wire_records.specs.Commands.{Command, Answer, Plain, Batch, Pair}
use Rattle.wire_records.specs.CommandRecords.{record_of}
use Rattle.wire_records.specs.Versions.{IsReadAs}
use Rattle.flow_orders.specs.Orders as book
use Rattle.flow_orders.specs.Outcomes.{Outcome, Cleared, Skipped, BatchRule}
use Rattle.market_rules.specs.Market.{Market, start_prices}
use Rattle.market_rules.specs.Journal.{Step}
use Rattle.order_text.specs.Lines.{Asked, commands_of}
use Rattle.order_text.specs.declared.question.Question.{Question}
use Rattle.order_text.specs.declared.question.Question.TheVariants as question
use Rattle.answer_text.specs.declared.header.Recipient.{Recipient}
use Rattle.answer_text.specs.declared.header.Recipient.TheVariants.{Operator, Desk, All}
use Rattle.answer_text.specs.Answers.{market_members, exchange_members}
use Rattle.answer_text.specs.Accounts.{account_members}
use Rattle.desk_messages.specs.Desks.{Desks, tally_of, with_read, with_line}
use Rattle.desk_messages.specs.Messages.{Message, texts_of, told, opened_by, with_opened, served_messages, fill_messages, no_envelope, expected, error_to}
use Rattle.desk_lines.specs.declared.wishes.TextFault.{TextFault}
use Rattle.desk_lines.specs.declared.wishes.TextFault.TheVariants.{NoCommand, NotYours, NoAccount}
use Rattle.desk_lines.specs.Hearing.{Heard, IsHeard}
use Rattle.desk_lines.specs.Hearing as heard
use Rattle.desk_lines.specs.Wishes.{Wish, IsWish}
use Rattle.desk_lines.specs.Wishes as wish

-- ---- entries

-- what accounts are told of their orders in a batch, by the orders that were live in it
abbrev pub told_of_fills : ℕ → List book.Order → Answer Outcome → List Message
told_of_fills accounts orders (Plain reply) = []
told_of_fills accounts orders (Batch batch (Cleared c)) = fill_messages accounts orders batch c
told_of_fills accounts orders (Batch batch (Skipped s)) = []

-- all that is told of an entry, from the counts once its command was served: `old` is the market before it, and `new` the one after it
abbrev pub entry_messages : Desks → Market → Market → Recipient → (line entry : ℕ) → Command → Answer Outcome → List Message
entry_messages d old new sender line entry command answer =
    served_messages (length d.accounts) sender line entry new.tickers command answer ++ told_of_fills (length d.accounts) old.orders answer

-- how a batch may end
module _ (Rule : BatchRule) where
  -- The commands of a line of a sender get these entries, each one step of the market, and these texts are written, one for each. `count` entries are
  -- before them.
  abbrev pub AreServed : Market → Desks → (count : ℕ) → Recipient → (line : ℕ) → List Command → List (Pair Record Outcome) → List (List ℕ) → Market → Desks → Type 0
  AreServed old d count sender line [] pairs texts new later = (pairs ≡ []) × (texts ≡ []) × (new ≡ old) × (later ≡ d)
  AreServed old d count sender line (command ∷ commands) pairs texts new later =
      (pair : Pair Record Outcome) × (next : Market) × (more : List (Pair Record Outcome)) × (others : List (List ℕ))
      × (pair.asked ≡ record_of command) × Step IsReadAs Rule old pair.asked pair.answer next
      × AreServed next (told (with_opened (opened_by pair.answer) d) (entry_messages (with_opened (opened_by pair.answer) d) old next sender line (count + 1) command pair.answer))
      (count + 1) sender line commands more others new later
      × (pairs ≡ pair ∷ more)
      × (texts ≡ texts_of (with_opened (opened_by pair.answer) d) (entry_messages (with_opened (opened_by pair.answer) d) old next sender line (count + 1) command pair.answer) ∷ others)

-- ---- lines

-- the answer to a question of a sender
abbrev pub answer_members : Market → Recipient → Question → List ℕ
answer_members m sender question.Market = market_members m.tickers m.version m.batches (start_prices m)
answer_members m (Desk account) question.Own = account_members m.tickers m.balances m.orders account
answer_members m Operator question.Own = []
answer_members m All question.Own = []
answer_members m sender (question.Account account) = account_members m.tickers m.balances m.orders account
answer_members m sender question.Exchange = exchange_members m.tickers m.exchange.money m.exchange.units

-- what is wrong with a text
abbrev pub fault_word : TextFault → List ℕ
fault_word NoCommand = codes "no command"
fault_word NotYours = codes "not yours"
fault_word NoAccount = codes "no account"

-- the answer to a line of a sender which has this number
abbrev pub answer_to : Recipient → (line : ℕ) → List ℕ → Message
answer_to sender line members = record { to = sender; line = Some line; entry = None; members = members }

-- one text of these messages, or none
abbrev pub one_text : Desks → List Message → List (List ℕ)
one_text d [] = []
one_text d (m ∷ more) = texts_of d (m ∷ more) ∷ []

-- no entry is added, and these messages are written, in one text
abbrev pub SaysOnly : Market → Desks → List Message → List (Pair Record Outcome) → List (List ℕ) → Market → Desks → Type 0
SaysOnly old d messages pairs texts new later = (pairs ≡ []) × (new ≡ old) × (texts ≡ one_text d messages) × (later ≡ told d messages)

module _ (Rule : BatchRule) where
  -- What comes of the text of a line of a sender that was counted: its commands are served, or it is answered by itself, or not at all.
  abbrev pub ComesOfWish : Market → Desks → (count : ℕ) → Recipient → (line : ℕ) → Wish → List (Pair Record Outcome) → List (List ℕ) → Market → Desks → Type 0
  ComesOfWish old d count sender line wish.Nothing = SaysOnly old d []
  ComesOfWish old d count sender line (wish.Serve asked) = AreServed Rule old d count sender line (commands_of asked)
  ComesOfWish old d count sender line (wish.Answer q) = SaysOnly old d (answer_to sender line (answer_members old sender q) ∷ [])
  ComesOfWish old d count sender line (wish.Refuse why) = SaysOnly old d (error_to sender line (fault_word why) ∷ [])

  -- what comes of a line
  abbrev pub ComesOf : Market → Desks → (count : ℕ) → Heard → List (Pair Record Outcome) → List (List ℕ) → Market → Desks → Type 0
  ComesOf old d count heard.Nothing = SaysOnly old (with_read d) []
  ComesOf old d count heard.Noise = SaysOnly old (with_read d) (no_envelope (d.total.lines + 1) ∷ [])
  ComesOf old d count (heard.Other sender) = SaysOnly old (with_read d) (expected sender ((tally_of d sender).lines + 1) ∷ [])
  ComesOf old d count (heard.From sender text) =
      λ pairs texts new later. (wished : Wish) × IsWish old.version old.tickers d sender text wished
      × ComesOfWish old (with_line d sender) count sender ((tally_of d sender).lines + 1) wished pairs texts new later

  -- A line adds these entries, and is answered with these texts, which are written in order, each by one call. `count` entries are before it.
  abbrev pub IsLineServed : Market → Desks → (count : ℕ) → List ℕ → List (Pair Record Outcome) → List (List ℕ) → Market → Desks → Type 0
  IsLineServed old d count line pairs texts new later = (said : Heard) × IsHeard d line said × ComesOf old d count said pairs texts new later

  -- lines add these entries and are answered with these texts, one after the other
  abbrev pub AreLinesServed : Market → Desks → (count : ℕ) → List (List ℕ) → List (Pair Record Outcome) → List (List ℕ) → Market → Desks → Type 0
  AreLinesServed old d count [] pairs texts new later = (pairs ≡ []) × (texts ≡ []) × (new ≡ old) × (later ≡ d)
  AreLinesServed old d count (line ∷ lines) pairs texts new later =
      (first : List (Pair Record Outcome)) × (own : List (List ℕ)) × (next : Market) × (between : Desks) × (more : List (Pair Record Outcome)) × (others : List (List ℕ))
      × IsLineServed old d count line first own next between × AreLinesServed next between (count + length first) lines more others new later
      × (pairs ≡ first ++ more) × (texts ≡ own ++ others)

  -- The first commands of a line get these entries, and `next` are its others: the line is the next one of this sender, and asks for them all.
  pub record IsLineBegun (old : Market) (d : Desks) (count : ℕ) (line : List ℕ) (sender : Recipient) (next : List Command) (pairs : List (Pair Record Outcome)) (texts : List (List ℕ)) (new : Market) (later : Desks) : Type 0 where
    pub text : List ℕ
    pub asked : Asked
    pub is_heard : IsHeard d line (heard.From sender text)
    pub wished : IsWish old.version old.tickers d sender text (wish.Serve asked)
    pub first : List Command
    pub parts : commands_of asked ≡ first ++ next
    pub served : AreServed Rule old (with_line d sender) count sender ((tally_of d sender).lines + 1) first pairs texts new later

  -- lines are served, and of one more line the first commands; `next` are its others
  pub record AreServedInto (old : Market) (d : Desks) (count : ℕ) (lines : List (List ℕ)) (line : List ℕ) (next : List Command) (pairs : List (Pair Record Outcome)) (texts : List (List ℕ)) (new : Market) (later : Desks) : Type 0 where
    pub first : List (Pair Record Outcome)
    pub own : List (List ℕ)
    pub mid : Market
    pub between : Desks
    pub whole : AreLinesServed old d count lines first own mid between
    pub sender : Recipient
    pub more : List (Pair Record Outcome)
    pub others : List (List ℕ)
    pub begun : IsLineBegun mid between (count + length first) line sender next more others new later
    pub all : pairs ≡ first ++ more
    pub said : texts ≡ own ++ others

  -- The first of these lines add these entries and are answered with these texts; of the last of them perhaps only the first commands are served.
  pub record AreFirstServed (old : Market) (d : Desks) (count : ℕ) (lines : List (List ℕ)) (pairs : List (Pair Record Outcome)) (texts : List (List ℕ)) : Type 0 where
    pub whole : List (List ℕ)
    pub rest : List (List ℕ)
    pub parts : lines ≡ whole ++ rest
    pub new : Market
    pub later : Desks
    pub served : AreLinesServed old d count whole pairs texts new later
        ⊎ ((line : List ℕ) × (more : List (List ℕ)) × (next : List Command) × (rest ≡ line ∷ more) × AreServedInto old d count whole line next pairs texts new later)
