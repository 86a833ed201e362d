-- What a line that was heard leaves to do.
use Rattle.std.specs.Prelude.{◌≡◌, ℕ, ◌+◌, List, [], ◌++◌, map, All, Option}
use Rattle.wire_records.specs.Commands.{Command, Request, Place}
use Rattle.wire_records.specs.CommandRecords.{HasShortRow}
use Rattle.wire_records.specs.Views.{command_in}
use Rattle.market_rules.specs.Step.{NoOutcome}
use Rattle.order_text.specs.Lines.{Asked, Alone, OfLadder}
use Rattle.answer_text.specs.declared.header.Recipient.{Recipient}
use Rattle.desk_messages.specs.Desks.{tally_of, with_line}
use Rattle.desk_lines.specs.Hearing.{IsHeard, From}
use Rattle.desk_lines.specs.Wishes.{IsWish, Serve}
use Rattle.desk_session.specs.Lines.{IsLineServed}
use Rattle.desk_session.specs.States.{State}
use Rattle.desk_session.specs.declared.lines.Said.{Said}
use Rattle.desk_session.specs.declared.lines.Said.TheVariants as said

-- A line has no commands: it adds no entry, and holds no batch, so this is so by any rule of batches. Its answer, if it has one, is the last of the texts.
abbrev pub IsAnswered : State → List ℕ → State → Type 0
IsAnswered old line new =
    (texts : List (List ℕ)) × IsLineServed NoOutcome old.market old.talk.desks old.entries line [] texts new.market new.talk.desks
    × (new.talk.texts ≡ old.talk.texts ++ texts) × (new.entries ≡ old.entries)

-- A line of a sender was counted, under this number, and asks for this, which the sender may ask for. Nothing of it is served yet.
pub record AsksFor (old : State) (line : List ℕ) (sender : Recipient) (number : ℕ) (asked : Asked) (new : State) : Type 0 where
  pub text : List ℕ
  pub heard : IsHeard old.talk.desks line (From sender text)
  pub wished : IsWish old.market.version old.market.tickers old.talk.desks sender text (Serve asked)
  pub number_is : number ≡ (tally_of old.talk.desks sender).lines + 1
  pub market : new.market ≡ old.market
  pub talk : new.talk ≡ record (old.talk) { desks = with_line old.talk.desks sender }
  pub entries : new.entries ≡ old.entries

-- what a line leaves to do
abbrev pub IsSaid : Said → State → List ℕ → State → Type 0
IsSaid said.Done old line new = IsAnswered old line new
IsSaid (said.Serve sender number command) old line new = AsksFor old line sender number (Alone (command_in command)) new × HasShortRow (command_in command)
IsSaid (said.ServeAll sender number commands) old line new =
    AsksFor old line sender number (OfLadder (map command_in commands)) new × All (λ command. HasShortRow (command_in command)) commands

-- a command places an order, as each of a ladder does
abbrev pub IsPlacement : Command → Type 0
IsPlacement command = (last : Option ℕ) × (request : Request) × (command ≡ Place last request)
