-- Definitions that only private functions use.
use Rattle.std.specs.Prelude.{◌≡◌, ℕ, ◌-◌, ◌≤◌, List, [], ◌∷◌, ◌++◌, length, map, take, drop, All, ⊤}
use Rattle.wire_records.specs.Commands.{Answer, Plain, Batch}
use Rattle.wire_records.specs.CommandRecords.{HasShortRow}
use Rattle.wire_records.specs.Views.{command_in}
use Rattle.flow_accounts.specs.Balances.{Balances, IsAccount}
use Rattle.flow_orders.specs.Orders.{Order}
use Rattle.flow_orders.specs.Outcomes.{Outcome, Cleared, Skipped}
use Rattle.market_rules.specs.Step.{NoOutcome}
use Rattle.order_text.specs.Lines.{Alone, OfLadder}
use Rattle.order_text.specs.declared.question.Question.{Question}
use Rattle.order_text.specs.declared.question.Question.TheVariants as question
use Rattle.answer_text.specs.declared.header.Recipient.{Recipient}
use Rattle.answer_text.specs.declared.header.Recipient.TheVariants.{Operator, Desk, All as ToAll}
use Rattle.desk_messages.specs.Batches.{FitsBook}
use Rattle.desk_lines.specs.Wishes.{Wish}
use Rattle.desk_lines.specs.Wishes as wish
use Rattle.desk_session.specs.Lines.{ComesOfWish}
use Rattle.desk_session.specs.States.{State}
use Rattle.desk_session.specs.declared.lines.Said.{Said}
use Rattle.desk_session.specs.declared.lines.Said.TheVariants as said

-- the parts of a text that end at these places, of which the first begins at this one
abbrev pub segments : ℕ → List ℕ → List ℕ → List (List ℕ)
segments from [] text = []
segments from (end ∷ ends) text = take (end - from) (drop from text) ∷ segments end ends text

-- the places ascend from this one, and the last is the text's end
abbrev pub EndAt : ℕ → List ℕ → List ℕ → Type 0
EndAt from [] text = from ≡ length text
EndAt from (end ∷ ends) text = (from ≤ end) × (end ≤ length text) × EndAt end ends text

-- a batch that cleared has what its accounts are told of
abbrev pub FitsFills : ℕ → List Order → Answer Outcome → Type 0
FitsFills accounts orders (Plain reply) = ⊤
FitsFills accounts orders (Batch batch (Cleared c)) = FitsBook accounts orders c
FitsFills accounts orders (Batch batch (Skipped s)) = ⊤

-- a question of a sender has an answer: the account that it is about is there
abbrev pub IsAnswerable : Balances → Recipient → Question → Type 0
IsAnswerable b sender question.Market = ⊤
IsAnswerable b Operator question.Own = ⊤
IsAnswerable b (Desk account) question.Own = IsAccount b account
IsAnswerable b ToAll question.Own = ⊤
IsAnswerable b sender (question.Account account) = IsAccount b account
IsAnswerable b sender question.Exchange = ⊤

-- what a text asks for can be answered, if it is a question
abbrev pub CanAnswer : Balances → Recipient → Wish → Type 0
CanAnswer b sender wish.Nothing = ⊤
CanAnswer b sender (wish.Serve asked) = ⊤
CanAnswer b sender (wish.Answer q) = IsAnswerable b sender q
CanAnswer b sender (wish.Refuse why) = ⊤

-- the answer to the wish of a sender whose line has this number was given, or its commands are left to do
abbrev pub IsLeft : Said → State → Recipient → ℕ → Wish → State → Type 0
IsLeft said.Done old sender line w new =
    (texts : List (List ℕ)) × ComesOfWish NoOutcome old.market old.talk.desks old.entries sender line w [] texts new.market new.talk.desks
    × (new.talk.texts ≡ old.talk.texts ++ texts) × (new.entries ≡ old.entries)
IsLeft (said.Serve from number command) old sender line w new =
    (from ≡ sender) × (number ≡ line) × (w ≡ wish.Serve (Alone (command_in command))) × HasShortRow (command_in command) × (new ≡ old)
IsLeft (said.ServeAll from number commands) old sender line w new =
    (from ≡ sender) × (number ≡ line) × (w ≡ wish.Serve (OfLadder (map command_in commands))) × All (λ command. HasShortRow (command_in command)) commands × (new ≡ old)
