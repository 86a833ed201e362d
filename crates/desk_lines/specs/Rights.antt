-- What a sender may ask for.
use Rattle.std.specs.Prelude.{◌≡◌, ◌≢◌, ◌⊎◌, ℕ, Option, Some, None, ⊤}
use Rattle.wire_records.specs.Commands.{Command, AddAsset, OpenAccount, Deposit, Withdraw, Place, CancelOrder, RunBatch, SetCredit}
use Rattle.order_text.specs.declared.question.Question.{Question}
use Rattle.order_text.specs.declared.question.Question.TheVariants.{Market, Own, Account, Exchange}
use Rattle.answer_text.specs.declared.header.Recipient.{Recipient}
use Rattle.answer_text.specs.declared.header.Recipient.TheVariants.{Operator, Desk, All}
use Rattle.desk_messages.specs.Desks.{Desks, IsThere}

-- the account that may ask for a command, beside the operator: that of a placement or of a cancel
abbrev pub owner_of : Command → Option ℕ
owner_of (AddAsset ticker) = None
owner_of OpenAccount = None
owner_of (Deposit account kind count) = None
owner_of (Withdraw account kind count) = None
owner_of (Place last request) = Some request.account
owner_of (CancelOrder account order) = Some account
owner_of (RunBatch budget) = None
owner_of (SetCredit account kind count) = None

-- a sender may ask for a command: the operator for all, and an account for its own
abbrev pub MayAsk : Recipient → Command → Type 0
MayAsk Operator command = ⊤
MayAsk (Desk account) command = owner_of command ≡ Some account
MayAsk All command = ⊥

-- a sender may know the answer to a question: the operator of all but what it has itself, and an account of the market and what it has itself
abbrev pub MayKnow : Recipient → Question → Type 0
MayKnow Operator question = question ≢ Own
MayKnow (Desk account) question = (question ≡ Market) ⊎ (question ≡ Own)
MayKnow All question = ⊥

-- a question is about what is there
abbrev pub IsAboutSome : Desks → Question → Type 0
IsAboutSome d Market = ⊤
IsAboutSome d Own = ⊤
IsAboutSome d (Account account) = IsThere d (Desk account)
IsAboutSome d Exchange = ⊤
