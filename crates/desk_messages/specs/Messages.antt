-- Messages, and who is told what.
use Rattle.std.specs.Prelude.{◌≡◌, ℕ, ◌+◌, nat_lt, ◌&&◌, Bool, if◌then◌else◌, ℤ, List, [], ◌∷◌, ◌++◌, map, codes, decimal, Option, Some, None}
use Rattle.std.specs.List.{flat_map, range_with_len}
use Rattle.wire_records.specs.Commands.{Command, AddAsset, OpenAccount, Deposit, Withdraw, Place, CancelOrder, RunBatch, SetCredit, Answer, Plain, Batch}
use Rattle.wire_records.specs.declared.reply.Reply.TheVariants.{Done, Asset, Account, Order, Refused}
use Rattle.flow_orders.specs.Orders as book
use Rattle.flow_orders.specs.Outcomes.{Clearing, Outcome, trades_of}
use Rattle.flow_orders.specs.Trades.{Trade, paid}
use Rattle.statement_rules.specs.Views.{own_trades}
use Rattle.pair_text.specs.Texts.{◌then◌}
use Rattle.answer_text.specs.declared.fills.FillCost.{FillCost}
use Rattle.answer_text.specs.declared.header.Recipient.{Recipient}
use Rattle.answer_text.specs.declared.header.Recipient.TheVariants.{Operator, Desk, All}
use Rattle.answer_text.specs.Answers.{answer_line, command_members, echo_members, batch_members, fills_members}
use Rattle.desk_messages.specs.Desks.{Desks, tally_of, with_message, with_account}

-- A message: whom it is for, which line of the recipient's own it answers, which entry was kept for it, if the operator is told, and the members
-- of its body.
pub record Message : Type 0 where
  pub to : Recipient
  pub line : Option ℕ
  pub entry : Option ℕ
  pub members : List ℕ

-- the line of the next message, with its number among those to its recipient
abbrev pub text_of : Desks → Message → List ℕ
text_of d m = answer_line (record { to = m.to; number = (tally_of d m.to).messages + 1; line = m.line; entry = m.entry }) m.members

-- the lines of messages, one after the other
abbrev pub texts_of : Desks → List Message → List ℕ
texts_of d [] = []
texts_of d (m ∷ more) = text_of d m ++ texts_of (with_message d m.to) more

-- the counts after these messages
abbrev pub told : Desks → List Message → Desks
told d [] = d
told d (m ∷ more) = told (with_message d m.to) more

-- these messages were appended to a text, and counted
pub record Tells (old new : Desks) (before after : List ℕ) (messages : List Message) : Type 0 where
  pub counted : new ≡ told old messages
  pub put : after ≡ before ++ texts_of old messages

-- ---- what is told of a command

-- the number of an entry is told to the operator alone
abbrev pub entry_for : Recipient → ℕ → Option ℕ
entry_for Operator entry = Some entry
entry_for (Desk account) entry = None
entry_for All entry = None

-- the answer to a sender's line: with its number, and to the operator with that of the entry
abbrev pub reply_to : Recipient → (line entry : ℕ) → List ℕ → Message
reply_to sender line entry members = record { to = sender; line = Some line; entry = entry_for sender entry; members = members }

-- a message that answers no line of its recipient
abbrev pub notice_to : Recipient → List ℕ → Message
notice_to to members = record { to = to; line = None; entry = None; members = members }

-- the number of the account that was opened
abbrev pub opened_by : Answer Outcome → Option ℕ
opened_by (Plain Done) = None
opened_by (Plain (Asset number)) = None
opened_by (Plain (Account number)) = Some number
opened_by (Plain (Order number)) = None
opened_by (Plain (Refused refusal)) = None
opened_by (Batch batch outcome) = None

-- the account that a command names, or that it opened
abbrev pub concerned : Command → Answer Outcome → Option ℕ
concerned (AddAsset ticker) answer = None
concerned OpenAccount answer = opened_by answer
concerned (Deposit account kind count) answer = Some account
concerned (Withdraw account kind count) answer = Some account
concerned (Place last request) answer = Some request.account
concerned (CancelOrder account order) answer = Some account
concerned (RunBatch budget) answer = None
concerned (SetCredit account kind count) answer = Some account

-- there is an account of this number, if so many are there
abbrev pub has_account : ℕ → ℕ → Bool
has_account accounts account = nat_lt 0 account && nat_lt account (accounts + 1)

-- what the account hears that a command of the operator names or opens, if it is there; a command of an account is told to nobody else
abbrev pub notices : ℕ → Recipient → Option ℕ → List ℕ → List Message
notices accounts Operator None members = []
notices accounts Operator (Some account) members = if has_account accounts account then notice_to (Desk account) members ∷ [] else []
notices accounts (Desk sender) named members = []
notices accounts All named members = []

-- what all hear of a command: an asset that was added, and how a batch ended
abbrev pub announced : List (List ℕ) → Command → Answer Outcome → List Message
announced tickers command (Plain Done) = []
announced tickers command (Plain (Asset number)) = notice_to All (command_members tickers command) ∷ []
announced tickers command (Plain (Account number)) = []
announced tickers command (Plain (Order number)) = []
announced tickers command (Plain (Refused refusal)) = []
announced tickers command (Batch batch outcome) = notice_to All (batch_members tickers batch outcome) ∷ []

-- the counts once a command was served: an account that was opened is counted from then on
abbrev pub with_opened : Option ℕ → Desks → Desks
with_opened None d = d
with_opened (Some account) d = with_account d

-- what is told of a command that was served, in this order: to its sender, to the account that the operator names, and to all
abbrev pub served_messages : ℕ → Recipient → (line entry : ℕ) → List (List ℕ) → Command → Answer Outcome → List Message
served_messages accounts sender line entry tickers command answer =
    reply_to sender line entry (echo_members tickers command answer)
    ∷ (notices accounts sender (concerned command answer) (echo_members tickers command answer) ++ announced tickers command answer)

-- ---- what accounts are told of a batch that cleared

-- a trade as its account is told of it: the order, its rate, and what it costs, in grains
abbrev pub cost_of : List ℤ → Trade → FillCost
cost_of prices t = record { order = t.order.number; rate = t.traded; cost = paid prices t }

-- what an account's own orders traded in a batch, by ascending numbers of the orders
abbrev pub own_costs : ℕ → List book.Order → Clearing → List FillCost
own_costs account orders c = map (cost_of c.prices) (own_trades account (trades_of orders c.fills))

-- what an account is told whose orders traded so; nothing if it has none
abbrev pub fill_message : (batch account : ℕ) → List FillCost → List Message
fill_message batch account [] = []
fill_message batch account (fill ∷ fills) = notice_to (Desk account) (fills_members batch (fill ∷ fills)) ∷ []

-- what each account with live orders is told of a batch that cleared, by ascending numbers of the accounts
abbrev pub fill_messages : ℕ → List book.Order → ℕ → Clearing → List Message
fill_messages accounts orders batch c = flat_map (λ account. fill_message batch account (own_costs account orders c)) (range_with_len 1 accounts)

-- ---- what is told of a line that isn't served

-- to the operator: the line of the input with this number is no envelope
abbrev pub no_envelope : ℕ → Message
no_envelope number = notice_to Operator (codes "\"at\":" then decimal number then codes ",\"error\":\"no envelope\"")

-- to a sender: another number was expected
abbrev pub expected : Recipient → ℕ → Message
expected sender number = notice_to sender (codes "\"expected\":" then decimal number)

-- to a sender: what is wrong with its line
abbrev pub error_to : Recipient → ℕ → List ℕ → Message
error_to sender line error = record { to = sender; line = Some line; entry = None; members = codes "\"error\":\"" then error then codes "\"" }
