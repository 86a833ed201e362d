-- How many lines of each sender were counted, and how many messages each recipient was told.
use Rattle.std.specs.Prelude.{ℕ, ◌+◌, ◌-◌, ◌<◌, ◌≤◌, ◌==◌, if◌then◌else◌, List, [], ◌∷◌, ◌++◌, length, replicate, slice_index_or, slice_set, ⊤}
use Rattle.answer_text.specs.declared.header.Recipient.{Recipient}
use Rattle.answer_text.specs.declared.header.Recipient.TheVariants.{Operator, Desk, All}
use Rattle.desk_messages.specs.declared.counts.Tally.{Tally}

-- nothing was counted
abbrev pub nothing : Tally
nothing = record { lines = 0; messages = 0 }

-- the counts of all lines of an input and of all messages, of the operator, of what is told to all, and of each account, by the accounts' numbers from 1
pub record Desks : Type 0 where
  pub total : Tally
  pub operator : Tally
  pub all : Tally
  pub accounts : List Tally

-- nothing was sent or told yet, in a market with so many accounts
abbrev pub no_desks : ℕ → Desks
no_desks accounts = record { total = nothing; operator = nothing; all = nothing; accounts = replicate accounts nothing }

-- the recipient that a sender is: number 0 is the operator, and any other the account of this number
abbrev pub recipient_of : ℕ → Recipient
recipient_of from = if from == 0 then Operator else Desk from

-- a recipient is there: an account is one of those that are counted
abbrev pub IsThere : Desks → Recipient → Type 0
IsThere d Operator = ⊤
IsThere d (Desk account) = (0 < account) × (account ≤ length d.accounts)
IsThere d All = ⊤

-- the counts of a sender or recipient
abbrev pub tally_of : Desks → Recipient → Tally
tally_of d Operator = d.operator
tally_of d (Desk account) = slice_index_or d.accounts (account - 1) nothing
tally_of d All = d.all

-- with other counts of a sender or recipient
abbrev pub with_tally : Desks → Recipient → Tally → Desks
with_tally d Operator t = record d { operator = t }
with_tally d (Desk account) t = record d { accounts = slice_set d.accounts (account - 1) t }
with_tally d All t = record d { all = t }

-- with one more line of the input
abbrev pub with_read : Desks → Desks
with_read d = record d { total = record (d.total) { lines = d.total.lines + 1 } }

-- with one more line of the input, which counts for its sender
abbrev pub with_line : Desks → Recipient → Desks
with_line d sender = with_read (with_tally d sender (record (tally_of d sender) { lines = (tally_of d sender).lines + 1 }))

-- with one more message to a recipient
abbrev pub with_message : Desks → Recipient → Desks
with_message d to =
    record (with_tally d to (record (tally_of d to) { messages = (tally_of d to).messages + 1 })) {
      total = record (d.total) { messages = d.total.messages + 1 };
    }

-- with one more account
abbrev pub with_account : Desks → Desks
with_account d = record d { accounts = d.accounts ++ nothing ∷ [] }
