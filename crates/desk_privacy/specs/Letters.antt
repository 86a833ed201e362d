-- Messages as they are written, and which of them an account gets.
use Rattle.std.specs.Prelude.{ℕ, ◌==◌, Bool, true, false, List, [], ◌∷◌}
use Rattle.std.specs.List.{flat_map, filter}
use Rattle.answer_text.specs.declared.header.Recipient.{Recipient}
use Rattle.answer_text.specs.declared.header.Recipient.TheVariants.{Operator, Desk, All}
use Rattle.desk_messages.specs.Desks.{Desks, with_message}
use Rattle.desk_messages.specs.Messages.{Message, text_of}

-- a letter: a message as it is written, with whom it is for, and the bytes of its line
pub record Letter : Type 0 where
  pub to : Recipient
  pub line : List ℕ

-- the letters of messages, one of each, in their order
abbrev pub letters_of : Desks → List Message → List Letter
letters_of d [] = []
letters_of d (m ∷ more) = record { to = m.to; line = text_of d m } ∷ letters_of (with_message d m.to) more

-- the bytes of letters, one after the other
abbrev pub bytes_of : List Letter → List ℕ
bytes_of letters = flat_map (λ (l : Letter). l.line) letters

-- a recipient is the account, or all
abbrev pub is_for : ℕ → Recipient → Bool
is_for account Operator = false
is_for account (Desk named) = named == account
is_for account All = true

-- the letters to an account and to all, in their order
abbrev pub letters_for : ℕ → List Letter → List Letter
letters_for account letters = filter (λ (l : Letter). is_for account l.to) letters
