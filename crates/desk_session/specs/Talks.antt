-- What is to be written, and what was counted.
use Rattle.std.specs.Prelude.{ℕ, List, [], ◌∷◌, ◌++◌, Option}
use Rattle.desk_messages.specs.Desks.{Desks}
use Rattle.desk_messages.specs.Messages.{Message, texts_of, told, with_opened}

-- the counts of lines and messages, and the texts that are to be written, each by one call
pub record Talk : Type 0 where
  pub desks : Desks
  pub texts : List (List ℕ)

-- with one more text, of these messages
abbrev pub says : Talk → List Message → Talk
says t messages = record { desks = told t.desks messages; texts = t.texts ++ texts_of t.desks messages ∷ [] }

-- with one more text, of the messages that follow from the counts once an account that was opened is counted
abbrev pub says_of : Talk → Option ℕ → (Desks → List Message) → Talk
says_of t opened messages = says (record t { desks = with_opened opened t.desks }) (messages (with_opened opened t.desks))
