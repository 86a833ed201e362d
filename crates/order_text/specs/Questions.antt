-- The questions about a market that a text may ask.
use Rattle.std.specs.Prelude.{◌≡◌, ℕ, List, [], ◌∷◌, codes, IsUtf8, Result, Ok, Err, Some}
use Rattle.serde_json.specs.Data.{Data}
use Rattle.serde_json.specs.Read.{read}
use Rattle.order_text.specs.declared.line.LineFault.{LineFault}
use Rattle.order_text.specs.declared.line.LineFault.TheVariants.{NoCommand, Memory}
use Rattle.order_text.specs.declared.question.Question.{Question}
use Rattle.order_text.specs.declared.question.Question.TheVariants.{Market, Own, Account, Exchange}
use Rattle.order_text.specs.Lines.{Value, Text, Small, HasMembers}

-- the members of the object that asks a question
abbrev pub question_members : Question → List (List ℕ × Value)
question_members Market = (codes "ask", Text (codes "market")) ∷ []
question_members Own = (codes "ask", Text (codes "account")) ∷ []
question_members (Account number) = (codes "ask", Text (codes "account")) ∷ (codes "account", Small number) ∷ []
question_members Exchange = (codes "ask", Text (codes "exchange")) ∷ []

-- a text asks a question: it is the UTF-8 of an object with the question's members
pub record AsksQuestion (text : List ℕ) (question : Question) : Type 0 where
  pub utf8 : IsUtf8 text
  pub value : Data
  pub reads : read text ≡ Some value
  pub members : HasMembers [] value (question_members question)

-- the answer to a text that is read as a question
abbrev pub IsQuestionRead : List ℕ → Result Question LineFault → Type 0
IsQuestionRead text (Ok question) = AsksQuestion text question
IsQuestionRead text (Err NoCommand) = (question : Question) → ¬ AsksQuestion text question
IsQuestionRead text (Err Memory) = Unit {0}
