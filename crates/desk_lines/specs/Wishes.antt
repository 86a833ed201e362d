-- What the text of a line asks for.
use Rattle.std.specs.Prelude.{◌⊎◌, ℕ, ◌≤◌, List, length, All}
use Rattle.wire_records.specs.declared.version.Version.{Version}
use Rattle.line_records.specs.Lines.{HasNoFeed}
use Rattle.order_text.specs.Lines.{IsBlank, Asked, commands_of, LineAsks, SaysNothing}
use Rattle.order_text.specs.Questions.{AsksQuestion}
use Rattle.order_text.specs.declared.question.Question.{Question}
use Rattle.answer_text.specs.declared.header.Recipient.{Recipient}
use Rattle.desk_messages.specs.Desks.{Desks}
use Rattle.desk_lines.specs.declared.wishes.TextFault.{TextFault}
use Rattle.desk_lines.specs.declared.wishes.TextFault.TheVariants.{NoCommand, NotYours, NoAccount}
use Rattle.desk_lines.specs.Rights.{MayAsk, MayKnow, IsAboutSome}

-- the most bytes of a text
abbrev pub most_text : ℕ
most_text = 32768

-- a text is read at all: it isn't too long, and has no line feed
abbrev pub IsReadable : List ℕ → Type 0
IsReadable text = (length text ≤ most_text) × HasNoFeed text

-- What a text asks for: nothing, commands that are served, a question that is answered, or what isn't done.
pub data Wish : Type 0 where
  Nothing : Wish
  Serve : (asked : Asked) → Wish
  Answer : (question : Question) → Wish
  Refuse : (why : TextFault) → Wish

-- A text of a sender asks for this, in a version and with these tickers, given which accounts are there. What a text says comes first, then who may
-- ask for it, and then whether there is such an account.
module _ (version : Version) (tickers : List (List ℕ)) (d : Desks) (sender : Recipient) (text : List ℕ) where
  abbrev pub IsWish : Wish → Type 0
  IsWish Nothing = IsReadable text × IsBlank text
  IsWish (Serve asked) = IsReadable text × LineAsks version tickers text asked × All (MayAsk sender) (commands_of asked)
  IsWish (Answer question) = IsReadable text × AsksQuestion text question × MayKnow sender question × IsAboutSome d question
  IsWish (Refuse NoCommand) = (¬ IsReadable text) ⊎ (SaysNothing version tickers text × ((question : Question) → ¬ AsksQuestion text question))
  IsWish (Refuse NotYours) =
      IsReadable text
      × (((asked : Asked) × LineAsks version tickers text asked × (¬ All (MayAsk sender) (commands_of asked)))
      ⊎ ((question : Question) × AsksQuestion text question × (¬ MayKnow sender question)))
  IsWish (Refuse NoAccount) =
      IsReadable text × (question : Question) × AsksQuestion text question × MayKnow sender question × (¬ IsAboutSome d question)
