-- What a text asks for, by what it was read as.
use Rattle.std.proofs.Common.{ℕ, List, All, Result, Ok, Err, IfOk, inl, arith}
use Rattle.wire_records.specs.Commands.{Command}
use Rattle.wire_records.specs.declared.version.Version.{Version}
use Rattle.order_text.specs.Lines.{Alone, OfLadder, LineAsks, SaysNothing}
use Rattle.answer_text.specs.declared.header.Recipient.{Recipient}
use Rattle.desk_messages.specs.Desks.{Desks}
use Rattle.desk_lines.specs.declared.wishes.Wish as code
use Rattle.desk_lines.specs.declared.wishes.TextFault.TheVariants.{NotYours}
use Rattle.desk_lines.specs.Answers.{wish_in}
use Rattle.desk_lines.specs.Rights.{MayAsk}
use Rattle.desk_lines.specs.Wishes.{Refuse, IsReadable, IsWish}

module _ (version : Version) (tickers : List (List ℕ)) (d : Desks) (sender : Recipient) (text : List ℕ) (readable : IsReadable text) where
  -- a command that isn't the sender's
  pub not_yours : (command : Command) → LineAsks version tickers text (Alone command) → ¬ MayAsk sender command → IsWish version tickers d sender text (Refuse NotYours)
  not_yours command asks may_not = (readable, inl (Alone command, asks, λ all. may_not (all 0 command (omega arith))))

  -- commands of a ladder that aren't all the sender's
  pub not_all_yours : (commands : List Command) → LineAsks version tickers text (OfLadder commands) → ¬ All (MayAsk sender) commands → IsWish version tickers d sender text (Refuse NotYours)
  not_all_yours commands asks may_not = (readable, inl (OfLadder commands, asks, may_not))

  -- no commands
  pub no_commands : {E : Type 0} (result : Result code.Wish E)
      → IfOk result (λ wish. IsReadable text → (v : Version) (t : List (List ℕ)) → SaysNothing v t text → IsWish v t d sender text (wish_in wish))
      → SaysNothing version tickers text → IfOk result (λ wish. IsWish version tickers d sender text (wish_in wish))
  no_commands (Ok wish) holds nothing = holds readable version tickers nothing
  no_commands (Err fault) holds nothing = tt
