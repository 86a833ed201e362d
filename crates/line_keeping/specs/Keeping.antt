-- Which entries and texts the lines of an input add to a journal.
use Rattle.std.specs.Prelude.{◌≡◌, ◌⊎◌, ℕ, List, [], IfSome}
use Rattle.market_rules.specs.Market.{Market}
use Rattle.journal_keeping.specs.Dialogs.{Dialog}
use Rattle.line_keeping.specs.Answers.{AreFirstAnswered}
use Rattle.line_keeping.specs.Inputs.{line_starts, HasLinesWithin}

-- the lines of an input, which add the entries of their commands, and are answered with their texts
abbrev pub line_dialog : Dialog
line_dialog = record {
  starts = line_starts;
  together = 1;
  Adds = λ limit content before from count pairs texts.
      ((pairs ≡ []) × (texts ≡ []))
      ⊎ IfSome content (λ bytes. (lines : List (List ℕ)) × HasLinesWithin limit bytes before lines × (now : Market) × AreFirstAnswered from count lines pairs texts now);
}
