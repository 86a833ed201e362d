-- Definitions of the code's parts: what watching an entry answers.
use Rattle.std.specs.Prelude.{◌+◌, ◌*◌, ◌<◌, ◌^◌, ℕ, List, Result, Ok, Err}
use Rattle.market_rules.specs.Market.{Market}
use Rattle.word_driver.specs.declared.fault.Halt.{Halt}
use Rattle.word_driver.specs.declared.fault.Halt.TheVariants.{Memory, Stopped}
use Rattle.journal_words.specs.Watching.{Watch, End}

-- what the end of a journal answers: the last text, that memory ran out, or why the subcommand stops there
abbrev pub IsClosedBy : {S B : Type 0} → Watch S B → Market → ℕ → S → Result (Unit {0}) (Halt B) → List ℕ → Type 0
IsClosedBy watch market pairs seen (Ok done) text = watch.Closes market pairs seen text
IsClosedBy watch market pairs seen (Err Memory) text = watch.Allocates market pairs End seen
IsClosedBy watch market pairs seen (Err (Stopped why)) text = watch.Stops market pairs seen why text

-- while `left` bytes are left, the numbers stay within their widths: an entry has at least ten bytes, so the next order's is below 2 ^ 64
pub record NumbersFit (market : Market) (pairs left : ℕ) : Type 0 where
  pub orders : 10 * market.next_order + left < 2 ^ 67
  pub counts : pairs + left < 2 ^ 64
