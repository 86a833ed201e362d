-- Laws of the texts of entries, whatever code there is.
use Rattle.std.specs.Prelude.{◌≡◌, ℕ, List}
use Rattle.wire_records.specs.Records.{Record}
use Rattle.market_rules.specs.Market.{Market}
use Rattle.batch_report.specs.Reports.{IsReport}

-- an entry has one text, with a given market and number
abbrev pub OneReport : Type 0
OneReport = (market : Market) (number : ℕ) (pair : Record × Record) (x y : List ℕ) → IsReport market number pair x → IsReport market number pair y → x ≡ y
