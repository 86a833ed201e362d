-- The line of what is found of an invalid entry. Numbers are plain decimal, places are counted from 0, and dual values are in grains.
use Rattle.std.specs.Prelude.{◌≡◌, ℕ, List, [], ◌++◌, codes, decimal}
use Rattle.std.specs.Fmt.{signed_decimal}
use Rattle.wire_records.specs.Records.{Record}
use Rattle.wire_records.specs.Refusals.{code_of}
use Rattle.wire_records.specs.declared.reply.Reply.{Reply}
use Rattle.wire_records.specs.declared.reply.Reply.TheVariants.{Done, Asset, Account, Order, Refused}
use Rattle.batch_certificate.specs.declared.verdict.Verdict.{Verdict}
use Rattle.batch_certificate.specs.declared.verdict.Verdict.TheVariants.{Right, Count, Price, Rate, Residual, Gap}
use Rattle.market_rules.specs.Market.{Market}
use Rattle.batch_audit.specs.declared.finding.Finding.{Finding}
use Rattle.batch_audit.specs.declared.finding.Finding.TheVariants.{NoReply, OtherReply, Batch, Part, SingleBook, TraceLength, TraceStep, AllSettled, StartDual, EndDual, Legal}
use Rattle.batch_audit.specs.Findings.{IsFinding}

-- the text of a plain reply
abbrev pub reply_text : Reply → List ℕ
reply_text Done = codes "done"
reply_text (Asset asset) = codes "asset " ++ decimal asset
reply_text (Account account) = codes "account " ++ decimal account
reply_text (Order order) = codes "order " ++ decimal order
reply_text (Refused refusal) = codes "refused " ++ decimal (code_of refusal)

-- the text of the part that makes an outcome inadmissible
abbrev pub part_text : Verdict → List ℕ
part_text Right = []
part_text Count = codes "count"
part_text (Price asset) = codes "price " ++ decimal asset
part_text (Rate place) = codes "rate " ++ decimal place
part_text (Residual asset) = codes "residual " ++ decimal asset
part_text Gap = codes "gap"

-- the text of a finding
abbrev pub finding_text : Finding → List ℕ
finding_text NoReply = codes "no reply"
finding_text (OtherReply reply) = codes "reply " ++ reply_text reply ++ codes " expected"
finding_text (Batch number) = codes "batch " ++ decimal number ++ codes " expected"
finding_text (Part verdict) = part_text verdict
finding_text SingleBook = codes "one-asset book"
finding_text TraceLength = codes "trace length"
finding_text (TraceStep place) = codes "trace step " ++ decimal place
finding_text AllSettled = codes "all settled"
finding_text (StartDual right) = codes "start dual " ++ signed_decimal right
finding_text (EndDual right) = codes "end dual " ++ signed_decimal right
finding_text Legal = []

-- the line of what is found of the entry of this number
abbrev pub finding_line : ℕ → Finding → List ℕ
finding_line number finding = (codes "pair " ++ decimal number ++ codes ": ") ++ finding_text finding ++ codes "\n"

-- The text is the line of what is found of the entry of this number in a market.
pub record IsExplained (market : Market) (number : ℕ) (pair : Record × Record) (text : List ℕ) : Type 0 where
  pub finding : Finding
  pub found : IsFinding market pair finding
  pub line : text ≡ finding_line number finding
