-- An entry has one text.
use Rattle.std.proofs.Common.{◌≡◌, ℕ, List, ◌++◌, codes, decimal, Ok, sym, ap, subst, ◌∙◌}
use Rattle.wire_records.specs.Records.{Record}
use Rattle.wire_records.specs.Commands.{Command, Answer, Plain, Batch}
use Rattle.wire_records.specs.Versions.{IsReadAs}
use Rattle.wire_records.specs.declared.version.Version.{Version}
use Rattle.wire_records.specs.declared.reply.Reply.TheVariants.{Done, Asset, Account, Order, Refused}
use Rattle.wire_records.proofs.Readings.{reading_unique}
use Rattle.flow_orders.specs.Outcomes.{Outcome, Cleared, Skipped}
use Rattle.market_rules.specs.Market.{Market}
use Rattle.journal_records.proofs.Encoded.{answer_unique}
use Rattle.batch_report.specs.Reports.{command_text, TellsCommand, Tells}
use Rattle.batch_report.specs.Laws.{OneReport}

-- a record is read as one command at most
one_command : (version : Version) (asked : Record) (c d : Command) → IsReadAs version asked (Ok c) → IsReadAs version asked (Ok d) → c ≡ d
one_command version asked c d a b = let same = reading_unique version asked (Ok c) (Ok d) a b in cc

-- a command has one line
one_line : (market : Market) (asked : Record) (order : ℕ) (x y : List ℕ) → TellsCommand market asked order x → TellsCommand market asked order y → x ≡ y
one_line market asked order x y a b = a.2 ∙ ap (λ c. command_text market.tickers order c ++ codes "\n") (one_command market.version asked a.0 b.0 a.1 b.1) ∙ sym b.2

one_told : (market : Market) (asked : Record) (answer : Answer Outcome) (x y : List ℕ) → Tells market asked answer x → Tells market asked answer y → x ≡ y
one_told market asked (Plain Done) x y a b = one_line market asked 0 x y a b
one_told market asked (Plain (Asset asset)) x y a b = a ∙ sym b
one_told market asked (Plain (Account account)) x y a b = a ∙ sym b
one_told market asked (Plain (Order order)) x y a b = one_line market asked order x y a b
one_told market asked (Plain (Refused refusal)) x y a b = a ∙ sym b
one_told market asked (Batch batch (Cleared c)) x y a b = a ∙ sym b
one_told market asked (Batch batch (Skipped s)) x y a b = a ∙ sym b

pub one_report : OneReport
one_report market number pair x y a b =
    let same = answer_unique a.answer b.answer a.encoded.fits b.encoded.fits (sym a.encoded.encoded ∙ b.encoded.encoded) in
    a.numbered ∙ ap (λ xs. decimal number ++ (codes " " ++ xs)) (one_told market pair.0 b.answer a.told b.told (subst (λ (answer : Answer Outcome). Tells market pair.0 answer a.told) same a.tells) b.tells) ∙ sym b.numbered
