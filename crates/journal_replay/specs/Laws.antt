-- Laws of audits and replays, whatever code there is.
use Rattle.std.specs.Prelude.{◌≡◌, ◌≢◌, ◌≤◌, ◌↔◌, ℕ, List, [], length, Result, Ok, Err}
use Rattle.wire_records.specs.Records.{Record}
use Rattle.wire_records.specs.Commands.{Pair}
use Rattle.wire_records.specs.Reading.{Ending, End}
use Rattle.wire_records.specs.declared.version.Version.{Version}
use Rattle.flow_orders.specs.Outcomes.{Outcome}
use Rattle.journal_records.specs.Formats.{journal_in}
use Rattle.market_rules.specs.Market.{Market}
use Rattle.batch_audit.specs.Legal.{IsLegalJournal}
use Rattle.journal_replay.specs.declared.replaying.ReplayFault.{ReplayFault}
use Rattle.journal_replay.specs.declared.replaying.ReplayFault.TheVariants.{Memory}
use Rattle.journal_replay.specs.Audits.{Audits}
use Rattle.journal_replay.specs.Replays.{IsReplayed}

-- an audit in which no entry is left and that reaches the end is that of the encoding of a valid journal of some
-- version, with nothing past the limit; and each such encoding is audited so
abbrev pub AuditsToEndAreOfLegalJournals : Type 0
AuditsToEndAreOfLegalJournals = (limit : ℕ) (bytes : List ℕ) (pairs : List (Pair Record Outcome)) (market : Market)
    → Audits limit bytes pairs [] End market
    ↔ ((version : Version) × IsLegalJournal version pairs market × (bytes ≡ journal_in version pairs) × (length bytes ≤ limit))

-- bytes have one audit: the same valid entries, the same rest, the same ending and the same market
abbrev pub OneAudit : Type 0
OneAudit = (limit : ℕ) (bytes : List ℕ) (p q : List (Pair Record Outcome)) (x y : List (Record × Record)) (e f : Ending) (m n : Market)
    → Audits limit bytes p x e m → Audits limit bytes q y f n → (p ≡ q) × (x ≡ y) × (e ≡ f) × (m ≡ n)

-- a replay returns a market exactly for the encodings of valid journals of any version, and it is the market of that journal
abbrev pub MarketsAreOfLegalJournals : Type 0
MarketsAreOfLegalJournals = (bytes : List ℕ) (market : Market)
    → IsReplayed bytes (Ok market) ↔ ((version : Version) × (pairs : List (Pair Record Outcome)) × IsLegalJournal version pairs market × (bytes ≡ journal_in version pairs))

-- unless memory runs out, a replay of the same bytes has one result
abbrev pub OneReplay : Type 0
OneReplay = (bytes : List ℕ) (a b : Result Market ReplayFault) → a ≢ Err Memory → b ≢ Err Memory → IsReplayed bytes a → IsReplayed bytes b → a ≡ b
