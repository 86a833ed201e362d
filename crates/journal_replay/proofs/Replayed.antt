-- What a replay of a complete journal results in.
use Rattle.std.proofs.Common.{◌≡◌, ◌<◌, ◌≤◌, ◌↔◌, ℕ, List, length, take, drop, false, IsTrue, sym, ap, ◌∙◌, length-append, arith}
use Rattle.std.proofs.lemmas.List.{take_all, take_at, drop_at}
use Rattle.wire_records.specs.Records.{Record}
use Rattle.wire_records.specs.Commands.{Pair}
use Rattle.wire_records.specs.Grammars.{BeginsWith}
use Rattle.wire_records.specs.Reading.{Ending}
use Rattle.wire_records.specs.declared.version.Version.{Version}
use Rattle.file_units.proofs.Endings.{reads_alike}
use Rattle.flow_orders.specs.Outcomes.{Outcome}
use Rattle.journal_records.specs.Formats.{journal_magic_of, journals}
use Rattle.journal_records.proofs.Files.{eight}
use Rattle.market_rules.specs.Market.{Market}
use Rattle.journal_replay.specs.Audits.{AuditsOn, Audits}

-- bytes that begin as a journal of a version begin with its magic
pub begins_with_magic : (version : Version) (bytes : List ℕ) → (body : List ℕ) × BeginsWith journals.magics bytes version body → take 8 bytes ≡ journal_magic_of version
begins_with_magic version bytes (body, begins) = ap (take 8) begins.1 ∙ take_at (journal_magic_of version) body 8 (eight version)

-- the bytes after its magic are the others
pub after_magic : (version : Version) (bytes body : List ℕ) → BeginsWith journals.magics bytes version body → body ≡ drop 8 bytes
after_magic version bytes body begins = sym (drop_at (journal_magic_of version) body 8 (eight version)) ∙ ap (drop 8) (sym begins.1)

-- bytes that begin as a journal have eight bytes at least
pub begins_with_eight : (version : Version) (bytes : List ℕ) → (body : List ℕ) × BeginsWith journals.magics bytes version body → 8 ≤ length bytes
begins_with_eight version bytes (body, begins) = omega (arith, ap length begins.1, length-append (journal_magic_of version) body, eight version)

-- an input that is complete has no more bytes
none_more : (n : ℕ) → IsTrue false ↔ (n < n)
none_more n = (λ e. absurd (let no = e in cc), λ less. absurd (omega (arith, less)))

-- an audit of the entries after the magic of complete bytes is an audit of the bytes
pub audits_all : (version : Version) (bytes : List ℕ) (legal : List (Pair Record Outcome)) (following : List (Record × Record)) (ending : Ending) (market : Market)
    → (body : List ℕ) × BeginsWith journals.magics bytes version body → AuditsOn version 8 (IsTrue false) (drop 8 bytes) legal following ending market → Audits (length bytes) bytes legal following ending market
audits_all version bytes legal following ending market (body, begins) on =
    let here = reads_alike journals (IsTrue false) (length bytes < length bytes) 8 (drop 8 bytes) on.units ending (none_more (length bytes)) on.reads in
    record {
      version = version;
      units = on.units;
      reads = (
        body,
        (tt, take_all (length bytes) bytes (omega arith) ∙ begins.1),
        rw (eight version, after_magic version bytes body begins) here,
      );
      judged = on.judged;
    }
