-- The bytes of a disk and of a source lead to at most one status.
use Rattle.std.proofs.Common.{◌≡◌, inl, inr, ℕ, List, ◌++◌, take, refl, sym, ap, subst, ◌∙◌}
use Rattle.wire_records.specs.Records.{Record}
use Rattle.wire_records.specs.Grammars.{BeginsWith}
use Rattle.wire_records.specs.Reading.{Reading, NotFlow, File}
use Rattle.wire_records.specs.Formats.{commands}
use Rattle.wire_records.specs.declared.version.Version.{Version}
use Rattle.market_history.specs.Histories.{Start, Empty}
use Rattle.journal_keeping.specs.Starts.{version_of, source_start, sources}
use Rattle.journal_keeping.specs.Openings.{Opening, Foreign, New, Damaged, Rejected, Legal}
use Rattle.journal_keeping.proofs.OneOpening.{one_opening}
use Rattle.journal_keeping.proofs.Starts.{one_reading}
use Rattle.exit_status.specs.declared.status.Status.{Status}
use Rattle.exit_status.specs.Statuses.{reading_status}
use Rattle.kept_exchange.specs.Statuses.{IsSourceStatus, OpensTo, ReadsKept}
use Rattle.kept_exchange.specs.Laws.{OneStatus}

-- a source without a checkpoint is a command file
as_command : (bytes : List ℕ) (input : Start) (version : Version) (body : List ℕ) → input ≡ Empty version → BeginsWith sources.magics bytes input body → BeginsWith commands.magics bytes version body
as_command bytes input version body is begins = (tt, begins.1 ∙ ap (λ (x : Start). source_start x ++ body) is)

one_kept : (version : Version) (limit : ℕ) (bytes : List ℕ) (x y : Reading Start Record) → ReadsKept version limit bytes x → ReadsKept version limit bytes y → x ≡ y
one_kept version limit bytes NotFlow NotFlow a b = refl
one_kept version limit bytes NotFlow (File v r e) a b = absurd (a b.1.0 (as_command (take limit bytes) v version b.1.0 b.0 b.1.1))
one_kept version limit bytes (File v r e) NotFlow a b = absurd (b a.1.0 (as_command (take limit bytes) v version a.1.0 a.0 a.1.1))
one_kept version limit bytes (File v r e) (File w q f) a b = one_reading limit bytes (File v r e) (File w q f) a.1 b.1

source_one : (limit : ℕ) (bytes : List ℕ) (reading : Reading Start Record) (a b : Status) → IsSourceStatus limit bytes reading a → IsSourceStatus limit bytes reading b → a ≡ b
source_one limit bytes NotFlow a b (inl x) (inl y) = x.1 ∙ sym y.1
source_one limit bytes NotFlow a b (inl x) (inr y) = absurd (y.0 x.0)
source_one limit bytes NotFlow a b (inr x) (inl y) = absurd (x.0 y.0)
source_one limit bytes NotFlow a b (inr x) (inr y) = x.1 ∙ sym y.1
source_one limit bytes (File input records ending) a b x y = x ∙ sym y

opens_one : (limit : ℕ) (bytes : List ℕ) (opening : Opening) (a b : Status) → OpensTo limit bytes opening a → OpensTo limit bytes opening b → a ≡ b
opens_one limit bytes Foreign a b x y = x ∙ sym y
opens_one limit bytes (Damaged place) a b x y = x ∙ sym y
opens_one limit bytes (Rejected number) a b x y = x ∙ sym y
opens_one limit bytes New a b x y = source_one limit bytes y.0 a b (subst (λ (r : Reading Start Record). IsSourceStatus limit bytes r a) (one_reading limit bytes x.0 y.0 x.1 y.1) x.2) y.2
opens_one limit bytes (Legal begin pairs market) a b x y = x.2 ∙ ap (reading_status limit) (one_kept (version_of begin) limit bytes x.0 y.0 x.1 y.1) ∙ sym y.2

pub one_status : OneStatus
one_status limit held bytes a b x y = opens_one limit bytes y.0 a b (rw (one_opening held x.0 y.0 x.1 y.1) at x.2) y.2
