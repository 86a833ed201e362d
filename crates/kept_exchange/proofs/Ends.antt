-- What holds by the status is what holds by the result of keeping a journal, and of serving lines.
use Rattle.std.proofs.Common.{◌≡◌, ℕ, List, Option, IfSome, Ok, Err, refl, sym, ap, subst, ◌∙◌, inl, inr, ⊎_elim}
use Rattle.std.specs.Prelude.{⊤}
use Rattle.flow_io.specs.Changes.{Change}
use Rattle.disk_edge.specs.Disks.{DiskState}
use Rattle.journal_keeping.specs.Pacing.{KeepsPace, RunsOut}
use Rattle.journal_keeping.specs.Ended as kept
use Rattle.journal_keeping.specs.declared.fault.KeepFault.TheVariants.{Read, Write, Disk, Memory, NotDisk, Damaged, Rejected, NotFlow, BadCheckpoint, Torn, TooLong}
use Rattle.journal_keeping.specs.Outputs.{Output}
use Rattle.line_keeping.specs.Ended as lines
use Rattle.exit_status.specs.declared.status.Status.{Status}
use Rattle.exit_status.specs.declared.status.Status.TheVariants as status
use Rattle.kept_exchange.specs.Statuses.{kept_status}
use Rattle.kept_exchange.specs.Keeping.{EndsWith, IsPaced}
use Rattle.kept_exchange.specs.Lines.{LinesEndWith}
use Rattle.kept_exchange.specs.Laws.{KeepEndsByResult, LinesEndByResult}
use Rattle.kept_exchange.proofs.AsStatus.{Kept, each, one_result}

module _ (limit : ℕ) (held : Option (List ℕ)) (end : DiskState) (source : Change) (out later : Output) where
  abbrev pub ByResult : Kept → Type 0
  ByResult result =
      IfSome held (λ bytes. kept.ComesTo limit bytes source.before end out later result) × KeepsPace limit source.before source.after out later result
      × ((◌≡◌ {A = Kept} result (Err Memory)) → IfSome held (λ bytes. RunsOut limit bytes source.before source.after end out later))

  pub ends_as : (result : Kept) → ByResult result → EndsWith limit held end source out later (kept_status limit result)
  ends_as (Ok done) by = (by.0, by.1)
  ends_as (Err Read) by = tt
  ends_as (Err Write) by = tt
  ends_as (Err Disk) by = tt
  ends_as (Err Memory) by = tt
  ends_as (Err NotDisk) by = by.0
  ends_as (Err (Damaged place)) by = by.0
  ends_as (Err (Rejected number)) by = by.0
  ends_as (Err NotFlow) by = by.0
  ends_as (Err BadCheckpoint) by = by.0
  ends_as (Err (Torn place)) by = by.0
  ends_as (Err TooLong) by = (by.0, refl)

  -- how far was read by a result that has this status
  pace_of : (result other : Kept) → ◌≡◌ {A = Kept} result other → ByResult result → KeepsPace limit source.before source.after out later other
  pace_of result other is by = subst (KeepsPace limit source.before source.after out later) is by.1

  pub paced_as : (result : Kept) → ByResult result → IsPaced limit (kept_status limit result) source out later
  paced_as result by = record {
    read = λ e. pace_of result (Err Read) (one_result limit result (Err Read) e) by;
    near = λ e. ⊎_elim (λ write. pace_of result (Err Write) (one_result limit result (Err Write) write) by) (λ disk. pace_of result (Err Disk) (one_result limit result (Err Disk) disk) by) e;
    memory = λ e. pace_of result (Err Memory) (one_result limit result (Err Memory) e) by;
  }

  nothing : IfSome held (λ bytes. ⊤)
  nothing = each held (λ (bytes : List ℕ). ⊤) (λ bytes. tt)

  by_status : (ends : Status) → EndsWith limit held end source out later ends → IsPaced limit ends source out later
      → (ends ≡ status.NoMemory → IfSome held (λ bytes. RunsOut limit bytes source.before source.after end out later)) → (result : Kept) × (ends ≡ kept_status limit result) × ByResult result
  by_status status.Done x paced allocates = (Ok tt, refl, (x.0, x.1, λ e. absurd cc))
  by_status status.ReadFault x paced allocates = (Err Read, refl, (nothing, paced.read refl, λ e. absurd cc))
  by_status status.WriteFault x paced allocates = (Err Write, refl, (nothing, paced.near (inl refl), λ e. absurd cc))
  by_status status.DiskFault x paced allocates = (Err Disk, refl, (nothing, paced.near (inr refl), λ e. absurd cc))
  by_status status.NoMemory x paced allocates = (Err Memory, refl, (nothing, paced.memory refl, λ e. allocates refl))
  by_status status.NotDisk x paced allocates = (Err NotDisk, refl, (x, tt, λ e. absurd cc))
  by_status (status.Damaged place) x paced allocates = (Err (Damaged place), refl, (x, tt, λ e. absurd cc))
  by_status (status.Rejected number) x paced allocates = (Err (Rejected number), refl, (x, tt, λ e. absurd cc))
  by_status status.NotFlow x paced allocates = (Err NotFlow, refl, (x, tt, λ e. absurd cc))
  by_status status.BadCheckpoint x paced allocates = (Err BadCheckpoint, refl, (x, tt, λ e. absurd cc))
  by_status (status.Torn place) x paced allocates = (Err (Torn place), refl, (x, tt, λ e. absurd cc))
  by_status (status.TooLong most) x paced allocates = (Err TooLong, ap status.TooLong x.1, (x.0, tt, λ e. absurd cc))
  by_status status.Usage x paced allocates = absurd x
  by_status (status.BadText number) x paced allocates = absurd x
  by_status (status.NoAccount number) x paced allocates = absurd x
  by_status (status.Differs number) x paced allocates = absurd x

pub keep_ends : (end : DiskState) → KeepEndsByResult end
keep_ends end limit held source out later ends = (
  λ x. let some = by_status limit held end source out later ends x.0 x.1 x.2 in (some.0, some.1, some.2.0, some.2.1, some.2.2),
  λ some.
      let by : ByResult limit held end source out later some.0 = (some.2, some.3, some.4) in (
        subst (EndsWith limit held end source out later) (sym some.1) (ends_as limit held end source out later some.0 by),
        subst (λ (s : Status). IsPaced limit s source out later) (sym some.1) (paced_as limit held end source out later some.0 by),
        λ e. some.4 (one_result limit some.0 (Err Memory) (sym some.1 ∙ e)),
      ),
)

module _ (limit : ℕ) (held : List ℕ) (content left : Option (List ℕ)) (end : DiskState) (out later : Output) where
  pub lines_end_as : (result : Kept) → lines.ComesTo limit held content left end out later result → LinesEndWith limit held content left end out later (kept_status limit result)
  lines_end_as (Ok done) comes = comes
  lines_end_as (Err Read) comes = comes
  lines_end_as (Err Write) comes = comes
  lines_end_as (Err Disk) comes = comes
  lines_end_as (Err Memory) comes = comes
  lines_end_as (Err NotDisk) comes = comes
  lines_end_as (Err (Damaged place)) comes = comes
  lines_end_as (Err (Rejected number)) comes = comes
  lines_end_as (Err NotFlow) comes = comes
  lines_end_as (Err BadCheckpoint) comes = comes
  lines_end_as (Err (Torn place)) comes = comes
  lines_end_as (Err TooLong) comes = (comes, refl)

  lines_by_status : (ends : Status) → LinesEndWith limit held content left end out later ends
      → (result : Kept) × (ends ≡ kept_status limit result) × lines.ComesTo limit held content left end out later result
  lines_by_status status.Done x = (Ok tt, refl, x)
  lines_by_status status.ReadFault x = (Err Read, refl, x)
  lines_by_status status.WriteFault x = (Err Write, refl, x)
  lines_by_status status.DiskFault x = (Err Disk, refl, x)
  lines_by_status status.NoMemory x = (Err Memory, refl, x)
  lines_by_status status.NotDisk x = (Err NotDisk, refl, x)
  lines_by_status (status.Damaged place) x = (Err (Damaged place), refl, x)
  lines_by_status (status.Rejected number) x = (Err (Rejected number), refl, x)
  lines_by_status status.NotFlow x = (Err NotFlow, refl, x)
  lines_by_status status.BadCheckpoint x = (Err BadCheckpoint, refl, x)
  lines_by_status (status.TooLong most) x = (Err TooLong, ap status.TooLong x.1, x.0)
  lines_by_status (status.Torn place) x = absurd x
  lines_by_status status.Usage x = absurd x
  lines_by_status (status.BadText number) x = absurd x
  lines_by_status (status.NoAccount number) x = absurd x
  lines_by_status (status.Differs number) x = absurd x

pub lines_end : (end : DiskState) → LinesEndByResult end
lines_end end limit held content left out later ends = (
  lines_by_status limit held content left end out later ends,
  λ some. subst (LinesEndWith limit held content left end out later) (sym some.1) (lines_end_as limit held content left end out later some.0 some.2),
)
