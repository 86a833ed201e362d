-- What a fault of keeping a journal, and its result, tell of the part that broke off.
use Rattle.std.proofs.Common.{◌≡◌, ◌⊎◌, ⊎_elim, inl, inr, Result, Ok, Err, refl, sym, ap, subst, ◌∙◌}
use Rattle.std.specs.Prelude.{⊤}
use Rattle.file_units.specs.declared.units.Ending.{Ending}
use Rattle.file_units.specs.declared.units.Ending.TheVariants as ending
use Rattle.file_units.specs.declared.input.TakeFault.{TakeFault}
use Rattle.file_units.specs.declared.input.TakeFault.TheVariants as take
use Rattle.journal_keeping.specs.declared.fault.OpenFault.{OpenFault}
use Rattle.journal_keeping.specs.declared.fault.OpenFault.TheVariants as unopened
use Rattle.journal_keeping.specs.declared.fault.InputFault.TheVariants as input
use Rattle.journal_keeping.specs.declared.fault.BeginFault.{BeginFault}
use Rattle.journal_keeping.specs.declared.fault.BeginFault.TheVariants.{Open, Input, Make}
use Rattle.journal_keeping.specs.declared.fault.ServeFault.{ServeFault}
use Rattle.journal_keeping.specs.declared.fault.ServeFault.TheVariants as serve
use Rattle.journal_keeping.specs.declared.fault.KeepFault.{KeepFault}
use Rattle.journal_keeping.specs.declared.fault.KeepFault.TheVariants.{Read, Write, Disk, Memory, NotDisk, Damaged, Rejected, NotFlow, BadCheckpoint, Torn, TooLong}
use Rattle.journal_keeping.specs.Faults.{of_begin, kept_result}
use Rattle.journal_keeping.specs.Ended.{IsRefusal}

abbrev Kept : Type 0
Kept = Result ⊤ KeepFault

pub same_kept : (a b : KeepFault) → ◌≡◌ {A = Kept} (Err a) (Err b) → a ≡ b
same_kept a b e = cc

pub same_begin : {T : Type 0} (a b : BeginFault) → ◌≡◌ {A = Result T BeginFault} (Err a) (Err b) → a ≡ b
same_begin a b e = cc

-- ---- nothing was served

-- why nothing was served, if it is known what the fault of keeping was
abbrev begun_by : KeepFault → BeginFault
begun_by Disk = Open unopened.Disk
begun_by Memory = Open unopened.Memory
begun_by NotDisk = Open unopened.NotDisk
begun_by (Damaged place) = Open (unopened.Damaged place)
begun_by (Rejected number) = Open (unopened.Rejected number)
begun_by Read = Input input.Read
begun_by NotFlow = Input input.NotFlow
begun_by BadCheckpoint = Input input.BadCheckpoint
begun_by Write = Make
begun_by (Torn place) = Make
begun_by TooLong = Make

-- but two faults have the same one as others
begun_so : (fault : BeginFault) → (begun_by (of_begin fault) ≡ fault) ⊎ ((fault ≡ Input input.Memory) ⊎ (fault ≡ Make))
begun_so (Open unopened.Disk) = inl refl
begun_so (Open unopened.Memory) = inl refl
begun_so (Open unopened.NotDisk) = inl refl
begun_so (Open (unopened.Damaged place)) = inl refl
begun_so (Open (unopened.Rejected number)) = inl refl
begun_so (Input input.Read) = inl refl
begun_so (Input input.NotFlow) = inl refl
begun_so (Input input.BadCheckpoint) = inl refl
begun_so (Input input.Memory) = inr (inl refl)
begun_so Make = inr (inr refl)

pub begin_read : (fault : BeginFault) → of_begin fault ≡ Read → fault ≡ Input input.Read
begin_read fault e = ⊎_elim (λ same. sym same ∙ ap begun_by e) (λ other. ⊎_elim (λ is. absurd (let f = sym (ap of_begin is) ∙ e in cc)) (λ is. absurd (let f = sym (ap of_begin is) ∙ e in cc)) other) (begun_so fault)

pub begin_memory : (fault : BeginFault) → of_begin fault ≡ Memory → (fault ≡ Open unopened.Memory) ⊎ (fault ≡ Input input.Memory)
begin_memory fault e = ⊎_elim (λ same. inl (sym same ∙ ap begun_by e)) (λ other. ⊎_elim (λ is. inr is) (λ is. absurd (let f = sym (ap of_begin is) ∙ e in cc)) other) (begun_so fault)

pub begin_disk : (fault : BeginFault) → of_begin fault ≡ Disk → (fault ≡ Open unopened.Disk) ⊎ (fault ≡ Make)
begin_disk fault e = ⊎_elim (λ same. inl (sym same ∙ ap begun_by e)) (λ other. ⊎_elim (λ is. absurd (let f = sym (ap of_begin is) ∙ e in cc)) (λ is. inr is) other) (begun_so fault)

pub disk_begin : (fault : BeginFault) → (fault ≡ Open unopened.Disk) ⊎ (fault ≡ Make) → of_begin fault ≡ Disk
disk_begin fault (inl e) = ap of_begin e
disk_begin fault (inr e) = ap of_begin e

pub begin_write : (fault : BeginFault) → ¬ (of_begin fault ≡ Write)
begin_write fault e = ⊎_elim (λ same. let f = sym (ap of_begin (sym same ∙ ap begun_by e)) ∙ e in cc) (λ other. ⊎_elim (λ is. let f = sym (ap of_begin is) ∙ e in cc) (λ is. let f = sym (ap of_begin is) ∙ e in cc) other) (begun_so fault)

pub no_refusal_disk : ¬ IsRefusal (Err Disk)
no_refusal_disk (inl e) = absurd cc
no_refusal_disk (inr (inl e)) = absurd (let is = e.1 in cc)
no_refusal_disk (inr (inr e)) = absurd (let is = e.1 in cc)

pub no_refusal_memory : ¬ IsRefusal (Err Memory)
no_refusal_memory (inl e) = absurd cc
no_refusal_memory (inr (inl e)) = absurd (let is = e.1 in cc)
no_refusal_memory (inr (inr e)) = absurd (let is = e.1 in cc)

-- a fault that refuses the disk is one of opening it
of_refusal : (kept : KeepFault) → IsRefusal (Err kept) → (of : OpenFault) × (begun_by kept ≡ Open of)
of_refusal kept (inl e) = (unopened.NotDisk, ap begun_by (same_kept kept NotDisk e))
of_refusal kept (inr (inl (place, e))) = (unopened.Damaged place, ap begun_by (same_kept kept (Damaged place) e))
of_refusal kept (inr (inr (number, e))) = (unopened.Rejected number, ap begun_by (same_kept kept (Rejected number) e))

pub begin_refusal : (fault : BeginFault) → IsRefusal (Err (of_begin fault)) → (of : OpenFault) × (fault ≡ Open of)
begin_refusal fault refusal = ⊎_elim
    (λ same. let of = of_refusal (of_begin fault) refusal in (of.0, sym same ∙ of.1))
    (λ other. ⊎_elim (λ (is : fault ≡ Input input.Memory). absurd (no_refusal_memory (subst (λ (f : BeginFault). IsRefusal (Err (of_begin f))) is refusal))) (λ (is : fault ≡ Make). absurd (no_refusal_disk (subst (λ (f : BeginFault). IsRefusal (Err (of_begin f))) is refusal))) other)
    (begun_so fault)

-- ---- an input was gone through

-- how going through an input ended, if it is known what the result of keeping was
abbrev went_by : Kept → Result Ending (TakeFault ServeFault)
went_by (Ok done) = Ok ending.End
went_by (Err Read) = Err take.Read
went_by (Err Write) = Err (take.Broken serve.Write)
went_by (Err Disk) = Err (take.Broken serve.Disk)
went_by (Err Memory) = Err (take.Broken serve.Memory)
went_by (Err (Torn place)) = Ok (ending.Torn place)
went_by (Err TooLong) = Ok ending.TooLong
went_by (Err NotDisk) = Ok ending.End
went_by (Err (Damaged place)) = Ok ending.End
went_by (Err (Rejected number)) = Ok ending.End
went_by (Err NotFlow) = Ok ending.End
went_by (Err BadCheckpoint) = Ok ending.End

went_so : (result : Result Ending (TakeFault ServeFault)) → went_by (kept_result result) ≡ result
went_so (Ok ending.End) = refl
went_so (Ok (ending.Torn place)) = refl
went_so (Ok ending.TooLong) = refl
went_so (Err take.Read) = refl
went_so (Err (take.Broken serve.Disk)) = refl
went_so (Err (take.Broken serve.Write)) = refl
went_so (Err (take.Broken serve.Memory)) = refl

went : (result : Result Ending (TakeFault ServeFault)) (kept : Kept) → ◌≡◌ {A = Kept} (kept_result result) kept → result ≡ went_by kept
went result kept e = sym (went_so result) ∙ ap went_by e

pub went_read : (result : Result Ending (TakeFault ServeFault)) → ◌≡◌ {A = Kept} (kept_result result) (Err Read) → result ≡ Err take.Read
went_read result e = went result (Err Read) e

pub went_write : (result : Result Ending (TakeFault ServeFault)) → ◌≡◌ {A = Kept} (kept_result result) (Err Write) → result ≡ Err (take.Broken serve.Write)
went_write result e = went result (Err Write) e

pub went_disk : (result : Result Ending (TakeFault ServeFault)) → ◌≡◌ {A = Kept} (kept_result result) (Err Disk) → result ≡ Err (take.Broken serve.Disk)
went_disk result e = went result (Err Disk) e

pub went_memory : (result : Result Ending (TakeFault ServeFault)) → ◌≡◌ {A = Kept} (kept_result result) (Err Memory) → result ≡ Err (take.Broken serve.Memory)
went_memory result e = went result (Err Memory) e

-- no input ends as a disk that is refused
went_otherwise : (result : Result Ending (TakeFault ServeFault)) (fault : KeepFault) → went_by (Err fault) ≡ Ok ending.End → ¬ (◌≡◌ {A = Kept} (kept_result result) (Err fault))
went_otherwise result fault other e = let ends : ◌≡◌ {A = Kept} (Ok tt) (Err fault) = ap kept_result (sym (went result (Err fault) e ∙ other)) ∙ e in cc

pub went_refused : (result : Result Ending (TakeFault ServeFault)) → ¬ IsRefusal (kept_result result)
went_refused result (inl e) = went_otherwise result NotDisk refl e
went_refused result (inr (inl (place, e))) = went_otherwise result (Damaged place) refl e
went_refused result (inr (inr (number, e))) = went_otherwise result (Rejected number) refl e
