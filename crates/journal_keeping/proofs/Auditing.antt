-- Auditing the entries that a disk keeps, one after the other: none yet, one more, and one that isn't valid.
use Rattle.std.proofs.Common.{◌≡◌, ◌⊎◌, ⊎_elim, ℕ, ◌+◌, length-append, List, [], ◌∷◌, ◌++◌, Option, Some, None, IfSome, length, map, refl, sym, ap, subst, ◌∙◌, arith}
use Rattle.std.proofs.lemmas.List.{map-append}
use Rattle.std.proofs.lemmas.List.Elements.{All-append, All-cons, All-nil}
use Rattle.wire_records.specs.Records.{Record}
use Rattle.wire_records.specs.Commands.{Pair}
use Rattle.wire_records.specs.Versions.{IsReadAs}
use Rattle.wire_records.proofs.Readings.{reading_unique}
use Rattle.flow_orders.specs.Outcomes.{Outcome, IsAdmissibleOutcome}
use Rattle.journal_records.specs.Pairs.{IsPair}
use Rattle.journal_records.specs.Formats.{records_of}
use Rattle.market_rules.specs.Market.{Market}
use Rattle.market_rules.proofs.OneJournal.{follows-append}
use Rattle.market_history.specs.Histories.{Start, market_of, CanStart}
use Rattle.batch_audit.specs.Legal.{IsLegalPair, IsIllegalPair}
use Rattle.disk_edge.specs.Disks.{DiskState}
use Rattle.journal_disk.specs.declared.fault.DiskFault.{DiskFault}
use Rattle.journal_disk.specs.declared.fault.DiskFault.TheVariants as disk
use Rattle.journal_disk.specs.Pairs.{RecordPair, IsRecordPair}
use Rattle.journal_disk.specs.Entries.{entries, Holds}
use Rattle.journal_disk.specs.Stepping.{HasEntryAt, IsDamagedAt, FindsNone}
use Rattle.journal_keeping.specs.Starts.{head_of}
use Rattle.journal_keeping.specs.Keeping.{IsKeptJournal}
use Rattle.journal_keeping.specs.Openings.{BeginsLegal}
use Rattle.journal_keeping.specs.Faults.{of_disk}
use Rattle.journal_keeping.specs.Auditing.{StopsAs}
use Rattle.journal_keeping.specs.declared.fault.OpenFault.TheVariants.{Damaged, Rejected, Memory}
use Rattle.journal_keeping.specs.declared.fault.OpenFault.{OpenFault}

abbrev Pairs : Type 0
Pairs = List (Pair Record Outcome)

-- what two facts about the bytes say together, if the content is known
pub by_both : (content now : Option (List ℕ)) (P Q R : List ℕ → Type 0) → now ≡ content → IfSome content P → IfSome now Q → ((bytes : List ℕ) → Q bytes → P bytes → R bytes) → IfSome content R
by_both content now P Q R same first second both = over content first (subst (λ (o : Option (List ℕ)). IfSome o Q) same second)
  where
    over : (o : Option (List ℕ)) → IfSome o P → IfSome o Q → IfSome o R
    over None p q = tt
    over (Some bytes) p q = both bytes q p

module _ (begin : Start) where
  pub none_read : (market : Market) → CanStart begin → market ≡ market_of begin → IsKeptJournal begin [] market
  none_read market starts new = record { starts = starts; each = All-nil IsPair; steps = new }

  -- one more valid entry
  pub one_read : (legal : Pairs) (old new : Market) (p : RecordPair) → IsKeptJournal begin legal old → IsRecordPair p → IsLegalPair old p new
      → (more : Pairs) × IsKeptJournal begin more new × (length more ≡ length legal + 1) × (map records_of legal ++ p ∷ [] ≡ map records_of more)
  one_read legal old new p is lawful one =
      let pair : Pair Record Outcome = record { asked = p.0; answer = one.answer } in
      let fits : IsPair pair = record { asked = lawful.0; answer = one.encoded.fits; answered = rw (← one.encoded.encoded) lawful.1 } in (
        legal ++ pair ∷ [],
        record {
          starts = is.starts;
          each = All-append IsPair legal (pair ∷ []) is.each (All-cons IsPair pair [] fits (All-nil IsPair));
          steps = follows-append IsReadAs reading_unique IsAdmissibleOutcome (market_of begin) old new legal (pair ∷ []) is.steps (new, one.step, refl);
        },
        omega (arith, length-append legal (pair ∷ [])),
        ap (λ (r : Record). map records_of legal ++ (p.0, r) ∷ []) one.encoded.encoded ∙ sym (map-append records_of legal (pair ∷ [])),
      )

  module _ (legal : Pairs) (market : Market) (place : ℕ) (left bytes : List ℕ) (now : DiskState) (is : IsKeptJournal begin legal market) (holds : Holds (head_of begin) (map records_of legal) place left now) (told : now.content ≡ Some bytes) where
    begins : BeginsLegal begin bytes legal market place
    begins =
        let both : Some bytes ≡ Some (entries (head_of begin) (map records_of legal) ++ left) = sym told ∙ holds.content in
        record { lawful = holds.lawful; journal = is; rest = left; encoded = cc; begins = holds.begins }

    there : (Q : List ℕ → Type 0) → IfSome now.content Q → Q bytes
    there Q has = subst (λ (o : Option (List ℕ)). IfSome o Q) told has

    -- damage at the place
    pub stops_damaged : IfSome now.content (IsDamagedAt place) → StopsAs begin (Damaged place) bytes
    stops_damaged damage = (legal, market, begins, there (IsDamagedAt place) damage)

    -- a fault in finding the next entry
    pub stops_finding : (fault : DiskFault) → IfSome now.content (FindsNone fault place) → StopsAs begin (of_disk fault) bytes
    stops_finding disk.Failed finds = tt
    stops_finding disk.Memory finds = tt
    stops_finding disk.NotDisk finds = there (FindsNone disk.NotDisk place) finds
    stops_finding (disk.Damaged at) finds =
        let damage = there (FindsNone (disk.Damaged at) place) finds in
        (legal, market, subst (λ (n : ℕ). BeginsLegal begin bytes legal market n) (sym damage.0) begins, rw damage.0 damage.1)

    -- an entry that isn't valid, or whose audit ran out of memory
    pub stops_judged : (fault : OpenFault) (number : ℕ) (pair : RecordPair) → number ≡ length legal + 1 → IfSome now.content (λ l. (rest : List ℕ) × HasEntryAt place pair rest l)
        → (fault ≡ Rejected number) ⊎ (fault ≡ Memory) → (fault ≡ Rejected number → IsIllegalPair market pair) → StopsAs begin fault bytes
    stops_judged fault number pair counted stands refused illegal =
        let one = there (λ l. (rest : List ℕ) × HasEntryAt place pair rest l) stands in
        ⊎_elim
        (λ (is_rejected : fault ≡ Rejected number). subst (λ (f : OpenFault). StopsAs begin f bytes) (sym is_rejected) (legal, market, place, begins, pair, one.0, one.1, illegal is_rejected, counted))
        (λ (wanted : fault ≡ Memory). subst (λ (f : OpenFault). StopsAs begin f bytes) (sym wanted) tt)
        refused
