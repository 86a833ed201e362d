-- A disk that holds a valid journal isn't refused.
use Rattle.std.proofs.Common.{◌≡◌, ◌⊎◌, ⊎_elim, inl, inr, ℕ, ◌≤◌, ◌^◌, List, length, Option, Some, IfSome, subst}
use Rattle.wire_records.specs.Records.{Record}
use Rattle.wire_records.specs.Commands.{Pair}
use Rattle.flow_orders.specs.Outcomes.{Outcome}
use Rattle.market_rules.specs.Market.{Market}
use Rattle.market_history.specs.Histories.{Start}
use Rattle.disk_edge.specs.Disks.{DiskState}
use Rattle.journal_keeping.specs.Keeping.{HoldsLegal}
use Rattle.journal_keeping.specs.Openings.{Opening, Foreign, New, Damaged, Rejected, Legal, IsOpening}
use Rattle.journal_keeping.proofs.Opened.{legal_is_opened}
use Rattle.exit_status.specs.declared.status.Status.{Status}
use Rattle.exit_status.specs.declared.status.Status.TheVariants as status
use Rattle.kept_exchange.specs.Keeping.{IsRefusal}

-- what is known of a disk's content, at its content
at_content : (content : Option (List ℕ)) (bytes : List ℕ) (P : List ℕ → Type 0) → content ≡ Some bytes → IfSome content P → P bytes
at_content content bytes P is has = subst (λ (o : Option (List ℕ)). IfSome o P) is has

-- `Ends` is what holds by the status: at each refusal the disk was opened so
module _ (start : DiskState) (begin : Start) (old : List (Pair Record Outcome)) (market : Market) (holds : HoldsLegal start begin old market)
    (small : IfSome start.content (λ held. length held ≤ 2 ^ 60)) where
  -- the content of the disk is opened so
  abbrev pub IsOpened : Opening → Type 0
  IsOpened opening = IfSome start.content (λ held. IsOpening held opening)

  opened : (opening : Opening) → IsOpened opening → (opening ≡ New) ⊎ (opening ≡ Legal begin old market)
  opened opening is =
      legal_is_opened begin old market holds.bytes opening holds.journal holds.stands
      (at_content start.content holds.bytes (λ (held : List ℕ). length held ≤ 2 ^ 60) holds.told small)
      (at_content start.content holds.bytes (λ (held : List ℕ). IsOpening held opening) holds.told is)

  not_foreign : IsOpened Foreign → ⊥
  not_foreign is = ⊎_elim (λ (e : Foreign ≡ New). absurd cc) (λ (e : Foreign ≡ Legal begin old market). absurd cc) (opened Foreign is)

  not_damaged : (place : ℕ) → IsOpened (Damaged place) → ⊥
  not_damaged place is = ⊎_elim (λ (e : Damaged place ≡ New). absurd cc) (λ (e : Damaged place ≡ Legal begin old market). absurd cc) (opened (Damaged place) is)

  not_rejected : (number : ℕ) → IsOpened (Rejected number) → ⊥
  not_rejected number is = ⊎_elim (λ (e : Rejected number ≡ New). absurd cc) (λ (e : Rejected number ≡ Legal begin old market). absurd cc) (opened (Rejected number) is)

  pub not_refused : (Ends : Status → Type 0) → (Ends status.NotDisk → IsOpened Foreign) → ((place : ℕ) → Ends (status.Damaged place) → IsOpened (Damaged place))
      → ((number : ℕ) → Ends (status.Rejected number) → IsOpened (Rejected number)) → (ends : Status) → Ends ends → IsRefusal ends → ⊥
  not_refused Ends foreign damaged rejected ends holds_so (inl e) = not_foreign (foreign (subst Ends e holds_so))
  not_refused Ends foreign damaged rejected ends holds_so (inr (inl e)) = not_damaged e.0 (damaged e.0 (subst Ends e.1 holds_so))
  not_refused Ends foreign damaged rejected ends holds_so (inr (inr e)) = not_rejected e.0 (rejected e.0 (subst Ends e.1 holds_so))
