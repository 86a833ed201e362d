-- A book that looks for its next entry: what was found, and what is left of the disk if there is none.
use Rattle.std.proofs.Common.{◌≡◌, ◌⊎◌, inl, inr, ℕ, List, [], ◌∷◌, Option, Some, None, IfSome, IsSome, ◌≤◌, ◌^◌, sym, subst, ◌∙◌}
use Rattle.disk_edge.specs.Disks.{DiskState, AtEachMoment}
use Rattle.disk_edge.proofs.Moments.{weaker, then_more}
use Rattle.journal_disk.specs.declared.fault.DiskFault.{DiskFault}
use Rattle.journal_disk.specs.declared.fault.DiskFault.TheVariants.{Failed, Memory, Damaged, NotDisk}
use Rattle.journal_disk.specs.Pairs.{RecordPair}
use Rattle.journal_disk.specs.Entries.{Head, StandsFor, Holds, EndsAt, Keeps}
use Rattle.journal_disk.specs.Looking.{OnlyLooks}
use Rattle.journal_disk.specs.Stepping.{IsClosedAt, FindsNone}
use Rattle.journal_disk.proofs.GoingOn.{looks_hold, step_ends}
use Rattle.desk_opening.specs.Books.{HoldsUpTo, LeavesThese, EndsFinding, FindsNothing}

-- what follows if the content is known
pub if_known : (content now : Option (List ℕ)) (P Q : Type 0) → now ≡ content → (P → Q) → IfSome content (λ _. P) → IfSome now (λ _. Q)
if_known content now P Q same f is = subst (λ (o : Option (List ℕ)). IfSome o (λ _. Q)) (sym same) (over content is)
  where
    over : (o : Option (List ℕ)) → IfSome o (λ _. P) → IfSome o (λ _. Q)
    over None p = tt
    over (Some bytes) p = f p

-- a content that wasn't lost
pub still_told : (content now : Option (List ℕ)) → now ≡ content → IsSome now → IsSome content
still_told content now same is = subst (λ (o : Option (List ℕ)). IsSome o) same is

-- the reason says nothing of the bytes
pub unknown_why : (content : Option (List ℕ)) (place : ℕ) (fault : DiskFault) → (fault ≡ Failed) ⊎ (fault ≡ Memory) → IfSome content (FindsNone fault place)
unknown_why None place fault refused = tt
unknown_why (Some bytes) place fault (inl is) = subst (λ (f : DiskFault). FindsNone f place bytes) (sym is) tt
unknown_why (Some bytes) place fault (inr is) = subst (λ (f : DiskFault). FindsNone f place bytes) (sym is) tt

not_damaged : (fault : DiskFault) (at : ℕ) (P : Type 0) → (fault ≡ Failed) ⊎ (fault ≡ Memory) → fault ≡ Damaged at → P
not_damaged fault at P (inl is) other = absurd (let both : Failed ≡ Damaged at = sym is ∙ other in cc)
not_damaged fault at P (inr is) other = absurd (let both : Memory ≡ Damaged at = sym is ∙ other in cc)

not_other : (fault : DiskFault) → (fault ≡ Failed) ⊎ (fault ≡ Memory) → fault ≡ NotDisk → ⊥
not_other fault (inl is) other = let both : Failed ≡ NotDisk = sym is ∙ other in absurd cc
not_other fault (inr is) other = let both : Memory ≡ NotDisk = sym is ∙ other in absurd cc

-- the entries end at the place
module _ (place : ℕ) (disk mid : DiskState) (looks : OnlyLooks disk mid) (closed : IfSome disk.content (IsClosedAt place)) where
  ends : (head : Head) (pairs : List RecordPair) (left : List ℕ) → Holds head pairs place left disk → EndsAt head pairs place disk
  ends head pairs left holds = step_ends head pairs place left disk holds [] closed

  ends_still : (head : Head) (pairs : List RecordPair) (left : List ℕ) → Holds head pairs place left disk → EndsAt head pairs place mid
  ends_still head pairs left holds =
      let at = ends head pairs left holds in
      (at.0, at.1, at.2, at.3, looks_hold head pairs place (at.0 ∷ at.2) disk mid at.4 looks)

  pub can_end : HoldsUpTo place disk → IfSome mid.content (λ _. (head : Head) × (pairs : List RecordPair) × EndsAt head pairs place mid)
  can_end holds =
      if_known disk.content mid.content ((head : Head) × (pairs : List RecordPair) × (left : List ℕ) × Holds head pairs place left disk) ((head : Head) × (pairs : List RecordPair) × EndsAt head pairs place mid) looks.content
      (λ h. (h.0, h.1, ends_still h.0 h.1 h.2 h.3)) holds

  module _ (now : DiskState) (moments : (head : Head) (pairs : List RecordPair) → EndsAt head pairs place mid → AtEachMoment mid now (StandsFor head pairs)) where
    pub leaves_these : LeavesThese place disk now
    leaves_these head pairs left holds =
        let at = ends head pairs left holds in
        then_more disk mid now _
        (weaker disk mid _ _ (λ image was. inr (record { lawful = at.4.lawful; each = at.4.each; commit = at.0; shut = at.1; rest = at.2; few = at.3; encoded = at.4.durable image was })) looks.moments)
        (moments head pairs (ends_still head pairs left holds))

    pub ended : ((head : Head) (pairs : List RecordPair) → EndsAt head pairs place mid → Keeps head pairs place now) → (IsSome now.content → IsSome mid.content) → place ≤ 2 ^ 60 → EndsFinding place disk now
    ended keeps told near = record {
      closed = closed;
      keeps = λ head pairs left holds. keeps head pairs (ends_still head pairs left holds);
      moments = leaves_these;
      told = λ is. still_told disk.content mid.content looks.content (told is);
      near = near;
    }

    -- the call failed, or memory ran out, while the disk was being cut
    pub not_ended : (fault : DiskFault) → (fault ≡ Failed) ⊎ (fault ≡ Memory) → FindsNothing place disk now fault
    not_ended fault refused = record {
      why = unknown_why disk.content place fault refused;
      left = inr (closed, leaves_these);
      damaged = λ at is. not_damaged fault at (OnlyLooks disk now) refused is;
      known = not_other fault refused;
    }
