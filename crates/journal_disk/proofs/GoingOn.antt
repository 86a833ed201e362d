-- How a reading continues from commit byte to commit byte, on a disk of which the entries so far are known.
use Rattle.std.proofs.Common.{◌≡◌, ◌+◌, ℕ, List, [], ◌∷◌, ◌++◌, Option, Some, IfSome, Ok, length, drop, refl, sym, ap, subst, ◌∙◌, arith, append_assoc, length-append}
use Rattle.std.proofs.lemmas.List.{drop_at}
use Rattle.disk_edge.specs.Disks.{DiskState, IsDisk}
use Rattle.disk_edge.proofs.Moments.{weaker, then_more, no_call}
use Rattle.journal_disk.specs.declared.fault.Step.TheVariants as step
use Rattle.journal_disk.specs.Pairs.{RecordPair, IsRecordPair, pair_bytes}
use Rattle.journal_disk.specs.Entries.{Head, entry, entries, Holds, EndsAt}
use Rattle.journal_disk.specs.Looking.{OnlyLooks}
use Rattle.journal_disk.specs.Stepping.{HasEntryAt, IsStep}
use Rattle.journal_disk.proofs.Entries.{entries_more, each_more, length-framed}

-- a disk on which a call only read holds what it held
pub looks_hold : (head : Head) (pairs : List RecordPair) (place : ℕ) (rest : List ℕ) (old new : DiskState) → Holds head pairs place rest old → OnlyLooks old new → Holds head pairs place rest new
looks_hold head pairs place rest old new holds looks = record {
  lawful = holds.lawful;
  each = holds.each;
  begins = holds.begins;
  content = looks.content ∙ holds.content;
  durable = λ image left. holds.durable image (looks.images image left);
}

-- one call that only reads, followed by another
pub looks_more : (a b c : DiskState) → OnlyLooks a b → OnlyLooks b c → OnlyLooks a c
looks_more a b c first second = record {
  content = second.content ∙ first.content;
  images = λ image left. first.images image (second.images image left);
  moments = then_more a b c _ first.moments (weaker b c _ _ first.images second.moments);
}

pub looks_none : (disk : DiskState) → IsDisk disk → OnlyLooks disk disk
looks_none disk is_disk = record { content = refl; images = λ image left. left; moments = no_call disk _ is_disk (λ image left. left) }

module _ (head : Head) (pairs : List RecordPair) (place : ℕ) (rest : List ℕ) (disk : DiskState) (holds : Holds head pairs place rest disk) where
  at_place : drop place (entries head pairs ++ rest) ≡ rest
  at_place = drop_at (entries head pairs) rest place (sym holds.begins)

  told : (Q : List ℕ → Type 0) → IfSome disk.content Q → Q (entries head pairs ++ rest)
  told Q has = subst (λ (o : Option (List ℕ)). IfSome o Q) holds.content has

  -- the next entry is one more that the disk holds
  over_entry : (pair : RecordPair) (left : List ℕ) (next : ℕ) → HasEntryAt place pair left (entries head pairs ++ rest) → next ≡ place + (5 + length (pair_bytes pair)) → Holds head (pairs ++ pair ∷ []) next left disk
  over_entry pair left next has moves =
      let after : rest ≡ entry pair ++ left = sym at_place ∙ has.encoded in
      let whole : entries head pairs ++ rest ≡ entries head (pairs ++ pair ∷ []) ++ left =
      ap (λ (l : List ℕ). entries head pairs ++ l) after ∙ sym (append_assoc (entries head pairs) (entry pair) left) ∙ ap (λ (l : List ℕ). l ++ left) (sym (entries_more head pairs pair)) in
      record {
        lawful = holds.lawful;
        each = each_more IsRecordPair pairs pair holds.each has.is_pair;
        begins = omega (arith, holds.begins, moves, ap length (entries_more head pairs pair), length-append (entries head pairs) (entry pair), length-framed (pair_bytes pair));
        content = holds.content ∙ ap (λ (l : List ℕ). Some l) whole;
        durable = λ image left. holds.durable image left ∙ whole;
      }

  -- moving past an entry
  pub entry_holds : (pair : RecordPair) (next : ℕ) → IfSome disk.content (λ bytes. (left : List ℕ) × HasEntryAt place pair left bytes) → next ≡ place + (5 + length (pair_bytes pair)) → (left : List ℕ) × Holds head (pairs ++ pair ∷ []) next left disk
  entry_holds pair next is moves =
      let found = told (λ bytes. (left : List ℕ) × HasEntryAt place pair left bytes) is in
      (found.0, over_entry pair found.0 next found.1 moves)

  -- a step over an entry
  pub step_holds : (next : ℕ) (found : List ℕ) → IfSome disk.content (IsStep (Ok step.Pair) place next found) → (p : RecordPair) × (left : List ℕ) × IsRecordPair p × (found ≡ pair_bytes p) × Holds head (pairs ++ p ∷ []) next left disk
  step_holds next found is =
      let found_step = told (IsStep (Ok step.Pair) place next found) is in
      (found_step.0, found_step.1, found_step.2.is_pair, found_step.3, over_entry found_step.0 found_step.1 next found_step.2 (omega (arith, found_step.4, ap length found_step.3)))

  -- a step to a commit byte that isn't set
  pub step_ends : (found : List ℕ) → IfSome disk.content (IsStep (Ok step.Closed) place place found) → EndsAt head pairs place disk
  step_ends found is =
      let found_step = told (IsStep (Ok step.Closed) place place found) is in
      (found_step.0, found_step.1, found_step.2, found_step.4, subst (λ (l : List ℕ). Holds head pairs place l disk) (sym at_place ∙ found_step.3) holds)
