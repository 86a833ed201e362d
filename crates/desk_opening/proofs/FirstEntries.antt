-- Whether a disk begins so, by its first entry.
use Rattle.std.proofs.Common.{◌≡◌, ℕ, ◌+◌, ◌-◌, ◌≤◌, List, [], ◌∷◌, ◌++◌, Option, Some, None, IfSome, length, length-append, take, drop, refl, sym, ap, subst, ◌∙◌, arith, append_assoc}
use Rattle.std.proofs.lemmas.List.{append-nil, drop_at}
use Rattle.std.proofs.Math.Seq.{take-append_seam}
use Rattle.wire_fields.specs.Numbers.{unsigned}
use Rattle.wire_fields.proofs.Encoding.{length-unsigned}
use Rattle.wire_records.specs.declared.version.Version.{Version}
use Rattle.wire_records.specs.Versions.{number_of}
use Rattle.wire_records.proofs.Numbered.{same_number}
use Rattle.market_rules.specs.Market.{Market}
use Rattle.market_snapshot.specs.Checkpoints.{checkpoint_bytes}
use Rattle.market_history.specs.Histories.{Start, Empty, Kept, market_of, CanStart}
use Rattle.disk_edge.specs.Disks.{DiskState}
use Rattle.journal_disk.specs.Entries.{IsHead, framed, entries, disk_magic_of, Holds}
use Rattle.journal_disk.specs.Stepping.{HasFrameAt, FindsFirst}
use Rattle.journal_disk.proofs.Entries.{first_after, magic_alone, eight, length-framed}
use Rattle.journal_disk.proofs.OneList.{frame_unique}
use Rattle.journal_disk.proofs.FirstEntry.{first_holds}
use Rattle.journal_keeping.specs.Starts.{version_of, head_of}
use Rattle.journal_keeping.specs.Beginning.{HasFirst, BeginsAt, IsStored}
use Rattle.journal_keeping.proofs.Starts.{magic_first, no_pair, one_kept_market}
use Rattle.desk_opening.specs.Private.{checkpoint_of}

tails : (a b : ℕ) (x y : List ℕ) → a ∷ x ≡ b ∷ y → x ≡ y
tails a b x y e = cc

no_rest : (held rest : List ℕ) → length (held ++ rest) ≡ length held → held ++ rest ≡ held
no_rest held rest same = ap (λ (l : List ℕ). held ++ l) (none rest (omega (arith, same, length-append held rest))) ∙ append-nil held
  where
    none : (l : List ℕ) → length l ≡ 0 → l ≡ []
    none [] e = refl
    none (b ∷ l) e = absurd (omega (arith, e))

-- what is told of content that is known
pub if_told : (content : Option (List ℕ)) (bytes : List ℕ) (P : List ℕ → Type 0) → content ≡ Some bytes → IfSome content P → P bytes
if_told content bytes P told has = subst (λ (o : Option (List ℕ)). IfSome o P) told has

-- ---- what is stored

-- what is stored of a first entry, without its length and its commit byte
pub middle : (stored bytes : List ℕ) → stored ≡ framed bytes ++ 0 ∷ [] → take (length stored - 1 - 4) (drop 4 stored) ≡ bytes
unfolding framed
middle stored bytes is =
    let parts : stored ≡ unsigned 4 (length bytes) ++ (bytes ++ 0 ∷ []) = is ∙ append_assoc (unsigned 4 (length bytes)) bytes (0 ∷ []) in
    let after : drop 4 stored ≡ bytes ++ 0 ∷ [] = ap (drop 4) parts ∙ drop_at (unsigned 4 (length bytes)) (bytes ++ 0 ∷ []) 4 (length-unsigned 4 (length bytes)) in
    let count : length stored - 1 - 4 ≡ length bytes = omega (arith, ap length parts, length-append (unsigned 4 (length bytes)) (bytes ++ 0 ∷ []), length-unsigned 4 (length bytes), length-append bytes (0 ∷ [])) in
    ap (take (length stored - 1 - 4)) after ∙ ap (λ (n : ℕ). take n (bytes ++ 0 ∷ [])) count ∙ take-append_seam bytes (0 ∷ [])

pub stored_middle : (stored : List ℕ) (begin : Start) → (length stored ≤ 4 → ⊥) → IsStored begin stored → ◌≡◌ {A = Option (List ℕ)} (Some (take (length stored - 1 - 4) (drop 4 stored))) (checkpoint_of begin)
stored_middle stored (Empty version) many is = absurd (many (omega (arith, ap length is)))
stored_middle stored (Kept market) many is = ap (λ (l : List ℕ). Some l) (middle stored (checkpoint_bytes market) is)

pub stored_none : (stored : List ℕ) (begin : Start) → length stored ≤ 4 → IsStored begin stored → ◌≡◌ {A = Option (List ℕ)} None (checkpoint_of begin)
stored_none stored (Empty version) few is = refl
stored_none stored (Kept market) few is = absurd (omega (arith, few, ap length is, length-append (framed (checkpoint_bytes market)) (0 ∷ []), length-framed (checkpoint_bytes market)))

some_bytes : (a b : List ℕ) → ◌≡◌ {A = Option (List ℕ)} (Some a) (Some b) → a ≡ b
some_bytes a b e = cc

-- ---- versions

market_version : (begin : Start) → (market_of begin).version ≡ version_of begin
market_version (Empty version) = refl
market_version (Kept market) = refl

-- a disk of one version begins in no other
pub other_version : (version : Version) (market : Market) (at begin : Start) → version_of at ≡ version → market ≡ market_of begin → (number_of version ≡ number_of market.version → ⊥) → at ≡ begin → ⊥
other_version version market at begin of is not same =
    not (ap number_of (sym of ∙ ap version_of same ∙ sym (market_version begin) ∙ ap (λ (m : Market). m.version) (sym is)))

same_version : (version : Version) (market : Market) (begin : Start) → market ≡ market_of begin → number_of version ≡ number_of market.version → version ≡ version_of begin
same_version version market begin is same = same_number version market.version same ∙ ap (λ (m : Market). m.version) is ∙ market_version begin

-- ---- a disk that begins so

module _ (version : Version) (bytes : List ℕ) (market : Market) (place : ℕ) (disk : DiskState) (told : disk.content ≡ Some bytes) where
  module _ (rest : List ℕ) where
    encoded : (begin : Start) → Holds (head_of begin) [] place rest disk → bytes ≡ entries (head_of begin) [] ++ rest
    encoded begin holds = let both : Some bytes ≡ Some (entries (head_of begin) [] ++ rest) = sym told ∙ holds.content in cc

    place_empty : (v : Version) → Holds (head_of (Empty v)) [] place rest disk → place ≡ 8
    place_empty v holds = omega (arith, holds.begins, ap length (magic_alone v), eight v)

    place_kept : (m : Market) → Holds (head_of (Kept m)) [] place rest disk → place ≡ 8 → ⊥
    place_kept m holds e =
        omega (arith, e, holds.begins, ap length (first_after m.version (checkpoint_bytes m)), length-append (disk_magic_of m.version) (1 ∷ framed (checkpoint_bytes m)), eight m.version, length-framed (checkpoint_bytes m))

    -- its checkpoint is at the first commit byte
    frame_of : (m : Market) → Holds (head_of (Kept m)) [] place rest disk → HasFrameAt 8 (checkpoint_bytes m) bytes
    frame_of m holds =
        let magic = disk_magic_of m.version in
        record {
          short = holds.lawful.1;
          rest = rest;
          encoded = ap (drop 8) (encoded (Kept m) holds ∙ ap (λ (l : List ℕ). l ++ rest) (first_after m.version (checkpoint_bytes m)) ∙ append_assoc magic (1 ∷ framed (checkpoint_bytes m)) rest)
              ∙ drop_at magic (1 ∷ (framed (checkpoint_bytes m) ++ rest)) 8 (eight m.version);
          within = omega (arith, holds.lawful.1);
        }

    -- what is there, if a checkpoint is at the first commit byte
    kept_is : (begin : Start) (m : Market) → CanStart begin → CanStart (Kept m) → Holds (head_of begin) [] place rest disk → version_of begin ≡ m.version → (place ≡ 8 → (first : Market) → ¬ HasFirst first bytes) → HasFrameAt 8 (checkpoint_bytes m) bytes → begin ≡ Kept m
    kept_is (Empty v) m starts one holds of unfit frame =
        let at = place_empty v holds in
        let lawful : IsHead (record { version = v; first = Some (checkpoint_bytes m) }) = (no_pair (checkpoint_bytes m) (magic_first m), frame.short) in
        let kept = first_holds v (checkpoint_bytes m) rest disk (subst (λ (n : ℕ). Holds (head_of (Empty v)) [] n rest disk) at holds) (subst (λ (o : Option (List ℕ)). IfSome o (HasFrameAt 8 (checkpoint_bytes m))) (sym told) frame) lawful in
        let first : HasFirst m bytes = record {
          is_one = one;
          lawful = lawful;
          rest = kept.0;
          encoded = subst (λ (w : Version). bytes ≡ entries (record { version = w; first = Some (checkpoint_bytes m) }) [] ++ kept.0) of
              (let both : Some bytes ≡ Some (entries (record { version = v; first = Some (checkpoint_bytes m) }) [] ++ kept.0) = sym told ∙ kept.1.content in cc);
        } in
        absurd (unfit at m first)
    kept_is (Kept k) m starts one holds of unfit frame =
        let own = frame_of k holds in
        ap Kept (one_kept_market k m starts one (frame_unique (checkpoint_bytes k) (checkpoint_bytes m) own.rest frame.rest own.short frame.short (tails 1 1 _ _ (sym own.encoded ∙ frame.encoded))).0)

  module _ (at : BeginsAt version bytes market place disk) where
    -- the input begins without a checkpoint
    pub tells_first : (begin : Start) (input : Market) → input ≡ market_of begin → ◌≡◌ {A = Option (List ℕ)} None (checkpoint_of begin) → number_of version ≡ number_of input.version → (place ≡ 8 → at.begin ≡ begin) × (at.begin ≡ begin → place ≡ 8)
    tells_first begin input is none same = by_cases at.begin begin at.holds (at.version_is ∙ same_version version input begin is same) none
      where
        by_cases : (own other : Start) → Holds (head_of own) [] place at.rest disk → version_of own ≡ version_of other → ◌≡◌ {A = Option (List ℕ)} None (checkpoint_of other) → (place ≡ 8 → own ≡ other) × (own ≡ other → place ≡ 8)
        by_cases own (Kept m) holds of none = absurd cc
        by_cases (Empty v) (Empty w) holds of none = ((λ e. ap Empty of), (λ e. place_empty at.rest v holds))
        by_cases (Kept m) (Empty w) holds of none = ((λ e. absurd (place_kept at.rest m holds e)), (λ e. absurd cc))

    -- it begins with one, and an entry was found that begins with it
    pub tells_some : (begin : Start) (input : Market) (checkpoint : List ℕ) (count : ℕ) → input ≡ market_of begin → CanStart begin → ◌≡◌ {A = Option (List ℕ)} (Some checkpoint) (checkpoint_of begin) → number_of version ≡ number_of input.version → FindsFirst (Some count) checkpoint 8 bytes
        → (count ≡ length checkpoint → at.begin ≡ begin) × (at.begin ≡ begin → count ≡ length checkpoint)
    tells_some begin input checkpoint count is one same number found = by_cases begin one same (at.version_is ∙ same_version version input begin is number)
      where
        by_cases : (other : Start) → CanStart other → ◌≡◌ {A = Option (List ℕ)} (Some checkpoint) (checkpoint_of other) → version_of at.begin ≡ version_of other → (count ≡ length checkpoint → at.begin ≡ other) × (at.begin ≡ other → count ≡ length checkpoint)
        by_cases (Empty w) one same of = absurd cc
        by_cases (Kept m) one same of = (
          (λ e.
              let whole : take count (drop (8 + 5) bytes) ≡ checkpoint = found.3 ∙ no_rest checkpoint found.2 (ap length (sym found.3) ∙ found.1 ∙ e) in
              kept_is at.rest at.begin m at.starts one at.holds of at.unfit (subst (λ (l : List ℕ). HasFrameAt 8 l bytes) (whole ∙ some_bytes checkpoint (checkpoint_bytes m) same) found.0)),
          (λ e.
              let own = frame_of at.rest m (subst (λ (b : Start). Holds (head_of b) [] place at.rest disk) e at.holds) in
              let both = frame_unique (checkpoint_bytes m) _ own.rest found.0.rest own.short found.0.short (tails 1 1 _ _ (sym own.encoded ∙ found.0.encoded)) in
              sym found.1 ∙ ap length (sym both.0) ∙ ap length (sym (some_bytes checkpoint (checkpoint_bytes m) same))),
        )

    -- no such entry was found
    pub tells_none : (begin : Start) (checkpoint : List ℕ) → ◌≡◌ {A = Option (List ℕ)} (Some checkpoint) (checkpoint_of begin) → FindsFirst None checkpoint 8 bytes → at.begin ≡ begin → ⊥
    tells_none begin checkpoint same none is = by_cases begin same is
      where
        by_cases : (other : Start) → ◌≡◌ {A = Option (List ℕ)} (Some checkpoint) (checkpoint_of other) → at.begin ≡ other → ⊥
        by_cases (Empty w) same is = absurd cc
        by_cases (Kept m) same is =
            none [] (subst (λ (l : List ℕ). HasFrameAt 8 l bytes) (sym (some_bytes checkpoint (checkpoint_bytes m) same) ∙ sym (append-nil checkpoint)) (frame_of at.rest m (subst (λ (b : Start). Holds (head_of b) [] place at.rest disk) is at.holds)))
