-- A first entry that holds a checkpoint, or doesn't.
use Rattle.std.proofs.Common.{◌≡◌, ◌⊎◌, ⊎_elim, inl, inr, ℕ, ◌+◌, ◌≤◌, List, [], ◌∷◌, ◌++◌, Option, Some, None, IfSome, length, take, drop, refl, sym, ap, subst, ◌∙◌, arith, append-nil, append_assoc, length-drop, take-append-drop}
use Rattle.std.proofs.lemmas.List.{drop_at}
use Rattle.wire_records.specs.declared.version.Version.{Version}
use Rattle.wire_records.proofs.RecordCode.{one_magic}
use Rattle.market_rules.specs.Market.{Market, empty_market}
use Rattle.market_snapshot.specs.Checkpoints.{checkpoint_magic, checkpoint_bytes, IsCheckpoint, HasCheckpointMagic}
use Rattle.market_snapshot.proofs.OneMarket.{one_market}
use Rattle.market_history.specs.Histories.{Empty, Kept}
use Rattle.disk_edge.specs.Disks.{DiskState}
use Rattle.journal_disk.specs.Entries.{framed, entries, disk_magic_of, Holds}
use Rattle.journal_disk.specs.Looking.{OnlyLooks}
use Rattle.journal_disk.specs.Stepping.{HasFrameAt, FindsFirst}
use Rattle.journal_disk.proofs.Entries.{first_after, magic_first, pair_short, disk_magics_told, eight}
use Rattle.journal_disk.proofs.OneList.{frame_unique}
use Rattle.journal_disk.proofs.FirstEntry.{first_holds}
use Rattle.journal_disk.proofs.GoingOn.{looks_hold}
use Rattle.journal_keeping.specs.declared.fault.OpenFault.{OpenFault}
use Rattle.journal_keeping.specs.declared.fault.OpenFault.TheVariants.{Damaged, Memory}
use Rattle.journal_keeping.specs.Starts.{head_of}
use Rattle.journal_keeping.specs.Beginning.{BeginsAt, StopsFirst, HasFirst}
use Rattle.journal_keeping.proofs.Starts.{magic_first as checkpoint_first, no_pair}

tails : (a b : ℕ) (x y : List ℕ) → a ∷ x ≡ b ∷ y → x ≡ y
tails a b x y e = cc

-- bytes that are a checkpoint are that of one market, to their end
pub whole_one : (bytes : List ℕ) (m market : Market) (taken : ℕ) → IsCheckpoint m bytes → IsCheckpoint market (take taken bytes) → (market ≡ m) × (length bytes ≤ taken)
whole_one bytes m market taken is found =
    let one = one_market market m (take taken bytes) bytes (drop taken bytes) [] found is (take-append-drop taken bytes ∙ sym (append-nil bytes)) in
    (one.0, omega (arith, ap length one.1, length-drop taken bytes))

module _ (version : Version) (rest bytes : List ℕ) (disk later : DiskState) (told : disk.content ≡ Some bytes) (holds : Holds (record { version = version; first = None }) [] 8 rest disk) (looks : OnlyLooks disk later) where
  encoded : bytes ≡ entries (head_of (Empty version)) [] ++ rest
  encoded = let both : Some bytes ≡ Some (entries (head_of (Empty version)) [] ++ rest) = sym told ∙ holds.content in cc

  -- a first entry that holds a checkpoint, as what is stored at the first commit byte
  frame_of : (m : Market) → HasFirst m bytes → HasFrameAt 8 (checkpoint_bytes m) bytes
  frame_of m first =
      let magic = disk_magic_of m.version in
      record {
        short = first.lawful.1;
        rest = first.rest;
        encoded = ap (drop 8) (first.encoded ∙ ap (λ (l : List ℕ). l ++ first.rest) (first_after m.version (checkpoint_bytes m)) ∙ append_assoc magic (1 ∷ framed (checkpoint_bytes m)) first.rest)
            ∙ drop_at magic (1 ∷ (framed (checkpoint_bytes m) ++ first.rest)) 8 (eight m.version);
        within = omega (arith, first.lawful.1);
      }

  -- it is of the version of the disk
  of_version : (m : Market) → HasFirst m bytes → m.version ≡ version
  of_version m first =
      (one_magic disk_magic_of disk_magics_told m.version version _ _ (sym (magic_first (head_of (Kept m)) [] first.rest) ∙ sym first.encoded ∙ encoded ∙ magic_first (head_of (Empty version)) [] rest)).0

  pub begins_empty : FindsFirst None checkpoint_magic 8 bytes → BeginsAt version bytes (empty_market version) 8 later
  begins_empty none = record {
    begin = Empty version;
    starts = tt;
    market_is = refl;
    version_is = refl;
    rest = rest;
    holds = looks_hold (head_of (Empty version)) [] 8 rest disk later holds looks;
    unfit = λ at. λ m first.
        let magic = checkpoint_first m in
        none magic.0 (subst (λ (l : List ℕ). HasFrameAt 8 l bytes) magic.1 (frame_of m first));
  }

  module _ (held : List ℕ) (frame : HasFrameAt 8 held bytes) (magic : HasCheckpointMagic held) where
    pub begins_kept : (market : Market) (place : ℕ) → IsCheckpoint market held → market.version ≡ version → place ≡ 8 + (5 + length held) → BeginsAt version bytes market place later
    begins_kept market place is of at =
        let kept = first_holds version held rest disk holds (subst (λ (o : Option (List ℕ)). IfSome o (HasFrameAt 8 held)) (sym told) frame) (no_pair held magic, frame.short) in
        let there : Holds (head_of (Kept market)) [] place kept.0 disk =
        subst (λ (n : ℕ). Holds (head_of (Kept market)) [] n kept.0 disk) (sym at)
        (subst (λ (l : List ℕ). Holds (record { version = market.version; first = Some l }) [] (8 + (5 + length held)) kept.0 disk) is.encoded
        (subst (λ (v : Version). Holds (record { version = v; first = Some held }) [] (8 + (5 + length held)) kept.0 disk) (sym of) kept.1)) in
        record {
          begin = Kept market;
          starts = subst (λ (l : List ℕ). IsCheckpoint market l) is.encoded is;
          market_is = refl;
          version_is = of;
          rest = kept.0;
          holds = looks_hold (head_of (Kept market)) [] place kept.0 disk later there looks;
          unfit = λ eight_at. absurd (omega (arith, eight_at, at));
        }

    pub stops_unfit : (fault : OpenFault) → (fault ≡ Damaged 8) ⊎ (fault ≡ Memory) → (fault ≡ Damaged 8 → (market : Market) → IsCheckpoint market held → market.version ≡ version → ⊥) → StopsFirst fault bytes
    stops_unfit fault why none =
        ⊎_elim
        (λ (is : fault ≡ Damaged 8). subst (λ (f : OpenFault). StopsFirst f bytes) (sym is) (
          refl,
          inr (inl (
            framed held ++ frame.rest,
            frame.encoded,
            λ pair following has.
                let found = frame_unique held _ frame.rest following frame.short (omega (arith, pair_short pair has.is_pair)) (tails 1 1 _ _ (sym frame.encoded ∙ has.encoded)) in
                no_pair held magic (pair, has.is_pair, found.0),
          )),
          λ m first.
              let other = frame_of m first in
              let same = frame_unique held (checkpoint_bytes m) frame.rest other.rest frame.short other.short (tails 1 1 _ _ (sym frame.encoded ∙ other.encoded)) in
              none is m (subst (λ (l : List ℕ). IsCheckpoint m l) (sym same.0) first.is_one) (of_version m first),
        ))
        (λ (is : fault ≡ Memory). subst (λ (f : OpenFault). StopsFirst f bytes) (sym is) tt)
        why

-- what is found, if the content is known
pub finds_told : (content : Option (List ℕ)) (bytes : List ℕ) (P : List ℕ → Type 0) → content ≡ Some bytes → IfSome content P → P bytes
finds_told content bytes P told has = subst (λ (o : Option (List ℕ)). IfSome o P) told has
