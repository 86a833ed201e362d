-- The bytes of a disk begin in one way, but for a first entry that holds a checkpoint and is left out.
use Rattle.std.proofs.Common.{◌≡◌, ◌⊎◌, inl, inr, ℕ, List, [], ◌∷◌, ◌++◌, length, drop, refl, sym, ap, subst, ◌∙◌, arith, append_assoc}
use Rattle.std.proofs.lemmas.List.{drop_at}
use Rattle.std.specs.List.{flat_map, AllByRecursion}
use Rattle.wire_records.specs.declared.version.Version.{Version}
use Rattle.wire_records.proofs.RecordCode.{one_magic}
use Rattle.market_rules.specs.Market.{Market}
use Rattle.market_snapshot.specs.Checkpoints.{checkpoint_bytes, IsCheckpoint}
use Rattle.market_history.specs.Histories.{Start, Empty, Kept, CanStart}
use Rattle.journal_disk.specs.Pairs.{RecordPair, IsRecordPair, pair_bytes}
use Rattle.journal_disk.specs.Entries.{IsHead, framed, head_bytes, entry, entries, disk_magic_of, HasEntries, IsNewDisk}
use Rattle.journal_disk.specs.Stepping.{HasEntryAt}
use Rattle.journal_disk.proofs.Entries.{entries_none, magic_alone, first_after, magic_first, pair_short, disk_magics_told, eight}
use Rattle.journal_disk.proofs.OneList.{frame_unique}
use Rattle.journal_keeping.specs.Starts.{head_of}
use Rattle.journal_keeping.specs.Beginning.{HasFirst}
use Rattle.journal_keeping.specs.Openings.{BeginsLegal}
use Rattle.journal_keeping.proofs.Starts.{one_kept_market}
use Rattle.journal_keeping.proofs.Auditing.{none_read}

tails : (a b : ℕ) (x y : List ℕ) → a ∷ x ≡ b ∷ y → x ≡ y
tails a b x y e = cc

-- a first entry that holds a checkpoint is how a journal begins, with no entry after it
pub first_legal : (m : Market) (bytes : List ℕ) → HasFirst m bytes → BeginsLegal (Kept m) bytes [] m (length (entries (head_of (Kept m)) []))
first_legal m bytes first = record { lawful = first.lawful; journal = none_read (Kept m) m first.is_one refl; rest = first.rest; encoded = first.encoded; begins = refl }

pub legal_first : (m : Market) (bytes : List ℕ) (place : ℕ) → BeginsLegal (Kept m) bytes [] m place → HasFirst m bytes
legal_first m bytes place begins = record { is_one = begins.journal.starts; lawful = begins.lawful; rest = begins.rest; encoded = begins.encoded }

-- bytes with a first entry that holds a checkpoint, and with entries after it
has_first : (m : Market) (p : List RecordPair) (x bytes : List ℕ) → IsCheckpoint m (checkpoint_bytes m) → IsHead (head_of (Kept m)) → bytes ≡ entries (head_of (Kept m)) p ++ x → HasFirst m bytes
unfolding entries
has_first m p x bytes one lawful is = record {
  is_one = one;
  lawful = lawful;
  rest = flat_map entry p ++ x;
  encoded = is ∙ append_assoc (head_bytes (head_of (Kept m))) (flat_map entry p) x ∙ ap (λ (l : List ℕ). l ++ (flat_map entry p ++ x)) (sym (entries_none (head_of (Kept m))));
}

-- without a checkpoint and without an entry
abbrev pub IsBare : Start → List RecordPair → Type 0
IsBare begin p = (version : Version) × (begin ≡ Empty version) × (p ≡ [])

-- a first entry that holds a checkpoint is no entry
bare : (v : Version) (n : Market) (p : List RecordPair) (x y : List ℕ) → IsHead (head_of (Kept n)) → AllByRecursion IsRecordPair p → flat_map entry p ++ x ≡ 1 ∷ framed (checkpoint_bytes n) ++ y → p ≡ []
bare v n [] x y lawful each e = refl
bare v n (q ∷ qs) x y lawful each e =
    let found = frame_unique (pair_bytes q) (checkpoint_bytes n) (flat_map entry qs ++ x) y (omega (arith, pair_short q each.0)) lawful.1 (sym (append_assoc (framed (pair_bytes q)) (flat_map entry qs) x) ∙ tails 1 1 _ _ e) in
    absurd (lawful.0 (q, each.0, sym found.0))

module _ (bytes : List ℕ) where
  pub begin_alike : (v w : Start) (p q : List RecordPair) (x y : List ℕ) → CanStart v → CanStart w → IsHead (head_of v) → IsHead (head_of w) → AllByRecursion IsRecordPair p → AllByRecursion IsRecordPair q
      → bytes ≡ entries (head_of v) p ++ x → bytes ≡ entries (head_of w) q ++ y
      → (v ≡ w) ⊎ ((IsBare v p × (n : Market) × HasFirst n bytes) ⊎ (IsBare w q × (m : Market) × HasFirst m bytes))
  begin_alike (Empty v) (Empty w) p q x y a b i j c d is also =
      let one = one_magic disk_magic_of disk_magics_told v w _ _ (sym (magic_first (head_of (Empty v)) p x) ∙ sym is ∙ also ∙ magic_first (head_of (Empty w)) q y) in
      inl (ap (λ (u : Version). Empty u) one.0)
  begin_alike (Empty v) (Kept n) p q x y a b i j c d is also =
      let one = one_magic disk_magic_of disk_magics_told v n.version _ _ (sym (magic_first (head_of (Empty v)) p x) ∙ sym is ∙ also ∙ magic_first (head_of (Kept n)) q y) in
      inr (inl ((v, refl, bare v n p x (flat_map entry q ++ y) j c one.1), n, has_first n q y bytes b j also))
  begin_alike (Kept m) (Empty w) p q x y a b i j c d is also =
      let one = one_magic disk_magic_of disk_magics_told m.version w _ _ (sym (magic_first (head_of (Kept m)) p x) ∙ sym is ∙ also ∙ magic_first (head_of (Empty w)) q y) in
      inr (inr ((w, refl, bare w m q y (flat_map entry p ++ x) i d (sym one.1)), m, has_first m p x bytes a i is))
  begin_alike (Kept m) (Kept n) p q x y a b i j c d is also =
      let one = one_magic disk_magic_of disk_magics_told m.version n.version _ _ (sym (magic_first (head_of (Kept m)) p x) ∙ sym is ∙ also ∙ magic_first (head_of (Kept n)) q y) in
      let found = frame_unique (checkpoint_bytes m) (checkpoint_bytes n) (flat_map entry p ++ x) (flat_map entry q ++ y) i.1 j.1 (tails 1 1 _ _ one.1) in
      inl (ap (λ (k : Market). Kept k) (one_kept_market m n a b found.0))

  -- at the first commit byte of a disk whose first entry holds a checkpoint is no entry
  pub first_no_entry : (m : Market) → HasFirst m bytes → (p : RecordPair) (rest : List ℕ) → ¬ HasEntryAt 8 p rest bytes
  first_no_entry m first p rest has =
      let magic = disk_magic_of m.version in
      let following : drop 8 bytes ≡ 1 ∷ (framed (checkpoint_bytes m) ++ first.rest) =
      ap (drop 8) (first.encoded ∙ ap (λ (l : List ℕ). l ++ first.rest) (first_after m.version (checkpoint_bytes m)) ∙ append_assoc magic (1 ∷ framed (checkpoint_bytes m)) first.rest)
      ∙ drop_at magic (1 ∷ (framed (checkpoint_bytes m) ++ first.rest)) 8 (eight m.version) in
      let found = frame_unique (pair_bytes p) (checkpoint_bytes m) rest first.rest (omega (arith, pair_short p has.is_pair)) first.lawful.1 (tails 1 1 _ _ (sym has.encoded ∙ following)) in
      first.lawful.0 (p, has.is_pair, sym found.0)

-- bare bytes begin at the first commit byte
pub bare_place : (begin : Start) (p : List RecordPair) → IsBare begin p → length (entries (head_of begin) p) ≡ 8
bare_place begin p (version, is, none) =
    subst (λ (b : Start). length (entries (head_of b) p) ≡ 8) (sym is) (subst (λ (l : List RecordPair). length (entries (head_of (Empty version)) l) ≡ 8) (sym none) (omega (arith, ap length (magic_alone version), eight version)))

-- bytes without a checkpoint and without an entry are those of a new disk
pub bare_new : (begin : Start) (p : List RecordPair) (bytes : List ℕ) → IsBare begin p → HasEntries (head_of begin) p bytes → IsNewDisk bytes
bare_new begin p bytes (version, is, none) has =
    let bare : HasEntries (head_of (Empty version)) [] bytes =
    subst (λ (b : Start). HasEntries (head_of b) [] bytes) is (subst (λ (l : List RecordPair). HasEntries (head_of begin) l bytes) none has) in
    inr (record {
      version = version;
      commit = bare.commit;
      shut = bare.shut;
      rest = bare.rest;
      encoded = bare.encoded ∙ ap (λ (l : List ℕ). l ++ bare.commit ∷ bare.rest) (magic_alone version);
    })
