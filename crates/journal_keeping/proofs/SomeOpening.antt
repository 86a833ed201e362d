-- A disk's bytes are opened in some way.
use Rattle.std.proofs.Common.{◌≡◌, ◌≢◌, ◌⊎◌, ⊎_elim, inl, inr, ℕ, zero, suc, ◌+◌, ◌≤◌, ◌<◌, ◌^◌, List, [], ◌∷◌, ◌++◌, length, drop, get_or, map, refl, sym, ap, ◌∙◌, arith, length-append}
use Rattle.std.proofs.lemmas.Bool.{cases_eq}
use Rattle.std.proofs.lemmas.List.{append-nil, drop_at}
use Rattle.std.specs.List.{flat_map}
use Rattle.wire_records.specs.Records.{Record}
use Rattle.wire_records.specs.Commands.{Pair}
use Rattle.wire_records.specs.declared.version.Version.{Version}
use Rattle.wire_records.specs.declared.version.Version.TheVariants.{One}
use Rattle.wire_records.proofs.RecordCode.{magic_told}
use Rattle.word_driver.specs.Laws.{IsNotDenied}
use Rattle.word_driver.proofs.Denying.{not_denied, follows, one_of}
use Rattle.flow_orders.specs.Outcomes.{Outcome}
use Rattle.journal_records.specs.Formats.{records_of}
use Rattle.market_rules.specs.Market.{Market, empty_market}
use Rattle.market_snapshot.specs.Checkpoints.{checkpoint_bytes}
use Rattle.market_history.specs.Histories.{Start, Empty, Kept}
use Rattle.batch_audit.specs.Legal.{IsLegalPair}
use Rattle.journal_disk.specs.Pairs.{RecordPair, pair_bytes}
use Rattle.journal_disk.specs.Entries.{IsHead, framed, entry, entries, disk_magic_of, most_unkept, IsNewDisk}
use Rattle.journal_disk.specs.Recovering.{IsForeign}
use Rattle.journal_disk.specs.Stepping.{HasEntryAt, IsDamagedAt}
use Rattle.journal_disk.proofs.Entries.{magic_alone, magic_first, length-framed, disk_magics_told, eight}
use Rattle.journal_disk.proofs.OneList.{unset_commit}
use Rattle.journal_disk.proofs.OpenedEntries.{new_not_foreign}
use Rattle.journal_disk.proofs.Excluding.{one_after}
use Rattle.journal_keeping.specs.Starts.{head_of}
use Rattle.journal_keeping.specs.Beginning.{HasFirst}
use Rattle.journal_keeping.specs.Openings.{Opening, Foreign, New, Damaged, Rejected, Legal, BeginsLegal, IsOpening}
use Rattle.journal_keeping.specs.Laws.{SomeOpening}
use Rattle.journal_keeping.proofs.Beginnings.{legal_first}
use Rattle.journal_keeping.proofs.Auditing.{none_read, one_read}
use Rattle.journal_keeping.proofs.Opened.{kept_each}

le_or_more : (a b : ℕ) → (a ≤ b) ⊎ (b < a)
le_or_more a b = grind arith

-- A disk that begins so, and whose first entry holds no checkpoint if its entries (head_of begin) at the first commit byte.
module _ (begin : Start) (bytes : List ℕ) (long : ¬ IsNewDisk bytes) (known : ¬ IsForeign bytes) (lawful : IsHead (head_of begin)) (unfit : (legal : List (Pair Record Outcome)) → length (entries (head_of begin) (map records_of legal)) ≡ 8 → (first : Market) → ¬ HasFirst first bytes) where
  abbrev Opens : Type 0
  Opens = (opening : Opening) × IsOpening bytes opening

  abbrev At : List (Pair Record Outcome) → Market → ℕ → Type 0
  At legal market place = BeginsLegal begin bytes legal market place

  -- what follows the valid entries
  at_commit : (legal : List (Pair Record Outcome)) (market : Market) (place : ℕ) (begins : At legal market place) → drop place bytes ≡ begins.rest
  at_commit legal market place begins = ap (drop place) begins.encoded ∙ drop_at (entries (head_of begin) (map records_of legal)) begins.rest place (sym begins.begins)

  damaged_at : (legal : List (Pair Record Outcome)) (market : Market) (place : ℕ) (begins : At legal market place) → IsDamagedAt place bytes → Opens
  damaged_at legal market place begins damage =
      (Damaged place, (long, known, (begin, legal, market, begins, damage, λ at first after kept. unfit legal (sym begins.begins ∙ at) first (legal_first first bytes after kept))))

  -- nothing follows
  ended : (legal : List (Pair Record Outcome)) (market : Market) (place : ℕ) (begins : At legal market place) → begins.rest ≡ [] → Opens
  ended legal market place begins none =
      damaged_at legal market place begins (inl (omega (arith, ap length begins.encoded, length-append (entries (head_of begin) (map records_of legal)) begins.rest, ap length none, begins.begins)))

  -- a commit byte that is set, without an entry
  damaged : (legal : List (Pair Record Outcome)) (market : Market) (place : ℕ) (begins : At legal market place) (rest : List ℕ) → begins.rest ≡ 1 ∷ rest → (((p : RecordPair) × (following : List ℕ) × HasEntryAt place p following bytes) → ⊥) → Opens
  damaged legal market place begins rest is none =
      damaged_at legal market place begins (inr (inl (rest, at_commit legal market place begins ∙ is, λ p following has. none (p, following, has))))

  -- a commit byte that isn't set: the entries end there, or more bytes follow it than a crash leaves
  shut_at : (legal : List (Pair Record Outcome)) (market : Market) (place : ℕ) (begins : At legal market place) (commit : ℕ) (rest : List ℕ) → begins.rest ≡ commit ∷ rest → commit ≢ 1 → (length rest ≤ most_unkept) ⊎ (most_unkept < length rest) → Opens
  shut_at legal market place begins commit rest is shut (inl few) = (
    Legal begin legal market,
    (
      long,
      known,
      begins.journal,
      record {
        lawful = lawful;
        each = kept_each legal begins.journal.each;
        commit = commit;
        shut = shut;
        rest = rest;
        few = few;
        encoded = begins.encoded ∙ ap (λ (l : List ℕ). entries (head_of begin) (map records_of legal) ++ l) is;
      },
    ),
  )
  shut_at legal market place begins commit rest is shut (inr many) = damaged_at legal market place begins (inr (inr (commit, shut, rest, at_commit legal market place begins ∙ is, many)))

  -- one more valid entry
  one_more : (legal : List (Pair Record Outcome)) (market : Market) (place : ℕ) (begins : At legal market place) (p : RecordPair) (following : List ℕ) → HasEntryAt place p following bytes → (new : Market) → IsLegalPair market p new
      → (more : List (Pair Record Outcome)) × (next : ℕ) × (now : At more new next) × (now.rest ≡ following)
  one_more legal market place begins p following has new legal_pair =
      let one = one_read begin legal market new p begins.journal has.is_pair legal_pair in
      let whole = one_after (head_of begin) (map records_of legal) p begins.rest following bytes place begins.encoded begins.begins has.encoded in (
        one.0,
        length (entries (head_of begin) (map records_of one.0)),
        record { lawful = lawful; journal = one.1; rest = following; encoded = whole ∙ ap (λ (l : List RecordPair). entries (head_of begin) l ++ following) one.3; begins = refl },
        refl,
      )

  -- after any valid entries with at most so many bytes left, the disk is opened in some way
  abbrev GoesOn : ℕ → Type 0
  GoesOn fuel = (legal : List (Pair Record Outcome)) (market : Market) (place : ℕ) (begins : At legal market place) (rest : List ℕ) → begins.rest ≡ rest → length rest ≤ fuel → IsNotDenied Opens

  abbrev Found : ℕ → Type 0
  Found place = (p : RecordPair) × (following : List ℕ) × HasEntryAt place p following bytes

  -- after a commit byte
  module _ (fuel : ℕ) (again : GoesOn fuel) (legal : List (Pair Record Outcome)) (market : Market) (place : ℕ) (begins : At legal market place) (commit : ℕ) (rest : List ℕ) (is : begins.rest ≡ commit ∷ rest) (few : length rest ≤ fuel) where
    at_pair : (p : RecordPair) (following : List ℕ) (has : HasEntryAt place p following bytes) → ((new : Market) × IsLegalPair market p new) ⊎ (((new : Market) × IsLegalPair market p new) → ⊥) → IsNotDenied Opens
    at_pair p following has (inl legal_pair) =
        let more = one_more legal market place begins p following has legal_pair.0 legal_pair.1 in
        let same : commit ∷ rest ≡ (1 ∷ framed (pair_bytes p)) ++ following = sym is ∙ sym (at_commit legal market place begins) ∙ has.encoded in
        again more.0 legal_pair.0 more.1 more.2 following more.3 (omega (arith, few, ap length same, length-append (framed (pair_bytes p)) following, length-framed (pair_bytes p)))
    at_pair p following has (inr none) = not_denied (Rejected (length legal + 1), (long, known, begin, legal, market, place, begins, p, following, has, (λ new is_legal. none (new, is_legal)), refl))

    at_entry : begins.rest ≡ 1 ∷ rest → Found place ⊎ (Found place → ⊥) → IsNotDenied Opens
    at_entry set_commit (inl found) = follows (at_pair found.0 found.1 found.2) (one_of ((new : Market) × IsLegalPair market found.0 new))
    at_entry set_commit (inr none) = not_denied (damaged legal market place begins rest set_commit none)

  go_on : (fuel : ℕ) → GoesOn fuel
  go_on fuel legal market place begins [] is few = not_denied (ended legal market place begins is)
  go_on zero legal market place begins (commit ∷ rest) is few = absurd (omega (arith, few))
  go_on (suc fuel) legal market place begins (commit ∷ rest) is few =
      ⊎_elim
      (λ (is_open : commit ≡ 1). follows (at_entry fuel (go_on fuel) legal market place begins commit rest is (omega (arith, few)) (is ∙ ap (λ (g : ℕ). g ∷ rest) is_open)) (one_of (Found place)))
      (λ shut. not_denied (shut_at legal market place begins commit rest is shut (le_or_more (length rest) most_unkept)))
      (cases_eq commit 1)

-- a disk that isn't new begins with a checkpoint, or without one
module _ (bytes : List ℕ) (long : ¬ IsNewDisk bytes) (known : ¬ IsForeign bytes) where
  abbrev First : Type 0
  First = (m : Market) × HasFirst m bytes

  by_first : (v : Version) (rest : List ℕ) → bytes ≡ disk_magic_of v ++ rest → First ⊎ (First → ⊥) → IsNotDenied ((opening : Opening) × IsOpening bytes opening)
  by_first v rest is (inl (m, first)) =
      let begin : Start = Kept m in
      let place = length (entries (head_of begin) []) in
      let begins : BeginsLegal begin bytes [] m place = record {
        lawful = first.lawful;
        journal = none_read begin m first.is_one refl;
        rest = first.rest;
        encoded = first.encoded;
        begins = refl;
      } in
      go_on begin bytes long known first.lawful
      (λ legal at. absurd (omega (arith, at, kept_place m (map records_of legal))))
      (length first.rest) [] m place begins first.rest refl (omega arith)
    where
      kept_place : (m : Market) (pairs : List RecordPair) → 13 ≤ length (entries (head_of (Kept m)) pairs)
      kept_place m pairs =
          omega (
            arith,
            ap length (append-nil (entries (head_of (Kept m)) pairs)),
            ap length (magic_first (head_of (Kept m)) pairs []),
            eight m.version,
            length-append (disk_magic_of m.version) ((1 ∷ framed (checkpoint_bytes m)) ++ (flat_map entry pairs ++ [])),
            length-append (1 ∷ framed (checkpoint_bytes m)) (flat_map entry pairs ++ []),
            length-framed (checkpoint_bytes m),
          )
  by_first v rest is (inr none) =
      let begin : Start = Empty v in
      let begins : BeginsLegal begin bytes [] (empty_market v) (length (entries (head_of begin) [])) = record {
        lawful = tt;
        journal = none_read begin (empty_market v) tt refl;
        rest = rest;
        encoded = is ∙ ap (λ (l : List ℕ). l ++ rest) (sym (magic_alone v));
        begins = refl;
      } in
      go_on begin bytes long known tt (λ legal at. λ m first. none (m, first)) (length rest) [] (empty_market v) (length (entries (head_of begin) [])) begins rest refl (omega arith)

module _ (bytes : List ℕ) (long : 9 < length bytes) (small : length bytes ≤ 2 ^ 60) where
  by_magic : ((v : Version) × (rest : List ℕ) × (Unit {0} × (bytes ≡ disk_magic_of v ++ rest))) → IsNotDenied ((opening : Opening) × IsOpening bytes opening)
  by_magic (v, [], (lawful, is)) = absurd (omega (arith, long, ap length is, length-append (disk_magic_of v) [], eight v))
  by_magic (v, commit ∷ rest, (lawful, is)) =
      let known : ¬ IsForeign bytes = λ foreign. elim foreign [ inl large ↦ omega (arith, small, large) | inr none ↦ none.1 v (commit ∷ rest) tt is ] in
      ⊎_elim
      (λ (is_open : commit ≡ 1). follows
      (by_first bytes (λ new. elim new [ inl short ↦ omega (arith, short, long) | inr closed ↦ closed.shut (sym (unset_commit bytes closed) ∙ commit_of v commit rest is ∙ is_open) ]) known v (commit ∷ rest) is)
      (one_of ((m : Market) × HasFirst m bytes)))
      (λ shut. not_denied (New, (inr (record { version = v; commit = commit; shut = shut; rest = rest; encoded = is }), known)))
      (cases_eq commit 1)
    where
      commit_of : (v : Version) (commit : ℕ) (rest : List ℕ) → bytes ≡ disk_magic_of v ++ commit ∷ rest → get_or bytes 8 0 ≡ commit
      commit_of One commit rest is = ap (λ (l : List ℕ). get_or l 8 0) is
      commit_of version commit rest is = ap (λ (l : List ℕ). get_or l 8 0) is

pub some_opening : SomeOpening
some_opening bytes = ⊎_elim
    (λ (short : length bytes ≤ 9). not_denied (New, (inl short, new_not_foreign bytes (inl short) (omega (arith, short)))))
    (λ (long : 9 < length bytes). ⊎_elim
    (λ (small : length bytes ≤ 2 ^ 60). ⊎_elim
    (λ begins. by_magic bytes long small begins)
    (λ none. not_denied (Foreign, inr (long, none)))
    (magic_told disk_magic_of disk_magics_told bytes))
    (λ (large : 2 ^ 60 < length bytes). not_denied (Foreign, inl large))
    (le_or_more (length bytes) (2 ^ 60)))
    (le_or_more (length bytes) 9)
