-- Bytes have one first part, and one rest after it.
use Rattle.std.proofs.Common.{◌≡◌, ◌+◌, ◌≤◌, ℕ, List, [], ◌∷◌, ◌++◌, map, length, drop, get_or, append-nil, append_assoc, length-append, refl, sym, ap, subst, ◌∙◌, arith}
use Rattle.std.specs.Prelude.{All}
use Rattle.std.proofs.lemmas.Grind.{flat_map-append}
use Rattle.std.proofs.lemmas.List.{drop_at}
use Rattle.std.proofs.lemmas.List.Elements.{All-append, All-cons, All-map}
use Rattle.wire_records.specs.Records.{Record}
use Rattle.wire_records.specs.Commands.{Pair}
use Rattle.wire_records.specs.Grammars.{BeginsWithNone, encode_all}
use Rattle.wire_records.specs.Formats.{command_magic_of}
use Rattle.wire_records.specs.declared.version.Version.{Version}
use Rattle.wire_records.proofs.CodeLaws.{parted, values_unique}
use Rattle.flow_orders.specs.Outcomes.{Outcome}
use Rattle.wire_records.proofs.RecordCode.{eight}
use Rattle.journal_records.specs.Formats.{journal_magic_of, journals, journal_in, records_of}
use Rattle.journal_records.proofs.Files.{journals_readable, journal_is_file}
use Rattle.market_rules.specs.Market.{Market}
use Rattle.market_snapshot.specs.Checkpoints.{checkpoint_magic, checkpoint_bytes, HasCheckpointMagic}
use Rattle.market_snapshot.proofs.OneMarket.{one_market}
use Rattle.batch_audit.specs.Legal.{IsLegalJournal, AreJudged}
use Rattle.batch_audit.proofs.LawProofs.{one_judgement}
use Rattle.session_resume.specs.declared.first.Origin.TheVariants.{Journal, Checkpoint}
use Rattle.session_resume.specs.Firsts.{First, Neither, NoCheckpoint, Illegal, Whole, BeginsWithJournal, BeginsIllegal, BeginsWithCheckpoint, IsFirst}
use Rattle.session_resume.specs.Rests.{Rest, Cut, Nothing, Commands, Other, IsRest}

-- ---- a journal

-- The entries of a journal and the rest after them, judged.
record Judged (bytes : List ℕ) (version : Version) (legal : List (Pair Record Outcome)) (following : List (Record × Record)) (market : Market) (rest : List ℕ) : Type 0 where
  units : List (Record × Record)
  begins : bytes ≡ journal_magic_of version ++ (encode_all journals.units units ++ rest)
  each : All journals.units.IsLawful units
  none : BeginsWithNone journals.units rest
  judged : AreJudged version units legal following market

-- bytes are judged in one way
one_judged : (bytes : List ℕ) (v w : Version) (p q : List (Pair Record Outcome)) (x y : List (Record × Record)) (m n : Market) (r s : List ℕ) → Judged bytes v p x m r → Judged bytes w q y n s → (v ≡ w) × (p ≡ q) × (x ≡ y) × (m ≡ n) × (r ≡ s)
one_judged bytes v w p q x y m n r s a b =
    let magic = journals_readable.magics.one v w (encode_all journals.units a.units ++ r) (encode_all journals.units b.units ++ s) tt tt (sym a.begins ∙ b.begins) in
    let parts = values_unique journals.units journals_readable.units a.units b.units r s a.each b.each a.none b.none magic.1 in
    let here = subst (λ (z : Version). AreJudged z a.units p x m) magic.0 a.judged in
    let same = one_judgement w b.units p q x y m n (subst (λ (us : List (Record × Record)). AreJudged w us p x m) parts.0 here) b.judged in
    (magic.0, same.0, same.1, same.2, parts.1)

-- the entries of a valid journal are lawful as records
each_lawful : (version : Version) (pairs : List (Pair Record Outcome)) (market : Market) → IsLegalJournal version pairs market → All journals.units.IsLawful (map records_of pairs)
each_lawful version pairs market legal = All-map journals.units.IsLawful records_of pairs (λ k d inside. ((legal.each k d inside).asked, (legal.each k d inside).answered))

-- what follows a valid journal follows its records
after_records : (version : Version) (pairs : List (Pair Record Outcome)) (bytes left : List ℕ) → bytes ≡ journal_in version pairs ++ left → bytes ≡ journal_magic_of version ++ (encode_all journals.units (map records_of pairs) ++ left)
after_records version pairs bytes left whole =
    whole ∙ ap (λ xs. xs ++ left) (journal_is_file.file version pairs) ∙ append_assoc (journal_magic_of version) (encode_all journals.units (map records_of pairs)) left

of_legal : (bytes : List ℕ) (market : Market) (place : ℕ) (rest : List ℕ) (first : BeginsWithJournal bytes market place rest) → Judged bytes first.version first.pairs [] market rest
of_legal bytes market place rest first = record {
  units = map records_of first.pairs;
  begins = after_records first.version first.pairs bytes rest first.whole;
  each = each_lawful first.version first.pairs market first.legal;
  none = first.last;
  judged = record { parts = sym (append-nil (map records_of first.pairs)); journal = first.legal; stops = tt };
}

-- the entries after one that isn't valid, and the rest
record HasIllegal (bytes : List ℕ) (number : ℕ) (first : BeginsIllegal bytes number) : Type 0 where
  more : List (Record × Record)
  rest : List ℕ
  judged : Judged bytes first.version first.pairs (first.bad ∷ more) first.market rest

of_illegal : (bytes : List ℕ) (number : ℕ) (first : BeginsIllegal bytes number) → HasIllegal bytes number first
of_illegal bytes number first =
    let tail = parted journals.units journals_readable.units first.rest in
    let units = map records_of first.pairs in
    let encode = journals.units.encode in
    let all : encode_all journals.units (units ++ first.bad ∷ tail.values) ≡ encode_all journals.units units ++ (encode first.bad ++ encode_all journals.units tail.values) = flat_map-append encode units (first.bad ∷ tail.values) in
    record {
      more = tail.values;
      rest = tail.rest;
      judged = record {
        units = units ++ first.bad ∷ tail.values;
        begins = after_records first.version first.pairs bytes (encode first.bad ++ first.rest) first.whole
            ∙ ap (λ xs. journal_magic_of first.version ++ xs) (ap (λ xs. encode_all journals.units units ++ (encode first.bad ++ xs)) tail.whole
            ∙ ap (λ xs. encode_all journals.units units ++ xs) (sym (append_assoc (encode first.bad) (encode_all journals.units tail.values) tail.rest))
            ∙ sym (append_assoc (encode_all journals.units units) (encode first.bad ++ encode_all journals.units tail.values) tail.rest) ∙ ap (λ xs. xs ++ tail.rest) (sym all));
        each = All-append journals.units.IsLawful units (first.bad ∷ tail.values) (each_lawful first.version first.pairs first.market first.legal) (All-cons journals.units.IsLawful first.bad tail.values first.lawful tail.each);
        none = tail.none;
        judged = record { parts = refl; journal = first.legal; stops = first.illegal };
      };
    }

-- ---- magics

-- the bytes begin with the magic of a journal
abbrev HasJournalMagic : List ℕ → Type 0
HasJournalMagic bytes = (version : Version) × (body : List ℕ) × (bytes ≡ journal_magic_of version ++ body)

legal_magic : (bytes : List ℕ) (market : Market) (place : ℕ) (rest : List ℕ) → BeginsWithJournal bytes market place rest → HasJournalMagic bytes
legal_magic bytes market place rest first = (first.version, encode_all journals.units (map records_of first.pairs) ++ rest, after_records first.version first.pairs bytes rest first.whole)

illegal_magic : (bytes : List ℕ) (number : ℕ) → BeginsIllegal bytes number → HasJournalMagic bytes
illegal_magic bytes number first =
    let left = journals.units.encode first.bad ++ first.rest in
    (first.version, encode_all journals.units (map records_of first.pairs) ++ left, after_records first.version first.pairs bytes left first.whole)

-- a checkpoint begins with its magic
made_magic : (market : Market) → (rest : List ℕ) × (checkpoint_bytes market ≡ checkpoint_magic ++ rest)
unfolding checkpoint_bytes
made_magic market = (_, refl)

pub kept_magic : (bytes : List ℕ) (market : Market) (place : ℕ) (rest : List ℕ) → BeginsWithCheckpoint bytes market place rest → HasCheckpointMagic bytes
kept_magic bytes market place rest first =
    let made = made_magic market in
    (made.0 ++ rest, first.whole ∙ ap (λ xs. xs ++ rest) (first.is_one.encoded ∙ made.1) ∙ append_assoc checkpoint_magic made.0 rest)

-- no journal begins as a checkpoint
fifth : (version : Version) (body : List ℕ) → get_or (journal_magic_of version ++ body) 4 0 ≡ 74
fifth version body = refl

other_magics : (bytes : List ℕ) → HasJournalMagic bytes → HasCheckpointMagic bytes → ⊥
other_magics bytes (version, body, journal) (rest, checkpoint) =
    let here : 74 ≡ 83 = sym (fifth version body) ∙ ap (λ (xs : List ℕ). get_or xs 4 0) (sym journal ∙ checkpoint) in
    omega (arith, here)

-- ---- what bytes begin with

module _ (bytes : List ℕ) where
  one_legal : (m n : Market) (p q : ℕ) (r s : List ℕ) → BeginsWithJournal bytes m p r → BeginsWithJournal bytes n q s → Whole Journal m p r ≡ Whole Journal n q s
  one_legal m n p q r s a b =
      let one = one_judged bytes a.version b.version a.pairs b.pairs [] [] m n r s (of_legal bytes m p r a) (of_legal bytes n q s b) in
      let places : p ≡ q = a.ends ∙ ap (λ (v : Version). length (journal_in v a.pairs)) one.0 ∙ ap (λ (ps : List (Pair Record Outcome)). length (journal_in b.version ps)) one.1 ∙ sym b.ends in
      ap (λ (k : Market). Whole Journal k p r) one.3 ∙ ap (λ k. Whole Journal n k r) places ∙ ap (λ k. Whole Journal n q k) one.4

  legal_or_not : (m : Market) (p number : ℕ) (r : List ℕ) → BeginsWithJournal bytes m p r → BeginsIllegal bytes number → ⊥
  legal_or_not m p number r a b =
      let has = of_illegal bytes number b in
      let none : ◌≡◌ {A = List (Record × Record)} [] (b.bad ∷ has.more) = (one_judged bytes a.version b.version a.pairs b.pairs [] (b.bad ∷ has.more) m b.market r has.rest (of_legal bytes m p r a) has.judged).2 in
      absurd (omega (arith, ap length none))

  one_illegal : (i j : ℕ) → BeginsIllegal bytes i → BeginsIllegal bytes j → Illegal i ≡ Illegal j
  one_illegal i j a b =
      let first = of_illegal bytes i a in
      let other = of_illegal bytes j b in
      let one = one_judged bytes a.version b.version a.pairs b.pairs (a.bad ∷ first.more) (b.bad ∷ other.more) a.market b.market first.rest other.rest first.judged other.judged in
      ap (λ (k : ℕ). Illegal k) (a.counted ∙ ap (λ (ps : List (Pair Record Outcome)). length ps + 1) one.1 ∙ sym b.counted)

  one_kept : (m n : Market) (p q : ℕ) (r s : List ℕ) → BeginsWithCheckpoint bytes m p r → BeginsWithCheckpoint bytes n q s → Whole Checkpoint m p r ≡ Whole Checkpoint n q s
  one_kept m n p q r s a b =
      let one = one_market m n a.checkpoint b.checkpoint r s a.is_one b.is_one (sym a.whole ∙ b.whole) in
      let places : p ≡ q = omega (arith, a.ends, b.ends, ap length a.whole, ap length b.whole, ap length one.1, length-append a.checkpoint r, length-append b.checkpoint s) in
      ap (λ (k : Market). Whole Checkpoint k p r) one.0 ∙ ap (λ k. Whole Checkpoint n k r) places ∙ ap (λ k. Whole Checkpoint n q k) one.1

  pub one_first : (a b : First) → IsFirst bytes a → IsFirst bytes b → a ≡ b
  one_first Neither Neither is also = refl
  one_first Neither NoCheckpoint is also = absurd (is.1 also.0)
  one_first Neither (Illegal n) is also = let magic = illegal_magic bytes n also in absurd (is.0 magic.0 magic.1 tt magic.2)
  one_first Neither (Whole Journal m p r) is also = let magic = legal_magic bytes m p r also in absurd (is.0 magic.0 magic.1 tt magic.2)
  one_first Neither (Whole Checkpoint m p r) is also = absurd (is.1 (kept_magic bytes m p r also))
  one_first NoCheckpoint Neither is also = absurd (also.1 is.0)
  one_first NoCheckpoint NoCheckpoint is also = refl
  one_first NoCheckpoint (Illegal n) is also = absurd (other_magics bytes (illegal_magic bytes n also) is.0)
  one_first NoCheckpoint (Whole Journal m p r) is also = absurd (other_magics bytes (legal_magic bytes m p r also) is.0)
  one_first NoCheckpoint (Whole Checkpoint m p r) is also = absurd (is.1 m also.checkpoint r also.is_one also.whole)
  one_first (Illegal n) Neither is also = let magic = illegal_magic bytes n is in absurd (also.0 magic.0 magic.1 tt magic.2)
  one_first (Illegal n) NoCheckpoint is also = absurd (other_magics bytes (illegal_magic bytes n is) also.0)
  one_first (Illegal n) (Illegal k) is also = one_illegal n k is also
  one_first (Illegal n) (Whole Journal m p r) is also = absurd (legal_or_not m p n r also is)
  one_first (Illegal n) (Whole Checkpoint m p r) is also = absurd (other_magics bytes (illegal_magic bytes n is) (kept_magic bytes m p r also))
  one_first (Whole Journal m p r) Neither is also = let magic = legal_magic bytes m p r is in absurd (also.0 magic.0 magic.1 tt magic.2)
  one_first (Whole Journal m p r) NoCheckpoint is also = absurd (other_magics bytes (legal_magic bytes m p r is) also.0)
  one_first (Whole Journal m p r) (Illegal n) is also = absurd (legal_or_not m p n r is also)
  one_first (Whole Journal m p r) (Whole Journal n q s) is also = one_legal m n p q r s is also
  one_first (Whole Journal m p r) (Whole Checkpoint n q s) is also = absurd (other_magics bytes (legal_magic bytes m p r is) (kept_magic bytes n q s also))
  one_first (Whole Checkpoint m p r) Neither is also = absurd (also.1 (kept_magic bytes m p r is))
  one_first (Whole Checkpoint m p r) NoCheckpoint is also = absurd (also.1 m is.checkpoint r is.is_one is.whole)
  one_first (Whole Checkpoint m p r) (Illegal n) is also = absurd (other_magics bytes (illegal_magic bytes n also) (kept_magic bytes m p r is))
  one_first (Whole Checkpoint m p r) (Whole Journal n q s) is also = absurd (other_magics bytes (legal_magic bytes n q s also) (kept_magic bytes m p r is))
  one_first (Whole Checkpoint m p r) (Whole Checkpoint n q s) is also = one_kept m n p q r s is also

-- ---- what follows it

module _ (version : Version) (More : Type 0) (rest : List ℕ) where
  -- a magic has eight bytes
  long : (body : List ℕ) → rest ≡ command_magic_of version ++ body → 8 ≤ length rest
  long body e = omega (arith, ap length e, length-append (command_magic_of version) body, eight version)

  pub one_rest : (a b : Rest) → IsRest version More rest a → IsRest version More rest b → a ≡ b
  one_rest Cut Cut is also = refl
  one_rest Cut Nothing is also = absurd (also.1 is.1)
  one_rest Cut (Commands y) is also = absurd (omega (arith, is.0, long y also))
  one_rest Cut Other is also = absurd (also.0 is)
  one_rest Nothing Cut is also = absurd (is.1 also.1)
  one_rest Nothing Nothing is also = refl
  one_rest Nothing (Commands y) is also = absurd (omega (arith, ap length is.0, long y also))
  one_rest Nothing Other is also = absurd (also.1 is.0)
  one_rest (Commands x) Cut is also = absurd (omega (arith, also.0, long x is))
  one_rest (Commands x) Nothing is also = absurd (omega (arith, ap length also.0, long x is))
  one_rest (Commands x) (Commands y) is also =
      let first = drop_at (command_magic_of version) x 8 (eight version) in
      let other = drop_at (command_magic_of version) y 8 (eight version) in
      ap (λ (k : List ℕ). Commands k) (sym first ∙ ap (drop 8) (sym is ∙ also) ∙ other)
  one_rest (Commands x) Other is also = absurd (also.2 x is)
  one_rest Other Cut is also = absurd (is.0 also)
  one_rest Other Nothing is also = absurd (is.1 also.0)
  one_rest Other (Commands y) is also = absurd (is.2 y also)
  one_rest Other Other is also = refl
