-- Journals are read in one way.
use Rattle.std.proofs.Common.{◌≡◌, ◌≤◌, ◌++◌, ℕ, suc, List, [], ◌∷◌, map, length, inl, inr, refl, sym, ap, subst, ◌∙◌, arith}
use Rattle.std.specs.Prelude.{All}
use Rattle.std.specs.List.{flat_map}
use Rattle.std.proofs.lemmas.List.Elements.{All-map}
use Rattle.wire_records.specs.Records.{Record, most_body}
use Rattle.wire_records.specs.Commands.{Answer, Pair}
use Rattle.wire_records.specs.Grammars.{encode_all}
use Rattle.wire_records.specs.Reading.{Reading, File, End, Reads}
use Rattle.wire_records.specs.declared.version.Version.{Version}
use Rattle.wire_records.specs.Formats.{records, EitherStatesOver}
use Rattle.wire_records.proofs.Prefixes.{states_none-from_few}
use Rattle.wire_records.proofs.CodeLaws.{both_code}
use Rattle.wire_records.proofs.ReadingLaws.{IsReadable, none_in_none, file_read, reads_one}
use Rattle.wire_records.proofs.RecordCode.{AreMagics, record_code, magic_code, either_over_told}
use Rattle.flow_orders.specs.Outcomes.{Outcome}
use Rattle.journal_records.specs.Replies.{most_reply_body}
use Rattle.journal_records.specs.Pairs.{IsPair, pair_encoding}
use Rattle.journal_records.specs.Formats.{journal_magic_of, journals, journal_in, records_of}
use Rattle.journal_records.specs.Laws.{JournalIsFile, JournalIsRead, OneJournal}
use Rattle.journal_records.proofs.Encoded.{answer_unique}

-- each magic of a journal has eight bytes
pub eight : (version : Version) → length (journal_magic_of version) ≡ 8
eight version = refl

-- the magics of journals
pub journal_magics : AreMagics journal_magic_of
journal_magics = record { eight = eight; last = λ version. refl }

-- journals can be read
pub journals_readable : IsReadable journals
journals_readable = record {
  magics = magic_code journal_magic_of journal_magics;
  units = both_code (records most_body) (records most_reply_body) (record_code most_body (omega arith)) (record_code most_reply_body (omega arith));
  overlong = either_over_told most_body most_reply_body (omega arith);
}

-- entries are encoded as their records are
encoded_alike : (pairs : List (Pair Record Outcome)) → flat_map pair_encoding pairs ≡ encode_all journals.units (map records_of pairs)
unfolding pair_encoding
encoded_alike [] = refl
encoded_alike (pair ∷ pairs) = ap (λ xs. pair_encoding pair ++ xs) (encoded_alike pairs)

pub journal_is_file : JournalIsFile
journal_is_file = record {
  one = λ pairs. refl;
  file = λ version pairs. ap (λ xs. journal_magic_of version ++ xs) (encoded_alike pairs);
}

-- no bytes state no length above the limit
pub short_at_end : EitherStatesOver most_body most_reply_body [] → ⊥
short_at_end (inl over) = states_none-from_few over.0 [] (omega arith) over.1
short_at_end (inr later) = none_in_none (records most_body) (record_code most_body (omega arith)) later.0 later.1 later.2.0 later.2.1

pub journal_is_read : JournalIsRead
journal_is_read limit version pairs each fits =
    let file = journal_magic_of version ++ encode_all journals.units (map records_of pairs) in
    let same : journal_in version pairs ≡ file = journal_is_file.file version pairs in
    let lawful = All-map journals.units.IsLawful records_of pairs (λ k d in_list. ((each k d in_list).asked, (each k d in_list).answered)) in
    let small : length file ≤ limit = omega (arith, fits, ap length same) in
    subst (λ (bytes : List ℕ). Reads journals limit bytes (File version (map records_of pairs) End)) (sym same)
    (file_read journals journals_readable short_at_end limit version (map records_of pairs) tt lawful small)

-- an entry from its record and its answer
same_pair : (p q : Pair Record Outcome) → p.asked ≡ q.asked → p.answer ≡ q.answer → p ≡ q
same_pair p q a b =
    let made : Record → Answer Outcome → Pair Record Outcome = λ asked answer. record { asked = asked; answer = answer } in
    ap (λ asked. made asked p.answer) a ∙ ap (λ answer. made q.asked answer) b

heads : (a b : Record × Record) (x y : List (Record × Record)) → a ∷ x ≡ b ∷ y → (a ≡ b) × (x ≡ y)
heads a b x y e = (cc, cc)

-- entries with the same records are the same
pairs_unique : (p q : List (Pair Record Outcome)) → All IsPair p → All IsPair q → map records_of p ≡ map records_of q → p ≡ q
pairs_unique [] [] a b e = refl
pairs_unique [] (y ∷ ys) a b e = absurd cc
pairs_unique (x ∷ xs) [] a b e = absurd cc
pairs_unique (x ∷ xs) (y ∷ ys) a b e =
    let parts = heads (records_of x) (records_of y) (map records_of xs) (map records_of ys) e in
    let first : IsPair x = a 0 x (omega arith) in
    let second : IsPair y = b 0 y (omega arith) in
    let answers = answer_unique x.answer y.answer first.answer second.answer (ap (λ (r : Record × Record). r.1) parts.0) in
    let here = same_pair x y (ap (λ (r : Record × Record). r.0) parts.0) answers in
    let rest = pairs_unique xs ys (λ k d inside. a (suc k) d (omega (arith, inside))) (λ k d inside. b (suc k) d (omega (arith, inside))) parts.1 in
    rw (here, rest) refl

versions_of : (v w : Version) (x y : List (Record × Record)) → ◌≡◌ {A = Reading Version (Record × Record)} (File v x End) (File w y End) → (v ≡ w) × (x ≡ y)
versions_of v w x y e = (cc, cc)

pub one_journal : OneJournal
one_journal v w p q each each_too same =
    let limit = length (journal_in v p) in
    let first = journal_is_read limit v p each (omega arith) in
    let second = journal_is_read limit w q each_too (omega (arith, ap length same)) in
    let found = reads_one journals journals_readable limit (journal_in v p) (File v (map records_of p) End) (File w (map records_of q) End) first (subst (λ (bytes : List ℕ). Reads journals limit bytes (File w (map records_of q) End)) (sym same) second) in
    let parts = versions_of v w (map records_of p) (map records_of q) found in
    (parts.0, pairs_unique p q each each_too parts.1)
