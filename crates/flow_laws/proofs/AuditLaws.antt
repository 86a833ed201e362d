-- When an audit is done, when it rejects an entry, and how a subcommand over a history ends where none begins.
use Rattle.std.proofs.Common.{◌≡◌, ◌+◌, ◌<◌, ◌≤◌, ℕ, List, [], ◌∷◌, ◌++◌, map, length, take, inl, inr, refl, sym, ap, subst, ◌∙◌, append-nil, append_assoc, arith}
use Rattle.std.specs.Prelude.{All}
use Rattle.std.specs.List.{flat_map}
use Rattle.std.proofs.lemmas.Bool.{cases_lt}
use Rattle.std.proofs.lemmas.Grind.{flat_map-append}
use Rattle.std.proofs.lemmas.List.{take_all}
use Rattle.std.proofs.lemmas.List.Elements.{All-head, All-tail, All-map}
use Rattle.wire_records.specs.Records.{Record}
use Rattle.wire_records.specs.Commands.{Pair}
use Rattle.wire_records.specs.Reading.{Ending, End, Torn, TooLong}
use Rattle.wire_records.specs.Grammars.{encode_all}
use Rattle.wire_records.specs.declared.version.Version.{Version}
use Rattle.wire_records.proofs.ReadingLaws.{none_in_none}
use Rattle.flow_orders.specs.Outcomes.{Outcome}
use Rattle.journal_records.specs.Pairs.{IsPair, pair_encoding}
use Rattle.journal_records.specs.Formats.{journal_magic_of, journals, records_of}
use Rattle.journal_records.proofs.Files.{journals_readable, short_at_end}
use Rattle.market_rules.specs.Market.{Market}
use Rattle.market_snapshot.specs.Checkpoints.{HasCheckpointMagic}
use Rattle.market_history.specs.Histories.{Start, Empty, Kept, encode_start}
use Rattle.market_history.proofs.Starting.{kept_magic}
use Rattle.history_words.proofs.Starts.{other_magics}
use Rattle.session_resume.specs.Firsts.{BeginsIllegal}
use Rattle.journal_words.specs.Findings.{IsExplained}
use Rattle.exit_status.specs.declared.status.Status.TheVariants as answer
use Rattle.flow_exchange.specs.JournalFiles.{if_whole, audit_status}
use Rattle.flow_exchange.specs.HistoryFiles.{History, AreLegalFrom, IsHistory, IsNoHistory}
use Rattle.flow_exchange.specs.Auditing.{legal_line, audit_text}
use Rattle.flow_exchange.specs.Explaining.{Explains}
use Rattle.flow_exchange.proofs.HistoryOf.{history_of, makes_of, judged_all, judged_some}
use Rattle.flow_laws.specs.Laws.{EncodesHistory, EncodesLegal, DoneIsForHistories, DoneForLegalJournals, HasFirstIllegal, RejectedIsFirstIllegal, FirstIllegalOfJournals}

-- ---- what a status tells

-- a status that is Done leaves no entry, and comes of the end
pub done_all : (limit : ℕ) (ending : Ending) (legal : List (Pair Record Outcome)) (following : List (Record × Record)) → answer.Done ≡ audit_status limit ending legal following → (following ≡ []) × (ending ≡ End)
done_all limit End legal [] e = (refl, refl)
done_all limit (Torn n) legal [] e = absurd cc
done_all limit TooLong legal [] e = absurd cc
done_all limit ending legal (bad ∷ more) e = absurd cc

-- `if_whole` is its first value then
pub all_made : {A : Type 0} (following : List (Record × Record)) (ending : Ending) (whole broken : A) → (following ≡ []) × (ending ≡ End) → if_whole following ending whole broken ≡ whole
all_made following ending whole broken all = rw (all.0, all.1) refl

-- `if_whole` is its second value if an entry is rejected
none_made : {A : Type 0} (limit number : ℕ) (ending : Ending) (legal : List (Pair Record Outcome)) (following : List (Record × Record)) (whole broken : A) → answer.Rejected number ≡ audit_status limit ending legal following → if_whole following ending whole broken ≡ broken
none_made limit number End legal [] whole broken e = absurd cc
none_made limit number (Torn n) legal [] whole broken e = refl
none_made limit number TooLong legal [] whole broken e = refl
none_made limit number ending legal (bad ∷ more) whole broken e = refl

-- the statuses of bytes with which no history begins
pub no_history_done : (bytes : List ℕ) → IsNoHistory bytes answer.Done → ⊥
no_history_done bytes (inl other) = let no = other.1 in cc
no_history_done bytes (inr unsound) = let no = unsound.1 in cc

pub no_history_rejected : (bytes : List ℕ) (number : ℕ) → IsNoHistory bytes (answer.Rejected number) → ⊥
no_history_rejected bytes number (inl other) = let no = other.1 in cc
no_history_rejected bytes number (inr unsound) = let no = unsound.1 in cc

-- ---- histories whose entries are all valid

-- entries are encoded as their records are
pub encoded_alike : (pairs : List (Pair Record Outcome)) → flat_map pair_encoding pairs ≡ encode_all journals.units (map records_of pairs)
unfolding pair_encoding
encoded_alike [] = refl
encoded_alike (pair ∷ pairs) = ap (λ xs. pair_encoding pair ++ xs) (encoded_alike pairs)

-- their records are as records of entries are
pub lawful_pairs : (pairs : List (Pair Record Outcome)) → All IsPair pairs → All journals.units.IsLawful (map records_of pairs)
lawful_pairs pairs each = All-map journals.units.IsLawful records_of pairs (λ k d inside. ((each k d inside).asked, (each k d inside).answered))

-- all bytes are within the limit where there is no more
short : (limit : ℕ) (bytes : List ℕ) → (limit < length bytes → ⊥) → length bytes ≤ limit
short limit bytes none = elim (cases_lt limit (length bytes)) [ inl more ↦ absurd (none more) | inr not ↦ not ]

-- a history that is read to its end
pub to_end : (limit : ℕ) (bytes : List ℕ) (h : History) → (h.following ≡ []) × (h.ending ≡ End) → IsHistory limit bytes h → EncodesHistory limit bytes h.start h.legal h.market
to_end limit bytes h all is =
    let on = is.reads.2 in
    let ends = rw all.1 at on.ends in
    let within = short limit bytes ends.1 in
    let same : is.units ≡ map records_of h.legal = is.parts ∙ ap (λ xs. map records_of h.legal ++ xs) all.0 ∙ append-nil (map records_of h.legal) in
    record {
      begins = is.reads.1.0;
      legal = is.legal;
      encoded = sym (take_all limit bytes within) ∙ is.reads.1.1
          ∙ ap (λ xs. encode_start h.start ++ xs) (on.whole ∙ ap (λ xs. encode_all journals.units is.units ++ xs) ends.2 ∙ append-nil (encode_all journals.units is.units) ∙ ap (encode_all journals.units) same ∙ sym (encoded_alike h.legal));
      within = within;
    }

pub from_end : (limit : ℕ) (bytes : List ℕ) (start : Start) (pairs : List (Pair Record Outcome)) (market : Market) → EncodesHistory limit bytes start pairs market → IsHistory limit bytes (history_of start pairs market [] End)
from_end limit bytes start pairs market so =
    let units = map records_of pairs in
    judged_all limit bytes (encode_all journals.units units) start
    (so.begins, take_all limit bytes so.within ∙ so.encoded ∙ ap (λ xs. encode_start start ++ xs) (encoded_alike pairs))
    units [] (sym (append-nil (encode_all journals.units units))) (lawful_pairs pairs so.legal.each) pairs refl so.legal.each market so.legal.steps
    End (none_in_none journals.units journals_readable.units) (short_at_end, λ more. omega (arith, more, so.within), refl)

abbrev pub audited : History → List ℕ → Type 0
audited history text = text ≡ audit_text history

pub done_is_for_histories : DoneIsForHistories
done_is_for_histories limit bytes text = (
  λ comes.
      elim comes [
        | inl none ↦ absurd (no_history_done (take limit bytes) none.0)
        | inr file ↦
            let h = file.0 in
            let all = done_all limit h.ending h.legal h.following file.2 in
            (h.start, h.legal, h.market, to_end limit bytes h all file.1, file.3 ∙ all_made h.following h.ending (legal_line h.legal) [] all)
      ],
  λ (start, pairs, market, so, is). makes_of audited limit bytes answer.Done text (history_of start pairs market [] End) (from_end limit bytes start pairs market so) refl is,
)

-- ---- journals among them

-- a valid journal is a history that begins with the empty market
pub journal_history : (limit : ℕ) (bytes : List ℕ) (version : Version) (pairs : List (Pair Record Outcome)) (market : Market) → EncodesLegal limit bytes version pairs market → EncodesHistory limit bytes (Empty version) pairs market
journal_history limit bytes version pairs market so = record { begins = tt; legal = record { each = so.journal.each; steps = so.journal.steps }; encoded = so.encoded; within = so.within }

-- and a history that doesn't begin as a checkpoint is one
pub history_journal : (limit : ℕ) (bytes : List ℕ) (start : Start) (pairs : List (Pair Record Outcome)) (market : Market) → EncodesHistory limit bytes start pairs market → (HasCheckpointMagic bytes → ⊥)
    → (version : Version) × EncodesLegal limit bytes version pairs market
history_journal limit bytes (Empty version) pairs market so not = (version, record { journal = record { each = so.legal.each; steps = so.legal.steps }; encoded = so.encoded; within = so.within })
history_journal limit bytes (Kept kept) pairs market so not = absurd (not (kept_magic kept bytes (flat_map pair_encoding pairs) so.encoded))

pub done_for_legal : DoneForLegalJournals
done_for_legal = record {
  done = λ limit bytes version pairs market so. (done_is_for_histories limit bytes (legal_line pairs)).1 (Empty version, pairs, market, journal_history limit bytes version pairs market so, refl);
  only = λ limit bytes text not comes.
      let so = (done_is_for_histories limit bytes text).0 comes in
      let of = history_journal limit bytes so.0 so.1 so.2 so.3 not in
      (of.0, so.1, so.2, of.1, so.4);
}

-- ---- the first entry that isn't valid

-- one of a list's elements is lawful where all are
lawful_at : (units : List (Record × Record)) (bad : Record × Record) (more : List (Record × Record)) → All journals.units.IsLawful (units ++ bad ∷ more) → journals.units.IsLawful bad
lawful_at [] bad more each = All-head journals.units.IsLawful bad more each
lawful_at (u ∷ units) bad more each = lawful_at units bad more (All-tail journals.units.IsLawful u (units ++ bad ∷ more) each)

-- it comes right after the valid ones
first_illegal : (limit number : ℕ) (bytes : List ℕ) (start : Start) (legal : List (Pair Record Outcome)) (market : Market) (bad : Record × Record) (more : List (Record × Record)) (ending : Ending)
    → IsHistory limit bytes (history_of start legal market (bad ∷ more) ending) → number ≡ length legal + 1 → HasFirstIllegal limit bytes number
first_illegal limit number bytes start legal market bad more ending is counted =
    let on = is.reads.2 in
    let first = map records_of legal in
    let encode = journals.units.encode in
    let opened : encode_all journals.units is.units ≡ flat_map pair_encoding legal ++ (encode bad ++ encode_all journals.units more) =
    ap (encode_all journals.units) is.parts ∙ flat_map-append encode first (bad ∷ more) ∙ ap (λ xs. xs ++ (encode bad ++ encode_all journals.units more)) (sym (encoded_alike legal))
    in
    record {
      start = start;
      pairs = legal;
      market = market;
      bad = bad;
      rest = encode_all journals.units more ++ on.rest;
      begins = is.reads.1.0;
      legal = is.legal;
      whole = is.reads.1.1
          ∙ ap (λ xs. encode_start start ++ xs) (on.whole ∙ ap (λ xs. xs ++ on.rest) opened
          ∙ append_assoc (flat_map pair_encoding legal) (encode bad ++ encode_all journals.units more) on.rest
          ∙ ap (λ xs. flat_map pair_encoding legal ++ xs) (append_assoc (encode bad) (encode_all journals.units more) on.rest));
      lawful = lawful_at first bad more (rw is.parts at on.each);
      illegal = is.stops;
      counted = counted;
    }

-- a number is that of the first entry after the valid ones
rejected_file : (limit number : ℕ) (bytes : List ℕ) (start : Start) (legal : List (Pair Record Outcome)) (market : Market) (following : List (Record × Record)) (ending : Ending) → IsHistory limit bytes (history_of start legal market following ending)
    → answer.Rejected number ≡ audit_status limit ending legal following → HasFirstIllegal limit bytes number
rejected_file limit number bytes start legal market [] End is e = absurd cc
rejected_file limit number bytes start legal market [] (Torn n) is e = absurd cc
rejected_file limit number bytes start legal market [] TooLong is e = absurd cc
rejected_file limit number bytes start legal market (bad ∷ more) ending is e = first_illegal limit number bytes start legal market bad more ending is cc

-- and the line on it is written
pub explained_file : (limit number : ℕ) (bytes : List ℕ) (start : Start) (legal : List (Pair Record Outcome)) (market : Market) (following : List (Record × Record)) (ending : Ending) (line text : List ℕ) → IsHistory limit bytes (history_of start legal market following ending)
    → answer.Rejected number ≡ audit_status limit ending legal following → Explains market legal following line text → (first : HasFirstIllegal limit bytes number) × IsExplained first.market number first.bad text
unfolding first_illegal
explained_file limit number bytes start legal market [] End line text is e writes = absurd cc
explained_file limit number bytes start legal market [] (Torn n) line text is e writes = absurd cc
explained_file limit number bytes start legal market [] TooLong line text is e writes = absurd cc
explained_file limit number bytes start legal market (bad ∷ more) ending line text is e writes =
    let counted : number ≡ length legal + 1 = cc in
    (first_illegal limit number bytes start legal market bad more ending is counted, subst (λ (n : ℕ). IsExplained market n bad text) (sym counted) writes)

-- valid entries, and one after them that isn't valid, are read so
pub history_first : (limit number : ℕ) (bytes : List ℕ) (first : HasFirstIllegal limit bytes number)
    → (more : List (Record × Record)) × (ending : Ending) × IsHistory limit bytes (history_of first.start first.pairs first.market (first.bad ∷ more) ending)
history_first limit number bytes first =
    let units = map records_of first.pairs in
    let left = journals.units.encode first.bad ++ first.rest in
    judged_some limit bytes (encode_all journals.units units ++ left) first.start
    (first.begins, first.whole ∙ ap (λ xs. encode_start first.start ++ (xs ++ left)) (encoded_alike first.pairs))
    units left refl (lawful_pairs first.pairs first.legal.each) first.pairs refl first.legal.each first.market first.legal.steps
    first.bad first.rest (first.lawful, refl) first.illegal

pub rejected_is_first : RejectedIsFirstIllegal
rejected_is_first limit number bytes text = (
  λ comes.
      elim comes [
        | inl none ↦ absurd (no_history_rejected (take limit bytes) number none.0)
        | inr file ↦
            let h = file.0 in (
              rejected_file limit number bytes h.start h.legal h.market h.following h.ending file.1 file.2,
              file.3 ∙ none_made limit number h.ending h.legal h.following (legal_line h.legal) [] file.2,
            )
      ],
  λ illegal.
      let first = illegal.0 in
      let all = history_first limit number bytes first in
      makes_of audited limit bytes (answer.Rejected number) text (history_of first.start first.pairs first.market (first.bad ∷ all.0) all.1) all.2 (ap (λ (n : ℕ). answer.Rejected n) first.counted) illegal.1,
)

-- of journals
to_journal : (limit number : ℕ) (bytes : List ℕ) (first : HasFirstIllegal limit bytes number) (start : Start) → first.start ≡ start → (HasCheckpointMagic (take limit bytes) → ⊥) → BeginsIllegal (take limit bytes) number
to_journal limit number bytes first (Empty version) is not =
    let legal = subst (λ (s : Start). AreLegalFrom s first.pairs first.market) is first.legal in
    record {
      version = version;
      pairs = first.pairs;
      market = first.market;
      bad = first.bad;
      rest = first.rest;
      legal = record { each = legal.each; steps = legal.steps };
      whole = first.whole ∙ ap (λ (s : Start). encode_start s ++ (flat_map pair_encoding first.pairs ++ (journals.units.encode first.bad ++ first.rest))) is
          ∙ sym (append_assoc (journal_magic_of version) (flat_map pair_encoding first.pairs) (journals.units.encode first.bad ++ first.rest));
      lawful = first.lawful;
      illegal = first.illegal;
      counted = first.counted;
    }
to_journal limit number bytes first (Kept kept) is not =
    let rest = flat_map pair_encoding first.pairs ++ (journals.units.encode first.bad ++ first.rest) in
    absurd (not (kept_magic kept (take limit bytes) rest (first.whole ∙ ap (λ (s : Start). encode_start s ++ rest) is)))

pub first_illegal_of_journals : FirstIllegalOfJournals
first_illegal_of_journals limit number bytes = (
  λ of.
      let left = journals.units.encode of.bad ++ of.rest in
      let whole : take limit bytes ≡ journal_magic_of of.version ++ (flat_map pair_encoding of.pairs ++ left) = of.whole ∙ append_assoc (journal_magic_of of.version) (flat_map pair_encoding of.pairs) left in (
        record {
          start = Empty of.version;
          pairs = of.pairs;
          market = of.market;
          bad = of.bad;
          rest = of.rest;
          begins = tt;
          legal = record { each = of.legal.each; steps = of.legal.steps };
          whole = whole;
          lawful = of.lawful;
          illegal = of.illegal;
          counted = of.counted;
        },
        λ magic. other_magics of.version (take limit bytes) (flat_map pair_encoding of.pairs ++ left) whole magic,
      ),
  λ first. to_journal limit number bytes first.0 first.0.start refl first.1,
)
