-- Each audit that reaches the end is one of a valid journal, bytes have one audit, and the same holds of replays.
use Rattle.std.proofs.Common.{◌≡◌, ◌≢◌, ◌+◌, ◌<◌, ◌≤◌, ◌⊎◌, ℕ, List, [], ◌∷◌, ◌++◌, map, length, inl, inr, Result, Ok, Err, refl, sym, ap, subst, ◌∙◌, arith}
use Rattle.std.proofs.lemmas.Bool.{cases_lt}
use Rattle.std.proofs.lemmas.List.{take_all, append-nil}
use Rattle.wire_records.specs.Records.{Record}
use Rattle.wire_records.specs.Commands.{Pair}
use Rattle.wire_records.specs.Grammars.{encode_all}
use Rattle.wire_records.specs.Reading.{Ending, End, Torn, TooLong, NotFlow, File, Reads}
use Rattle.wire_records.specs.declared.version.Version.{Version}
use Rattle.wire_records.proofs.ReadingLaws.{reads_one}
use Rattle.flow_orders.specs.Outcomes.{Outcome}
use Rattle.journal_records.specs.Formats.{journal_magic_of, journal_in, journals, records_of}
use Rattle.journal_records.proofs.Files.{journals_readable, journal_is_file, journal_is_read}
use Rattle.market_rules.specs.Market.{Market}
use Rattle.batch_audit.specs.Legal.{IsLegalJournal, AreJudged}
use Rattle.batch_audit.proofs.LawProofs.{one_judgement}
use Rattle.journal_replay.specs.declared.replaying.ReplayFault.{ReplayFault}
use Rattle.journal_replay.specs.declared.replaying.ReplayFault.TheVariants.{NotJournal, Illegal, Memory}
use Rattle.journal_replay.specs.declared.replaying.ReplayFault.TheVariants as fault
use Rattle.journal_replay.specs.Audits.{Audits}
use Rattle.journal_replay.specs.Replays.{IsReplayed}
use Rattle.journal_replay.specs.Laws.{AuditsToEndAreOfLegalJournals, OneAudit, MarketsAreOfLegalJournals, OneReplay}

-- all bytes are within the limit if there are no more
within : (limit : ℕ) (bytes : List ℕ) → (limit < length bytes → ⊥) → length bytes ≤ limit
within limit bytes none = elim (cases_lt limit (length bytes)) [ inl more ↦ absurd (none more) | inr not ↦ not ]

-- valid entries whose encoding in a version is these bytes, within the limit
abbrev LegalIn : ℕ → List ℕ → List (Pair Record Outcome) → Market → Type 0
LegalIn limit bytes pairs market = (version : Version) × IsLegalJournal version pairs market × (bytes ≡ journal_in version pairs) × (length bytes ≤ limit)

to_legal : (limit : ℕ) (bytes : List ℕ) (pairs : List (Pair Record Outcome)) (market : Market) → Audits limit bytes pairs [] End market → LegalIn limit bytes pairs market
to_legal limit bytes pairs market audits =
    let on = audits.reads.2 in
    let magic = journal_magic_of audits.version in
    let short = within limit bytes on.ends.1 in
    let same : audits.units ≡ map records_of pairs = audits.judged.parts ∙ append-nil (map records_of pairs) in
    let whole : bytes ≡ magic ++ encode_all journals.units (map records_of pairs) =
    sym (take_all limit bytes short) ∙ audits.reads.1.1
    ∙ ap (λ xs. magic ++ xs) (on.whole ∙ ap (λ xs. encode_all journals.units audits.units ++ xs) on.ends.2 ∙ append-nil (encode_all journals.units audits.units) ∙ ap (encode_all journals.units) same)
    in
    (audits.version, audits.judged.journal, whole ∙ sym (journal_is_file.file audits.version pairs), short)

of_legal : (limit : ℕ) (bytes : List ℕ) (pairs : List (Pair Record Outcome)) (market : Market) → LegalIn limit bytes pairs market → Audits limit bytes pairs [] End market
of_legal limit bytes pairs market (version, legal, whole, short) = record {
  version = version;
  units = map records_of pairs;
  reads = subst (λ (b : List ℕ). Reads journals limit b (File version (map records_of pairs) End)) (sym whole) (journal_is_read limit version pairs legal.each (rw whole at short));
  judged = record { parts = sym (append-nil (map records_of pairs)); journal = legal; stops = tt };
}

pub audits_to_end : AuditsToEndAreOfLegalJournals
audits_to_end limit bytes pairs market = (to_legal limit bytes pairs market, of_legal limit bytes pairs market)

-- two files that are one have the same parts
same_file : (v w : Version) (p q : List (Record × Record)) (e f : Ending) → File v p e ≡ File w q f → (v ≡ w) × (p ≡ q) × (e ≡ f)
same_file v w p q e f same = (cc, cc, cc)

pub one_audit : OneAudit
one_audit limit bytes p q x y e f m n a b =
    let one = same_file a.version b.version a.units b.units e f (reads_one journals journals_readable limit bytes (File a.version a.units e) (File b.version b.units f) a.reads b.reads) in
    let here = subst (λ (all : List (Record × Record)). AreJudged a.version all p x m) one.1 a.judged in
    let judged = one_judgement b.version b.units p q x y m n (subst (λ (v : Version). AreJudged v b.units p x m) one.0 here) b.judged in
    (judged.0, judged.1, one.2, judged.2)

pub markets_are : MarketsAreOfLegalJournals
markets_are bytes market = (
  λ replayed. let all = to_legal (length bytes) bytes replayed.0 market replayed.1 in (all.0, replayed.0, all.1, all.2),
  λ legal. (legal.1, of_legal (length bytes) bytes legal.1 market (legal.0, legal.2, legal.3, omega arith)),
)

-- the result for an audit of all bytes; no audit of all bytes ends at a limit, and the value given for that is arbitrary
abbrev answer_for : ℕ → List (Record × Record) → Ending → Market → Result Market ReplayFault
answer_for n (bad ∷ more) ending market = Err (Illegal (n + 1))
answer_for n [] End market = Ok market
answer_for n [] (Torn place) market = Err (fault.Torn place)
answer_for n [] TooLong market = Err Memory

-- the result if the entry of a number is invalid
abbrev illegal : ℕ → Result Market ReplayFault
illegal n = Err (Illegal n)

-- a result says that the bytes are no journal, or is that of an audit
abbrev Answered : List ℕ → Result Market ReplayFault → Type 0
Answered bytes answer =
    (Reads journals (length bytes) bytes NotFlow × (answer ≡ Err NotJournal))
    ⊎ ((legal : List (Pair Record Outcome)) × (following : List (Record × Record)) × (ending : Ending) × (market : Market) × Audits (length bytes) bytes legal following ending market
    × (answer ≡ answer_for (length legal) following ending market))

answered : (bytes : List ℕ) (answer : Result Market ReplayFault) → answer ≢ Err Memory → IsReplayed bytes answer → Answered bytes answer
answered bytes (Ok market) some replayed = inr (replayed.0, [], End, market, replayed.1, refl)
answered bytes (Err NotJournal) some replayed = inl (replayed, refl)
answered bytes (Err (fault.Torn place)) some replayed = inr (replayed.0, [], Torn place, replayed.1, replayed.2, refl)
answered bytes (Err (Illegal number)) some replayed =
    inr (replayed.legal, replayed.bad ∷ replayed.more, replayed.ending, replayed.market, replayed.audits, ap illegal replayed.counted)
answered bytes (Err Memory) some replayed = absurd (some refl)

-- a file of some version isn't `NotFlow`
no_file : (v : Version) (p : List (Record × Record)) (e : Ending) → NotFlow ≡ File v p e → ⊥
no_file v p e same = absurd cc

pub one_replay : OneReplay
one_replay bytes a b some other first second =
    elim (answered bytes a some first) [
      | inl x ↦
          elim (answered bytes b other second) [
            | inl y ↦ x.1 ∙ sym y.1
            | inr y ↦ absurd (no_file _ _ _ (reads_one journals journals_readable (length bytes) bytes NotFlow (File y.4.version y.4.units y.2) x.0 y.4.reads))
          ]
      | inr x ↦
          elim (answered bytes b other second) [
            | inl y ↦ absurd (no_file _ _ _ (reads_one journals journals_readable (length bytes) bytes NotFlow (File x.4.version x.4.units x.2) y.0 x.4.reads))
            | inr y ↦
                let one = one_audit (length bytes) bytes x.0 y.0 x.1 y.1 x.2 y.2 x.3 y.3 x.4 y.4 in
                x.5 ∙ ap (λ (p : List (Pair Record Outcome)). answer_for (length p) x.1 x.2 x.3) one.0 ∙ ap (λ (u : List (Record × Record)). answer_for (length y.0) u x.2 x.3) one.1
                ∙ ap (λ (e : Ending). answer_for (length y.0) y.1 e x.3) one.2 ∙ ap (answer_for (length y.0) y.1 y.2) one.3 ∙ sym y.5
          ]
    ]
