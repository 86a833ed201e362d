-- Each input has a result and a text.
use Rattle.std.proofs.Common.{◌≡◌, ◌≢◌, ◌+◌, ◌<◌, ◌⊎◌, ℕ, List, [], ◌∷◌, ◌++◌, map, length, drop, Ok, Err, refl, ap, ◌∙◌, arith, inl, inr}
use Rattle.std.specs.Prelude.{All}
use Rattle.std.proofs.lemmas.List.Elements.{All-nil, All-cons, All-head, All-tail}
use Rattle.wire_records.specs.Records.{Record}
use Rattle.wire_records.specs.Commands.{Pair}
use Rattle.wire_records.specs.Versions.{IsReadAs}
use Rattle.wire_records.specs.Reading.{Ending, Torn, TooLong, EndsAs}
use Rattle.wire_records.specs.Formats.{commands, command_magic_of}
use Rattle.wire_records.specs.declared.version.Version.{Version}
use Rattle.wire_records.proofs.Readings.{read_own}
use Rattle.wire_records.proofs.ReadingLaws.{reads_on_some}
use Rattle.wire_records.proofs.RecordCode.{commands_readable}
use Rattle.flow_orders.specs.Outcomes.{Outcome, IsAdmissibleOutcome}
use Rattle.journal_records.specs.Pairs.{IsPair}
use Rattle.journal_records.specs.Formats.{journal_magic_of, journals, journal_in, records_of}
use Rattle.journal_records.proofs.Files.{journals_readable}
use Rattle.market_rules.specs.Market.{Market, IsConsistent, empty_market}
use Rattle.market_rules.specs.Journal.{Follows}
use Rattle.market_rules.proofs.LawProofs.{steps_keep_consistency, journals_stay_consistent}
use Rattle.canonical_journals.proofs.CanonicalIsLegal.{canonical_follows_are_admissible}
use Rattle.market_snapshot.specs.Checkpoints.{IsCheckpoint, HasCheckpointMagic}
use Rattle.batch_audit.specs.Legal.{IsLegalPair, StopsAt}
use Rattle.journal_replay.specs.Audits.{AuditsOn}
use Rattle.word_driver.specs.Ended.{Ended}
use Rattle.word_driver.specs.Laws.{IsNotDenied}
use Rattle.word_driver.specs.declared.fault.Fault.TheVariants as fault
use Rattle.word_driver.proofs.Denying.{not_denied, follows, one_of}
use Rattle.exchange_session.proofs.RunLaws.{can_be_read, has_step}
use Rattle.session_resume.specs.declared.first.Origin.{Origin}
use Rattle.session_resume.specs.declared.first.Origin.TheVariants.{Journal, Checkpoint}
use Rattle.session_resume.specs.declared.first.Unfit.{Unfit}
use Rattle.session_resume.specs.declared.first.Unfit.TheVariants as unfit
use Rattle.session_resume.specs.Firsts.{First, Neither, NoCheckpoint, Illegal, Whole, IsFirst}
use Rattle.session_resume.specs.Continuing.{Continues}
use Rattle.session_resume.specs.Rests.{Rest, Cut, Nothing, Commands, Other, IsRest, ServesAll, IsNoFile, RestComesTo, ended_by}
use Rattle.session_resume.specs.Resuming.{EndsUnsound, FirstComesTo, Resumes}
use Rattle.session_resume.proofs.Firsts.{legal_first, illegal_first}
use Rattle.session_resume.proofs.Written.{none_continues, continues_more}

-- ---- what bytes begin with

-- entries are some valid ones from a market on, and those after them, of which the first is invalid
record Judges (old : Market) (all : List (Record × Record)) : Type 0 where
  legal : List (Pair Record Outcome)
  following : List (Record × Record)
  new : Market
  parts : all ≡ map records_of legal ++ following
  each : All IsPair legal
  steps : Follows IsReadAs IsAdmissibleOutcome old legal new
  stops : StopsAt new following

judges_more : (old next : Market) (unit : Record × Record) (units : List (Record × Record)) → journals.units.IsLawful unit → IsLegalPair old unit next → Judges next units → Judges old (unit ∷ units)
judges_more old next unit units lawful one rest =
    let pair : Pair Record Outcome = record { asked = unit.0; answer = one.answer } in
    record {
      legal = pair ∷ rest.legal;
      following = rest.following;
      new = rest.new;
      parts = ap (λ xs. unit ∷ xs) rest.parts ∙ ap (λ (r : Record). (unit.0, r) ∷ (map records_of rest.legal ++ rest.following)) one.encoded.encoded;
      each = All-cons IsPair pair rest.legal (record { asked = lawful.0; answer = one.encoded.fits; answered = rw (← one.encoded.encoded) lawful.1 }) rest.each;
      steps = (next, one.step, rest.steps);
      stops = rest.stops;
    }

judges : (old : Market) (units : List (Record × Record)) → All journals.units.IsLawful units → IsNotDenied (Judges old units)
judges old [] each = not_denied (record { legal = []; following = []; new = old; parts = refl; each = All-nil IsPair; steps = refl; stops = tt })
judges old (unit ∷ units) each =
    follows
    (λ legal.
    elim legal [
      | inl (next, one) ↦ follows (λ rest. not_denied (judges_more old next unit units (All-head journals.units.IsLawful unit units each) one rest)) (judges next units (All-tail journals.units.IsLawful unit units each))
      | inr none ↦ not_denied (record { legal = []; following = unit ∷ units; new = old; parts = refl; each = All-nil IsPair; steps = refl; stops = λ next one. none (next, one) })
    ])
    (one_of ((next : Market) × IsLegalPair old unit next))

module _ (bytes : List ℕ) where
  abbrev Some : Type 0
  Some = (first : First) × IsFirst bytes first

  -- a journal begins
  module _ (version : Version) (begins : (body : List ℕ) × (Unit {0} × (bytes ≡ journal_magic_of version ++ body))) where
    some_parts : (legal : List (Pair Record Outcome)) (following : List (Record × Record)) (ending : Ending) (market : Market) → AuditsOn version 8 (Unit {0}) (drop 8 bytes) legal following ending market → Some
    some_parts legal [] ending market on =
        let place = length (journal_in version legal) in
        (Whole Journal market place (drop place bytes), legal_first version bytes begins (Unit {0}) legal ending market on place refl)
    some_parts legal (bad ∷ more) ending market on = (Illegal (length legal + 1), illegal_first version bytes begins (Unit {0}) legal ending market bad more (length legal + 1) on refl)

    some_journal : IsNotDenied Some
    some_journal =
        let on = reads_on_some journals journals_readable 8 (Unit {0}) (inl tt) (drop 8 bytes) in
        follows (λ (j : Judges (empty_market version) on.0). not_denied (some_parts j.legal j.following on.1 j.new (record { units = on.0; reads = on.2; judged = record { parts = j.parts; journal = record { each = j.each; steps = j.steps }; stops = j.stops } })))
        (judges (empty_market version) on.0 on.2.each)

  abbrev SomeKept : Type 0
  SomeKept = (market : Market) × (checkpoint : List ℕ) × (rest : List ℕ) × IsCheckpoint market checkpoint × (bytes ≡ checkpoint ++ rest)

  some_checkpoint : HasCheckpointMagic bytes → IsNotDenied Some
  some_checkpoint magic =
      follows
      (λ kept.
      elim kept [
        | inl (market, checkpoint, rest, is_one, whole) ↦ not_denied (Whole Checkpoint market (length checkpoint) rest, record { checkpoint = checkpoint; is_one = is_one; whole = whole; ends = refl })
        | inr none ↦ not_denied (NoCheckpoint, (magic, λ market prefix rest is_one whole. none (market, prefix, rest, is_one, whole)))
      ])
      (one_of SomeKept)

  some_first : IsNotDenied Some
  some_first =
      elim (journals_readable.magics.told bytes) [
        | inl magic ↦ some_journal magic.0 (magic.1, (tt, magic.2.1))
        | inr none ↦
            follows (λ has. elim has [ inl magic ↦ some_checkpoint magic | inr neither ↦ not_denied (Neither, (none, neither)) ]) (one_of (HasCheckpointMagic bytes))
      ]

-- ---- what follows it

some_rest : (version : Version) (More : Type 0) (rest : List ℕ) → IsNotDenied ((following : Rest) × IsRest version More rest following)
some_rest version More rest =
    follows
    (λ cut.
    elim cut [
      | inl is ↦ not_denied (Cut, is)
      | inr whole ↦
          follows
          (λ empty.
          elim empty [
            | inl none ↦ not_denied (Nothing, (none, λ more. whole (rw none (omega arith), more)))
            | inr some ↦
                follows
                (λ file.
                elim file [
                  | inl (body, magic) ↦ not_denied (Commands body, magic)
                  | inr other ↦ not_denied (Other, (whole, some, λ body magic. other (body, magic)))
                ])
                (one_of ((body : List ℕ) × (rest ≡ command_magic_of version ++ body)))
          ])
          (one_of (rest ≡ []))
    ])
    (one_of ((length rest < 8) × More))

-- ---- records are answered

abbrev Answered : Market → List Record → Type 0
Answered old records = (new : Market) × (text : List ℕ) × Continues old records new text

answered : (old : Market) (records : List Record) → IsConsistent old → All commands.units.IsLawful records → IsNotDenied (Answered old records)
answered old [] consistent each = not_denied (old, [], none_continues old)
answered old (r ∷ records) consistent each =
    follows
    (λ readable.
    let step = has_step old r consistent (All-head commands.units.IsLawful r records each) readable in
    let next = step.0 in
    let one : List (Pair Record Outcome) = record { asked = r; answer = step.2.answer } ∷ [] in
    let still = (journals_stay_consistent old one next consistent (canonical_follows_are_admissible IsReadAs read_own old one next consistent (next, step.2.step, refl))) in
    follows (λ (rest : Answered next records). not_denied (rest.0, step.1 ++ rest.1, continues_more old next rest.0 r records step.1 rest.1 step.2 rest.2)) (answered next records still (All-tail commands.units.IsLawful r records each)))
    (can_be_read r)

some_service : (market : Market) (More : Type 0) (place : ℕ) (body : List ℕ) → IsConsistent market → IsNotDenied ((ended : Ended Unfit) × (text : List ℕ) × ServesAll market More place body ended text)
some_service market More place body consistent =
    follows
    (λ more.
    let on = reads_on_some commands commands_readable place More more body in
    follows
    (λ (so : Answered market on.0).
    not_denied (ended_by on.1, so.1, record { records = on.0; ending = on.1; new = so.0; reads = on.2; ends = refl; writes = so.2 }))
    (answered market on.0 consistent on.2.each))
    (one_of More)

-- ---- inputs

some_ending : (More : Type 0) (rest : List ℕ) (place : ℕ) → rest ≢ [] → More ⊎ (¬ More) → (ending : Ending) × EndsAs journals More rest place ending
some_ending More rest place some more =
    elim (journals_readable.overlong rest) [
      | inl over ↦ (Torn place, (refl, inl over))
      | inr short ↦ elim more [ inl is ↦ (TooLong, (short, is)) | inr not ↦ (Torn place, (refl, inr (not, some))) ]
    ]

some_file : (origin : Origin) (More : Type 0) (place : ℕ) (rest : List ℕ) → rest ≢ [] → More ⊎ (¬ More) → (ended : Ended Unfit) × IsNoFile origin More place rest ended
some_file Journal More place rest some more = let ends = some_ending More rest place some more in (ended_by ends.0, (ends.0, ends.1, refl))
some_file Checkpoint More place rest some more = (Err (fault.Torn place), refl)

abbrev SomeEnd : (Ended Unfit → List ℕ → Type 0) → Type 0
SomeEnd Comes = (ended : Ended Unfit) × (text : List ℕ) × Comes ended text

some_after : (origin : Origin) (market : Market) (More : Type 0) (place : ℕ) (rest : List ℕ) (following : Rest) → IsConsistent market → IsRest market.version More rest following → IsNotDenied (SomeEnd (RestComesTo origin market More place rest following))
some_after origin market More place rest Cut consistent is = not_denied (Err fault.TooLong, [], (refl, refl))
some_after origin market More place rest Nothing consistent is = not_denied (Ok tt, [], (refl, refl))
some_after origin market More place rest (Commands body) consistent is = some_service market More (place + 8) body consistent
some_after origin market More place rest Other consistent is = follows (λ more. let file = some_file origin More place rest is.1 more in not_denied (file.0, [], (file.1, refl))) (one_of More)

-- the market of a first part is consistent
consistent_first : (bytes : List ℕ) (origin : Origin) (market : Market) (place : ℕ) (rest : List ℕ) → IsFirst bytes (Whole origin market place rest) → IsConsistent market
consistent_first bytes Journal market place rest first = (journals_stay_consistent (empty_market first.version) first.pairs market (steps_keep_consistency.0 first.version) first.legal.steps)
consistent_first bytes Checkpoint market place rest first = first.is_one.consistent

some_unsound : (More : Type 0) → More ⊎ (¬ More) → (ended : Ended Unfit) × EndsUnsound More ended
some_unsound More (inl more) = (Err fault.TooLong, inl (more, refl))
some_unsound More (inr none) = (Err (fault.Stopped unfit.NoCheckpoint), inr (none, refl))

some_comes : (More : Type 0) (bytes : List ℕ) (first : First) → IsFirst bytes first → IsNotDenied (SomeEnd (FirstComesTo More first))
some_comes More bytes Neither stands = not_denied (Err fault.NotFlow, [], (refl, refl))
some_comes More bytes NoCheckpoint stands = follows (λ more. let ends = some_unsound More more in not_denied (ends.0, [], (ends.1, refl))) (one_of More)
some_comes More bytes (Illegal number) stands = not_denied (Err (fault.Stopped (unfit.Illegal number)), [], (refl, refl))
some_comes More bytes (Whole origin market place rest) stands =
    follows
    (λ following.
    follows (λ (some : SomeEnd (RestComesTo origin market More place rest following.0)). not_denied (some.0, some.1, (following.0, following.1, some.2)))
    (some_after origin market More place rest following.0 (consistent_first bytes origin market place rest stands) following.1))
    (some_rest market.version More rest)

pub some_end_of : (More : Type 0) (bytes : List ℕ) → ((ended : Ended Unfit) (text : List ℕ) → ¬ Resumes More bytes ended text) → ⊥
some_end_of More bytes none =
    some_first bytes (λ first.
    some_comes More bytes first.0 first.1 (λ comes. none comes.0 comes.1 (record { first = first.0; stands = first.1; comes = comes.2 })))
