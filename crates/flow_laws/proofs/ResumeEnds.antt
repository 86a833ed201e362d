-- How a resumption ends, by the input.
use Rattle.std.proofs.Common.{◌≡◌, ◌≢◌, ◌⊎◌, ◌+◌, ◌<◌, ◌≤◌, ℕ, List, [], ◌∷◌, ◌++◌, map, length, take, append-nil, Ok, Err, inl, inr, refl, sym, ap, subst, ◌∙◌, arith}
use Rattle.std.specs.Prelude.{All}
use Rattle.std.proofs.lemmas.Bool.{cases_lt}
use Rattle.std.proofs.lemmas.List.{take_all}
use Rattle.std.specs.List.{flat_map}
use Rattle.wire_records.specs.Records.{Record}
use Rattle.wire_records.specs.Commands.{Pair}
use Rattle.wire_records.specs.Grammars.{encode_all}
use Rattle.wire_records.specs.Reading.{Ending, End, Torn, TooLong}
use Rattle.wire_records.specs.Formats.{commands, command_magic_of}
use Rattle.wire_records.proofs.ReadingLaws.{none_in_none}
use Rattle.wire_records.proofs.RecordCode.{commands_readable}
use Rattle.flow_orders.specs.Outcomes.{Outcome}
use Rattle.journal_records.specs.Pairs.{pair_encoding}
use Rattle.journal_records.proofs.PairPrefixes.{none_over}
use Rattle.market_rules.specs.Market.{Market}
use Rattle.word_driver.specs.Ended.{Ended}
use Rattle.word_driver.specs.declared.fault.Fault.TheVariants as fault
use Rattle.session_resume.specs.declared.first.Origin.{Origin}
use Rattle.session_resume.specs.declared.first.Origin.TheVariants.{Journal, Checkpoint}
use Rattle.session_resume.specs.declared.first.Unfit.{Unfit}
use Rattle.session_resume.specs.declared.first.Unfit.TheVariants as unfit
use Rattle.session_resume.specs.Continuing.{Continues}
use Rattle.session_resume.specs.Firsts.{First, Neither, NoCheckpoint, Illegal, Whole, IsFirst}
use Rattle.session_resume.specs.Rests.{Rest, Cut, Nothing, Commands, Other, IsRest, RestComesTo, IsNoFile, ServesAll, ended_by}
use Rattle.session_resume.specs.Resuming.{FirstComesTo}
use Rattle.exit_status.specs.declared.status.Status.{Status}
use Rattle.exit_status.specs.declared.status.Status.TheVariants as answer
use Rattle.flow_exchange.specs.Statuses.{ended_status, unfit_status}
use Rattle.flow_exchange.specs.Resuming.{ResumesTo}
use Rattle.flow_laws.specs.Laws.{IsInput, ResumptionsEnd}
use Rattle.flow_laws.proofs.Resumed.{none_continues}

-- ---- the end that a status comes from

abbrev why_of : Unfit → Ended Unfit
why_of why = Err (fault.Stopped why)

is_done : (limit : ℕ) (ended : Ended Unfit) → answer.Done ≡ ended_status limit unfit_status ended → ended ≡ Ok tt
is_done limit (Ok done) e = refl
is_done limit (Err fault.Read) e = absurd cc
is_done limit (Err fault.Write) e = absurd cc
is_done limit (Err fault.Memory) e = absurd cc
is_done limit (Err fault.NotFlow) e = absurd cc
is_done limit (Err (fault.Torn place)) e = absurd cc
is_done limit (Err fault.TooLong) e = absurd cc
is_done limit (Err (fault.Stopped (unfit.Illegal number))) e = absurd cc
is_done limit (Err (fault.Stopped unfit.NoCheckpoint)) e = absurd cc

is_illegal : (limit number : ℕ) (ended : Ended Unfit) → answer.Rejected number ≡ ended_status limit unfit_status ended → ended ≡ why_of (unfit.Illegal number)
is_illegal limit number (Ok done) e = absurd cc
is_illegal limit number (Err fault.Read) e = absurd cc
is_illegal limit number (Err fault.Write) e = absurd cc
is_illegal limit number (Err fault.Memory) e = absurd cc
is_illegal limit number (Err fault.NotFlow) e = absurd cc
is_illegal limit number (Err (fault.Torn place)) e = absurd cc
is_illegal limit number (Err fault.TooLong) e = absurd cc
is_illegal limit number (Err (fault.Stopped (unfit.Illegal other))) e = let same : number ≡ other = cc in ap (λ (k : ℕ). why_of (unfit.Illegal k)) (sym same)
is_illegal limit number (Err (fault.Stopped unfit.NoCheckpoint)) e = absurd cc

is_bad : (limit : ℕ) (ended : Ended Unfit) → answer.BadCheckpoint ≡ ended_status limit unfit_status ended → ended ≡ why_of unfit.NoCheckpoint
is_bad limit (Ok done) e = absurd cc
is_bad limit (Err fault.Read) e = absurd cc
is_bad limit (Err fault.Write) e = absurd cc
is_bad limit (Err fault.Memory) e = absurd cc
is_bad limit (Err fault.NotFlow) e = absurd cc
is_bad limit (Err (fault.Torn place)) e = absurd cc
is_bad limit (Err fault.TooLong) e = absurd cc
is_bad limit (Err (fault.Stopped (unfit.Illegal number))) e = absurd cc
is_bad limit (Err (fault.Stopped unfit.NoCheckpoint)) e = refl

abbrev no_flow : Ended Unfit
no_flow = Err fault.NotFlow

is_no_flow : (limit : ℕ) (ended : Ended Unfit) → answer.NotFlow ≡ ended_status limit unfit_status ended → ended ≡ no_flow
is_no_flow limit (Ok done) e = absurd cc
is_no_flow limit (Err fault.Read) e = absurd cc
is_no_flow limit (Err fault.Write) e = absurd cc
is_no_flow limit (Err fault.Memory) e = absurd cc
is_no_flow limit (Err fault.NotFlow) e = refl
is_no_flow limit (Err (fault.Torn place)) e = absurd cc
is_no_flow limit (Err fault.TooLong) e = absurd cc
is_no_flow limit (Err (fault.Stopped (unfit.Illegal number))) e = absurd cc
is_no_flow limit (Err (fault.Stopped unfit.NoCheckpoint)) e = absurd cc

-- ---- a complete input

-- what follows what is resumed from, and what is written for that
record After (market : Market) (More : Type 0) (rest text : List ℕ) : Type 0 where
  records : List Record
  new : Market
  is : ((rest ≡ []) × (records ≡ [])) ⊎ ((rest ≡ command_magic_of market.version ++ encode_all commands.units records) × All commands.units.IsLawful records)
  no_more : ¬ More
  continues : Continues market records new text

is_end : (ending : Ending) → ◌≡◌ {A = Ended Unfit} (Ok tt) (ended_by ending) → ending ≡ End
is_end End e = refl
is_end (Torn n) e = absurd cc
is_end TooLong e = absurd cc

module _ (kind : Origin) (market : Market) (More : Type 0) (place : ℕ) (rest : List ℕ) where
  served : (body text : List ℕ) → rest ≡ command_magic_of market.version ++ body → (serves : ServesAll market More (place + 8) body (Ok tt) text) → After market More rest text
  served body text magic serves =
      let last = is_end serves.ending serves.ends in
      let ends = rw last at serves.reads.ends in
      record {
        records = serves.records;
        new = serves.new;
        is = inr (magic ∙ ap (λ xs. command_magic_of market.version ++ xs) (serves.reads.whole ∙ ap (λ xs. encode_all commands.units serves.records ++ xs) ends.2 ∙ append-nil (encode_all commands.units serves.records)), serves.reads.each);
        no_more = ends.1;
        continues = serves.writes;
      }

  no_file : (kind : Origin) → rest ≢ [] → ¬ IsNoFile kind More place rest (Ok tt)
  no_file Journal some (ending, ends, is) = let last = is_end ending is in some (rw last at ends).2
  no_file Checkpoint some is = cc

  following : (what : Rest) (text : List ℕ) → IsRest market.version More rest what → RestComesTo kind market More place rest what (Ok tt) text → After market More rest text
  following Cut text is comes = absurd (let no = comes.0 in cc)
  following Nothing text is comes = record {
    records = [];
    new = market;
    is = inl (is.0, refl);
    no_more = is.1;
    continues = subst (Continues market [] market) (sym comes.1) (none_continues market);
  }
  following (Commands body) text is comes = served body text is comes
  following Other text is comes = absurd (no_file kind is.1 comes.0)

not_more : (limit n : ℕ) → (¬ (limit < n)) → n ≤ limit
not_more limit n none = elim (cases_lt limit n) [ inl more ↦ absurd (none more) | inr not ↦ not ]

module _ (limit : ℕ) (bytes : List ℕ) where
  abbrev More : Type 0
  More = limit < length bytes

  abbrev prefix : List ℕ
  prefix = take limit bytes

  abbrev WholeInput : List ℕ → Type 0
  WholeInput text = (market : Market) × (records : List Record) × (new : Market) × IsInput limit bytes market records × Continues market records new text

  done_first : (text : List ℕ) (first : First) → IsFirst prefix first → FirstComesTo More first (Ok tt) text → WholeInput text
  done_first text Neither stands comes = absurd (let no = comes.0 in cc)
  done_first text NoCheckpoint stands comes = absurd (elim comes.0 [ inl long ↦ (let no = long.1 in cc) | inr bad ↦ (let no = bad.1 in cc) ])
  done_first text (Illegal number) stands comes = absurd (let no = comes.0 in cc)
  done_first text (Whole kind market place rest) stands comes =
      let after = following kind market More place rest comes.0 text comes.1 comes.2 in
      let within = not_more limit (length bytes) after.no_more in (
        market,
        after.records,
        after.new,
        record { origin = kind; place = place; rest = rest; within = within; first = subst (λ (xs : List ℕ). IsFirst xs (Whole kind market place rest)) (take_all limit bytes within) stands; following = after.is },
        after.continues,
      )

  done_to : (text : List ℕ) → ResumesTo limit bytes answer.Done text → WholeInput text
  done_to text (ended, all, is) = done_first text all.first all.stands (subst (λ (e : Ended Unfit). FirstComesTo More all.first e text) (is_done limit ended is) all.comes)

  -- nothing is written for no records
  nothing : (market new : Market) (records : List Record) (text : List ℕ) → records ≡ [] → Continues market records new text → text ≡ []
  nothing market new records text none writes = writes.encoded ∙ ap (flat_map pair_encoding) (no_pairs writes.pairs (writes.answered.asked ∙ none))
    where
      no_pairs : (pairs : List (Pair Record Outcome)) → map (λ (pair : Pair Record Outcome). pair.asked) pairs ≡ [] → pairs ≡ []
      no_pairs [] e = refl
      no_pairs (pair ∷ pairs) e = absurd cc

  whole_after : (kind : Origin) (market new : Market) (records : List Record) (place : ℕ) (rest text : List ℕ) → (¬ More)
      → ((rest ≡ []) × (records ≡ [])) ⊎ ((rest ≡ command_magic_of market.version ++ encode_all commands.units records) × All commands.units.IsLawful records)
      → Continues market records new text → FirstComesTo More (Whole kind market place rest) (Ok tt) text
  whole_after kind market new records place rest text no_more (inl none) writes = (Nothing, (none.0, no_more), (refl, nothing market new records text none.1 writes))
  whole_after kind market new records place rest text no_more (inr file) writes = (
    Commands (encode_all commands.units records),
    file.0,
    record {
      records = records;
      ending = End;
      new = new;
      reads = record { rest = []; whole = sym (append-nil (encode_all commands.units records)); each = file.1; none = none_in_none commands.units commands_readable.units; ends = (none_over 1024 [] refl, no_more, refl) };
      ends = refl;
      writes = writes;
    },
  )

  done_from : (text : List ℕ) → WholeInput text → ResumesTo limit bytes answer.Done text
  done_from text (market, records, new, input, writes) = (
    Ok tt,
    record {
      first = Whole input.origin market input.place input.rest;
      stands = subst (λ (xs : List ℕ). IsFirst xs (Whole input.origin market input.place input.rest)) (sym (take_all limit bytes input.within)) input.first;
      comes = whole_after input.origin market new records input.place input.rest text (λ more. omega (arith, more, input.within)) input.following writes;
    },
    refl,
  )

  -- ---- the other ends

  -- what follows what is resumed from ends a resumption in no other way
  abbrev GoesThrough : Ended Unfit → Type 0
  GoesThrough ended = (ended ≡ Ok tt) ⊎ ((ended ≡ Err fault.TooLong) ⊎ ((n : ℕ) × (ended ≡ Err (fault.Torn n))))

  through_ending : (ending : Ending) → GoesThrough (ended_by ending)
  through_ending End = inl refl
  through_ending (Torn n) = inr (inr (n, refl))
  through_ending TooLong = inr (inl refl)

  through : (kind : Origin) (market : Market) (place : ℕ) (rest : List ℕ) (what : Rest) (ended : Ended Unfit) (text : List ℕ) → RestComesTo kind market More place rest what ended text → GoesThrough ended
  through kind market place rest Cut ended text comes = inr (inl comes.0)
  through kind market place rest Nothing ended text comes = inl comes.0
  through kind market place rest (Commands body) ended text comes = subst GoesThrough (sym comes.ends) (through_ending comes.ending)
  through Journal market place rest Other ended text comes = subst GoesThrough (sym comes.0.2) (through_ending comes.0.0)
  through Checkpoint market place rest Other ended text comes = inr (inr (place, comes.0))

  stops_not : (why : Unfit) → ¬ GoesThrough (why_of why)
  stops_not why (inl done) = cc
  stops_not why (inr (inl long)) = cc
  stops_not why (inr (inr torn)) = let no = torn.1 in cc

  flows : ¬ GoesThrough no_flow
  flows (inl done) = cc
  flows (inr (inl long)) = cc
  flows (inr (inr torn)) = let no = torn.1 in cc

  illegal_first : (number : ℕ) (text : List ℕ) (first : First) → IsFirst prefix first → FirstComesTo More first (why_of (unfit.Illegal number)) text → IsFirst prefix (Illegal number) × (text ≡ [])
  illegal_first number text Neither stands comes = absurd (let no = comes.0 in cc)
  illegal_first number text NoCheckpoint stands comes = absurd (elim comes.0 [ inl long ↦ (let no = long.1 in cc) | inr bad ↦ (let no = bad.1 in cc) ])
  illegal_first number text (Illegal other) stands comes =
      let e = comes.0 in
      let same : number ≡ other = cc in
      (subst (λ (k : ℕ). IsFirst prefix (Illegal k)) (sym same) stands, comes.1)
  illegal_first number text (Whole kind market place rest) stands comes = absurd (stops_not (unfit.Illegal number) (through kind market place rest comes.0 (why_of (unfit.Illegal number)) text comes.2))

  bad_first : (text : List ℕ) (first : First) → IsFirst prefix first → FirstComesTo More first (why_of unfit.NoCheckpoint) text → IsFirst prefix NoCheckpoint × (¬ More) × (text ≡ [])
  bad_first text Neither stands comes = absurd (let no = comes.0 in cc)
  bad_first text NoCheckpoint stands comes = elim comes.0 [ inl long ↦ absurd (let no = long.1 in cc) | inr bad ↦ (stands, bad.0, comes.1) ]
  bad_first text (Illegal other) stands comes = absurd (let no = comes.0 in cc)
  bad_first text (Whole kind market place rest) stands comes = absurd (stops_not unfit.NoCheckpoint (through kind market place rest comes.0 (why_of unfit.NoCheckpoint) text comes.2))

  no_flow_first : (text : List ℕ) (first : First) → IsFirst prefix first → FirstComesTo More first no_flow text → IsFirst prefix Neither × (text ≡ [])
  no_flow_first text Neither stands comes = (stands, comes.1)
  no_flow_first text NoCheckpoint stands comes = absurd (elim comes.0 [ inl long ↦ (let no = long.1 in cc) | inr bad ↦ (let no = bad.1 in cc) ])
  no_flow_first text (Illegal other) stands comes = absurd (let no = comes.0 in cc)
  no_flow_first text (Whole kind market place rest) stands comes = absurd (flows (through kind market place rest comes.0 no_flow text comes.2))

  -- the end that a status comes from is that of the beginning of the input
  told : (status : Status) (text : List ℕ) (end : Ended Unfit) (Claim : Type 0) → ((ended : Ended Unfit) → status ≡ ended_status limit unfit_status ended → ended ≡ end)
      → ((first : First) → IsFirst prefix first → FirstComesTo More first end text → Claim) → ResumesTo limit bytes status text → Claim
  told status text end Claim is_end claims (ended, all, is) =
      claims all.first all.stands (subst (λ (e : Ended Unfit). FirstComesTo More all.first e text) (is_end ended is) all.comes)

pub resumptions_end : ResumptionsEnd
resumptions_end = record {
  done = λ limit bytes text. (done_to limit bytes text, done_from limit bytes text);
  rejected = λ limit number bytes text. (
    told limit bytes (answer.Rejected number) text (why_of (unfit.Illegal number)) (IsFirst (take limit bytes) (Illegal number) × (text ≡ [])) (is_illegal limit number) (illegal_first limit bytes number text),
    λ (first, none). (why_of (unfit.Illegal number), record { first = Illegal number; stands = first; comes = (refl, none) }, refl),
  );
  bad = λ limit bytes text. (
    λ comes.
        let is = told limit bytes answer.BadCheckpoint text (why_of unfit.NoCheckpoint) (IsFirst (take limit bytes) NoCheckpoint × (¬ (limit < length bytes)) × (text ≡ [])) (is_bad limit) (bad_first limit bytes text) comes in
        let within = not_more limit (length bytes) is.1 in
        let first = subst (λ (xs : List ℕ). IsFirst xs NoCheckpoint) (take_all limit bytes within) is.0 in
        (first.0, first.1, within, is.2),
    λ (magic, none, within, empty). (
      why_of unfit.NoCheckpoint,
      record {
        first = NoCheckpoint;
        stands = subst (λ (xs : List ℕ). IsFirst xs NoCheckpoint) (sym (take_all limit bytes within)) (magic, none);
        comes = (inr (λ more. omega (arith, more, within), refl), empty);
      },
      refl,
    ),
  );
  not_flow = λ limit bytes text. (
    λ comes.
        let is = told limit bytes answer.NotFlow text no_flow (IsFirst (take limit bytes) Neither × (text ≡ [])) (is_no_flow limit) (no_flow_first limit bytes text) comes in
        (is.0.0, is.0.1, is.1),
    λ (none, neither, empty). (no_flow, record { first = Neither; stands = (none, neither); comes = (refl, empty) }, refl),
  );
}
