-- What serving, auditing and counting the records of a sample results in.
use Rattle.std.proofs.Common.{◌≡◌, ◌+◌, ◌≤◌, ℕ, List, [], ◌∷◌, ◌++◌, map, length, length-append, drop, false, IsTrue, refl, sym, ap, subst, ◌∙◌, arith}
use Rattle.std.specs.Prelude.{All}
use Rattle.std.proofs.lemmas.List.{take_all}
use Rattle.std.proofs.lemmas.List.Sums.{sum_by-cons}
use Rattle.std.proofs.lemmas.List.Elements.{All-nil, All-cons}
use Rattle.wire_records.specs.Records.{Record, IsRecord, most_body}
use Rattle.wire_records.specs.Commands.{Pair}
use Rattle.wire_records.specs.CommandRecords.{record_of}
use Rattle.wire_records.specs.Versions.{IsReadAs}
use Rattle.wire_records.specs.Reading.{Ending, End, ReadsOn}
use Rattle.wire_records.specs.Formats.{commands, command_magic_of}
use Rattle.wire_records.specs.declared.version.Version.{Version}
use Rattle.wire_records.specs.declared.version.Version.TheVariants.{One}
use Rattle.wire_records.proofs.Readings.{reading_unique}
use Rattle.wire_records.proofs.ReadingLaws.{reads_on_one}
use Rattle.wire_records.proofs.RecordCode.{commands_readable}
use Rattle.file_units.specs.Units.{Leads, GoesToEnd}
use Rattle.flow_orders.specs.Outcomes.{Outcome}
use Rattle.canonical_rule.specs.Canonical.{IsCanonicalOutcome}
use Rattle.journal_records.specs.Pairs.{IsPair}
use Rattle.journal_records.specs.Formats.{journal_magic_of}
use Rattle.market_rules.specs.Market.{Market, empty_market}
use Rattle.market_rules.specs.Journal.{IsAnswered}
use Rattle.canonical_journals.proofs.LawProofs.{canonical_journals_are_legal}
use Rattle.canonical_journals.proofs.OneCanonicalJournal.{one_canonical_journal}
use Rattle.journal_replay.specs.Audits.{cleared_by, skipped_by, cleared_in, skipped_in}
use Rattle.word_driver.specs.Word.{Goes}
use Rattle.exchange_session.specs.Journals.{Journals}
use Rattle.exchange_session.specs.Running.{run}
use Rattle.exchange_session.proofs.RunLaws.{run_version, run_is_kept}
use Rattle.sample_market.specs.Files.{sample, encode_commands, sample_file}
use Rattle.sample_market.proofs.LawProofs.{samples_are_read}
use Rattle.sample_summary.specs.declared.counting.Counts.{Counts}
use Rattle.sample_summary.specs.Summary.{units_by, units_traded_in, summary_line, Summarizes}
use Rattle.sample_summary.specs.Private.{State, SamplesOne}

-- what a step is
abbrev pub Takes : {O : Type 0} → State → Record → State → O → O → Type 0
Takes old asked new before after = SamplesOne old asked new

-- Records were answered, and their entries are valid and counted.
pub record HasSampled (old new : State) (records : List Record) : Type 0 where
  pub pairs : List (Pair Record Outcome)
  pub answered : IsAnswered IsReadAs IsCanonicalOutcome old.market records pairs new.market
  pub each : All IsPair pairs
  pub text : List ℕ
  pub goes : Goes run old.market records new.market text
  pub cleared : new.counts.cleared ≡ old.counts.cleared + cleared_in pairs
  pub skipped : new.counts.skipped ≡ old.counts.skipped + skipped_in pairs
  pub units : new.counts.units ≡ old.counts.units + units_traded_in pairs

has_sampled : {O : Type 0} (old new : State) (before after : O) (records : List Record) → Leads commands Takes old before records new after → HasSampled old new records
has_sampled old new before after [] leads = record {
  pairs = [];
  answered = record { asked = refl; steps = ap (λ (s : State). s.market) leads.0 };
  each = All-nil IsPair;
  text = [];
  goes = (ap (λ (s : State). s.market) leads.0, refl);
  cleared = rw leads.0 (omega arith);
  skipped = rw leads.0 (omega arith);
  units = rw leads.0 (omega arith);
}
has_sampled old new before after (r ∷ records) leads =
    let one = leads.2 in
    let rest = has_sampled leads.0 new leads.1 after records leads.3 in
    let pair : Pair Record Outcome = record { asked = r; answer = one.answers.answer } in
    record {
      pairs = pair ∷ rest.pairs;
      answered = record { asked = ap (λ xs. r ∷ xs) rest.answered.asked; steps = (leads.0.market, one.answers.step, rest.answered.steps) };
      each = All-cons IsPair pair rest.pairs one.fits rest.each;
      text = one.text ++ rest.text;
      goes = (leads.0.market, one.text, rest.text, one.answers, rest.goes, refl);
      cleared = omega (arith, rest.cleared, one.counts.cleared, sum_by-cons (λ (p : Pair Record Outcome). cleared_by p.answer) pair rest.pairs);
      skipped = omega (arith, rest.skipped, one.counts.skipped, sum_by-cons (λ (p : Pair Record Outcome). skipped_by p.answer) pair rest.pairs);
      units = omega (arith, rest.units, one.counts.units, sum_by-cons (λ (p : Pair Record Outcome). units_by p.answer) pair rest.pairs);
    }

-- the file of a sample is read as its records, and nothing else
records_are : (number orders : ℕ) (file : List ℕ) (units : List Record) (ending : Ending) → file ≡ sample_file number orders → ReadsOn commands 8 (IsTrue false) (drop 8 file) units ending → units ≡ map record_of (sample number orders)
records_are number orders file units ending is reads =
    let whole = samples_are_read (length (sample_file number orders)) number orders (omega arith) in
    let prefix = sym (take_all _ (sample_file number orders) (omega arith)) ∙ whole.1.1 in
    let following : drop 8 file ≡ whole.0 = ap (drop 8) (is ∙ prefix) in
    let on = whole.2 in
    let here : ReadsOn commands 8 (IsTrue false) (drop 8 file) (map record_of (sample number orders)) End = record {
      rest = on.rest;
      whole = following ∙ on.whole;
      each = on.each;
      none = on.none;
      ends = (on.ends.0, λ e. absurd cc, on.ends.2);
    } in
    (reads_on_one commands commands_readable 8 (IsTrue false) (drop 8 file) units (map record_of (sample number orders)) ending End reads here).0

module _ (number orders : ℕ) where
  records : List Record
  records = map record_of (sample number orders)

  -- the counts of a sample are those of its journal
  summarizes_run : (old new : State) (line : List ℕ) → All (IsRecord most_body) records → HasSampled old new records → old ≡ record { market = empty_market One; counts = record { cleared = 0; skipped = 0; units = 0 } }
      → line ≡ summary_line orders new.counts.cleared new.counts.skipped new.counts.units → Summarizes number orders line
  unfolding records
  summarizes_run old new line short sampled begins told =
      let market = new.market in
      let start : old.market ≡ empty_market One = ap (λ (s : State). s.market) begins in
      let goes = subst (λ (m : Market). Goes run m records market sampled.text) start sampled.goes in
      let version = run_version (empty_market One) market records sampled.text goes in
      let kept = run_is_kept One records market sampled.text short goes in
      let writes : Journals One records market (journal_magic_of One ++ sampled.text) = subst (λ (v : Version). Journals v records market (journal_magic_of v ++ sampled.text)) version kept in
      let answered = subst (λ (m : Market). IsAnswered IsReadAs IsCanonicalOutcome m records sampled.pairs market) start sampled.answered in
      let one : sampled.pairs ≡ writes.pairs = (one_canonical_journal IsReadAs reading_unique One records sampled.pairs writes.pairs market market answered writes.journal_of).0 in
      let none : old.counts ≡ record { cleared = 0; skipped = 0; units = 0 } = ap (λ (s : State). s.counts) begins in
      let cleared : new.counts.cleared ≡ cleared_in writes.pairs = omega (arith, sampled.cleared, ap (λ (c : Counts). c.cleared) none, ap cleared_in one) in
      let skipped : new.counts.skipped ≡ skipped_in writes.pairs = omega (arith, sampled.skipped, ap (λ (c : Counts). c.skipped) none, ap skipped_in one) in
      let units : new.counts.units ≡ units_traded_in writes.pairs = omega (arith, sampled.units, ap (λ (c : Counts). c.units) none, ap units_traded_in one) in
      record {
        market = market;
        journal = journal_magic_of One ++ sampled.text;
        writes = writes;
        legal = record { each = subst (λ (ps : List (Pair Record Outcome)). All IsPair ps) one sampled.each; steps = (canonical_journals_are_legal One records writes.pairs market writes.journal_of).steps };
        told = told ∙ ap (λ n. summary_line orders n new.counts.skipped new.counts.units) cleared ∙ ap (λ n. summary_line orders (cleared_in writes.pairs) n new.counts.units) skipped
            ∙ ap (λ n. summary_line orders (cleared_in writes.pairs) (skipped_in writes.pairs) n) units;
      }

  pub summarizes : {O : Type 0} (file : List ℕ) (old new : State) (before after : O) (ending : Ending) (line : List ℕ) → file ≡ sample_file number orders
      → GoesToEnd commands Takes 8 (IsTrue false) (drop 8 file) ending old new before after → old ≡ record { market = empty_market One; counts = record { cleared = 0; skipped = 0; units = 0 } }
      → line ≡ summary_line orders new.counts.cleared new.counts.skipped new.counts.units → Summarizes number orders line
  unfolding records
  summarizes file old new before after ending line is goes begins told =
      let all = records_are number orders file goes.units ending is goes.reads in
      let sampled = has_sampled old new before after goes.units goes.leads in
      summarizes_run old new line (subst (λ (rs : List Record). All (IsRecord most_body) rs) all goes.reads.each) (subst (λ (rs : List Record). HasSampled old new rs) all sampled) begins told

-- the file has at least the eight bytes of its magic
pub sample_long : (number orders : ℕ) → 8 ≤ length (sample_file number orders)
unfolding sample_file
sample_long number orders = omega (arith, length-append (command_magic_of One) (encode_commands (sample number orders)))
