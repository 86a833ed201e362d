-- A sample's file is run and its journal audited, and there is some line on it.
use Rattle.std.proofs.Common.{◌≡◌, ◌+◌, ◌*◌, ◌≤◌, ℕ, List, [], ◌∷◌, map, length, refl, sym, ap, ◌∙◌, length-append, arith}
use Rattle.std.proofs.lemmas.List.{length-map}
use Rattle.wire_records.specs.Records.{Record, encoding}
use Rattle.wire_records.specs.Formats.{command_magic_of}
use Rattle.wire_records.specs.Commands.{Command, Pair}
use Rattle.wire_records.specs.CommandRecords.{record_of}
use Rattle.wire_records.specs.Reading.{File, End}
use Rattle.wire_records.specs.declared.version.Version.TheVariants.{One}
use Rattle.wire_records.proofs.Encoded.{length-encoding}
use Rattle.flow_orders.specs.Outcomes.{Outcome}
use Rattle.market_rules.specs.Market.{empty_market}
use Rattle.canonical_journals.proofs.LawProofs.{canonical_journals_are_legal}
use Rattle.journal_replay.specs.Audits.{cleared_in, skipped_in}
use Rattle.word_driver.proofs.SomeEnds.{some_end}
use Rattle.exchange_session.specs.Running.{run}
use Rattle.exchange_session.proofs.RunLaws.{run_is_exact, run_is_kept, run_has_next}
use Rattle.sample_market.specs.Files.{sample, encode_commands, sample_file}
use Rattle.sample_market.proofs.LawProofs.{samples_are_read}
use Rattle.sample_market.proofs.Short.{samples_are_short}
use Rattle.sample_summary.specs.Summary.{units_traded_in, summary_line}
use Rattle.exit_status.specs.declared.status.Status.{Status}
use Rattle.exit_status.specs.declared.status.Status.TheVariants as answer
use Rattle.flow_exchange.specs.Statuses.{ended_status}
use Rattle.flow_exchange.specs.Private.{no_reason}
use Rattle.flow_exchange.specs.Sampling.{SamplesTo}
use Rattle.flow_exchange.proofs.RunWord.{run_form, start}
use Rattle.flow_laws.specs.Laws.{SamplesAreRun}
use Rattle.flow_laws.proofs.AuditLaws.{done_for_legal}
use Rattle.flow_laws.proofs.EncodeLaws.{run_of}
use Rattle.flow_laws.proofs.RunsAudited.{orders_few}

pub samples_are_run : SamplesAreRun
samples_are_run number orders limit most bytes line status comes within =
    let sum = comes.1 in
    let pairs = sum.writes.pairs in
    record {
      pairs = pairs;
      journal = sum.journal;
      run = record { reading = File One (map record_of (sample number orders)) End; reads = samples_are_read most number orders within; ends = refl; writes = (sum.market, sum.writes) };
      audit = λ fits. done_for_legal.done most sum.journal One pairs sum.market (record { journal = sum.legal; encoded = sum.writes.encoded; within = fits });
      told = sum.told;
    }

-- commands are at most as many as their bytes
commands_few : (commands : List Command) → length commands ≤ length (encode_commands commands)
commands_few [] = omega arith
commands_few (c ∷ commands) = omega (arith, length-append (encoding (record_of c)) (encode_commands commands), length-encoding (record_of c), commands_few commands)

sample_few : (number orders : ℕ) → length (sample number orders) ≤ 11284 + 56 * orders
unfolding sample_file
sample_few number orders = omega (arith, samples_are_short number orders, commands_few (sample number orders), length-append (command_magic_of One) (encode_commands (sample number orders)))

pub some_sample : (number orders : ℕ) → orders ≤ 16384 → ((status : Status) (line : List ℕ) → ¬ SamplesTo number orders status line) → ⊥
some_sample number orders few none =
    let file = sample_file number orders in
    let records = map record_of (sample number orders) in
    some_end run start run_is_exact run_is_kept run_has_next (length file) file (λ ended text comes.
    let runs = run_form.to (length file) file ended text comes in
    let so = run_of One (length file) file text (ended_status (length file) no_reason ended) records (samples_are_read (length file) number orders (omega arith)) runs in
    let writes = so.2 in
    let market = so.1 in
    let asked : Pair Record Outcome → Record = λ p. p.asked in
    let count : length writes.pairs ≡ length (sample number orders) = sym (length-map writes.pairs asked) ∙ ap length writes.journal_of.asked ∙ length-map (sample number orders) record_of in
    let next = orders_few (empty_market One) market writes.pairs writes.journal_of.steps in
    none answer.Done (summary_line orders (cleared_in writes.pairs) (skipped_in writes.pairs) (units_traded_in writes.pairs)) (
      refl,
      record {
        market = market;
        journal = text;
        writes = writes;
        legal = record { each = writes.fits (omega (arith, next, count, sample_few number orders, few)); steps = (canonical_journals_are_legal One records writes.pairs market writes.journal_of).steps };
        told = refl;
      },
    ))
