-- What is encoded is read and served as what the lines ask for.
use Rattle.std.proofs.Common.{◌≡◌, ◌≤◌, ◌<◌, ◌+◌, ℕ, List, [], ◌++◌, All, Option, Some, None, Ok, Err, inl, inr, length, map, take, slice_index_or, append-nil, refl, sym, ap, subst, ◌∙◌, arith}
use Rattle.std.proofs.lemmas.List.{take_all}
use Rattle.std.proofs.lemmas.List.Elements.{All-map}
use Rattle.std.proofs.lemmas.List.Folds.{flat_map-map}
use Rattle.ticker_table.specs.Tickers.{AreTickers}
use Rattle.wire_records.specs.Records.{Record, IsRecord, encoding, most_body}
use Rattle.wire_records.specs.Commands.{Command}
use Rattle.wire_records.specs.CommandRecords.{record_of, IsCommand, HasShortRow}
use Rattle.wire_records.specs.Grammars.{encode_all}
use Rattle.wire_records.specs.Reading.{Reading, File, End, Reads, ReadsOn}
use Rattle.wire_records.specs.Versions.{IsOfVersion, IsReadAs}
use Rattle.wire_records.specs.declared.version.Version.{Version}
use Rattle.wire_records.specs.Formats.{commands, command_magic_of}
use Rattle.wire_records.proofs.Prefixes.{states_none-from_few}
use Rattle.wire_records.proofs.Readings.{command_short}
use Rattle.wire_records.proofs.ReadingLaws.{file_read, reads_one, reads_on_one, none_in_none}
use Rattle.wire_records.proofs.RecordCode.{commands_readable}
use Rattle.journal_records.proofs.PairPrefixes.{none_over}
use Rattle.market_rules.specs.Market.{Market}
use Rattle.market_snapshot.specs.Checkpoints.{IsCheckpoint}
use Rattle.word_driver.specs.Ended.{Ended}
use Rattle.word_driver.specs.declared.fault.Fault.TheVariants as fault
use Rattle.line_records.specs.Lines.{encode_commands}
use Rattle.line_records.proofs.Fitting.{commands_fit, no_tickers}
use Rattle.encode_word.specs.declared.stop.EncodeStop.{EncodeStop}
use Rattle.encode_word.specs.declared.stop.EncodeStop.TheVariants as stop
use Rattle.encode_word.specs.Starts.{known_after, BeginsUnkept, PrecedesLines}
use Rattle.encode_word.specs.Encoding.{EncodesLines, EncodesInput}
use Rattle.encode_word.proofs.LinesTo.{EncodeEnds}
use Rattle.exchange_session.specs.Journals.{Journals}
use Rattle.session_resume.specs.declared.first.Origin.TheVariants.{Checkpoint}
use Rattle.session_resume.specs.declared.first.Unfit.{Unfit}
use Rattle.session_resume.specs.Continuing.{Continues}
use Rattle.session_resume.specs.Firsts.{First, Whole, IsFirst}
use Rattle.session_resume.specs.Rests.{Rest, Commands, IsRest, RestComesTo, ServesAll, ended_by}
use Rattle.session_resume.specs.Resuming.{FirstComesTo, Resumes}
use Rattle.session_resume.proofs.OneFirst.{one_first, one_rest}
use Rattle.exit_status.specs.declared.status.Status.{Status}
use Rattle.exit_status.specs.declared.status.Status.TheVariants as answer
use Rattle.exit_status.specs.Statuses.{reading_status}
use Rattle.flow_exchange.specs.Statuses.{ended_status, unencoded, unfit_status}
use Rattle.flow_exchange.specs.Running.{WritesOf, RunsTo}
use Rattle.flow_laws.specs.Laws.{EncodedIsRead, EncodedIsServed, EncodedIsResumed, BadBeforeLines}

-- commands that fit, with short weight vectors, have records within the limit
all_within : (cs : List Command) → All IsCommand cs → All HasShortRow cs → All (IsRecord most_body) (map record_of cs)
all_within cs fit short = All-map (IsRecord most_body) record_of cs (λ k d within. command_short (slice_index_or cs k d) (fit k d within) (short k d within))

-- each record is read as its command
all_read : (version : Version) (cs : List Command) → All IsCommand cs → All (IsOfVersion version) cs → All (λ c. IsReadAs version (record_of c) (Ok c)) cs
all_read version cs fit own = λ k d within. (own k d within, record { fits = fit k d within; encoded = refl })

-- the file is read as the records
file_of : (version : Version) (most : ℕ) (text : List ℕ) (cs : List Command) → All (IsRecord most_body) (map record_of cs) → text ≡ command_magic_of version ++ encode_commands cs → length text ≤ most → Reads commands most text (File version (map record_of cs) End)
file_of version most text cs each is fits =
    let file_equal : command_magic_of version ++ encode_all commands.units (map record_of cs) ≡ text = ap (λ xs. command_magic_of version ++ xs) (flat_map-map encoding record_of cs) ∙ sym is in
    subst (λ (file : List ℕ). Reads commands most file (File version (map record_of cs) End)) file_equal
    (file_read commands commands_readable (λ over. states_none-from_few over.0 [] (omega arith) over.1) most version (map record_of cs) tt each (rw (ap length file_equal) fits))

-- the tickers that are known before the first line are tickers
pub are_known : (version : Version) (More : Type 0) (bytes : List ℕ) (start : Option Market) (lines : List ℕ) → PrecedesLines version More bytes start lines → AreTickers (known_after start)
are_known version More bytes None lines before = no_tickers
are_known version More bytes (Some market) lines before = before.0.consistent.tickers

-- so what is encoded fits
pub encoded_fit : (version : Version) (More : Type 0) (bytes text : List ℕ) (ended : Ended EncodeStop) (encoded : EncodesLines version More bytes ended text)
    → All IsCommand encoded.comes.commands × All HasShortRow encoded.comes.commands × All (IsOfVersion version) encoded.comes.commands
encoded_fit version More bytes text ended encoded =
    let reads = encoded.comes.reads in
    commands_fit version (known_after encoded.start) reads.read encoded.comes.commands reads.tickers (are_known version More bytes encoded.start encoded.lines encoded.begins) reads.say

pub encoded_is_read : EncodedIsRead
encoded_is_read version limit most bytes text ended encoded fits =
    let cs = encoded.comes.commands in
    let fit = encoded_fit version (limit < length bytes) (take limit bytes) text ended encoded in
    (file_of version most text cs (all_within cs fit.0 fit.1) encoded.comes.writes fits, all_read version cs fit.0 fit.2)

-- what a run of a file that is read to its end results in
pub run_of : (version : Version) (most : ℕ) (text journal : List ℕ) (ran : Status) (records : List Record) → Reads commands most text (File version records End) → (runs : RunsTo most text ran journal) → (ran ≡ answer.Done) × (market : Market) × Journals version records market journal
run_of version most text journal ran records reads runs =
    let one = reads_one commands commands_readable most text runs.reading (File version records End) runs.reads reads in
    let writes = subst (λ (reading : Reading Version Record). WritesOf reading journal) one runs.writes in
    (runs.ends ∙ ap (reading_status most) one, writes.0, writes.1)

pub encoded_is_served : EncodedIsServed
encoded_is_served version limit most bytes text journal ended ran encoded fits runs =
    run_of version most text journal ran (map record_of encoded.comes.commands) (encoded_is_read version limit most bytes text ended encoded fits).0 runs

-- ---- after a checkpoint

-- all records after a checkpoint and the magic of its version are answered
module _ (More : Type 0) (no_more : ¬ More) (market : Market) (checkpoint : List ℕ) (is_one : IsCheckpoint market checkpoint) (records : List Record) (each : All (IsRecord most_body) records) where
  abbrev body : List ℕ
  body = encode_all commands.units records

  abbrev rest : List ℕ
  rest = command_magic_of market.version ++ body

  abbrev part : First
  part = Whole Checkpoint market (length checkpoint) rest

  stands : IsFirst (checkpoint ++ rest) part
  stands = record { checkpoint = checkpoint; is_one = is_one; whole = refl; ends = refl }

  answered : (ended : Ended Unfit) (text : List ℕ) → ServesAll market More (length checkpoint + 8) body ended text → (ended ≡ Ok tt) × (new : Market) × Continues market records new text
  answered ended text serves =
      let reads : ReadsOn commands (length checkpoint + 8) More body records End = record { rest = []; whole = sym (append-nil body); each = each; none = none_in_none commands.units commands_readable.units; ends = (none_over 1024 [] refl, no_more, refl) } in
      let one = reads_on_one commands commands_readable (length checkpoint + 8) More body serves.records records serves.ending End serves.reads reads in
      (serves.ends ∙ ap ended_by one.1, serves.new, subst (λ (rs : List Record). Continues market rs serves.new text) one.0 serves.writes)

  following : (what : Rest) (ended : Ended Unfit) (text : List ℕ) → IsRest market.version More rest what → RestComesTo Checkpoint market More (length checkpoint) rest what ended text → (ended ≡ Ok tt) × (new : Market) × Continues market records new text
  following what ended text is comes =
      let one = one_rest market.version More rest what (Commands body) is refl in
      answered ended text (subst (λ (w : Rest). RestComesTo Checkpoint market More (length checkpoint) rest w ended text) one comes)

  resumed : (ended : Ended Unfit) (text : List ℕ) → Resumes More (checkpoint ++ rest) ended text → (ended ≡ Ok tt) × (new : Market) × Continues market records new text
  resumed ended text resumes =
      let one = one_first (checkpoint ++ rest) resumes.first part resumes.stands stands in
      let comes = subst (λ (first : First). FirstComesTo More first ended text) one resumes.comes in
      following comes.0 ended text comes.1 comes.2

pub encoded_is_resumed : EncodedIsResumed
encoded_is_resumed version limit most bytes text checkpoint entries ended resumed_as market encoded kept is_one fits (end, resumes, is) =
    let cs = encoded.comes.commands in
    let fit = encoded_fit version (limit < length bytes) (take limit bytes) text ended encoded in
    let before = subst (λ (start : Option Market). PrecedesLines version (limit < length bytes) (take limit bytes) start encoded.lines) kept encoded.begins in
    let file_equal : text ≡ command_magic_of market.version ++ encode_all commands.units (map record_of cs) =
    encoded.comes.writes ∙ ap (λ (v : Version). command_magic_of v ++ encode_commands cs) (sym before.1) ∙ ap (λ xs. command_magic_of market.version ++ xs) (sym (flat_map-map encoding record_of cs))
    in
    let no_more : ¬ (most < length (checkpoint ++ text)) = λ more. omega (arith, more, fits) in
    let here = subst (λ (xs : List ℕ). Resumes (most < length (checkpoint ++ text)) xs end entries) (take_all most (checkpoint ++ text) fits ∙ ap (λ xs. checkpoint ++ xs) file_equal) resumes in
    let done = resumed (most < length (checkpoint ++ text)) no_more market checkpoint is_one (map record_of cs) (all_within cs fit.0 fit.1) end entries here in
    (is ∙ ap (ended_status most unfit_status) done.0, done.1, done.2)

-- ---- a bad checkpoint

abbrev bad : Ended EncodeStop
bad = Err (fault.Stopped stop.NoCheckpoint)

is_bad : (limit : ℕ) (ended : Ended EncodeStop) → answer.BadCheckpoint ≡ ended_status limit unencoded ended → ended ≡ bad
is_bad limit (Ok done) e = absurd cc
is_bad limit (Err fault.Read) e = absurd cc
is_bad limit (Err fault.Write) e = absurd cc
is_bad limit (Err fault.Memory) e = absurd cc
is_bad limit (Err fault.NotFlow) e = absurd cc
is_bad limit (Err (fault.Torn place)) e = absurd cc
is_bad limit (Err fault.TooLong) e = absurd cc
is_bad limit (Err (fault.Stopped (stop.NoCommand number))) e = absurd cc
is_bad limit (Err (fault.Stopped stop.NoCheckpoint)) e = refl

-- lines don't end so
not_of_lines : (More : Type 0) (line : Option ℕ) → EncodeEnds More line bad → ⊥
not_of_lines More (Some number) e = absurd cc
not_of_lines More None (inl done) = absurd (let e = done.1 in cc)
not_of_lines More None (inr long) = absurd (let e = long.1 in cc)

bad_comes : (version : Version) (More : Type 0) (bytes text : List ℕ) → EncodesInput version More bytes bad text → BeginsUnkept version bytes × (text ≡ [])
bad_comes version More bytes text (inl encoded) = absurd (not_of_lines More encoded.comes.bad encoded.comes.ends)
bad_comes version More bytes text (inr (inl unkept)) = (unkept.0, unkept.2)
bad_comes version More bytes text (inr (inr cut)) = absurd (let e = cut.1 in cc)

pub bad_before_lines : BadBeforeLines
bad_before_lines version limit bytes text = (
  λ (ended, comes, is). bad_comes version (limit < length bytes) (take limit bytes) text (subst (λ (e : Ended EncodeStop). EncodesInput version (limit < length bytes) (take limit bytes) e text) (is_bad limit ended is) comes),
  λ (unkept, none). (bad, inr (inl (unkept, refl, none)), refl),
)
