-- The records that were served are the first ones of the source.
use Rattle.std.proofs.Common.{◌≡◌, ℕ, ◌-◌, ◌≤◌, List, [], ◌++◌, Option, Some, None, IfSome, Result, Ok, Err, All, length, take, sym, ap, subst, ◌∙◌, append_assoc}
use Rattle.std.proofs.lemmas.List.{append-nil, map-append}
use Rattle.std.proofs.lemmas.List.Elements.{All-take}
use Rattle.std.proofs.lemmas.Grind.{flat_map-append}
use Rattle.std.proofs.Math.Seq.{take-append_seam}
use Rattle.flow_io.specs.Streams.{Takes}
use Rattle.flow_io.specs.Windows.{WindowState}
use Rattle.wire_records.specs.Records.{Record}
use Rattle.wire_records.specs.Commands.{Pair}
use Rattle.wire_records.specs.Grammars.{BeginsWith, encode_all}
use Rattle.wire_records.specs.Reading.{StartsWith}
use Rattle.wire_records.specs.Formats.{commands}
use Rattle.flow_orders.specs.Outcomes.{Outcome}
use Rattle.market_rules.specs.Market.{Market}
use Rattle.market_history.specs.Histories.{Start}
use Rattle.file_units.specs.Inputs.{known}
use Rattle.disk_edge.specs.Disks.{DiskState}
use Rattle.file_units.specs.declared.units.Ending.{Ending}
use Rattle.file_units.specs.declared.input.TakeFault.{TakeFault}
use Rattle.file_units.specs.declared.input.TakeFault.TheVariants.{Read, Broken}
use Rattle.journal_keeping.specs.declared.fault.ServeFault.{ServeFault}
use Rattle.journal_keeping.specs.Starts.{source_start, sources}
use Rattle.journal_keeping.specs.Outputs.{Output}
use Rattle.journal_keeping.specs.Private.{ServesOn}
use Rattle.journal_keeping.specs.Dialogs.{asked_of}
use Rattle.journal_keeping.proofs.Turns.{Pairs}
use Rattle.journal_keeping.proofs.Sources.{BeginsWithAll, all_to_end, all_to_break, longer, starts_with}

-- no further record was at hand
none_more : (bytes : List ℕ) (new more : Pairs) → more ≡ [] → BeginsWithAll bytes (asked_of new) → BeginsWithAll bytes (asked_of (new ++ more))
none_more bytes new more none all = subst (λ (l : Pairs). BeginsWithAll bytes (asked_of l)) (sym (ap (λ (m : Pairs). new ++ m) none ∙ append-nil new)) all

-- the known bytes, from those that the window held on, begin with the records that were read, and with that of the last entry
pub read_first : (window : WindowState) (mid left : Option (List ℕ)) (result : Result Ending (TakeFault ServeFault)) (before : Market) (from : ℕ) (start end : DiskState) (out later : Output) (on : ServesOn window mid left result before from start end out later)
    → BeginsWithAll (take (window.limit - window.place) (window.held ++ known on.goes.taken left)) (asked_of (on.read ++ on.last))
read_first window mid left (Ok ending) before from start end out later on = none_more _ on.read on.last on.ended.0 (all_to_end _ _ _ _ on.read on.goes.goes.0)
read_first window mid left (Err Read) before from start end out later on =
    longer (length (window.held ++ on.goes.taken)) _ _ (none_more _ on.read on.last on.ended.0 (all_to_end _ _ _ _ on.read on.goes.goes))
read_first window mid left (Err (Broken fault)) before from start end out later on = all_to_break on.market _ fault on.read on.last on.goes.goes.0

-- and so with those of the entries that were added
pub served_first : (window : WindowState) (mid left : Option (List ℕ)) (result : Result Ending (TakeFault ServeFault)) (before : Market) (from : ℕ) (start end : DiskState) (out later : Output) (on : ServesOn window mid left result before from start end out later)
    → BeginsWithAll (take (window.limit - window.place) (window.held ++ known on.goes.taken left)) (asked_of (on.new ++ on.more))
served_first window mid left result before from start end out later on =
    subst (λ (l : Pairs). BeginsWithAll (take (window.limit - window.place) (window.held ++ known on.goes.taken left)) (asked_of l)) (sym on.all) (read_first window mid left result before from start end out later on)

-- the bytes of the source begin so, and with the served records
pub are_served : (input : Start) (limit : ℕ) (content mid left : Option (List ℕ)) (first held taken : List ℕ) (records : List Record) → Takes content mid first → BeginsWith sources.magics first input held → length first ≤ limit → Takes mid left taken
    → BeginsWithAll (take (limit - length (source_start input)) (held ++ known taken left)) records → IfSome content (λ bytes. StartsWith sources limit bytes input records)
are_served input limit None mid left first held taken records opens magic few takes all = tt
are_served input limit (Some bytes) mid left first held taken records opens magic few takes all = starts_with input limit bytes first held taken mid left records opens magic few takes all

-- bytes that begin with some records begin with the first of them
fewer : (bytes : List ℕ) (first more : List Record) → BeginsWithAll bytes (first ++ more) → BeginsWithAll bytes first
fewer bytes first more all = record {
  rest = encode_all commands.units more ++ all.rest;
  whole = all.whole ∙ ap (λ (l : List ℕ). l ++ all.rest) (flat_map-append commands.units.encode first more) ∙ append_assoc (encode_all commands.units first) (encode_all commands.units more) all.rest;
  each = subst (All commands.units.IsLawful) (take-append_seam first more) (All-take commands.units.IsLawful (length first) (first ++ more) all.each);
}

pub fewer_asked : (bytes : List ℕ) (new more : Pairs) → BeginsWithAll bytes (asked_of (new ++ more)) → BeginsWithAll bytes (asked_of new)
fewer_asked bytes new more all =
    fewer bytes (asked_of new) (asked_of more) (subst (λ (l : List Record). BeginsWithAll bytes l) (map-append (λ (p : Pair Record Outcome). p.asked) new more) all)
