-- The records that were served are the first ones of what was read.
use Rattle.std.proofs.Common.{◌≡◌, ⊎_elim, ℕ, ◌-◌, ◌+◌, List, [], ◌∷◌, ◌++◌, Option, Some, None, ◌≤◌, length, take, drop, refl, sym, ap, subst, ◌∙◌, arith, append_assoc, length-append, take-append-drop}
use Rattle.std.specs.Prelude.{All, ⊤}
use Rattle.std.proofs.lemmas.List.{append-nil, map-append}
use Rattle.std.proofs.lemmas.List.Elements.{All-append, All-cons, All-nil}
use Rattle.std.proofs.lemmas.Grind.{flat_map-append}
use Rattle.std.proofs.Math.Seq.{take-append-add}
use Rattle.flow_io.specs.Streams.{Takes}
use Rattle.wire_records.specs.Records.{Record}
use Rattle.wire_records.specs.Commands.{Pair}
use Rattle.wire_records.specs.Grammars.{BeginsWith, encode_all}
use Rattle.wire_records.specs.Reading.{Ending, StartsWith}
use Rattle.wire_records.specs.Formats.{commands}
use Rattle.flow_orders.specs.Outcomes.{Outcome}
use Rattle.market_rules.specs.Market.{Market}
use Rattle.market_rules.specs.Allocating.{RecordMayAllocate}
use Rattle.market_history.specs.Histories.{Start}
use Rattle.file_units.specs.Units.{Leads, GoesToEnd, GoesToBreak}
use Rattle.file_units.specs.Inputs.{known}
use Rattle.journal_keeping.specs.declared.fault.ServeFault.{ServeFault}
use Rattle.journal_keeping.specs.declared.fault.ServeFault.TheVariants.{Memory}
use Rattle.journal_keeping.specs.Starts.{source_start, sources}
use Rattle.journal_keeping.specs.Private.{Adds, Names}
use Rattle.journal_keeping.specs.Dialogs.{asked_of}
use Rattle.journal_keeping.proofs.Turns.{Pairs}

-- bytes that begin with these records
pub record BeginsWithAll (bytes : List ℕ) (records : List Record) : Type 0 where
  pub rest : List ℕ
  pub whole : bytes ≡ encode_all commands.units records ++ rest
  pub each : All commands.units.IsLawful records

pub asked_are_units : (old : Pairs) (units : List Record) (new : Pairs) (x y : ⊤) → Leads commands Adds old x units new y → asked_of new ≡ asked_of old ++ units
asked_are_units old [] new x y leads = ap asked_of leads.0 ∙ sym (append-nil (asked_of old))
asked_are_units old (unit ∷ units) new x y leads =
    let next = leads.0 in
    let step = leads.2 in
    let asked : Pair Record Outcome → Record = λ p. p.asked in
    asked_are_units next units new leads.1 y leads.3
    ∙ ap (λ (l : Pairs). asked_of l ++ units) step.2
    ∙ ap (λ (l : List Record). l ++ units) (map-append asked old (step.0 ∷ []))
    ∙ append_assoc (asked_of old) (step.0.asked ∷ []) units
    ∙ ap (λ (r : Record). asked_of old ++ r ∷ units) step.1

-- all records that were taken
pub all_to_end : (place : ℕ) (More : Type 0) (bytes : List ℕ) (ending : Ending) (new : Pairs) → GoesToEnd commands Adds place More bytes ending [] new tt tt → BeginsWithAll bytes (asked_of new)
all_to_end place More bytes ending new goes =
    let is = asked_are_units [] goes.units new tt tt goes.leads in
    subst (λ (l : List Record). BeginsWithAll bytes l) (sym is) (record { rest = goes.reads.rest; whole = goes.reads.whole; each = goes.reads.each })

-- all records that were taken, and the one at which it broke off
pub all_to_break : (market : Market) (bytes : List ℕ) (fault : ServeFault) (new more : Pairs) → GoesToBreak commands Adds (Names market new more) bytes fault [] tt tt → BeginsWithAll bytes (asked_of (new ++ more))
all_to_break market bytes fault new more goes =
    let off = goes.breaks in
    let named = off.broken in
    let is : asked_of new ≡ goes.units = ap asked_of (sym named.0) ∙ asked_are_units [] goes.units goes.middle tt goes.between goes.leads in
    let asked : Pair Record Outcome → Record = λ p. p.asked in
    ⊎_elim
    (λ (none : more ≡ []). subst (λ (l : List Record). BeginsWithAll bytes l) (sym (ap (λ (m : Pairs). asked_of (new ++ m)) none ∙ ap asked_of (append-nil new) ∙ is)) (record { rest = goes.left; whole = goes.begins; each = goes.each }))
    (λ (one : asked_of more ≡ off.unit ∷ []). subst (λ (l : List Record). BeginsWithAll bytes l) (sym (map-append asked new more ∙ ap (λ (l : List Record). l ++ asked_of more) is ∙ ap (λ (l : List Record). goes.units ++ l) one)) (record {
      rest = off.rest;
      whole = goes.begins ∙ ap (λ (l : List ℕ). encode_all commands.units goes.units ++ l) off.prefix
          ∙ sym (append_assoc (encode_all commands.units goes.units) (commands.units.encode off.unit) off.rest)
          ∙ ap (λ (l : List ℕ). l ++ off.rest) (sym (flat_map-append commands.units.encode goes.units (off.unit ∷ []) ∙ ap (λ (l : List ℕ). encode_all commands.units goes.units ++ l) (append-nil (commands.units.encode off.unit))));
      each = All-append commands.units.IsLawful goes.units (off.unit ∷ []) goes.each (All-cons commands.units.IsLawful off.unit [] off.lawful (All-nil commands.units.IsLawful));
    }))
    named.1

-- all records before the one at which it broke off
pub all_before_break : (market : Market) (bytes : List ℕ) (fault : ServeFault) (new more : Pairs) (goes : GoesToBreak commands Adds (Names market new more) bytes fault [] tt tt)
    → BeginsWithAll bytes (asked_of new) × (asked_of new ≡ goes.units)
all_before_break market bytes fault new more goes =
    let is : asked_of new ≡ goes.units = ap asked_of (sym goes.breaks.broken.0) ∙ asked_are_units [] goes.units goes.middle tt goes.between goes.leads in
    (subst (λ (l : List Record). BeginsWithAll bytes l) (sym is) (record { rest = goes.left; whole = goes.begins; each = goes.each }), is)

-- all records that were taken, and the one that may allocate
pub all_to_wanting : (market : Market) (bytes : List ℕ) (new more : Pairs) → GoesToBreak commands Adds (Names market new more) bytes Memory [] tt tt
    → (next : Record) × BeginsWithAll bytes (asked_of new ++ next ∷ []) × RecordMayAllocate market next
all_to_wanting market bytes new more goes =
    let off = goes.breaks in
    let before = all_before_break market bytes Memory new more goes in (
      off.unit,
      subst (λ (l : List Record). BeginsWithAll bytes (l ++ off.unit ∷ [])) (sym before.1) (record {
        rest = off.rest;
        whole = goes.begins ∙ ap (λ (l : List ℕ). encode_all commands.units goes.units ++ l) off.prefix
            ∙ sym (append_assoc (encode_all commands.units goes.units) (commands.units.encode off.unit) off.rest)
            ∙ ap (λ (l : List ℕ). l ++ off.rest) (sym (flat_map-append commands.units.encode goes.units (off.unit ∷ []) ∙ ap (λ (l : List ℕ). encode_all commands.units goes.units ++ l) (append-nil (commands.units.encode off.unit))));
        each = All-append commands.units.IsLawful goes.units (off.unit ∷ []) goes.each (All-cons commands.units.IsLawful off.unit [] off.lawful (All-nil commands.units.IsLawful));
      }),
      off.broken.2 refl,
    )

-- longer bytes begin with the same records
pub longer : (n : ℕ) (bytes : List ℕ) (records : List Record) → BeginsWithAll (take n bytes) records → BeginsWithAll bytes records
longer n bytes records all = record {
  rest = all.rest ++ drop n bytes;
  whole = sym (take-append-drop n bytes) ∙ ap (λ (l : List ℕ). l ++ drop n bytes) all.whole ∙ append_assoc (encode_all commands.units records) all.rest (drop n bytes);
  each = all.each;
}

-- after the beginning, in the known bytes of a source
pub starts_with : (input : Start) (limit : ℕ) (bytes first held taken : List ℕ) (mid left : Option (List ℕ)) (records : List Record) → Takes (Some bytes) mid first → BeginsWith sources.magics first input held → length first ≤ limit → Takes mid left taken
    → BeginsWithAll (take (limit - length (source_start input)) (held ++ known taken left)) records → StartsWith sources limit bytes input records
starts_with input limit bytes first held taken None left records opens magic few takes all = absurd opens
starts_with input limit bytes first held taken (Some m) None records opens magic few takes all = absurd takes
starts_with input limit bytes first held taken (Some m) (Some l) records opens magic few takes all =
    let start = source_start input in
    let following = held ++ (taken ++ l) in
    let whole : bytes ≡ start ++ following = opens ∙ ap (λ (xs : List ℕ). xs ++ m) magic.1 ∙ append_assoc start held m ∙ ap (λ (xs : List ℕ). start ++ (held ++ xs)) takes in
    let parts : limit ≡ length start + (limit - length start) = omega (arith, few, ap length magic.1, length-append start held) in
    record {
      body = take (limit - length start) following;
      rest = all.rest;
      magic = (magic.0, ap (take limit) whole ∙ ap (λ (n : ℕ). take n (start ++ following)) parts ∙ take-append-add start following (limit - length start));
      whole = all.whole;
      each = all.each;
    }
