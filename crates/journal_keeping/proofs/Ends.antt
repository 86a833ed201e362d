-- How serving records onto a disk ends.
use Rattle.std.proofs.Common.{◌≡◌, inl, inr, ℕ, ◌+◌, ◌≤◌, List, [], ◌∷◌, ◌++◌, Option, Result, Err, IsSome, length, map, take, flat_map, refl, sym, subst, arith}
use Rattle.std.specs.Prelude.{⊤}
use Rattle.std.proofs.lemmas.List.{append-nil, map-append}
use Rattle.flow_io.specs.Streams.{Grows}
use Rattle.flow_io.specs.Windows.{WindowState}
use Rattle.flow_io.proofs.Growth.{Grows-more}
use Rattle.wire_records.specs.Records.{Record}
use Rattle.wire_records.specs.Commands.{Pair}
use Rattle.wire_records.specs.Formats.{commands}
use Rattle.flow_orders.specs.Outcomes.{Outcome}
use Rattle.journal_records.specs.Pairs.{pair_encoding}
use Rattle.journal_records.specs.Formats.{records_of}
use Rattle.market_rules.specs.Market.{Market}
use Rattle.file_units.specs.Units.{BreaksOff}
use Rattle.file_units.specs.Inputs.{GoesFrom}
use Rattle.file_units.specs.declared.units.Ending.{Ending}
use Rattle.file_units.specs.declared.input.TakeFault.{TakeFault}
use Rattle.file_units.specs.declared.input.TakeFault.TheVariants.{Broken}
use Rattle.file_units.proofs.Gone.{HasGone, gone_broken}
use Rattle.disk_edge.specs.Disks.{DiskState, IsDisk, AtEachMoment}
use Rattle.journal_disk.specs.Pairs.{RecordPair}
use Rattle.journal_disk.specs.Entries.{Head, WithOrWithout, Keeps}
use Rattle.journal_keeping.specs.declared.fault.ServeFault.{ServeFault}
use Rattle.journal_keeping.specs.declared.fault.ServeFault.TheVariants.{Disk, Write, Memory}
use Rattle.journal_keeping.specs.Outputs.{Output, Gains}
use Rattle.journal_keeping.specs.Private.{KeepsMore, HasAdded, IsServed, BreaksNext, Adds, Names, IfEnded, ServesOn}
use Rattle.journal_keeping.proofs.Turns.{Pairs, one_fits}
use Rattle.journal_keeping.proofs.Gaining.{gains_wider, gains_more, gained_whole, joined}
use Rattle.journal_keeping.proofs.Adding.{added_together}
use Rattle.journal_keeping.proofs.Stopping.{stops_after, stops_failed}

-- the texts of entries, and of one more
texts_more : (new : Pairs) (pair : Pair Record Outcome) → map pair_encoding new ++ pair_encoding pair ∷ [] ≡ map pair_encoding (new ++ pair ∷ [])
texts_more new pair = sym (map-append pair_encoding new (pair ∷ []))

-- an output gained the texts of entries, and then of one more
pub told_more : (Cut : Type 0) (out mid later : Output) (new : Pairs) (pair : Pair Record Outcome) → Gains ⊥ out mid (map pair_encoding new) → Gains Cut mid later (pair_encoding pair ∷ []) → Gains Cut out later (map pair_encoding (new ++ pair ∷ []))
told_more Cut out mid later new pair first second = subst (λ (l : List (List ℕ)). Gains Cut out later l) (texts_more new pair) (gains_more Cut out mid later (map pair_encoding new) (pair_encoding pair ∷ []) first second)

module _ (window : WindowState) (rest left : Option (List ℕ)) (start now : DiskState) (before market : Market) (from place : ℕ) (out later : Output) (new : Pairs)
    (so : HasAdded start now before market from place new) (told : Gains ⊥ out later (map pair_encoding new)) where
  abbrev Goes : Market → Pairs → Result Ending (TakeFault ServeFault) → Type 0
  Goes at last result = GoesFrom commands Adds (Names at new last) window rest left result [] new tt tt

  gained : (Cut : Type 0) → Gains Cut out later (map pair_encoding new)
  gained Cut = gains_wider ⊥ Cut out later (map pair_encoding new) (λ no. absurd no) told

  whole : (text : List ℕ) × Grows out.held later.held (flat_map pair_encoding new ++ text)
  whole = ([], subst (Grows out.held later.held) (sym (append-nil (flat_map pair_encoding new))) (gained_whole ⊥ pair_encoding out later new (λ no. no) told))

  -- it ended after an entry, without a fault of the disk or the output
  pub serves_so : (result : Result Ending (TakeFault ServeFault)) → Goes market [] result → ((P : Type 0) → P → IfEnded result P) → ServesOn window rest left result before from start now out later
  serves_so result goes ends = record {
    read = new;
    last = [];
    new = new;
    more = [];
    all = refl;
    market = market;
    goes = goes;
    stops = stops_after (result ≡ Err (Broken Disk)) (result ≡ Err (Broken Write)) start now before market from place new so out later (map pair_encoding new) (gained (result ≡ Err (Broken Write)));
    written = whole;
    ended = ends _ (refl, refl, refl);
  }

  -- it ended at an entry that wasn't kept
  pub serves_failed : (next : DiskState) (after : Market) (pair : Pair Record Outcome) (bytes : List ℕ) → IsDisk next → IsServed bytes market pair after
      → ((head : Head) (pairs : List RecordPair) → Keeps head pairs place now → AtEachMoment now next (WithOrWithout head pairs (records_of pair ∷ [])))
      → Goes market (pair ∷ []) (Err (Broken Disk)) → ServesOn window rest left (Err (Broken Disk)) before from start next out later
  serves_failed next after pair bytes is_disk served moments goes = record {
    read = new;
    last = pair ∷ [];
    new = new;
    more = pair ∷ [];
    all = refl;
    market = market;
    goes = goes;
    stops = stops_failed _ _ start now before market from place new so out later (map pair_encoding new) (gained _) refl next after (pair ∷ []) is_disk (one_fits pair served.fits) (after, served.step, refl) (omega arith) moments;
    written = whole;
    ended = tt;
  }

  -- it ended at an entry that was kept, but not written completely
  pub serves_cut : (next : DiskState) (after : Market) (to : ℕ) (last : Output) (pair : Pair Record Outcome) (bytes : List ℕ) → IsServed bytes market pair after
      → KeepsMore (pair ∷ []) place to now next → (IsSome next.content → IsSome now.content) → Gains ⊤ later last (pair_encoding pair ∷ [])
      → Goes after (pair ∷ []) (Err (Broken Write)) → ServesOn window rest left (Err (Broken Write)) before from start next out last
  serves_cut next after to last pair bytes served keeps known cut goes =
      let all = new ++ pair ∷ [] in
      record {
        read = new;
        last = pair ∷ [];
        new = all;
        more = [];
        all = append-nil all;
        market = after;
        goes = goes;
        stops = stops_after _ _ start next before after from to all (added_together start now next before market after from place to new (pair ∷ []) so (one_fits pair served.fits) (after, served.step, refl) keeps known) out last (map pair_encoding all)
            (gains_wider ⊤ _ out last (map pair_encoding all) (λ _. refl) (told_more ⊤ out later last new pair told cut));
        written = (
          joined cut.whole ++ take cut.count (joined cut.last),
          Grows-more out.held later.held last.held (flat_map pair_encoding new) (joined cut.whole ++ take cut.count (joined cut.last)) (gained_whole ⊥ pair_encoding out later new (λ no. no) told) cut.written,
        );
        ended = tt;
      }

-- By what it broke off with, over a window.
module _ {R D : Type 0} (rest : R → Option (List ℕ)) (faults : R → ℕ) (state : D → DiskState) (Ready : ℕ → Type 0) (first w : WindowState) (from_source source : R)
    (begun now next : D) (out later last : Output) (before market : Market) (from place to : ℕ) (new : Pairs) (gone : HasGone commands Adds rest faults Ready first w from_source source [] new tt tt)
    (so : HasAdded (state begun) (state now) before market from place new) (told : Gains ⊥ out later (map pair_encoding new)) (inside : w.place + length w.held ≤ w.limit) (few : length w.held ≤ w.room) (is_disk : IsDisk (state next)) where
  broken : (at : Market) (more : Pairs) (fault : ServeFault) → BreaksOff commands (Names at new more) w.held new fault tt tt → GoesFrom commands Adds (Names at new more) first (rest from_source) (rest source) (Err (Broken fault)) [] new tt tt
  broken at more fault off = gone_broken commands Adds rest faults first w from_source source [] new tt tt (Names at new more) Ready gone inside fault new tt few off

  at_pair : (at : Market) (pair : Pair Record Outcome) (after : Market) (fault : ServeFault) → (¬ (fault ≡ Memory)) → IsServed w.held market pair after → BreaksOff commands (Names at new (pair ∷ [])) w.held new fault tt tt
  at_pair at pair after fault other served = record { unit = pair.asked; rest = served.rest; lawful = served.lawful; prefix = served.prefix; broken = (refl, inr refl, λ is. absurd (other is)) }

  abbrev Broke : ServeFault → Type 0
  Broke fault = BreaksNext w.held market place to (state now) (state next) later last (next ≡ now) fault

  abbrev Came : ServeFault → Type 0
  Came fault = ServesOn first (rest from_source) (rest source) (Err (Broken fault)) before from (state begun) (state next) out last

  pub serves_broken : (fault : ServeFault) → Broke fault → Came fault
  serves_broken Memory broke =
      let there = broke.2 in
      rw (broke.0, broke.1) (serves_so first (rest from_source) (rest source) (state begun) (state now) before market from place out later new so told (Err (Broken Memory))
      (broken market [] Memory (record { unit = there.0; rest = there.1; lawful = there.2.0; prefix = there.2.1; broken = (refl, inl refl, λ _. there.3) })) (λ P p. p))
  serves_broken Disk broke =
      rw (broke.0) (serves_failed first (rest from_source) (rest source) (state begun) (state now) before market from place out later new so told (state next) broke.2 broke.1 w.held is_disk broke.3 broke.4
      (broken market (broke.1 ∷ []) Disk (at_pair market broke.1 broke.2 Disk (λ is. cc is) broke.3)))
  serves_broken Write broke =
      serves_cut first (rest from_source) (rest source) (state begun) (state now) before market from place out later new so told (state next) broke.1 to last broke.0 w.held broke.2 broke.3 broke.4 broke.5
      (broken broke.1 (broke.0 ∷ []) Write (at_pair broke.1 broke.0 broke.1 Write (λ is. cc is) broke.2))
