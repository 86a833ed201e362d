-- Commands that are served, kept and told one after the other: none yet, one more, and one at which it broke off.
use Rattle.std.proofs.Common.{◌≡◌, ◌⊎◌, ⊎_elim, ℕ, ◌+◌, ◌*◌, ◌<◌, ◌≤◌, ◌^◌, List, [], ◌∷◌, ◌++◌, Option, None, Some, IfSome, IsSome, length, length-append, take, drop, get_or, take-append-drop, refl, sym, ap, subst, ◌∙◌, arith, rules, append_assoc}
use Rattle.std.specs.Prelude.{⊤}
use Rattle.std.proofs.lemmas.List.{append-nil, drop_more}
use Rattle.std.proofs.Math.Seq.{take-add}
use Rattle.wire_records.specs.Records.{Record, encoding}
use Rattle.wire_records.specs.Commands.{Command, Pair}
use Rattle.wire_records.proofs.Encoded.{length-encoding}
use Rattle.flow_orders.specs.Outcomes.{Outcome}
use Rattle.journal_records.specs.Pairs.{IsPair, pair_encoding, longest_pair}
use Rattle.journal_records.specs.Formats.{records_of}
use Rattle.market_rules.specs.Market.{Market}
use Rattle.batch_report.specs.Reports.{IsReport}
use Rattle.disk_edge.specs.Disks.{DiskState, IsDisk, AtEachMoment}
use Rattle.journal_disk.specs.Pairs.{RecordPair}
use Rattle.journal_disk.specs.Entries.{Head, WithOrWithout, Keeps}
use Rattle.journal_keeping.specs.Lengths.{longest_stored_entry}
use Rattle.journal_keeping.specs.Private.{KeepsMore}
use Rattle.journal_keeping.specs.declared.fault.ServeFault.{ServeFault}
use Rattle.journal_keeping.specs.declared.fault.ServeFault.TheVariants.{Disk, Write, Memory}
use Rattle.journal_keeping.proofs.Turns.{one_fits, added_none}
use Rattle.journal_keeping.proofs.Adding.{added_together}
use Rattle.journal_keeping.proofs.Stopping.{stops_after, stops_failed}
use Rattle.line_keeping.specs.Answers.{AreAnswered}
use Rattle.journal_keeping.specs.Outputs.{Output, Gains}
use Rattle.line_keeping.specs.Private.{IsReadyFor, IsServed, AnswersCommand, BreaksCommand, AnswersCommands, BreaksCommands}
use Rattle.journal_keeping.proofs.Gaining.{gains_none, gains_more, gains_wider}
use Rattle.line_keeping.proofs.Joining.{Pairs, answered_more}

-- the longest entry
pub longest_entry : (pair : Pair Record Outcome) → IsPair pair → length (pair_encoding pair) ≤ longest_pair
unfolding pair_encoding
longest_entry pair fits = omega (arith, length-append (encoding pair.asked) (encoding (records_of pair).1), length-encoding pair.asked, length-encoding (records_of pair).1, fits.asked.body, fits.answered.body)

-- why a command wasn't kept and told, if it was served
pub breaks_one : (command : Command) (old new : Market) (count from to : ℕ) (disk later : DiskState) (out after : Output) (SameDisk : Type 0) (pair : Pair Record Outcome) (text : List ℕ) (fault : ServeFault) → (fault ≡ Disk) ⊎ (fault ≡ Write)
    → IsServed command old pair new → IsReport new (count + 1) (records_of pair) text → (fault ≡ Disk → after ≡ out)
    → ((head : Head) (pairs : List RecordPair) → Keeps head pairs from disk → AtEachMoment disk later (WithOrWithout head pairs (records_of pair ∷ [])))
    → (fault ≡ Write → KeepsMore (pair ∷ []) from to disk later) → (fault ≡ Write → IsSome later.content → IsSome disk.content) → (fault ≡ Write → Gains ⊤ out after (text ∷ []))
    → BreaksCommand command old count from to disk later out after SameDisk fault
breaks_one command old new count from to disk later out after SameDisk pair text fault refused served report silent moments keeps told cut = ⊎_elim
    (λ (is : fault ≡ Disk). subst (λ (f : ServeFault). BreaksCommand command old count from to disk later out after SameDisk f) (sym is) (silent is, pair, text, new, served, report, moments))
    (λ (is : fault ≡ Write). subst (λ (f : ServeFault). BreaksCommand command old count from to disk later out after SameDisk f) (sym is) (pair, text, new, served, report, keeps is, told is, cut is))
    refused

some_is : (bytes : List ℕ) → IsSome (Some bytes)
some_is bytes = search rules

none_is_not : IsSome {T = List ℕ} None → ⊥
none_is_not is = search rules

-- what holds of a disk of known content goes on to the next one
pub keeps_on : (a b : Option (List ℕ)) {P Q : Type 0} → (IsSome b → IsSome a) → IfSome a (λ _. P) → (P → Q) → IfSome b (λ _. Q)
keeps_on a None told p f = tt
keeps_on None (Some y) told p f = absurd (none_is_not (told (some_is y)))
keeps_on (Some x) (Some y) told p f = f p

-- a list in two parts, at one of its elements
pub parted_at : {A : Type 0} (l : List A) (k : ℕ) (x : A) → k < length l → x ≡ get_or l k x → (take (k + 1) l ≡ take k l ++ x ∷ []) × (l ≡ take k l ++ x ∷ drop (k + 1) l)
parted_at l k x inside is =
    let following : drop k l ≡ x ∷ drop (k + 1) l = drop_more l k x inside ∙ ap (λ z. z ∷ drop (k + 1) l) (sym is) in
    (take-add k 1 l ∙ ap (λ z. take k l ++ take 1 z) following, sym (take-append-drop k l) ∙ ap (λ z. take k l ++ z) following)

-- a disk on which commands are kept may keep one more
pub ready_more : (commands done : ℕ) (entries place : ℕ) (market : Market) (count from : ℕ) (now : Market) → market.next_order ≤ from + 2 ^ 63 → count ≤ from → from + longest_stored_entry * commands ≤ 2 ^ 61 → done < commands
    → from + done ≤ place → place ≤ from + longest_stored_entry * done → now.next_order ≤ market.next_order + done → entries ≡ count + done → IsReadyFor now entries place 0
ready_more commands done entries place market count from now orders counted room less low high few is = record {
  orders = omega (arith, orders, few, low);
  counted = omega (arith, is, counted, low);
  room = omega (arith, room, less, high);
}

module _ (old : Market) (count from : ℕ) (disk : DiskState) (out : Output) where
  pub commands_none : IsDisk disk → AnswersCommands [] old old count count from from disk disk out out
  commands_none is_disk = record {
    pairs = [];
    texts = [];
    answered = (refl, refl, refl);
    added = added_none disk old from is_disk;
    stays = λ keeps. keeps;
    counted = omega arith;
    size = refl;
    place = (omega arith, omega arith);
    orders = omega arith;
    gained = gains_none ⊥ out;
  }

  module _ (done : List Command) (mid : Market) (entries place : ℕ) (m : DiskState) (o : Output) (so : AnswersCommands done old mid count entries from place disk m out o) (command : Command) where
    pub commands_more : (new : Market) (to : ℕ) (later : DiskState) (after : Output) → AnswersCommand command mid new entries place to m later o after → new.next_order ≤ mid.next_order + 1
        → AnswersCommands (done ++ command ∷ []) old new count (entries + 1) from to disk later out after
    commands_more new to later after one few = record {
      pairs = so.pairs ++ one.pair ∷ [];
      texts = so.texts ++ one.text ∷ [];
      answered = answered_more old count done so.pairs so.texts mid command one.pair one.text new (entries + 1) so.answered one.served (omega (arith, so.counted)) one.report;
      added = added_together disk m later old mid new from place to so.pairs (one.pair ∷ []) so.added (one_fits one.pair one.served.fits) (new, one.served.step, refl) one.keeps one.told;
      stays = λ keeps. keeps_on m.content later.content one.told (so.stays keeps) (λ kept. (kept.0, kept.1 ++ records_of one.pair ∷ [], one.keeps.keeps kept.0 kept.1 kept.2));
      counted = omega (arith, so.counted, length-append so.pairs (one.pair ∷ []));
      size = omega (arith, so.size, length-append so.pairs (one.pair ∷ []), length-append done (command ∷ []));
      place = (
        omega (arith, so.place.0, one.place, length-append so.pairs (one.pair ∷ [])),
        omega (arith, so.place.1, one.place, longest_entry one.pair one.served.fits, length-append so.pairs (one.pair ∷ [])),
      );
      orders = omega (arith, so.orders, few, length-append so.pairs (one.pair ∷ []));
      gained = gains_more ⊥ out o after so.texts (one.text ∷ []) so.gained one.gained;
    }

    module _ (rest : List Command) where
      abbrev Broke : DiskState → Output → ServeFault → Type 0
      Broke later after fault = BreaksCommands (done ++ command ∷ rest) old count from disk later out after fault

      -- memory ran out for it
      pub memory_breaks : Broke m o Memory
      memory_breaks = record {
        pairs = so.pairs;
        texts = so.texts;
        market = mid;
        begun = (done, command ∷ rest, refl, so.answered);
        more = [];
        words = so.texts;
        last = mid;
        further = (done, command ∷ rest, refl, subst (λ (l : Pairs). AreAnswered old count done l so.texts mid) (sym (append-nil so.pairs)) so.answered);
        stops = stops_after _ _ disk m old mid from place so.pairs so.added out o so.texts (gains_wider ⊥ _ out o so.texts (λ no. absurd no) so.gained);
      }

      joined : done ++ command ∷ rest ≡ (done ++ command ∷ []) ++ rest
      joined = sym (append_assoc done (command ∷ []) rest)

      -- the disk failed
      pub disk_breaks : (pair : Pair Record Outcome) (text : List ℕ) (new : Market) (later : DiskState) → IsDisk later → IsServed command mid pair new → IsReport new (entries + 1) (records_of pair) text
          → ((head : Head) (pairs : List RecordPair) → Keeps head pairs place m → AtEachMoment m later (WithOrWithout head pairs (records_of pair ∷ []))) → Broke later o Disk
      disk_breaks pair text new later is_disk served report moments = record {
        pairs = so.pairs;
        texts = so.texts;
        market = mid;
        begun = (done, command ∷ rest, refl, so.answered);
        more = pair ∷ [];
        words = so.texts ++ text ∷ [];
        last = new;
        further = (done ++ command ∷ [], rest, joined, answered_more old count done so.pairs so.texts mid command pair text new (entries + 1) so.answered served (omega (arith, so.counted)) report);
        stops = stops_failed _ _ disk m old mid from place so.pairs so.added out o so.texts (gains_wider ⊥ _ out o so.texts (λ no. absurd no) so.gained) refl later new (pair ∷ []) is_disk (one_fits pair served.fits) (new, served.step, refl) (omega arith) moments;
      }

      -- its text was cut short
      pub write_breaks : (pair : Pair Record Outcome) (text : List ℕ) (new : Market) (to : ℕ) (later : DiskState) (after : Output) → IsServed command mid pair new → IsReport new (entries + 1) (records_of pair) text
          → KeepsMore (pair ∷ []) place to m later → (IsSome later.content → IsSome m.content) → Gains ⊤ o after (text ∷ []) → Broke later after Write
      write_breaks pair text new to later after served report keeps told gains =
          let all = so.pairs ++ pair ∷ [] in
          let added = added_together disk m later old mid new from place to so.pairs (pair ∷ []) so.added (one_fits pair served.fits) (new, served.step, refl) keeps told in
          let answered = answered_more old count done so.pairs so.texts mid command pair text new (entries + 1) so.answered served (omega (arith, so.counted)) report in
          record {
            pairs = all;
            texts = so.texts ++ text ∷ [];
            market = new;
            begun = (done ++ command ∷ [], rest, joined, answered);
            more = [];
            words = so.texts ++ text ∷ [];
            last = new;
            further = (done ++ command ∷ [], rest, joined, subst (λ (l : Pairs). AreAnswered old count (done ++ command ∷ []) l (so.texts ++ text ∷ []) new) (sym (append-nil all)) answered);
            stops = stops_after _ _ disk later old new from to all added out after (so.texts ++ text ∷ []) (gains_wider ⊤ _ out after (so.texts ++ text ∷ []) (λ _. refl) (gains_more ⊤ out o after so.texts (text ∷ []) so.gained gains));
          }

-- by what it broke off with
pub breaks_by : {D : Type 0} (state : D → DiskState) (now next : D) (old : Market) (count from : ℕ) (disk : DiskState) (out : Output) (done : List Command) (mid : Market) (entries place to : ℕ) (o after : Output)
    → AnswersCommands done old mid count entries from place disk (state now) out o → (command : Command) (rest : List Command) (fault : ServeFault) → IsDisk (state next) → BreaksCommand command mid entries place to (state now) (state next) o after (next ≡ now) fault
    → BreaksCommands (done ++ command ∷ rest) old count from disk (state next) out after fault
breaks_by state now next old count from disk out done mid entries place to o after so command rest Memory is_disk (same, quiet) = rw (same, quiet) (memory_breaks old count from disk out done mid entries place (state now) o so command rest)
breaks_by state now next old count from disk out done mid entries place to o after so command rest Disk is_disk (quiet, pair, text, new, served, report, moments) =
    rw quiet (disk_breaks old count from disk out done mid entries place (state now) o so command rest pair text new (state next) is_disk served report moments)
breaks_by state now next old count from disk out done mid entries place to o after so command rest Write is_disk (pair, text, new, served, report, keeps, told, gains) =
    write_breaks old count from disk out done mid entries place (state now) o so command rest pair text new to (state next) after served report keeps told gains
