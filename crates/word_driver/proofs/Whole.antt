-- What a subcommand does to its source and its output.
use Rattle.std.proofs.Common.{◌≡◌, ◌+◌, ◌<◌, ◌≤◌, ◌⊎◌, ℕ, List, [], ◌++◌, Option, Some, None, Ok, Err, IfSome, OnOk, length, take, inl, inr, append-nil, append_assoc, length-append, refl, sym, ap, ◌∙◌, subst, arith}
use Rattle.std.proofs.lemmas.List.{length-take}
use Rattle.flow_io.specs.Faults.{Blames}
use Rattle.flow_io.specs.Changes.{Change}
use Rattle.flow_io.specs.Streams.{Takes, Grows, TakesAtMost}
use Rattle.flow_io.specs.Windows.{WindowState, IsPast, IsWithin, Fills, empty_window}
use Rattle.flow_io.specs.declared.window.InputEnd.{InputEnd}
use Rattle.flow_io.specs.declared.window.InputEnd.TheVariants.{Source, Limit}
use Rattle.flow_io.proofs.Growth.{Grows-nothing}
use Rattle.flow_io.proofs.Reading.{Takes-more}
use Rattle.wire_records.specs.Grammars.{BeginsWithNone}
use Rattle.wire_records.specs.declared.version.Version.{Version}
use Rattle.file_units.specs.Inputs.{known}
use Rattle.file_units.proofs.Gone.{within_limit}
use Rattle.word_driver.specs.declared.fault.Fault.TheVariants.{Read, Write, Memory, NotFlow, Torn, TooLong, Stopped}
use Rattle.word_driver.specs.Ended.{Ended}
use Rattle.word_driver.specs.Word.{Word, Comes}
use Rattle.word_driver.specs.Does.{task, IsTaken, Determines, Meets, KeepsUp, Does}
use Rattle.word_driver.specs.Laws.{IsExact}
use Rattle.word_driver.specs.Private.{IsNearAll, Finds, GoesOver}
use Rattle.word_driver.proofs.OneEnds.{one_end}
use Rattle.word_driver.proofs.Tasks as tasks

-- what was taken is at most this many bytes
pub took : (told after : Option (List ℕ)) (taken : List ℕ) (most : ℕ) → Takes told after taken → length taken ≤ most → TakesAtMost told after most
took None after taken most takes few = tt
took (Some bytes) None taken most takes few = absurd takes
took (Some bytes) (Some left) taken most takes few = omega (arith, ap length takes, length-append taken left, few)

module _ {U S B : Type 0} (w : Word U S B) (start : Version → S) (exact : IsExact w) (limit : ℕ) where
  -- ---- what was found is what the source's bytes result in

  module _ (bytes seen left : List ℕ) (whole : bytes ≡ seen ++ left) where
    determines : (ended : Ended B) (before after : Option (List ℕ)) → (text : List ℕ) × Comes w start (take limit bytes) (limit < length bytes) ended text × Grows before after text → Determines (task w start) limit bytes ended before after
    determines ended before after (text, comes, written) = (text, comes, written, λ other words also. one_end w start exact limit bytes other ended words text also comes)

    all_seen : IsTaken bytes (Some left) (length seen)
    all_seen = omega (arith, ap length whole, length-append seen left)

    found : (ended : Ended B) (before after : Option (List ℕ)) → Finds w start (limit < length bytes) (take limit bytes) (w.longest + 1) seen (Some left) ended before after → Meets (task w start) limit bytes (Some left) ended before after
    found (Ok done) before after (none, text, comes, written) = determines (Ok done) before after (text, comes, written)
    found (Err NotFlow) before after finds = determines (Err NotFlow) before after finds
    found (Err (Torn n)) before after finds = determines (Err (Torn n)) before after finds
    found (Err TooLong) before after finds = determines (Err TooLong) before after finds
    found (Err (Stopped why)) before after finds = determines (Err (Stopped why)) before after finds
    found (Err Memory) before after (near, text, lacks, written) = (text, inr lacks, written)
    found (Err Write) before after (near, text, gets, written) = (text, elim gets [ inl (n, ended, comes) ↦ inl (n, (ended, comes)) | inr (ended, comes) ↦ inr (ended, comes) ], written)
    found (Err Read) before after (ended, text, comes, written) = (length seen, all_seen, text, (ended, comes), written)

    near : (before after : Option (List ℕ)) → IsNearAll w start (limit < length bytes) (take limit bytes) (w.longest + 1) seen (Some left) before after → KeepsUp (task w start) limit bytes (Some left) before after
    near before after (n, few, stands) = (n, length seen, all_seen, few, stands)

    keeps_up : (ended : Ended B) (before after : Option (List ℕ)) → Finds w start (limit < length bytes) (take limit bytes) (w.longest + 1) seen (Some left) ended before after → (ended ≡ Err Write) ⊎ (ended ≡ Err Memory) → KeepsUp (task w start) limit bytes (Some left) before after
    keeps_up (Err Write) before after finds why = near before after finds.0
    keeps_up (Err Memory) before after finds why = near before after finds.0
    keeps_up (Ok done) before after finds why = absurd (elim why [ inl e ↦ cc | inr e ↦ cc ])
    keeps_up (Err NotFlow) before after finds why = absurd (elim why [ inl e ↦ cc | inr e ↦ cc ])
    keeps_up (Err Read) before after finds why = absurd (elim why [ inl e ↦ cc | inr e ↦ cc ])
    keeps_up (Err TooLong) before after finds why = absurd (elim why [ inl e ↦ cc | inr e ↦ cc ])
    keeps_up (Err (Torn n)) before after finds why = absurd (elim why [ inl e ↦ cc | inr e ↦ cc ])
    keeps_up (Err (Stopped b)) before after finds why = absurd (elim why [ inl e ↦ cc | inr e ↦ cc ])

    none_left : (ended : Ended B) (before after : Option (List ℕ)) → Finds w start (limit < length bytes) (take limit bytes) (w.longest + 1) seen (Some left) ended before after → OnOk ended (◌≡◌ {A = Option (List ℕ)} (Some left) (Some []))
    none_left (Ok done) before after finds = ap (λ (xs : List ℕ). Some xs) finds.0
    none_left (Err why) before after finds = tt

  -- for a source of known content
  abbrev FindsAll : (held taken : List ℕ) → Option (List ℕ) → Ended B → Change → Type 0
  FindsAll held taken after ended out = Finds w start (limit < length (held ++ known taken after)) (take limit (held ++ known taken after)) (w.longest + 1) (held ++ taken) after ended out.before out.after

  record AreTold (told after : Option (List ℕ)) (ended : Ended B) (out : Change) : Type 0 where
    meets : IfSome told (λ bytes. Meets (task w start) limit bytes after ended out.before out.after)
    keeps_up : (ended ≡ Err Write) ⊎ (ended ≡ Err Memory) → IfSome told (λ bytes. KeepsUp (task w start) limit bytes after out.before out.after)
    left : OnOk ended (IfSome told (λ bytes. after ≡ Some []))

  nothing_told : (after : Option (List ℕ)) (ended : Ended B) → OnOk ended (IfSome None (λ (bytes : List ℕ). after ≡ Some []))
  nothing_told after (Ok done) = tt
  nothing_told after (Err why) = tt

  told_left : (bytes left : List ℕ) (ended : Ended B) → OnOk ended (◌≡◌ {A = Option (List ℕ)} (Some left) (Some [])) → OnOk ended (IfSome (Some bytes) (λ bytes. ◌≡◌ {A = Option (List ℕ)} (Some left) (Some [])))
  told_left bytes left (Ok done) none = none
  told_left bytes left (Err why) none = tt

  are_told : (told after : Option (List ℕ)) (held taken : List ℕ) (ended : Ended B) (out : Change) → Takes told after (held ++ taken) → FindsAll held taken after ended out → AreTold told after ended out
  are_told None after held taken ended out takes finds = record { meets = tt; keeps_up = λ why. tt; left = nothing_told after ended }
  are_told (Some bytes) None held taken ended out takes finds = absurd takes
  are_told (Some bytes) (Some left) held taken ended out takes finds =
      let whole : bytes ≡ held ++ (taken ++ left) = takes ∙ append_assoc held taken left in
      let all : Finds w start (limit < length bytes) (take limit bytes) (w.longest + 1) (held ++ taken) (Some left) ended out.before out.after =
      subst (λ (xs : List ℕ). Finds w start (limit < length xs) (take limit xs) (w.longest + 1) (held ++ taken) (Some left) ended out.before out.after) (sym whole) finds
      in
      record {
        meets = found bytes (held ++ taken) left takes ended out.before out.after all;
        keeps_up = keeps_up bytes (held ++ taken) left takes ended out.before out.after all;
        left = told_left bytes left ended (none_left bytes (held ++ taken) left takes ended out.before out.after all);
      }

  -- from what a window holds after one fill
  module _ (before middle after : Option (List ℕ)) (room : ℕ) (window : WindowState) (fills : Fills (empty_window room limit) window before middle) where
    joined : window.held ≡ fills.joined
    joined = ap (λ (w : WindowState). w.held) fills.holds

    all_joined : window.over ≡ None → Takes before middle window.held
    all_joined unended =
        let none : fills.past ≡ [] = subst (λ (o : Option InputEnd). IsPast None o fills.past) unended fills.beyond in
        subst (λ (xs : List ℕ). Takes before middle xs) (ap (λ xs. fills.joined ++ xs) none ∙ append-nil fills.joined ∙ sym joined) fills.taken

    pub does : (ended : Ended B) (faults later : ℕ) (out : Change) → window.over ≡ None → GoesOver w start window.limit window.held ended (record { before = middle; after = after; faults = faults; faults_after = later }) out
        → (first : ℕ) → faults ≡ first → Blames (ended ≡ Err Read) faults later → Blames (ended ≡ Err Write) out.faults out.faults_after
        → Does (task w start) limit ended (record { before = before; after = after; faults = first; faults_after = later }) out
    does ended faults later out unended goes first quiet reads writes =
        let same : window.limit ≡ limit = ap (λ (w : WindowState). w.limit) fills.holds in
        let over = subst (λ (n : ℕ). GoesOver w start n window.held ended (record { before = middle; after = after; faults = faults; faults_after = later }) out) same goes in
        let taken = Takes-more before middle after window.held over.taken (all_joined unended) over.takes in
        let told = are_told before after window.held over.taken ended out taken over.finds in
        tasks.does (task w start) limit ended (record { before = before; after = after; faults = first; faults_after = later }) out told.meets told.keeps_up
        (took before after (window.held ++ over.taken) (limit + 1) taken (omega (arith, over.few, length-append window.held over.taken))) told.left (subst (λ (n : ℕ). Blames (ended ≡ Err Read) n later) quiet reads) writes

  -- ---- fewer bytes than a magic were read

  module _ (before after : Option (List ℕ)) (room : ℕ) (window : WindowState) (fills : Fills (empty_window room limit) window before after) (within : IsWithin window.place (length window.held) window.limit window.over) (few : length window.held < 8) (faults later : ℕ) (held : Option (List ℕ)) (out_faults : ℕ) where
    abbrev pub out : Change
    out = record { before = held; after = held; faults = out_faults; faults_after = out_faults }

    abbrev pub source : Change
    source = record { before = before; after = after; faults = faults; faults_after = later }

    short_of : (bytes : List ℕ) → length bytes < 8 → BeginsWithNone w.format.magics bytes
    short_of bytes short version rest lawful e = omega (arith, short, ap length e, length-append (w.format.magics.encode version) rest, exact.magic version)

    held_within : length window.held ≤ limit
    held_within =
        let place : window.place ≡ 0 = ap (λ (w : WindowState). w.place) fills.holds in
        let same : window.limit ≡ limit = ap (λ (w : WindowState). w.limit) fills.holds in
        omega (arith, place, same, within_limit window.place (length window.held) window.limit window.over within)

    past_one : (over : Option InputEnd) (past : List ℕ) → IsPast None over past → length past ≤ 1
    past_one None past none = omega (arith, ap length none)
    past_one (Some Source) past none = omega (arith, ap length none)
    past_one (Some Limit) past one = omega (arith, one)

    most : TakesAtMost before after (limit + 1)
    most = took before after (fills.joined ++ fills.past) (limit + 1) fills.taken (omega (arith, held_within, ap length (joined before after after room window fills), length-append fills.joined fills.past, past_one window.over fills.past fills.beyond))

    quietly : Blames (◌≡◌ {A = Ended B} (Err NotFlow) (Err Write)) out_faults out_faults
    quietly = record { later = omega arith; rose = λ e. absurd cc; quiet = λ _. refl }

    -- fewer than eight bytes are considered
    considered_few : (bytes left : List ℕ) → bytes ≡ (fills.joined ++ fills.past) ++ left → (over : InputEnd) → window.over ≡ Some over → (over ≡ Source → left ≡ []) → length (take limit bytes) < 8
    considered_few bytes left whole Source is ended =
        let none : fills.past ≡ [] = subst (λ (o : Option InputEnd). IsPast None o fills.past) is fills.beyond in
        omega (arith, few, ap length (joined before after after room window fills), ap length whole, ap length (ended refl), ap length none, length-append (fills.joined ++ fills.past) left, length-append fills.joined fills.past, length-take limit bytes)
    considered_few bytes left whole Limit is ended =
        let place : window.place ≡ 0 = ap (λ (w : WindowState). w.place) fills.holds in
        let same : window.limit ≡ limit = ap (λ (w : WindowState). w.limit) fills.holds in
        let full : window.place + length window.held ≡ window.limit = subst (λ (o : Option InputEnd). IsWithin window.place (length window.held) window.limit o) is within in
        omega (arith, few, place, same, full, length-take limit bytes)

    not_flow_told : (told rest : Option (List ℕ)) → Takes told rest (fills.joined ++ fills.past) → (over : InputEnd) → window.over ≡ Some over → (over ≡ Source → IfSome rest (λ left. left ≡ [])) → IfSome told (λ bytes. Meets (task w start) limit bytes rest (Err NotFlow) held held)
    not_flow_told None rest takes over is ended = tt
    not_flow_told (Some bytes) None takes over is ended = absurd takes
    not_flow_told (Some bytes) (Some left) takes over is ended =
        determines bytes (fills.joined ++ fills.past) left takes (Err NotFlow) held held ([], inl (refl, short_of (take limit bytes) (considered_few bytes left takes over is ended), refl), Grows-nothing held)

    not_written : (told rest : Option (List ℕ)) → (◌≡◌ {A = Ended B} (Err NotFlow) (Err Write)) ⊎ (◌≡◌ {A = Ended B} (Err NotFlow) (Err Memory)) → IfSome told (λ bytes. KeepsUp (task w start) limit bytes rest held held)
    not_written told rest why = absurd (elim why [ inl e ↦ cc | inr e ↦ cc ])

    pub does_not_flow : (over : InputEnd) → window.over ≡ Some over → (window.over ≡ Some Source → IfSome after (λ left. left ≡ [])) → later ≡ faults → Does (task w start) limit (Err NotFlow) source out
    does_not_flow over is ended quiet =
        tasks.does (task w start) limit (Err NotFlow) source out (not_flow_told before after fills.taken over is (λ e. ended (is ∙ ap (λ (o : InputEnd). Some o) e))) (not_written before after) most tt
        (record { later = omega (arith, quiet); rose = λ e. absurd cc; quiet = λ _. quiet }) quietly

    begun_told : (told rest : Option (List ℕ)) → Takes told rest window.held → IfSome told (λ bytes. Meets (task w start) limit bytes rest (Err Read) held held)
    begun_told None rest takes = tt
    begun_told (Some bytes) None takes = absurd takes
    begun_told (Some bytes) (Some left) takes = (
      length window.held,
      all_seen bytes window.held left takes,
      [],
      (Err NotFlow, inl (refl, short_of (take (length window.held) (take limit bytes)) (omega (arith, few, length-take (length window.held) (take limit bytes))), refl)),
      Grows-nothing held,
    )

    read_not_written : (told rest : Option (List ℕ)) → (◌≡◌ {A = Ended B} (Err Read) (Err Write)) ⊎ (◌≡◌ {A = Ended B} (Err Read) (Err Memory)) → IfSome told (λ bytes. KeepsUp (task w start) limit bytes rest held held)
    read_not_written told rest why = absurd (elim why [ inl e ↦ cc | inr e ↦ cc ])

    pub does_not_read : window.over ≡ None → Blames (Unit {0}) faults later → Does (task w start) limit (Err Read) source out
    does_not_read unended cause =
        tasks.does (task w start) limit (Err Read) source out (begun_told before after (all_joined before after after room window fills unended)) (read_not_written before after) most tt
        (record { later = cause.later; rose = λ e. cause.rose tt; quiet = λ not. absurd (not refl) }) (record { later = omega arith; rose = λ e. absurd cc; quiet = λ _. refl })
