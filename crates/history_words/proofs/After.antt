-- What a subcommand over a history does to its source and its output.
use Rattle.std.proofs.Common.{◌≡◌, ◌↔◌, ◌+◌, ◌-◌, ◌<◌, ◌≤◌, ℕ, List, [], ◌++◌, Option, Some, None, Result, Ok, Err, IfSome, OnOk, inl, inr, length, take, append-nil, append_assoc, length-append, refl, sym, ap, ◌∙◌, subst, arith}
use Rattle.std.proofs.Math.Seq.{take-append-add}
use Rattle.std.proofs.lemmas.List.Elements.{All-nil}
use Rattle.std.proofs.lemmas.List.{take_at}
use Rattle.flow_io.specs.Faults.{Blames}
use Rattle.flow_io.specs.Changes.{Change}
use Rattle.flow_io.specs.Streams.{Takes, Grows, GrowsByPrefix, TakesAtMost}
use Rattle.flow_io.specs.Windows.{WindowState}
use Rattle.flow_io.proofs.Growth.{Grows-nothing, Grows-more, GrowsByPrefix-more}
use Rattle.flow_io.proofs.Reading.{Takes-more}
use Rattle.wire_records.specs.Records.{Record}
use Rattle.wire_records.specs.Grammars.{BeginsWith, BeginsWithNone}
use Rattle.wire_records.proofs.ReadingLaws.{none_in_none}
use Rattle.file_units.specs.Inputs.{known}
use Rattle.file_units.proofs.Gone.{considered}
use Rattle.market_rules.specs.Market.{Market}
use Rattle.market_history.specs.declared.start.StartFault.{StartFault}
use Rattle.market_history.specs.declared.start.StartFault.TheVariants as fault
use Rattle.market_snapshot.specs.Checkpoints.{HasCheckpointMagic}
use Rattle.market_history.specs.Histories.{Start, market_of, starts, BeginsUnsound, BeginsOtherwise}
use Rattle.market_history.specs.Reading.{Begins, AreFound, AreTaken}
use Rattle.market_history.proofs.Starting.{magic_on}
use Rattle.word_driver.specs.declared.fault.Fault.TheVariants.{Read, Write, Memory, NotFlow, Torn, TooLong, Stopped}
use Rattle.word_driver.specs.Ended.{Ended}
use Rattle.word_driver.specs.Word.{Word, ComesOn}
use Rattle.word_driver.specs.Does.{IsTaken, Determines, Meets, Does}
use Rattle.word_driver.specs.Laws.{IsExact}
use Rattle.word_driver.specs.Private.{Ends, ContinuesFrom}
use Rattle.word_driver.proofs.Alike.{comes_on_alike, lacks_on_alike}
use Rattle.word_driver.proofs.Going.{blames_later}
use Rattle.word_driver.proofs.Whole.{took}
use Rattle.word_driver.proofs.Tasks as tasks
use Rattle.history_words.specs.declared.stop.HistoryStop.{HistoryStop}
use Rattle.history_words.specs.declared.stop.HistoryStop.TheVariants.{NoCheckpoint, AtPairs}
use Rattle.history_words.specs.Histories.{following, Beginning, ComesFrom, over_history_from}
use Rattle.history_words.proofs.Starts.{magic_or_not, comes_one}

-- a beginning that was read isn't a read fault
pub was_read : (market : Market) → ◌≡◌ {A = Result Market StartFault} (Ok market) (Err fault.Read) → ⊥
was_read market e = cc

module _ {S B : Type 0} (w : Word (Record × Record) S B) (begins : Beginning S) (exact : IsExact w) (limit : ℕ) where
  determines : (bytes : List ℕ) (ended : Ended (HistoryStop B)) (before after : Option (List ℕ)) (text : List ℕ) → ComesFrom w begins (take limit bytes) (limit < length bytes) ended text → Grows before after text → Determines (over_history_from w begins) limit bytes ended before after
  determines bytes ended before after text comes written = (text, comes, written, λ other words also. comes_one w begins exact (take limit bytes) (limit < length bytes) other ended words text also comes)

  -- ---- a history begins, and the subcommand continued after its beginning

  module _ (start : Start) (lawful : starts.IsLawful start) (bytes held taken left : List ℕ) (whole : bytes ≡ starts.encode start ++ (held ++ (taken ++ left))) (within : length (starts.encode start) + length held ≤ limit) where
    abbrev size : ℕ
    size = length (starts.encode start)

    abbrev all : List ℕ
    all = held ++ (taken ++ left)

    abbrev body : List ℕ
    body = take (limit - size) all

    abbrev opening : List ℕ
    opening = begins.opens (market_of start)

    abbrev state : S
    state = begins.starts (market_of start)

    abbrev Later : Type 0
    Later = limit - size < length all

    begun : BeginsWith starts (take limit bytes) start body
    begun = (lawful, ap (take limit) whole ∙ considered limit (starts.encode start) all (omega (arith, within)))

    first_begun : (n : ℕ) → BeginsWith starts (take (size + n) (take limit bytes)) start (take n body)
    first_begun n = (lawful, ap (take (size + n)) begun.1 ∙ take-append-add (starts.encode start) body n)

    longer : Later ↔ (limit < length bytes)
    longer =
        let sizes : length bytes ≡ size + length all = ap length whole ∙ length-append (starts.encode start) all in
        (λ p. omega (arith, p, sizes, within), λ q. omega (arith, q, sizes, within))

    seen : IsTaken bytes (Some left) (size + length (held ++ taken))
    seen = omega (arith, ap length whole, length-append (starts.encode start) all, length-append held (taken ++ left), length-append taken left, length-append held taken)

    comes : (inner : Ended B) (text : List ℕ) → ComesOn w Later size body state inner text → ComesFrom w begins (take limit bytes) (limit < length bytes) (following inner) (opening ++ text)
    comes inner text on = inr (inr (start, body, text, begun, refl, inner, comes_on_alike w Later (limit < length bytes) longer size body state inner text on, refl))

    first_comes : (n : ℕ) (inner : Ended B) (text : List ℕ) → ComesOn w (Unit {0}) size (take n body) state inner text → (over_history_from w begins).Begins limit bytes (size + n) (opening ++ text)
    first_comes n inner text on = (following inner, inr (inr (start, take n body, text, first_begun n, refl, inner, on, refl)))

    module _ (most : ℕ) (before middle after : Option (List ℕ)) (opened : Grows before middle opening) where
      both : (text : List ℕ) → Grows middle after text → Grows before after (opening ++ text)
      both text onward = Grows-more before middle after opening text opened onward

      met : (inner : Ended B) → Ends w Later size body state most (held ++ taken) (Some left) inner middle after → Meets (over_history_from w begins) limit bytes (Some left) (following inner) before after
      met (Ok done) (none, text, on, onward) = determines bytes (Ok done) before after (opening ++ text) (comes (Ok done) text on) (both text onward)
      met (Err (Torn n)) (text, on, onward) = determines bytes (Err (Torn n)) before after (opening ++ text) (comes (Err (Torn n)) text on) (both text onward)
      met (Err TooLong) (text, on, onward) = determines bytes (Err TooLong) before after (opening ++ text) (comes (Err TooLong) text on) (both text onward)
      met (Err (Stopped why)) (text, on, onward) = determines bytes (Err (Stopped (AtPairs why))) before after (opening ++ text) (comes (Err (Stopped why)) text on) (both text onward)
      met (Err Write) (near, text, gets, onward) = (
        opening ++ text,
        elim gets [ inl (n, inner, on) ↦ inl (size + n, first_comes n inner text on) | inr (inner, on) ↦ inr (following inner, comes inner text on) ],
        GrowsByPrefix-more before middle after opening text opened onward,
      )
      met (Err Memory) (near, text, on, onward) = (
        opening ++ text,
        inr (inr (inr (start, body, text, begun, refl, lacks_on_alike w Later (limit < length bytes) longer size body state text on))),
        both text onward,
      )
      met (Err Read) (text, on, onward) = (size + length (held ++ taken), seen, opening ++ text, first_comes (length (held ++ taken)) (Err TooLong) text on, both text onward)
      met (Err NotFlow) ends = absurd ends

    none_left : (most : ℕ) (inner : Ended B) (before after : Option (List ℕ)) → Ends w Later size body state most (held ++ taken) (Some left) inner before after → OnOk (following inner) (◌≡◌ {A = Option (List ℕ)} (Some left) (Some []))
    none_left most (Ok done) before after ends = ap (λ (xs : List ℕ). Some xs) ends.0
    none_left most (Err Read) before after ends = tt
    none_left most (Err Write) before after ends = tt
    none_left most (Err Memory) before after ends = tt
    none_left most (Err NotFlow) before after ends = tt
    none_left most (Err (Torn n)) before after ends = tt
    none_left most (Err TooLong) before after ends = tt
    none_left most (Err (Stopped why)) before after ends = tt

    -- only a prefix of what comes before the first entry was written
    opening_cut : (before after : Option (List ℕ)) → GrowsByPrefix before after opening → Meets (over_history_from w begins) limit bytes (Some left) (Err Write) before after
    opening_cut before after cut =
        let none : ComesOn w (Unit {0}) size (take 0 body) state (Err TooLong) [] = record {
          units = [];
          rest = [];
          state = state;
          so_far = [];
          last = [];
          passes = record { whole = refl; each = All-nil w.format.units.IsLawful; goes = (refl, refl) };
          halts = ((none_in_none w.format.units exact.readable.units, (exact.short, tt)), refl);
          writes = refl;
        } in
        (opening ++ [], inl (size + 0, first_comes 0 (Err TooLong) [] none), subst (λ (x : List ℕ). GrowsByPrefix before after x) (sym (append-nil opening)) cut)

    -- what comes before the first entry ran out of memory
    opening_lacks : (held_there : Option (List ℕ)) → begins.Allocates (market_of start) → Meets (over_history_from w begins) limit bytes (Some left) (Err Memory) held_there held_there
    opening_lacks held_there allocates = ([], inr (inr (inl (start, body, begun, allocates, refl))), Grows-nothing held_there)

  -- what was done, for a source of known content
  record AreTold (told after : Option (List ℕ)) (ended : Ended (HistoryStop B)) (before now : Option (List ℕ)) : Type 0 where
    meets : IfSome told (λ bytes. Meets (over_history_from w begins) limit bytes after ended before now)
    left : OnOk ended (IfSome told (λ bytes. after ≡ Some []))

  nothing_told : (after : Option (List ℕ)) (ended : Ended (HistoryStop B)) → OnOk ended (IfSome None (λ (bytes : List ℕ). after ≡ Some []))
  nothing_told after (Ok done) = tt
  nothing_told after (Err why) = tt

  told_left : (bytes left : List ℕ) (ended : Ended (HistoryStop B)) → OnOk ended (◌≡◌ {A = Option (List ℕ)} (Some left) (Some [])) → OnOk ended (IfSome (Some bytes) (λ bytes. ◌≡◌ {A = Option (List ℕ)} (Some left) (Some [])))
  told_left bytes left (Ok done) none = none
  told_left bytes left (Err why) none = tt

  -- the source's bytes are the beginning, the bytes held, those taken later and those left
  whole_is : (start : Start) (bytes held taken left : List ℕ) → bytes ≡ ((starts.encode start ++ held) ++ taken) ++ left → bytes ≡ starts.encode start ++ (held ++ (taken ++ left))
  whole_is start bytes held taken left takes = takes ∙ append_assoc (starts.encode start ++ held) taken left ∙ append_assoc (starts.encode start) held (taken ++ left)

  are_told : (start : Start) → starts.IsLawful start → (told after : Option (List ℕ)) (held taken : List ℕ) → length (starts.encode start) + length held ≤ limit → Takes told after ((starts.encode start ++ held) ++ taken) → (most : ℕ) (inner : Ended B) (before middle now : Option (List ℕ))
      → Grows before middle (begins.opens (market_of start))
      → Ends w (limit - length (starts.encode start) < length (held ++ known taken after)) (length (starts.encode start)) (take (limit - length (starts.encode start)) (held ++ known taken after)) (begins.starts (market_of start)) most (held ++ taken) after inner middle now
      → AreTold told after (following inner) before now
  are_told start lawful None after held taken within takes most inner before middle now opened ends = record { meets = tt; left = nothing_told after (following inner) }
  are_told start lawful (Some bytes) None held taken within takes most inner before middle now opened ends = absurd takes
  are_told start lawful (Some bytes) (Some left) held taken within takes most inner before middle now opened ends =
      let whole = whole_is start bytes held taken left takes in
      record {
        meets = met start lawful bytes held taken left whole within most before middle now opened inner ends;
        left = told_left bytes left (following inner) (none_left start lawful bytes held taken left whole within most inner middle now ends);
      }

  reads_back : (inner : Ended B) → following inner ≡ Err Read → inner ≡ Err Read
  reads_back (Err Read) e = refl
  reads_back (Ok done) e = absurd cc
  reads_back (Err Write) e = absurd cc
  reads_back (Err Memory) e = absurd cc
  reads_back (Err NotFlow) e = absurd cc
  reads_back (Err (Torn n)) e = absurd cc
  reads_back (Err TooLong) e = absurd cc
  reads_back (Err (Stopped why)) e = absurd cc

  writes_back : (inner : Ended B) → following inner ≡ Err Write → inner ≡ Err Write
  writes_back (Err Write) e = refl
  writes_back (Ok done) e = absurd cc
  writes_back (Err Read) e = absurd cc
  writes_back (Err Memory) e = absurd cc
  writes_back (Err NotFlow) e = absurd cc
  writes_back (Err (Torn n)) e = absurd cc
  writes_back (Err TooLong) e = absurd cc
  writes_back (Err (Stopped why)) e = absurd cc

  pub does_after : (before middle after : Option (List ℕ)) (first faults later : ℕ) (window : WindowState) (market : Market) (inner : Ended B) (most : ℕ) (held opened now : Option (List ℕ)) (out_first out_faults out_later : ℕ) → Begins before middle window market → window.limit ≡ limit
      → Grows held opened (begins.opens market) → out_faults ≡ out_first
      → ContinuesFrom w most window (begins.starts market) inner (record { before = middle; after = after; faults = faults; faults_after = later }) (record { before = opened; after = now; faults = out_faults; faults_after = out_later })
      → faults ≡ first → Blames (inner ≡ Err Read) faults later → Blames (inner ≡ Err Write) out_faults out_later
      → Does (over_history_from w begins) limit (following inner) (record { before = before; after = after; faults = first; faults_after = later }) (record { before = held; after = now; faults = out_first; faults_after = out_later })
  does_after before middle after first faults later window market inner most held opened now out_first out_faults out_later begin same written out_quiet goes quiet reads writes =
      let start = begin.start in
      let encoded = starts.encode start in
      let taken = Takes-more before middle after (encoded ++ window.held) goes.taken begin.takes goes.takes in
      let within : length encoded + length window.held ≤ limit = omega (arith, begin.within, begin.place, same) in
      let ends = rw (same, begin.place, begin.market_is) at goes.ends in
      let few = goes.few in
      let told = are_told start begin.lawful before after window.held goes.taken within taken most inner held opened now (rw begin.market_is at written) ends in
      let most_taken = took before after ((encoded ++ window.held) ++ goes.taken) (limit + 1) taken (omega (arith, few, same, begin.place, within, length-append (encoded ++ window.held) goes.taken, length-append encoded window.held)) in
      tasks.does (over_history_from w begins) limit (following inner) (record { before = before; after = after; faults = first; faults_after = later }) (record { before = held; after = now; faults = out_first; faults_after = out_later }) told.meets
      (λ why. tasks.keeps_up_within (over_history_from w begins) limit before after ((encoded ++ window.held) ++ goes.taken) held now taken most_taken (omega arith)) most_taken told.left
      (blames_later first faults later quiet (reads_back inner) (ap following) reads) (blames_later out_first out_faults out_later out_quiet (writes_back inner) (ap following) writes)

  -- ---- a history begins, and what comes before the first entry wasn't written completely

  module _ (before after : Option (List ℕ)) (first later : ℕ) (window : WindowState) (market : Market) (begin : Begins before after window market) (same : window.limit ≡ limit) (quiet : later ≡ first) where
    abbrev encoded : List ℕ
    encoded = starts.encode begin.start

    few_held : length encoded + length window.held ≤ limit
    few_held = omega (arith, begin.within, begin.place, same)

    most_read : TakesAtMost before after (limit + 1)
    most_read = took before after (encoded ++ window.held) (limit + 1) begin.takes (omega (arith, few_held, length-append encoded window.held))

    -- what holds of bytes that begin with the history's beginning holds of the source's bytes, if these are known
    so_begun : (Is : List ℕ → Option (List ℕ) → Type 0) → ((bytes left : List ℕ) → bytes ≡ encoded ++ (window.held ++ ([] ++ left)) → Is bytes (Some left)) → (told rest : Option (List ℕ)) → Takes told rest (encoded ++ window.held) → IfSome told (λ bytes. Is bytes rest)
    so_begun Is so None rest takes = tt
    so_begun Is so (Some bytes) None takes = absurd takes
    so_begun Is so (Some bytes) (Some left) takes = so bytes left (takes ∙ append_assoc encoded window.held left)

    abbrev pub read : Change
    read = record { before = before; after = after; faults = first; faults_after = later }

    reads_quiet : (ended : Ended (HistoryStop B)) → (ended ≡ Err Read → ⊥) → Blames (ended ≡ Err Read) first later
    reads_quiet ended not = record { later = omega (arith, quiet); rose = λ e. absurd (not e); quiet = λ _. quiet }

    pub does_not_open : (held now : Option (List ℕ)) (out_first out_later : ℕ) → GrowsByPrefix held now (begins.opens market) → Blames (Unit {0}) out_first out_later
        → Does (over_history_from w begins) limit (Err Write) read (record { before = held; after = now; faults = out_first; faults_after = out_later })
    does_not_open held now out_first out_later cut cause =
        tasks.does (over_history_from w begins) limit (Err Write) read (record { before = held; after = now; faults = out_first; faults_after = out_later })
        (so_begun (λ bytes rest. Meets (over_history_from w begins) limit bytes rest (Err Write) held now)
        (λ bytes left whole. opening_cut begin.start begin.lawful bytes window.held [] left whole few_held held now (rw begin.market_is at cut)) before after begin.takes)
        (λ why. tasks.keeps_up_within (over_history_from w begins) limit before after (encoded ++ window.held) held now begin.takes most_read (omega arith)) most_read tt
        (reads_quiet (Err Write) (λ e. cc)) (record { later = cause.later; rose = λ e. cause.rose tt; quiet = λ not. absurd (not refl) })

    pub wants_opening : (held : Option (List ℕ)) (faults : ℕ) → begins.Allocates market → Does (over_history_from w begins) limit (Err Memory) read (record { before = held; after = held; faults = faults; faults_after = faults })
    wants_opening held faults allocates =
        tasks.does (over_history_from w begins) limit (Err Memory) read (record { before = held; after = held; faults = faults; faults_after = faults })
        (so_begun (λ bytes rest. Meets (over_history_from w begins) limit bytes rest (Err Memory) held held)
        (λ bytes left whole. opening_lacks begin.start begin.lawful bytes window.held [] left whole few_held held (rw begin.market_is at allocates)) before after begin.takes)
        (λ why. tasks.keeps_up_within (over_history_from w begins) limit before after (encoded ++ window.held) held held begin.takes most_read (omega arith)) most_read tt
        (reads_quiet (Err Memory) (λ e. cc)) (record { later = omega arith; rose = λ e. absurd cc; quiet = λ _. refl })

  -- ---- no history begins, or its beginning wasn't read completely

  -- what was found of the considered bytes holds of the source's bytes, if these are known
  found_told : (told rest : Option (List ℕ)) (taken : List ℕ) (Is : List ℕ → Type 0) → Takes told rest taken → Is (take limit (known taken rest)) → IfSome told (λ bytes. Is (take limit bytes))
  found_told None rest taken Is takes is = tt
  found_told (Some bytes) None taken Is takes is = absurd takes
  found_told (Some bytes) (Some left) taken Is takes is = subst (λ (xs : List ℕ). Is (take limit xs)) (sym takes) is

  so_told : (told : Option (List ℕ)) (P Q : List ℕ → Type 0) → ((bytes : List ℕ) → P bytes → Q bytes) → IfSome told P → IfSome told Q
  so_told None P Q to is = tt
  so_told (Some bytes) P Q to is = to bytes is

  module _ (before after : Option (List ℕ)) (first later : ℕ) (held : Option (List ℕ)) (faults : ℕ) where
    abbrev pub source : Change
    source = record { before = before; after = after; faults = first; faults_after = later }

    abbrev pub out : Change
    out = record { before = held; after = held; faults = faults; faults_after = faults }

    pub does_not_flow : AreFound limit before after BeginsOtherwise → later ≡ first → Does (over_history_from w begins) limit (Err NotFlow) source out
    does_not_flow found quiet =
        tasks.does (over_history_from w begins) limit (Err NotFlow) source out
        (so_told before (λ bytes. BeginsOtherwise (take limit bytes)) (λ bytes. Meets (over_history_from w begins) limit bytes after (Err NotFlow) held held) (λ bytes is. determines bytes (Err NotFlow) held held [] (inl (is, refl, refl)) (Grows-nothing held)) (found_told before after found.taken BeginsOtherwise found.takes found.are))
        (λ why. absurd (elim why [ inl e ↦ cc | inr e ↦ cc ])) (took before after found.taken (limit + 1) found.takes found.few) tt (record { later = omega (arith, quiet); rose = λ e. absurd cc; quiet = λ _. quiet })
        (record { later = omega arith; rose = λ e. absurd cc; quiet = λ _. refl })

    pub does_not_restore : AreFound limit before after BeginsUnsound → later ≡ first → Does (over_history_from w begins) limit (Err (Stopped NoCheckpoint)) source out
    does_not_restore found quiet =
        tasks.does (over_history_from w begins) limit (Err (Stopped NoCheckpoint)) source out
        (so_told before (λ bytes. BeginsUnsound (take limit bytes)) (λ bytes. Meets (over_history_from w begins) limit bytes after (Err (Stopped NoCheckpoint)) held held) (λ bytes is. determines bytes (Err (Stopped NoCheckpoint)) held held [] (inr (inl (is, refl, refl))) (Grows-nothing held)) (found_told before after found.taken BeginsUnsound found.takes found.are))
        (λ why. absurd (elim why [ inl e ↦ cc | inr e ↦ cc ])) (took before after found.taken (limit + 1) found.takes found.few) tt (record { later = omega (arith, quiet); rose = λ e. absurd cc; quiet = λ _. quiet })
        (record { later = omega arith; rose = λ e. absurd cc; quiet = λ _. refl })

    -- bytes that begin no history result in some end, if more follow
    some_end : (bytes : List ℕ) → BeginsWithNone starts bytes → (ended : Ended (HistoryStop B)) × ComesFrom w begins bytes (Unit {0}) ended []
    some_end bytes none = elim (magic_or_not bytes) [ inl magic ↦ (Err (Stopped NoCheckpoint), inr (inl ((none, magic), refl, refl))) | inr not ↦ (Err NotFlow, inl ((none, not), refl, refl)) ]

    begun_told : (told rest : Option (List ℕ)) (taken : List ℕ) → Takes told rest taken → length taken ≤ limit → BeginsWithNone starts taken → IfSome told (λ bytes. Meets (over_history_from w begins) limit bytes rest (Err Read) held held)
    begun_told None rest taken takes few none = tt
    begun_told (Some bytes) None taken takes few none = absurd takes
    begun_told (Some bytes) (Some left) taken takes few none =
        let same : take (length taken) (take limit bytes) ≡ taken = ap (λ xs. take (length taken) (take limit xs)) takes ∙ ap (take (length taken)) (considered limit taken left few) ∙ take_at taken (take (limit - length taken) left) (length taken) refl in (
          length taken,
          omega (arith, ap length takes, length-append taken left),
          [],
          subst (λ (xs : List ℕ). (ended : Ended (HistoryStop B)) × ComesFrom w begins xs (Unit {0}) ended []) (sym same) (some_end taken none),
          Grows-nothing held,
        )

    pub does_not_read : AreTaken limit before after (BeginsWithNone starts) → Blames (Unit {0}) first later → Does (over_history_from w begins) limit (Err Read) source out
    does_not_read found cause =
        tasks.does (over_history_from w begins) limit (Err Read) source out (begun_told before after found.taken found.takes found.few found.are) (λ why. absurd (elim why [ inl e ↦ cc | inr e ↦ cc ])) (took before after found.taken (limit + 1) found.takes (omega (arith, found.few))) tt
        (record { later = cause.later; rose = λ e. cause.rose tt; quiet = λ not. absurd (not refl) }) (record { later = omega arith; rose = λ e. absurd cc; quiet = λ _. refl })

    lacking_told : (told rest : Option (List ℕ)) (taken : List ℕ) → Takes told rest taken → length taken ≤ limit → HasCheckpointMagic taken → IfSome told (λ bytes. Meets (over_history_from w begins) limit bytes rest (Err Memory) held held)
    lacking_told None rest taken takes few magic = tt
    lacking_told (Some bytes) None taken takes few magic = absurd takes
    lacking_told (Some bytes) (Some left) taken takes few magic =
        let all : take limit bytes ≡ taken ++ take (limit - length taken) left = ap (take limit) takes ∙ considered limit taken left few in
        ([], inr (inl (subst HasCheckpointMagic (sym all) (magic_on taken (take (limit - length taken) left) magic), refl)), Grows-nothing held)

    pub may_run_out : AreTaken limit before after HasCheckpointMagic → later ≡ first → Does (over_history_from w begins) limit (Err Memory) source out
    may_run_out found quiet =
        let most = took before after found.taken (limit + 1) found.takes (omega (arith, found.few)) in
        tasks.does (over_history_from w begins) limit (Err Memory) source out (lacking_told before after found.taken found.takes found.few found.are) (λ why. tasks.keeps_up_within (over_history_from w begins) limit before after found.taken held held found.takes most (omega arith)) most tt
        (record { later = omega (arith, quiet); rose = λ e. absurd cc; quiet = λ _. quiet }) (record { later = omega arith; rose = λ e. absurd cc; quiet = λ _. refl })
