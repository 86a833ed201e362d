-- What a call wrote, however it ended, is a prefix of what a call writes that doesn't fail, on the same bytes of a file and of an input.
use Rattle.std.proofs.Common.{◌≡◌, ◌⊎◌, ◌≤◌, inl, inr, ℕ, ◌-◌, List, [], ◌∷◌, ◌++◌, Option, Some, Result, Ok, Err, ◌+◌, length, take, drop, length-take, take-append-drop, append-nil, append_assoc, refl, sym, ap, subst, ◌∙◌, arith}
use Rattle.std.specs.Prelude.{⊤}
use Rattle.std.proofs.Math.Seq.{take-append-add}
use Rattle.std.proofs.lemmas.Grind.{flat_map-append}
use Rattle.flow_io.specs.Streams.{Grows}
use Rattle.word_driver.specs.Does.{IsTaken}
use Rattle.wire_records.specs.Commands.{Command}
use Rattle.market_rules.specs.Market.{Market}
use Rattle.market_history.specs.Histories.{Start, market_of, CanStart}
use Rattle.disk_edge.specs.Disks.{DiskState}
use Rattle.journal_keeping.specs.Outputs.{Output, Gains}
use Rattle.journal_keeping.proofs.Gaining.{joined, gains_none, whole_text}
use Rattle.desk_lines.specs.Laws.{OneHearing, OneWish}
use Rattle.desk_messages.specs.Desks.{Desks}
use Rattle.desk_opening.specs.Beginnings.{bytes_before}
use Rattle.desk_opening.specs.Laws.{OneBeginning}
use Rattle.desk_opening.specs.Openings.{IsNoBook}
use Rattle.line_records.specs.Lines.{ended_by_feeds}
use Rattle.desk_keeping.specs.Hosting.{Entries, Texts, desks_of, AreHosted, HasAllLines, HasFirstLines, HasUpTo, HasAnswered, AreOfFile, TellsFirst, ComesTo, IsOfFile}
use Rattle.desk_keeping.specs.declared.fault.HostFault.{HostFault}
use Rattle.desk_keeping.specs.declared.fault.HostFault.TheVariants.{Read, Write, Disk, Memory, NotDisk, Damaged, Rejected, NotFlow, BadCheckpoint, TooLong, Differs}
use Rattle.host_laws.specs.Laws.{GainAlike, GainsFirst, IsFailure, HostedBegunIsAPrefix}
use Rattle.host_laws.proofs.Together.{AreOne, one_stays}
use Rattle.host_laws.proofs.Lockstep.{GoesOn, Walks, walks_all}
use Rattle.host_laws.proofs.Inputs.{HasText, text_first, one_text}
use Rattle.host_laws.proofs.Files.{same_file, all_of_file}
use Rattle.host_laws.proofs.Begun.{IsFirst, Passes, Starts, starts_first, starts_all, starts_of}
use Rattle.host_laws.proofs.Stops.{Cause, Why, AreOf, are_of, of_alike, no_more, none_follow, none_after, IsStopped, IsAnswered, files_alike}
use Rattle.host_laws.proofs.Results.{Call, IsRefused, IsUnbegun, IsOtherwise, IsAtEntry, IsEnd, no_text, not_otherwise, came, one_hosted_output}

-- ---- outputs

-- what an output gained is a prefix of the texts
gained_first : (Cut : Type 0) (out later : Output) (texts : Texts) → Gains Cut out later texts → (begun : List ℕ) × (rest : List ℕ) × Grows out.held later.held begun × (joined texts ≡ begun ++ rest)
gained_first Cut out later texts gains =
    let whole = joined gains.whole in
    let last = joined gains.last in (
      whole ++ take gains.count last,
      drop gains.count last,
      gains.written,
      ap joined gains.parts ∙ flat_map-append (λ (text : List ℕ). text) gains.whole gains.last ∙ ap (λ (l : List ℕ). whole ++ l) (sym (take-append-drop gains.count last))
          ∙ sym (append_assoc whole (take gains.count last) (drop gains.count last)),
    )

gains_first : (Cut : Type 0) (out later before after : Output) (texts told : Texts) → IsFirst told texts → Gains ⊥ out later texts → Gains Cut before after told → GainsFirst out later before after
gains_first Cut out later before after texts told (more, is) all some =
    let (begun, rest, grows, parts) = gained_first Cut before after told some in (
      joined texts,
      begun,
      rest ++ joined more,
      whole_text out later texts all,
      grows,
      ap joined is ∙ flat_map-append (λ (text : List ℕ). text) told more ∙ ap (λ (l : List ℕ). l ++ joined more) parts ∙ append_assoc begun rest (joined more),
    )

gains_nothing : (out later before after : Output) (texts : Texts) → Gains ⊥ out later texts → after ≡ before → GainsFirst out later before after
gains_nothing out later before after texts all none =
    gains_first ⊥ out later before after texts [] (texts, refl) all (subst (λ (o : Output). Gains ⊥ before o []) (sym none) (gains_none ⊥ before))

-- ---- what was told

-- What a call told, perhaps cut short: the texts of the first lines of the input, by the first of such entries as the file has, or gets by the canonical rule.
record HasTold (Cut : Type 0) (held bytes : List ℕ) (before after : Output) : Type 0 where
  begin : Start
  lines : List (List ℕ)
  is : HasText bytes begin lines
  pairs : Entries
  others : Entries
  texts : Texts
  starts : Starts (market_of begin) (desks_of begin) 0 lines pairs texts
  file : AreOf held begin (pairs ++ others)
  gained : Gains Cut before after texts

of_file : (held : List ℕ) (begin : Start) (pairs : Entries) → AreOfFile held begin pairs → AreOf held begin pairs
of_file held begin pairs (inl up_to) = inl up_to
of_file held begin pairs (inr (old, new, before, after, parts, continues, follows)) = inr (old, before, new, after, continues, parts, follows)

told_first : (Cut : Type 0) (limit : ℕ) (held bytes : List ℕ) (before after : Output) → TellsFirst Cut limit held (Some bytes) before after → HasTold Cut held (take limit bytes) before after
told_first Cut limit held bytes before after x =
    let all = text_first (take limit bytes) x.begin x.lines x.are in
    record {
      begin = x.begin;
      lines = x.lines ++ all.0;
      is = all.1;
      pairs = x.pairs;
      others = x.others;
      texts = x.texts;
      starts = starts_of x.lines all.0 x.pairs x.texts (market_of x.begin) (desks_of x.begin) 0 x.answered;
      file = of_file held x.begin (x.pairs ++ x.others) x.file;
      gained = x.gained;
    }

-- all lines of the first bytes are the first lines of more of them
first_lines : (n limit : ℕ) (bytes : List ℕ) (begin : Start) (lines : List (List ℕ)) → n ≤ limit → HasAllLines (take n bytes) begin lines → HasFirstLines (take limit bytes) begin lines
first_lines n limit bytes begin lines few (last, has, piece) =
    let first = take n bytes in
    let more = take (limit - length first) (drop n bytes) in
    let size : limit ≡ length first + (limit - length first) = omega (arith, few, length-take n bytes) in
    let whole : take limit bytes ≡ first ++ more =
    ap (take limit) (sym (take-append-drop n bytes)) ∙ ap (λ (k : ℕ). take k (first ++ drop n bytes)) size ∙ take-append-add first (drop n bytes) (limit - length first) in (
      last ++ more,
      record {
        starts = has.starts;
        pieces = has.pieces;
        whole =
            whole ∙ ap (λ (l : List ℕ). l ++ more) has.whole ∙ append_assoc (bytes_before begin) (ended_by_feeds lines ++ last) more
            ∙ ap (λ (l : List ℕ). bytes_before begin ++ l) (append_assoc (ended_by_feeds lines) last more);
      },
    )

module _ (limit : ℕ) (held bytes : List ℕ) (left : Option (List ℕ)) (start end : DiskState) (before after : Output) where
  abbrev WasTaken : Start → List (List ℕ) → Type 0
  WasTaken begin lines = (n : ℕ) × IsTaken bytes left n × (n ≤ limit) × HasAllLines (take n bytes) begin lines

  told_read : HasAnswered WasTaken held start end before after → HasTold ⊥ held (take limit bytes) before after
  told_read x =
      let (n, taken, few, lines) = x.are in
      let all = text_first (take limit bytes) x.begin x.lines (first_lines n limit bytes x.begin x.lines few lines) in
      record {
        begin = x.begin;
        lines = x.lines ++ all.0;
        is = all.1;
        pairs = x.pairs;
        others = [];
        texts = x.texts;
        starts = starts_all x.lines all.0 x.pairs x.texts (market_of x.begin) x.market (desks_of x.begin) x.desks 0 x.hosted;
        file = subst (λ (l : Entries). AreOf held x.begin l) (sym (append-nil x.pairs)) (are_of held x.begin x.pairs x.market start end x.file);
        gained = x.gained;
      }

-- ---- beside a call that doesn't fail

goes_on : (m : Market) (next : List Command) (b : Entries) → Passes AreOne one_stays m next b → GoesOn m next b
goes_on m [] b on = on
goes_on m (command ∷ commands) b (pair, others, after, is, asked, step) = (pair, others, after, sym is, asked, step)

module _ (one_hearing : OneHearing) (one_wish : OneWish) (held : List ℕ) (begin : Start) (lines : List (List ℕ)) (p others : Entries) (t : Texts) (starts : Starts (market_of begin) (desks_of begin) 0 lines p t) (file : AreOf held begin (p ++ others)) where
  -- one that stopped at an entry of the file
  before_stop : (cause : Cause) (next : List Command) (q : Entries) (u : Texts) (m : Market) (y : Desks) (place : ℕ) → Walks (market_of begin) (desks_of begin) 0 lines next q u m y → HasUpTo held begin q m place → Why held cause place q m next → IsFirst t u
  before_stop cause next q u m y place walks has why = by file
    where
      first : (a b : Entries) → p ++ a ≡ q ++ b → (GoesOn m next b → ⊥) → IsFirst t u
      first a b e not =
          elim (starts_first AreOne one_stays one_hearing one_wish lines next p q t u (market_of begin) m (desks_of begin) y 0 a b starts walks e) [
            | inl is ↦ is
            | inr on ↦ absurd (not (goes_on m next b on))
          ]

      by : AreOf held begin (p ++ others) → IsFirst t u
      by (inl (k, at, there)) =
          elim (same_file held begin (p ++ others) q k m at place there.legal has.legal) [
            | inl more ↦ first (others ++ more.0) [] (sym (append_assoc p others more.0) ∙ sym more.1 ∙ sym (append-nil q)) (none_follow m next)
            | inr more ↦ first others more.0 more.1 (no_more held begin cause q (p ++ others) more.0 m k next place at has.is_file why has.legal there.legal more.1)
          ]
      by (inr (old, before, new, after, inl legal, parts, follows)) =
          let rest = all_of_file held begin q old m before place has.legal legal.2 legal.3 in
          first others (rest.0 ++ new) (parts ∙ ap (λ (l : Entries). l ++ new) rest.1 ∙ append_assoc q rest.0 new)
          (none_after held begin cause q old new rest.0 m before next place has why legal.2 legal.3 rest.1)
      by (inr (old, before, new, after, inr is_new, parts, follows)) = absurd (has.is_old is_new.0.0)

  -- one that answered all lines
  before_end : (q : Entries) (u : Texts) (m : Market) (y : Desks) → CanStart begin → AreHosted begin lines q u m y → AreOf held begin q → IsFirst t u
  before_end q u m y can hosted also =
      let f = files_alike held begin can (p ++ others) q file also in
      let walks = walks_all lines q u (market_of begin) m (desks_of begin) y 0 hosted in
      elim (starts_first f.rule f.stay one_hearing one_wish lines [] p q t u (market_of begin) m (desks_of begin) y 0 (others ++ f.a) f.b starts walks
      (subst (λ (l : Entries). f.rule (market_of begin) l (q ++ f.b)) (append_assoc p others f.a) f.alike)) [ inl is ↦ is | inr on ↦ absurd on ]

module _ (one_hearing : OneHearing) (one_wish : OneWish) (one_beginning : OneBeginning) (limit : ℕ) (held all bytes : List ℕ) where
  told_stop : (Cut : Type 0) (before after : Output) (cause : Cause) (x : HasTold Cut held bytes before after) (y : IsStopped held bytes cause) → IsFirst x.texts y.texts
  told_stop Cut before after cause x y =
      let same = one_text one_beginning bytes x.begin y.begin x.lines y.lines x.is y.is in
      before_stop one_hearing one_wish held y.begin y.lines x.pairs x.others x.texts
      (subst (λ (v : Start). Starts (market_of v) (desks_of v) 0 y.lines x.pairs x.texts) same.0 (subst (λ (l : List (List ℕ)). Starts (market_of x.begin) (desks_of x.begin) 0 l x.pairs x.texts) same.1 x.starts))
      (subst (λ (v : Start). AreOf held v (x.pairs ++ x.others)) same.0 x.file) cause y.next y.pairs y.texts y.market y.desks y.place y.walks y.has y.why

  told_end : (Cut : Type 0) (before after : Output) (x : HasTold Cut held bytes before after) (y : IsAnswered held bytes) → IsFirst x.texts y.texts
  told_end Cut before after x y =
      let same = one_text one_beginning bytes x.begin y.begin x.lines y.lines x.is y.is in
      before_end one_hearing one_wish held y.begin y.lines x.pairs x.others x.texts
      (subst (λ (v : Start). Starts (market_of v) (desks_of v) 0 y.lines x.pairs x.texts) same.0 (subst (λ (l : List (List ℕ)). Starts (market_of x.begin) (desks_of x.begin) 0 l x.pairs x.texts) same.1 x.starts))
      (subst (λ (v : Start). AreOf held v (x.pairs ++ x.others)) same.0 x.file) y.pairs y.texts y.market y.desks y.is.starts y.hosted y.file

  -- what a call told, beside one that doesn't fail
  told_within : (Cut : Type 0) (c : Call) (before after : Output) → (IsUnbegun bytes c ⊎ (IsOtherwise held bytes c ⊎ (IsAtEntry held bytes c ⊎ IsEnd limit held all bytes c)))
      → HasTold Cut held bytes before after → GainsFirst c.out c.later before after
  told_within Cut c before after (inl x) t = absurd (no_text one_hearing one_wish one_beginning limit held all bytes c t.begin t.lines x t.is)
  told_within Cut c before after (inr (inl x)) t =
      absurd (not_otherwise one_hearing one_wish one_beginning limit held all bytes c t.begin t.lines x t.is (λ v so long. of_alike held t.begin (t.pairs ++ t.others) t.file v so long))
  told_within Cut c before after (inr (inr (inl x))) t = gains_first Cut c.out c.later before after x.is.texts t.texts (told_stop Cut before after x.cause t x.is) x.gained t.gained
  told_within Cut c before after (inr (inr (inr x))) t = gains_first Cut c.out c.later before after x.is.texts t.texts (told_end Cut before after t x.is) x.gained t.gained

-- ---- any call beside one that doesn't fail

-- results that are no failure
fault_is : (v w : HostFault) → ◌≡◌ {A = Result ⊤ HostFault} (Err v) (Err w) → v ≡ w
fault_is v w e = cc

no_failure : (fault : HostFault) → (fault ≡ Read → ⊥) → (fault ≡ Write → ⊥) → (fault ≡ Disk → ⊥) → (fault ≡ Memory → ⊥) → IsFailure (Err fault) → ⊥
no_failure fault read write disk memory (inl is) = read (fault_is fault Read is)
no_failure fault read write disk memory (inr (inl is)) = write (fault_is fault Write is)
no_failure fault read write disk memory (inr (inr (inl is))) = disk (fault_is fault Disk is)
no_failure fault read write disk memory (inr (inr (inr is))) = memory (fault_is fault Memory is)

no_failure_ok : (done : ⊤) → IsFailure (Ok done) → ⊥
no_failure_ok done (inl is) = absurd cc
no_failure_ok done (inr (inl is)) = absurd cc
no_failure_ok done (inr (inr (inl is))) = absurd cc
no_failure_ok done (inr (inr (inr is))) = absurd cc

module _ (one_hearing : OneHearing) (one_wish : OneWish) (one_beginning : OneBeginning) (limit : ℕ) (held bytes : List ℕ) where
  -- what the other call wrote
  module _ (c : Call) (came_so : IsRefused held c ⊎ (IsUnbegun (take limit bytes) c ⊎ (IsOtherwise held (take limit bytes) c ⊎ (IsAtEntry held (take limit bytes) c ⊎ IsEnd limit held bytes (take limit bytes) c)))) (refuses : IsNoBook held → IsOfFile c.result × (c.later ≡ c.out)) where
    nothing : (before after : Output) → after ≡ before → GainsFirst c.out c.later before after
    nothing before after none = by came_so
      where
        unwritten : c.later ≡ c.out → GainsFirst c.out c.later before after
        unwritten is = gains_nothing c.out c.later before after [] (subst (λ (o : Output). Gains ⊥ c.out o []) (sym is) (gains_none ⊥ c.out)) none

        by : IsRefused held c ⊎ (IsUnbegun (take limit bytes) c ⊎ (IsOtherwise held (take limit bytes) c ⊎ (IsAtEntry held (take limit bytes) c ⊎ IsEnd limit held bytes (take limit bytes) c))) → GainsFirst c.out c.later before after
        by (inl x) = unwritten (refuses x.none).1
        by (inr (inl x)) = unwritten x.unwritten
        by (inr (inr (inl x))) = unwritten x.unwritten
        by (inr (inr (inr (inl x)))) = gains_nothing c.out c.later before after x.is.texts x.gained none
        by (inr (inr (inr (inr x)))) = gains_nothing c.out c.later before after x.is.texts x.gained none

    -- what was told is nothing, where the file is refused by its bytes alone
    told : (Cut : Type 0) (before after : Output) → (IsNoBook held → after ≡ before) → HasTold Cut held (take limit bytes) before after → GainsFirst c.out c.later before after
    told Cut before after quiet t = by came_so
      where
        by : IsRefused held c ⊎ (IsUnbegun (take limit bytes) c ⊎ (IsOtherwise held (take limit bytes) c ⊎ (IsAtEntry held (take limit bytes) c ⊎ IsEnd limit held bytes (take limit bytes) c))) → GainsFirst c.out c.later before after
        by (inl x) = nothing before after (quiet x.none)
        by (inr x) = told_within one_hearing one_wish one_beginning limit held bytes (take limit bytes) Cut c before after x t

    alike : (before after : Output) → GainAlike c.out c.later before after → GainsFirst c.out c.later before after
    alike before after (texts, one, other) = gains_first ⊥ c.out c.later before after texts texts ([], sym (append-nil texts)) one other

    -- a call that failed
    failed : (left : Option (List ℕ)) (start end : DiskState) (before after : Output) (result : Result ⊤ HostFault) → (IsNoBook held → after ≡ before) → ComesTo limit held (Some bytes) left start end before after result
        → (¬ IsFailure result → GainAlike c.out c.later before after) → GainsFirst c.out c.later before after
    failed left start end before after (Err Read) quiet (inl x) same = told ⊥ before after quiet (told_read limit held bytes left start end before after x)
    failed left start end before after (Err Read) quiet (inr (not, (looks, wrote))) same = nothing before after wrote
    failed left start end before after (Err Write) quiet x same = told ⊤ before after quiet (told_first ⊤ limit held bytes before after x)
    failed left start end before after (Err Disk) quiet (inl wrote, far) same = nothing before after wrote
    failed left start end before after (Err Disk) quiet (inr x, far) same = told ⊥ before after quiet (told_first ⊥ limit held bytes before after x)
    failed left start end before after (Err Memory) quiet (inl wrote) same = nothing before after wrote
    failed left start end before after (Err Memory) quiet (inr x) same = told ⊥ before after quiet (told_first ⊥ limit held bytes before after x)
    failed left start end before after (Ok done) quiet x same = alike before after (same (λ is. no_failure_ok done is))
    failed left start end before after (Err TooLong) quiet x same = alike before after (same (λ is. no_failure TooLong (λ e. cc) (λ e. cc) (λ e. cc) (λ e. cc) is))
    failed left start end before after (Err NotFlow) quiet x same = alike before after (same (λ is. no_failure NotFlow (λ e. cc) (λ e. cc) (λ e. cc) (λ e. cc) is))
    failed left start end before after (Err BadCheckpoint) quiet x same = alike before after (same (λ is. no_failure BadCheckpoint (λ e. cc) (λ e. cc) (λ e. cc) (λ e. cc) is))
    failed left start end before after (Err NotDisk) quiet x same = alike before after (same (λ is. no_failure NotDisk (λ e. cc) (λ e. cc) (λ e. cc) (λ e. cc) is))
    failed left start end before after (Err (Damaged place)) quiet x same = alike before after (same (λ is. no_failure (Damaged place) (λ e. cc) (λ e. cc) (λ e. cc) (λ e. cc) is))
    failed left start end before after (Err (Rejected number)) quiet x same = alike before after (same (λ is. no_failure (Rejected number) (λ e. cc) (λ e. cc) (λ e. cc) (λ e. cc) is))
    failed left start end before after (Err (Differs number)) quiet x same = alike before after (same (λ is. no_failure (Differs number) (λ e. cc) (λ e. cc) (λ e. cc) (λ e. cc) is))

pub hosted_begun_is_a_prefix : OneHearing → OneWish → OneBeginning → (start end other last : DiskState) → HostedBegunIsAPrefix start end other last
hosted_begun_is_a_prefix one_hearing one_wish one_beginning start end other last limit held bytes left rest out later before after a b fine x y =
    failed one_hearing one_wish one_beginning limit held bytes (record { result = a; start = start; end = end; out = out; later = later })
    (came limit held bytes start end out later x.told left a fine x.comes) x.refuses rest other last before after b (λ none. (y.refuses none).1) y.comes
    (λ well. (one_hosted_output one_hearing one_wish one_beginning start end other last limit held bytes left rest out later before after a b fine well x y).1)
