-- What a call did that began on a disk, beside one that is known to have opened it.
use Rattle.std.proofs.Common.{◌≡◌, ◌≢◌, ◌⊎◌, ◌≤◌, ◌^◌, inl, inr, ℕ, zero, suc, List, [], ◌∷◌, ◌++◌, Option, Some, Result, Err, length, take, drop, refl, sym, ap, subst, ◌∙◌, append_assoc, take-append-drop}
use Rattle.std.specs.Prelude.{⊤, IfSome}
use Rattle.std.proofs.lemmas.List.Elements.{All-nil}
use Rattle.std.proofs.lemmas.Grind.{flat_map-append}
use Rattle.flow_io.specs.Streams.{Grows}
use Rattle.wire_records.specs.Versions.{IsReadAs}
use Rattle.wire_records.specs.declared.version.Version.{Version}
use Rattle.canonical_rule.specs.Canonical.{IsCanonicalOutcome}
use Rattle.journal_records.specs.Pairs.{IsPair}
use Rattle.market_rules.specs.Market.{Market, empty_market}
use Rattle.market_rules.specs.Journal.{Follows}
use Rattle.market_history.specs.Histories.{Start, Empty, market_of}
use Rattle.disk_edge.specs.Disks.{DiskState}
use Rattle.journal_disk.specs.Entries.{IsNewDisk}
use Rattle.journal_keeping.specs.Inputs.{InputStarts}
use Rattle.journal_keeping.specs.Starts.{version_of}
use Rattle.journal_keeping.specs.Openings.{Opening, New, Legal, IsOpening, OpensAs}
use Rattle.journal_keeping.specs.Outputs.{Output, Gains}
use Rattle.journal_keeping.specs.Keeping.{HoldsLegal, GoesOnIn, StandsForJournal}
use Rattle.journal_keeping.specs.Dialogs.{Dialog, ServesIn}
use Rattle.journal_keeping.specs.declared.fault.KeepFault.{KeepFault}
use Rattle.journal_keeping.specs.declared.fault.KeepFault.TheVariants.{Write}
use Rattle.journal_keeping.proofs.Gaining.{joined, whole_text}
use Rattle.journal_keeping.proofs.Opened.{legal_is_opened}
use Rattle.line_keeping.specs.Inputs.{newest}
use Rattle.kept_laws.specs.Laws.{GainsFirst, HasBegun}
use Rattle.kept_laws.proofs.Promised.{Pairs}
use Rattle.kept_laws.proofs.Alike.{legal_is, gained_nothing}

abbrev pub Texts : Type 0
Texts = List (List ℕ)

-- ---- outputs

-- what an output gained is a prefix of the texts
gained_first : (Cut : Type 0) (out later : Output) (texts : Texts) → Gains Cut out later texts → (begun : List ℕ) × (rest : List ℕ) × Grows out.held later.held begun × (joined texts ≡ begun ++ rest)
gained_first Cut out later texts gains =
    let whole = joined gains.whole in
    let last = joined gains.last in (
      whole ++ take gains.count last,
      drop gains.count last,
      gains.written,
      ap joined gains.parts ∙ flat_map-append (λ (text : List ℕ). text) gains.whole gains.last ∙ ap (λ (l : List ℕ). whole ++ l) (sym (take-append-drop gains.count last))
          ∙ sym (append_assoc whole (take gains.count last) (drop gains.count last)),
    )

-- the first of some texts
pub gains_first : (Cut : Type 0) (out later before after : Output) (texts told more : Texts) → texts ≡ told ++ more → Gains ⊥ out later texts → Gains Cut before after told → GainsFirst out later before after
gains_first Cut out later before after texts told more is all some =
    let first = gained_first Cut before after told some in (
      joined texts,
      first.0,
      first.1 ++ joined more,
      whole_text out later texts all,
      first.2,
      ap joined is ∙ flat_map-append (λ (text : List ℕ). text) told more ∙ ap (λ (l : List ℕ). l ++ joined more) first.3 ∙ append_assoc first.0 first.1 (joined more),
    )

-- nothing, where nothing was written
pub gains_nothing : (Cut : Type 0) (out later before after : Output) (told : Texts) → later ≡ out → told ≡ [] → Gains Cut before after told → GainsFirst out later before after
gains_nothing Cut out later before after told same none some =
    let first = gained_first Cut before after told some in
    ([], first.0, first.1, gained_nothing out later same, first.2, sym (ap joined none) ∙ first.3)

-- ---- disks

-- What a call added from this market on, and answered, with the input that begins so. The other two are the market and the beginning of the input with which the disk was opened.
pub record Continued (dialog : Dialog) (limit : ℕ) (held bytes : List ℕ) (Cut : Type 0) (market : Market) (other : Start) (count : ℕ) (out later : Output) : Type 0 where
  pub input : Start
  pub from : Market
  pub pairs : Pairs
  pub now : Market
  pub steps : Follows IsReadAs IsCanonicalOutcome from pairs now
  pub texts : Texts
  pub added : dialog.Adds limit (Some bytes) input from count pairs texts
  pub gained : Gains Cut out later texts
  pub same : ((from ≡ market) × (input ≡ other)) ⊎ (IsNewDisk held × (from ≡ market_of input) × dialog.starts.MayBegin input × (market ≡ market_of other) × dialog.starts.MayBegin other)

-- the first entries are steps
first_steps : (old : Market) (pairs : Pairs) (new : Market) (count : ℕ) → Follows IsReadAs IsCanonicalOutcome old pairs new → (mid : Market) × Follows IsReadAs IsCanonicalOutcome old (take count pairs) mid
first_steps old pairs new zero steps = (old, refl)
first_steps old [] new (suc count) steps = (old, refl)
first_steps old (pair ∷ pairs) new (suc count) steps =
    let rest = first_steps steps.0 pairs new count steps.2 in
    (rest.0, (steps.0, steps.1, rest.1))

some_bytes : (x y : List ℕ) → ◌≡◌ {A = Option (List ℕ)} (Some x) (Some y) → x ≡ y
some_bytes x y e = cc

new_or_legal : (begin : Start) (pairs : Pairs) (market : Market) → ◌≡◌ {A = Opening} (Legal begin pairs market) New → ⊥
new_or_legal begin pairs market e = absurd cc

module _ (starts : InputStarts) (limit : ℕ) (content : Option (List ℕ)) (start : DiskState) (held : List ℕ) (told : start.content ≡ Some held) where
  old_goes_on : (begin : Start) (market : Market) (of : Start) (from : Market) (input : Start) → (¬ IsNewDisk held) → GoesOnIn starts limit content start begin market of from input → (from ≡ market) × (input ≡ Empty (version_of begin))
  old_goes_on begin market of from input long (inl x) = (x.1, x.2)
  old_goes_on begin market of from input long (inr x) = absurd (long (subst (λ (c : Option (List ℕ)). IfSome c IsNewDisk) told x.0))

  new_goes_on : (version : Version) (of : Start) (from : Market) (input : Start) → starts.MayBegin (Empty version) → GoesOnIn starts limit content start (Empty version) (empty_market version) of from input
      → (from ≡ market_of input) × starts.MayBegin input
  new_goes_on version of from input may (inl x) = (x.1 ∙ ap market_of (sym x.2), subst starts.MayBegin (sym x.2) may)
  new_goes_on version of from input may (inr x) = (x.1 ∙ ap market_of (sym x.2), subst starts.MayBegin (sym x.2) x.3)

module _ (dialog : Dialog) (limit : ℕ) (held bytes : List ℕ) (result : Result ⊤ KeepFault) (start end : DiskState) (out later : Output) (h : HasBegun dialog limit held bytes result start end out later) where
  -- a new disk may be said to begin with the empty market of any version
  holds_new : (version : Version) → IsNewDisk held → HoldsLegal start (Empty version) [] (empty_market version)
  holds_new version new = record {
    bytes = held;
    told = h.told;
    journal = record { starts = tt; each = All-nil IsPair; steps = refl };
    stands = inl (new, refl, refl);
    each = h.holds.each;
  }

  holds_these : StandsForJournal h.begin h.old held
  holds_these = subst (λ (l : List ℕ). StandsForJournal h.begin h.old l) (some_bytes h.holds.bytes held (sym h.holds.told ∙ h.told)) h.holds.stands

  continued : (market : Market) (other begin : Start) (old : Pairs) (from : Market) (count : ℕ) (s : ServesIn dialog limit (Some bytes) (result ≡ Err Write) begin start end old from out later) → length old ≡ count
      → ((s.from ≡ market) × (s.input ≡ other)) ⊎ (IsNewDisk held × (s.from ≡ market_of s.input) × dialog.starts.MayBegin s.input × (market ≡ market_of other) × dialog.starts.MayBegin other)
      → Continued dialog limit held bytes (result ≡ Err Write) market other count out later
  continued market other begin old from count s size same =
      let first = first_steps s.from s.new s.runs.now s.acknowledged s.runs.goes_on.steps in
      record {
        input = s.input;
        from = s.from;
        pairs = take s.acknowledged s.new;
        now = first.0;
        steps = first.1;
        texts = s.told;
        added = subst (λ (n : ℕ). dialog.Adds limit (Some bytes) s.input s.from n (take s.acknowledged s.new) s.told) size s.answered;
        gained = s.gained;
        same = same;
      }

  -- how it continued, if the disk was opened so
  pub begun : (begin : Start) (old : Pairs) (market : Market) (input : Start) → dialog.starts.MayBegin (Empty newest) → length held ≤ 2 ^ 60 → OpensAs dialog.starts held begin old market input
      → Continued dialog limit held bytes (result ≡ Err Write) market input (length old) out later
  begun begin old market input may small (inl legal) =
      elim (legal_is_opened h.begin h.old h.market held (Legal begin old market) h.holds.journal holds_these small legal.0) [
        | inl new ↦ absurd (new_or_legal begin old market new)
        | inr is ↦
            let same = legal_is begin h.begin old h.old market h.market is in
            let s = h.serves h.begin h.old h.market h.holds in
            let on = old_goes_on dialog.starts limit (Some bytes) start held h.told h.begin h.market s.of s.from s.input legal.0.0 s.continues in
            continued market input h.begin h.old h.market (length old) s (ap length (sym same.1)) (inl (on.0 ∙ sym same.2, on.1 ∙ ap (λ (b : Start). Empty (version_of b)) (sym same.0) ∙ sym legal.1))
      ]
  begun begin old market input may small (inr new) =
      let s = h.serves (Empty newest) [] (empty_market newest) (holds_new newest new.0.0) in
      let on = new_goes_on dialog.starts limit (Some bytes) start held h.told newest s.of s.from s.input may s.continues in
      continued market input (Empty newest) [] (empty_market newest) (length old) s (ap length (sym new.1))
      (inr (new.0.0, on.0, on.1, new.2 ∙ ap market_of (sym new.3), subst dialog.starts.MayBegin (sym new.3) new.4))

  -- the disk isn't refused
  pub not_refused : (opening : Opening) → length held ≤ 2 ^ 60 → IsOpening held opening → (opening ≢ New) → ((begin : Start) (pairs : Pairs) (market : Market) → opening ≢ Legal begin pairs market) → ⊥
  not_refused opening small is new legal =
      elim (legal_is_opened h.begin h.old h.market held opening h.holds.journal holds_these small is) [
        | inl one ↦ new one
        | inr one ↦ legal h.begin h.old h.market one
      ]
