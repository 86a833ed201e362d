-- What `keep` wrote before a failure is a prefix of what it writes if it doesn't fail.
use Rattle.std.proofs.Common.{◌≡◌, ◌≢◌, ◌≤◌, ◌^◌, inl, inr, ℕ, List, [], ◌++◌, Some, Result, Ok, Err, length, take, map, refl, sym, ap, subst, ◌∙◌, append_assoc}
use Rattle.std.specs.Prelude.{⊤}
use Rattle.std.proofs.lemmas.List.{map-append}
use Rattle.std.proofs.lemmas.List.Elements.{All-append}
use Rattle.std.proofs.lemmas.Grind.{flat_map-append}
use Rattle.wire_records.specs.Records.{Record}
use Rattle.wire_records.specs.Grammars.{encode_all}
use Rattle.wire_records.specs.Reading.{Ending, File, Reads, StartsWith}
use Rattle.wire_records.specs.Reading as reading
use Rattle.wire_records.specs.Formats.{commands}
use Rattle.wire_records.specs.Versions.{IsReadAs}
use Rattle.wire_records.proofs.CodeLaws.{values_unique, parted}
use Rattle.wire_records.proofs.RecordCode.{commands_readable}
use Rattle.canonical_rule.specs.Canonical.{IsCanonicalOutcome}
use Rattle.journal_records.specs.Pairs.{pair_encoding}
use Rattle.market_rules.specs.Market.{Market, empty_market}
use Rattle.market_rules.specs.Journal.{Follows}
use Rattle.market_history.specs.Histories.{Start, Empty, market_of}
use Rattle.disk_edge.specs.Disks.{DiskState}
use Rattle.journal_keeping.specs.Starts.{version_of, sources}
use Rattle.journal_keeping.specs.Openings.{Opening, Foreign, New, Legal, IsOpening, OpensAs}
use Rattle.journal_keeping.specs.Openings as opening
use Rattle.journal_keeping.specs.Outputs.{Output}
use Rattle.journal_keeping.specs.Dialogs.{record_dialog, asked_of}
use Rattle.journal_keeping.specs.Ended.{HasKeptAll, HasLeftAll, ComesTo}
use Rattle.journal_keeping.specs.declared.fault.KeepFault.{KeepFault}
use Rattle.journal_keeping.specs.declared.fault.KeepFault.TheVariants.{Read, Write, Disk, Memory, NotDisk, Damaged, Rejected, NotFlow, BadCheckpoint, Torn, TooLong}
use Rattle.journal_keeping.proofs.Starts.{one_input}
use Rattle.line_keeping.specs.Inputs.{newest}
use Rattle.kept_laws.specs.Laws.{IsFailure, GainsFirst, HasBegun, KeptBegunIsAPrefix}
use Rattle.kept_laws.proofs.Promised.{Pairs}
use Rattle.kept_laws.proofs.OneAnswer.{first_entries}
use Rattle.kept_laws.proofs.KeptEnds.{as_command, not_unsound}
use Rattle.kept_laws.proofs.Begun.{Texts, Continued, begun, not_refused, gains_first, gains_nothing}

-- the first records of a source are the first of its reading
first_records : (limit : ℕ) (bytes : List ℕ) (input other : Start) (first all : List Record) (ending : Ending) → StartsWith sources limit bytes input first → Reads sources limit bytes (File other all ending)
    → (input ≡ other) × (more : List Record) × (all ≡ first ++ more)
first_records limit bytes input other first all ending starts reads =
    let units = commands.units in
    let begins = one_input input other starts.body reads.0 starts.magic.0 reads.1.0 (sym starts.magic.1 ∙ reads.1.1) in
    let parts = parted units commands_readable.units starts.rest in
    let whole : reads.0 ≡ encode_all units (first ++ parts.values) ++ parts.rest =
    sym begins.1 ∙ starts.whole ∙ ap (λ xs. encode_all units first ++ xs) parts.whole
    ∙ sym (append_assoc (encode_all units first) (encode_all units parts.values) parts.rest)
    ∙ ap (λ xs. xs ++ parts.rest) (sym (flat_map-append units.encode first parts.values))
    in
    let each = All-append units.IsLawful first parts.values starts.each parts.each in
    let same = values_unique units commands_readable.units all (first ++ parts.values) reads.2.rest parts.rest reads.2.each each reads.2.none parts.none (sym reads.2.whole ∙ whole) in
    (begins.0, parts.values, same.0)

module _ (limit : ℕ) (held bytes : List ℕ) (Cut : Type 0) where
  -- the texts of the first entries are the first texts
  first_texts : (other : DiskState) (out later before after : Output) (ending : Ending) (all : HasKeptAll limit held (Some bytes) other out later ending)
      (some : Continued record_dialog limit held bytes Cut all.market all.input (length all.old) before after) → (more : Texts) × (all.texts ≡ some.texts ++ more)
  first_texts other out later before after ending all some = by_added some.added
    where
      the_market : some.input ≡ all.input → some.from ≡ all.market
      the_market same =
          elim some.same [
            | inl is ↦ is.0
            | inr is ↦ is.1 ∙ ap market_of same ∙ sym is.3
          ]

      by_added : record_dialog.Adds limit (Some bytes) some.input some.from (length all.old) some.pairs some.texts → (more : Texts) × (all.texts ≡ some.texts ++ more)
      by_added (inl none, texts) = (all.texts, ap (λ (l : Texts). l ++ all.texts) (sym (texts ∙ ap (map pair_encoding) none)))
      by_added (inr starts, texts) =
          let first = first_records limit bytes some.input all.input (asked_of some.pairs) (asked_of all.new) ending starts all.are.0 in
          let steps = subst (λ (m : Market). Follows IsReadAs IsCanonicalOutcome m some.pairs some.now) (the_market first.0) some.steps in
          let rest = first_entries all.market some.pairs all.new some.now all.now first.1 first.2 steps all.goes_on.steps in
          (map pair_encoding rest.0, all.are.1 ∙ ap (map pair_encoding) rest.1 ∙ map-append pair_encoding some.pairs rest.0 ∙ ap (λ (l : Texts). l ++ map pair_encoding rest.0) (sym texts))

  -- nothing was answered if the source doesn't begin as one for the disk
  no_texts : (market : Market) (input : Start) (count : ℕ) (before after : Output) (some : Continued record_dialog limit held bytes Cut market input count before after) → (StartsWith sources limit bytes some.input (asked_of some.pairs) → ⊥) → some.texts ≡ []
  no_texts market input count before after some never = by_added some.added
    where
      by_added : record_dialog.Adds limit (Some bytes) some.input some.from count some.pairs some.texts → some.texts ≡ []
      by_added (inl none, texts) = texts ∙ ap (map pair_encoding) none
      by_added (inr starts, texts) = absurd (never starts)

module _ (limit : ℕ) (held bytes : List ℕ) (b : Result ⊤ KeepFault) (start end : DiskState) (before after : Output) (small : length held ≤ 2 ^ 60) (h : HasBegun record_dialog limit held bytes b start end before after) where
  abbrev Cut : Type 0
  Cut = b ≡ Err Write

  all_first : (other : DiskState) (out later : Output) (ending : Ending) → HasKeptAll limit held (Some bytes) other out later ending → GainsFirst out later before after
  all_first other out later ending x =
      let some = begun record_dialog limit held bytes b start end before after h x.begin x.old x.market x.input tt small x.opens in
      let more = first_texts limit held bytes Cut other out later before after ending x some in
      gains_first Cut out later before after x.texts some.texts more.0 more.1 x.gained some.gained

  -- the disk is new, and the source doesn't begin as one for it
  new_first : (out later : Output) → later ≡ out → IsOpening held New → ((input : Start) (records : List Record) → StartsWith sources limit bytes input records → ⊥) → GainsFirst out later before after
  new_first out later same new never =
      let some = begun record_dialog limit held bytes b start end before after h (Empty newest) [] (empty_market newest) (Empty newest) tt small (inr (new, refl, refl, refl, tt)) in
      gains_nothing Cut out later before after some.texts same (no_texts limit held bytes Cut (empty_market newest) (Empty newest) 0 before after some (λ starts. never some.input (asked_of some.pairs) starts)) some.gained

  left_first : (other : DiskState) (out later : Output) → later ≡ out → HasLeftAll limit held (Some bytes) other → GainsFirst out later before after
  left_first other out later same (inl (begin, old, market, legal, none, keeps)) =
      let some = begun record_dialog limit held bytes b start end before after h begin old market (Empty (version_of begin)) tt small (inl (legal, refl)) in
      gains_nothing Cut out later before after some.texts same
      (no_texts limit held bytes Cut market (Empty (version_of begin)) (length old) before after some
      (λ starts.
      elim some.same [
        | inl is ↦ none starts.body (as_command (take limit bytes) some.input (version_of begin) starts.body is.1 starts.magic)
        | inr is ↦ legal.0 is.0
      ])) some.gained
  left_first other out later same (inr (new, none, stays, leaves)) = new_first out later same new (λ input records starts. none.0 input starts.body starts.magic.0 starts.magic.1)

  -- a call that began on a disk wasn't refused
  refused_first : (out later : Output) (opens : Opening) → IsOpening held opens → (opens ≢ New) → ((begin : Start) (pairs : Pairs) (market : Market) → opens ≢ Legal begin pairs market) → GainsFirst out later before after
  refused_first out later opens is new legal = absurd (not_refused record_dialog limit held bytes b start end before after h opens small is new legal)

  first : (other : DiskState) (out later : Output) (a : Result ⊤ KeepFault) → (¬ IsFailure a) → ComesTo limit held (Some bytes) other out later a → GainsFirst out later before after
  first other out later (Ok done) fine x = all_first other out later reading.End x
  first other out later (Err (Torn place)) fine x = all_first other out later (reading.Torn place) x
  first other out later (Err TooLong) fine x = all_first other out later reading.TooLong x
  first other out later (Err NotFlow) fine x = left_first other out later x.0 x.1
  first other out later (Err BadCheckpoint) fine x = new_first out later x.0 x.1.0 (λ input records starts. not_unsound (take limit bytes) input starts.body starts.magic x.1.1)
  first other out later (Err NotDisk) fine x = refused_first out later Foreign x.1.0 (λ e. cc) (λ v p m e. cc)
  first other out later (Err (Damaged place)) fine x = refused_first out later (opening.Damaged place) x.1.0 (λ e. cc) (λ v p m e. cc)
  first other out later (Err (Rejected number)) fine x = refused_first out later (opening.Rejected number) x.1.0 (λ e. cc) (λ v p m e. cc)
  first other out later (Err Read) fine x = absurd (fine (inl refl))
  first other out later (Err Write) fine x = absurd (fine (inr (inl refl)))
  first other out later (Err Disk) fine x = absurd (fine (inr (inr (inl refl))))
  first other out later (Err Memory) fine x = absurd (fine (inr (inr (inr refl))))

pub kept_begun_is_a_prefix : (start end other : DiskState) → KeptBegunIsAPrefix start end other
kept_begun_is_a_prefix start end other limit held bytes out later before after a b small fine x h = first limit held bytes b start end before after small h other out later a fine x
