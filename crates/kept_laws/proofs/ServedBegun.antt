-- What `serve` wrote before a failure is a prefix of what it writes if it doesn't fail.
use Rattle.std.proofs.Common.{◌≡◌, ◌≢◌, ◌≤◌, ◌<◌, ◌^◌, inl, inr, ℕ, List, [], ◌++◌, Option, Some, Result, Ok, Err, length, take, refl, sym, ap, subst, ◌∙◌}
use Rattle.std.specs.Prelude.{⊤}
use Rattle.market_rules.specs.Market.{Market, empty_market}
use Rattle.market_history.specs.Histories.{Start, Empty, market_of}
use Rattle.disk_edge.specs.Disks.{DiskState}
use Rattle.journal_keeping.specs.Starts.{version_of}
use Rattle.journal_keeping.specs.Openings.{Opening, Foreign, New, Legal, IsOpening}
use Rattle.journal_keeping.specs.Openings as opening
use Rattle.journal_keeping.specs.Outputs.{Output}
use Rattle.journal_keeping.specs.declared.fault.KeepFault.{KeepFault}
use Rattle.journal_keeping.specs.declared.fault.KeepFault.TheVariants.{Read, Write, Disk, Memory, NotDisk, Damaged, Rejected, NotFlow, BadCheckpoint, Torn, TooLong}
use Rattle.line_keeping.specs.Answers.{AreLinesAnswered}
use Rattle.line_keeping.specs.Ended.{ComesTo}
use Rattle.line_keeping.specs.Inputs.{newest, IsBefore}
use Rattle.line_keeping.specs.Keeping.{line_dialog}
use Rattle.line_keeping.proofs.OneInput.{one_input}
use Rattle.kept_laws.specs.Laws.{IsFailure, GainsFirst, HasBegun, ServedBegunIsAPrefix}
use Rattle.kept_laws.proofs.Promised.{Pairs}
use Rattle.kept_laws.proofs.ServedEnds.{Answered, not_unsound_before, no_magic_before}
use Rattle.kept_laws.proofs.Begun.{Texts, Continued, begun, not_refused, gains_first, gains_nothing}
use Rattle.kept_laws.proofs.FirstLines.{IsFirstOf, first_of_lines}

module _ (limit : ℕ) (held bytes : List ℕ) (Cut : Type 0) where
  -- the texts of the first lines are the first texts
  first_texts : (Far : Type 0) (other : DiskState) (out later before after : Output) (all : Answered limit held bytes Far other out later)
      (some : Continued line_dialog limit held bytes Cut all.market all.input (length all.old) before after) → IsFirstOf some.texts all.texts
  first_texts Far other out later before after all some = by_added some.added
    where
      by_added : line_dialog.Adds limit (Some bytes) some.input some.from (length all.old) some.pairs some.texts → IsFirstOf some.texts all.texts
      by_added (inl none) = (all.texts, ap (λ (l : Texts). l ++ all.texts) (sym none.1))
      by_added (inr (lines, are, now, answered)) =
          let one = one_input limit bytes some.input all.input lines all.are.0 are all.are.1.0 in
          let market : some.from ≡ all.market = elim some.same [
            | inl is ↦ is.0
            | inr is ↦ is.1 ∙ ap market_of (one.1 is.2 is.4) ∙ sym is.3
          ] in
          let whole = subst (λ (l : Texts). AreLinesAnswered some.from (length all.old) 1 l all.new all.texts all.now) (sym one.2) (subst (λ (m : Market). AreLinesAnswered m (length all.old) 1 all.are.0 all.new all.texts all.now) (sym market) all.are.2) in
          first_of_lines some.from (length all.old) lines some.pairs all.new some.texts all.texts now all.now answered whole

  -- nothing was answered if nothing is before lines of the input
  no_texts : (market : Market) (input : Start) (count : ℕ) (before after : Output) (some : Continued line_dialog limit held bytes Cut market input count before after)
      → ((text : List ℕ) → IsBefore (take limit bytes) some.input text → ⊥) → some.texts ≡ []
  no_texts market input count before after some never = by_added some.added
    where
      by_added : line_dialog.Adds limit (Some bytes) some.input some.from count some.pairs some.texts → some.texts ≡ []
      by_added (inl none) = none.1
      by_added (inr (lines, are, now, answered)) = absurd (never are.0 are.1)

module _ (limit : ℕ) (held bytes : List ℕ) (b : Result ⊤ KeepFault) (start end : DiskState) (before after : Output) (small : length held ≤ 2 ^ 60) (h : HasBegun line_dialog limit held bytes b start end before after) where
  abbrev Cut : Type 0
  Cut = b ≡ Err Write

  all_first : (Far : Type 0) (other : DiskState) (out later : Output) → Answered limit held bytes Far other out later → GainsFirst out later before after
  all_first Far other out later x =
      let some = begun line_dialog limit held bytes b start end before after h x.begin x.old x.market x.input refl small x.opens in
      let more = first_texts limit held bytes Cut Far other out later before after x some in
      gains_first Cut out later before after x.texts some.texts more.0 more.1 x.gained some.gained

  -- a call that began on a disk wasn't refused
  refused_first : (out later : Output) (opens : Opening) → IsOpening held opens → (opens ≢ New) → ((begin : Start) (pairs : Pairs) (market : Market) → opens ≢ Legal begin pairs market) → GainsFirst out later before after
  refused_first out later opens is new legal = absurd (not_refused line_dialog limit held bytes b start end before after h opens small is new legal)

  first : (left : Option (List ℕ)) (other : DiskState) (out later : Output) (a : Result ⊤ KeepFault) → (¬ IsFailure a) → ComesTo limit held (Some bytes) left other out later a → GainsFirst out later before after
  first left other out later (Ok done) fine x = all_first (length bytes ≤ limit) other out later x
  first left other out later (Err TooLong) fine x = all_first (limit < length bytes) other out later x
  first left other out later (Err NotFlow) fine (same, begin, old, market, legal, magic, keeps) =
      let some = begun line_dialog limit held bytes b start end before after h begin old market (Empty (version_of begin)) refl small (inl (legal, refl)) in
      gains_nothing Cut out later before after some.texts same
      (no_texts limit held bytes Cut market (Empty (version_of begin)) (length old) before after some
      (λ text is.
      elim some.same [
        | inl alike ↦ no_magic_before (take limit bytes) some.input text begin alike.1 is magic
        | inr new ↦ legal.0 new.0
      ])) some.gained
  first left other out later (Err BadCheckpoint) fine x =
      let some = begun line_dialog limit held bytes b start end before after h (Empty newest) [] (empty_market newest) (Empty newest) refl small (inr (x.1.0, refl, refl, refl, refl)) in
      gains_nothing Cut out later before after some.texts x.0
      (no_texts limit held bytes Cut (empty_market newest) (Empty newest) 0 before after some (λ text is. not_unsound_before (take limit bytes) some.input text is x.1.1)) some.gained
  first left other out later (Err NotDisk) fine x = refused_first out later Foreign x.1.0 (λ e. cc) (λ v p m e. cc)
  first left other out later (Err (Damaged place)) fine x = refused_first out later (opening.Damaged place) x.1.0 (λ e. cc) (λ v p m e. cc)
  first left other out later (Err (Rejected number)) fine x = refused_first out later (opening.Rejected number) x.1.0 (λ e. cc) (λ v p m e. cc)
  first left other out later (Err (Torn place)) fine x = absurd x
  first left other out later (Err Read) fine x = absurd (fine (inl refl))
  first left other out later (Err Write) fine x = absurd (fine (inr (inl refl)))
  first left other out later (Err Disk) fine x = absurd (fine (inr (inr (inl refl))))
  first left other out later (Err Memory) fine x = absurd (fine (inr (inr (inr refl))))

pub served_begun_is_a_prefix : (start end other : DiskState) → ServedBegunIsAPrefix start end other
served_begun_is_a_prefix start end other limit held bytes left out later before after a b small fine x h = first limit held bytes b start end before after small h left other out later a fine x
