-- What is before the lines of an input: one thing alone.
use Rattle.std.proofs.Common.{◌≡◌, ◌↔◌, ℕ, List, ◌++◌, length, take, drop, append_assoc, length-append, Option, Some, None, refl, sym, ap, ◌∙◌, subst, arith}
use Rattle.std.proofs.lemmas.List.{take-append-drop}
use Rattle.wire_records.specs.declared.version.Version.{Version}
use Rattle.market_rules.specs.Market.{Market}
use Rattle.market_snapshot.specs.Checkpoints.{checkpoint_magic, checkpoint_bytes, IsCheckpoint, HasCheckpointMagic}
use Rattle.market_snapshot.proofs.OneMarket.{one_market}
use Rattle.encode_word.specs.Starts.{IsCut, BeginsKept, BeginsUnkept, PrecedesLines}

-- a checkpoint begins with its magic
made_magic : (market : Market) → (rest : List ℕ) × (checkpoint_bytes market ≡ checkpoint_magic ++ rest)
unfolding checkpoint_bytes
made_magic market = (_, refl)

-- so do bytes that begin with one
pub kept_magic : (version : Version) (bytes : List ℕ) (market : Market) (after : List ℕ) → BeginsKept version bytes market after → HasCheckpointMagic bytes
kept_magic version bytes market after kept =
    let made = made_magic market in
    (made.0 ++ after, kept.2 ∙ ap (λ xs. xs ++ after) made.1 ∙ append_assoc checkpoint_magic made.0 after)

-- bytes that begin with a magic aren't cut within it
pub magic_uncut : (More : Type 0) (bytes : List ℕ) → HasCheckpointMagic bytes → IsCut More bytes → ⊥
magic_uncut More bytes (rest, whole) cut = omega (arith, cut.1, ap length whole, length-append checkpoint_magic rest, eight)
  where
    eight : length checkpoint_magic ≡ 8
    eight = refl

module _ (version : Version) where
  -- one thing is before the lines, and one list of bytes after it
  pub one_start : (More : Type 0) (bytes : List ℕ) (start other : Option Market) (lines more : List ℕ) → PrecedesLines version More bytes start lines → PrecedesLines version More bytes other more → (start ≡ other) × (lines ≡ more)
  one_start More bytes None None lines more a b = (refl, a.2 ∙ sym b.2)
  one_start More bytes None (Some market) lines more a b = absurd (a.0 (kept_magic version bytes market more b))
  one_start More bytes (Some market) None lines more a b = absurd (b.0 (kept_magic version bytes market lines a))
  one_start More bytes (Some market) (Some other) lines more a b =
      let one = one_market market other (checkpoint_bytes market) (checkpoint_bytes other) lines more a.0 b.0 (sym a.2 ∙ b.2) in
      (ap Some one.0, one.1)

  -- and no unkept checkpoint then, nor is the input cut
  pub start_unkept : (More : Type 0) (bytes : List ℕ) (start : Option Market) (lines : List ℕ) → PrecedesLines version More bytes start lines → BeginsUnkept version bytes → ⊥
  start_unkept More bytes None lines before unkept = before.0 unkept.0
  start_unkept More bytes (Some market) lines before unkept = unkept.1 market lines before

  pub start_uncut : (More : Type 0) (bytes : List ℕ) (start : Option Market) (lines : List ℕ) → PrecedesLines version More bytes start lines → IsCut More bytes → ⊥
  start_uncut More bytes None lines before cut = before.1 cut
  start_uncut More bytes (Some market) lines before cut = magic_uncut More bytes (kept_magic version bytes market lines before) cut

  -- bytes up to a place that are a checkpoint of a market of the version
  pub found_kept : (bytes : List ℕ) (market : Market) (place : ℕ) → IsCheckpoint market (take place bytes) → market.version ≡ version → BeginsKept version bytes market (drop place bytes)
  found_kept bytes market place is_one of_version =
      (subst (IsCheckpoint market) is_one.encoded is_one, of_version, sym (take-append-drop place bytes) ∙ ap (λ xs. xs ++ drop place bytes) is_one.encoded)

  -- no market of the version begins where another does
  pub other_version : (bytes : List ℕ) (market : Market) (place : ℕ) → IsCheckpoint market (take place bytes) → (market.version ≡ version → ⊥) → (other : Market) (after : List ℕ) → BeginsKept version bytes other after → ⊥
  other_version bytes market place is_one not other after kept =
      let one = one_market other market (checkpoint_bytes other) (take place bytes) after (drop place bytes) kept.0 is_one (sym kept.2 ∙ sym (take-append-drop place bytes)) in
      not (ap (λ (m : Market). m.version) (sym one.0) ∙ kept.1)

  -- it depends only on whether the input has more
  module _ (P Q : Type 0) (same : P ↔ Q) (bytes : List ℕ) where
    pub cut_alike : IsCut P bytes → IsCut Q bytes
    cut_alike cut = (same.0 cut.0, cut.1, cut.2)

    pub before_alike : (start : Option Market) (lines : List ℕ) → PrecedesLines version P bytes start lines → PrecedesLines version Q bytes start lines
    before_alike None lines before = (before.0, λ cut. before.1 (same.1 cut.0, cut.1, cut.2), before.2)
    before_alike (Some market) lines before = before
