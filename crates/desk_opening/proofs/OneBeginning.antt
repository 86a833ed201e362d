-- An input begins in one way.
use Rattle.std.proofs.Common.{◌≡◌, ℕ, List, ◌++◌, get_or, drop, refl, sym, ap, ◌∙◌, arith}
use Rattle.std.proofs.lemmas.List.{drop_at}
use Rattle.wire_records.specs.declared.version.Version.{Version}
use Rattle.wire_records.proofs.Numbered.{same_number}
use Rattle.market_rules.specs.Market.{Market}
use Rattle.market_snapshot.specs.Checkpoints.{checkpoint_bytes}
use Rattle.market_snapshot.proofs.OneMarket.{one_market}
use Rattle.market_history.specs.Histories.{Start, Empty, Kept, CanStart}
use Rattle.market_history.proofs.Starting.{kept_magic}
use Rattle.desk_opening.specs.Beginnings.{version_line, bytes_before}
use Rattle.desk_opening.proofs.FirstBytes.{line_size}

-- a line that says a version begins no checkpoint
no_both : (version : Version) (market : Market) (x y : List ℕ) → version_line version ++ x ≡ checkpoint_bytes market ++ y → ⊥
no_both version market x y e =
    let magic = kept_magic market (checkpoint_bytes market ++ y) y refl in
    omega (arith, ap (λ (l : List ℕ). get_or l 0 0) (e ∙ magic.1))

one_line : (v w : Version) (x y : List ℕ) → version_line v ++ x ≡ version_line w ++ y → (v ≡ w) × (x ≡ y)
one_line v w x y e = (
  same_number v w (omega (arith, ap (λ (l : List ℕ). get_or l 11 0) e)),
  sym (drop_at (version_line v) x 14 (line_size v)) ∙ ap (drop 14) e ∙ drop_at (version_line w) y 14 (line_size w),
)

pub one_beginning : (a b : Start) (x y : List ℕ) → CanStart a → CanStart b → bytes_before a ++ x ≡ bytes_before b ++ y → (a ≡ b) × (x ≡ y)
one_beginning (Empty v) (Empty w) x y p q e = let one = one_line v w x y e in (ap Empty one.0, one.1)
one_beginning (Empty v) (Kept n) x y p q e = absurd (no_both v n x y e)
one_beginning (Kept m) (Empty w) x y p q e = absurd (no_both w m y x (sym e))
one_beginning (Kept m) (Kept n) x y p q e = let one = one_market m n (checkpoint_bytes m) (checkpoint_bytes n) x y p q e in (ap Kept one.0, one.1)
