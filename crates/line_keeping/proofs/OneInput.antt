-- An input has one list of lines, and one thing before them.
use Rattle.std.proofs.Common.{◌≡◌, ℕ, ◌<◌, List, length, take, refl, sym, ap, subst, ◌∙◌}
use Rattle.wire_records.specs.declared.version.Version.{Version}
use Rattle.market_rules.specs.Market.{Market}
use Rattle.market_history.specs.Histories.{Start, Empty, Kept}
use Rattle.market_snapshot.specs.Checkpoints.{checkpoint_bytes}
use Rattle.market_snapshot.proofs.OneMarket.{one_market}
use Rattle.market_history.proofs.Starting.{kept_magic}
use Rattle.line_records.specs.Lines.{AreLines}
use Rattle.line_records.proofs.OneSplits.{one_split}
use Rattle.line_keeping.specs.Inputs.{bytes_before, IsBefore, BeginsNew}
use Rattle.line_keeping.specs.Laws.{OneInput}

-- the same bytes are before the lines, and one text is after them
one_before : (bytes : List ℕ) (before other : Start) (text more : List ℕ) → IsBefore bytes before text → IsBefore bytes other more → (bytes_before before ≡ bytes_before other) × (text ≡ more)
one_before bytes (Empty v) (Empty w) text more a b = (refl, a.1 ∙ sym b.1)
one_before bytes (Empty v) (Kept market) text more a b = absurd (a.0 (kept_magic market bytes more b.1))
one_before bytes (Kept market) (Empty w) text more a b = absurd (b.0 (kept_magic market bytes text a.1))
one_before bytes (Kept market) (Kept other) text more a b =
    let one = one_market market other (checkpoint_bytes market) (checkpoint_bytes other) text more a.0 b.0 (sym a.1 ∙ b.1) in
    (ap checkpoint_bytes one.0, one.1)

-- a new file begins in one way
pub one_start : (bytes : List ℕ) (v w : Start) (text more : List ℕ) → IsBefore bytes v text → IsBefore bytes w more → BeginsNew v → BeginsNew w → v ≡ w
one_start bytes (Empty v) (Empty w) text more a b p q = ap (λ (u : Version). Empty u) (p ∙ sym q)
one_start bytes (Empty v) (Kept market) text more a b p q = absurd (a.0 (kept_magic market bytes more b.1))
one_start bytes (Kept market) (Empty w) text more a b p q = absurd (b.0 (kept_magic market bytes text a.1))
one_start bytes (Kept market) (Kept other) text more a b p q =
    ap (λ (m : Market). Kept m) (one_market market other (checkpoint_bytes market) (checkpoint_bytes other) text more a.0 b.0 (sym a.1 ∙ b.1)).0

pub one_input : OneInput
one_input limit bytes before other lines others (text, is, are) (more, is_too, are_too) =
    let one = one_before (take limit bytes) before other text more is is_too in
    (one.0, one_start (take limit bytes) before other text more is is_too, one_split (limit < length bytes) more lines others (subst (λ (l : List ℕ). AreLines (limit < length bytes) l lines) one.1 are) are_too)
