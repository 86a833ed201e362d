-- How many amounts are looked at, at most, until both ends of a bracket are one grain apart.
use Rattle.std.proofs.Common.{◌≡◌, ◌⊎◌, ⊎_elim, ℕ, zero, suc, ◌+◌, ◌-◌, ◌*◌, ◌/◌, ◌^◌, ◌≤◌, ◌<◌, Bool, true, false, min, arith}
use Rattle.std.specs.Prelude.{if◌then◌else◌}
use Rattle.std.proofs.lemmas.Bool.{cases_lt}
use Rattle.excess_bounds.specs.declared.narrowing.Bracket.{Bracket}
use Rattle.excess_bounds.specs.Steps.{most_slow}

-- how often a width of at most 2^k has to be halved, rounded up, until it is 1: as many powers of two are less than it
abbrev halvings : ℕ → ℕ → ℕ
halvings zero width = 0
halvings (suc k) width = halvings k width + min (width - 2 ^ k) 1

more : (k v w : ℕ) → v ≤ w → halvings k v ≤ halvings k w
more zero v w h = omega arith
more (suc k) v w h = omega (arith, h, more k v w h)

halved : (k v w : ℕ) → 2 ≤ w → 2 * v ≤ w + 1 → halvings k v + 1 ≤ halvings (suc k) w
halved zero v w wide half = omega (arith, wide)
halved (suc k) v w wide half = omega (arith, half, halved k v w wide half)

-- after so many amounts in a row left more than half of a bracket, so many are still looked at, at most: one in four halves it
abbrev turns_from : ℕ → ℕ → ℕ → ℕ
turns_from k width slow = 4 * halvings k width - min slow most_slow

fewer_from : (k width next slow after : ℕ) → 2 ≤ width → width ≤ 2 ^ suc k → next < width → (most_slow ≤ slow → 2 * next ≤ width + 1)
    → (next ≤ width / 2) ⊎ (min (slow + 1) most_slow ≤ after) → turns_from (suc k) next after < turns_from (suc k) width slow
fewer_from k width next slow after wide most less half way =
    let some : 1 ≤ halvings (suc k) width = omega (arith, halved k 0 width wide (omega arith)) in
    let quick : 2 * next ≤ width + 1 → turns_from (suc k) next after < turns_from (suc k) width slow = λ h. omega (arith, halved k next width wide h, h, most) in
    ⊎_elim
    (λ (early : slow < most_slow).
    ⊎_elim
    (λ small. quick (omega (arith, small)))
    (λ slower. omega (arith, early, slower, some, more (suc k) next width (omega (arith, less))))
    way)
    (λ late. quick (half late))
    (cases_lt slow most_slow)

-- the same of a reach, which is at most 2^62
unfoldable pub turns : ℕ → ℕ → ℕ
turns width slow = turns_from 62 width slow

pub fewer : (width next slow after : ℕ) → 2 ≤ width → width ≤ 2 ^ 62 → next < width → (most_slow ≤ slow → 2 * next ≤ width + 1)
    → (next ≤ width / 2) ⊎ (min (slow + 1) most_slow ≤ after) → turns next after < turns width slow
unfolding turns
fewer width next slow after wide most less half way = fewer_from 61 width next slow after wide most less half way

-- an amount of a bracket becomes one of its ends
pub next_fewer : (is_low : Bool) (low amount high slow after : ℕ) (b : Bracket) → b ≡ (if is_low then record { low = amount; high = high } else record { low = low; high = amount }) → low < amount → amount < high → high ≤ 2 ^ 62
    → (most_slow ≤ slow → amount ≡ low + (high - low) / 2) → (b.high - b.low ≤ (high - low) / 2) ⊎ (min (slow + 1) most_slow ≤ after) → turns (b.high - b.low) after < turns (high - low) slow
next_fewer true low amount high slow after b is above below most middle way =
    fewer (high - low) (b.high - b.low) slow after (omega (arith, above, below)) (omega (arith, most)) (rw is (omega (arith, above, below))) (λ late. rw is (omega (arith, middle late, above, below))) way
next_fewer false low amount high slow after b is above below most middle way =
    fewer (high - low) (b.high - b.low) slow after (omega (arith, above, below)) (omega (arith, most)) (rw is (omega (arith, above, below))) (λ late. rw is (omega (arith, middle late, above, below))) way
