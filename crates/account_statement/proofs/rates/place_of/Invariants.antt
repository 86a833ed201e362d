use Rattle.std.proofs.Common.{◌≡◌, ◌≤◌, ◌<◌, ◌-◌, ℕ, length}
use Rattle.account_statement.specs.Private.{fill_at}
use Rattle.account_statement.proofs.rates.place_of.Given as goal

abbrev pub invariant-loop-low : goal.invariant-loop-low
invariant-loop-low l = (l.high ≤ length l.view.clearing.fills) × ((place : ℕ) → place < length l.view.clearing.fills → (fill_at l.view.clearing.fills place).order ≡ l.number → (l.low ≤ place) × (place ≤ l.high) × (place < length l.view.clearing.fills))

abbrev pub decreases-loop-low : goal.decreases-loop-low
decreases-loop-low l = l.high - l.low
