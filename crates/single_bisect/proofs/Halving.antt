-- How many asks are enough for a range that is halved at each ask.
use Rattle.std.proofs.Common.{◌≡◌, ℕ, zero, suc, ◌+◌, ◌^◌, ◌<◌, ◌≤◌, arith}

-- the asks that are left are enough to halve this width down to 1
pub record HasAsks (before now width : ℕ) : Type 0 where
  pub left : ℕ
  pub counted : before ≤ now
  pub few : now + left ≤ before + 63
  pub enough : width ≤ 2 ^ left

pub HasAsks-start : (asked width : ℕ) → width ≤ 2 ^ 63 → HasAsks asked asked width
HasAsks-start asked width bound = record { left = 63; counted = omega arith; few = omega arith; enough = bound }

-- a power of 2 that reaches a number above 1 is at least 2, and half of it reaches half of that number
HasAsks-by_left : (left before now now' width half : ℕ) → before ≤ now → now + left ≤ before + 63 → width ≤ 2 ^ left → 1 < width → now' ≡ now + 1 → half + half ≤ width + 1 → HasAsks before now' half
HasAsks-by_left zero before now now' width half counted few enough wide one halved = absurd (omega arith)
HasAsks-by_left (suc left) before now now' width half counted few enough wide one halved =
    record { left = left; counted = omega arith; few = omega arith; enough = omega arith }

-- one ask more, for a range of which at most the greater half is left
pub HasAsks-more : (before now now' width half : ℕ) → HasAsks before now width → 1 < width → now' ≡ now + 1 → half + half ≤ width + 1 → HasAsks before now' half
HasAsks-more before now now' width half asks wide one halved =
    HasAsks-by_left asks.left before now now' width half asks.counted asks.few asks.enough wide one halved
