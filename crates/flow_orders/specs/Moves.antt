-- A move of one asset's price. Excess in parts of a unit decides where it ends; the version of the files fixes how many parts a unit has.
use Rattle.std.specs.Prelude.{ℕ, ◌^◌, Bool, not, if◌then◌else◌, ℤ, pos, ◌+ℤ◌, ◌-ℤ◌, List, unwrap_or, slice_set}
use Rattle.std.specs.List.{range_with_len}
use Rattle.weight_rows.specs.Rows.{price_of}
use Rattle.flow_orders.specs.Orders.{Order}
use Rattle.flow_orders.specs.Excess.{is_above_in, is_below_in}
use Rattle.flow_orders.specs.Walks.{first_that}

-- the least number from 1 to `reach` that passes a test, or `reach` if none does
unfoldable pub least_amount : ℕ → (ℕ → Bool) → ℕ
least_amount reach passes = unwrap_or (first_that passes (range_with_len 1 reach)) reach

-- the prices after an asset's price rose by d grains
abbrev pub risen : List ℤ → ℕ → ℕ → List ℤ
risen prices asset d = slice_set prices asset (price_of prices asset +ℤ pos d)

-- the prices after an asset's price fell by d grains
abbrev pub fallen : List ℤ → ℕ → ℕ → List ℤ
fallen prices asset d = slice_set prices asset (price_of prices asset -ℤ pos d)

-- by how many grains, at most `reach`, the price of an asset rises: to the first price at which its low excess in parts is no longer above
abbrev pub rise_of : ℕ → List Order → ℕ → List ℤ → ℕ → ℕ
rise_of parts orders reach prices asset = least_amount reach (λ d. not (is_above_in parts orders (risen prices asset d) asset))

-- by how many grains, at most `reach`, the price of an asset falls: to the first price at which its high excess in parts is no longer below
abbrev pub fall_of : ℕ → List Order → ℕ → List ℤ → ℕ → ℕ
fall_of parts orders reach prices asset = least_amount reach (λ d. not (is_below_in parts orders (fallen prices asset d) asset))

-- the prices after a move of an asset by at most `reach` grains; a settled asset isn't moved
unfoldable pub moved : ℕ → List Order → ℕ → List ℤ → ℕ → List ℤ
moved parts orders reach prices asset =
    if is_above_in 1 orders prices asset then risen prices asset (rise_of parts orders reach prices asset) else
    (if is_below_in 1 orders prices asset then fallen prices asset (fall_of parts orders reach prices asset) else prices)

-- by how many grains a move of an asset changes its price, at most `reach`; 0 if the asset is settled
unfoldable pub amount_of : ℕ → List Order → ℕ → List ℤ → ℕ → ℕ
amount_of parts orders reach prices asset =
    if is_above_in 1 orders prices asset then rise_of parts orders reach prices asset else
    (if is_below_in 1 orders prices asset then fall_of parts orders reach prices asset else 0)

-- the reach of a move in a walk, in grains
abbrev pub walk_reach : ℕ
walk_reach = 2 ^ 45

-- the reach of the one move of an asset in a book of one-asset orders, in grains
abbrev pub single_reach : ℕ
single_reach = 2 ^ 61
