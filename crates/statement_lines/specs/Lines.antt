-- The lines of a statement, by the numbers in them.
use Rattle.std.specs.Prelude.{ℕ, ℤ, List, codes, decimal}
use Rattle.std.specs.Fmt.{signed_decimal}
use Rattle.pair_text.specs.Texts.{◌then◌, asset_name}

-- the line of an account that is opened
abbrev pub opening_line : ℕ → List ℕ
opening_line account = codes "account " then decimal account then codes "\n"

-- the line of a cancel
abbrev pub cancel_line : ℕ → List ℕ
cancel_line number = codes "cancel " then decimal number then codes "\n"

-- the line of a refusal
abbrev pub refused_line : ℕ → List ℕ
refused_line code = codes "refused " then decimal code then codes "\n"

-- the line of a batch that cleared
abbrev pub cleared_line : ℕ → List ℕ
cleared_line batch = codes "batch " then decimal batch then codes " cleared\n"

-- the line of a batch that was skipped
abbrev pub skipped_line : ℕ → List ℕ
skipped_line batch = codes "batch " then decimal batch then codes " skipped\n"

-- the line of an order in a batch: its number, its rate, and what that costs, in grains
abbrev pub order_line : ℕ → ℕ → ℤ → List ℕ
order_line number rate cost =
    codes "  order " then decimal number then codes " rate " then decimal rate then codes " cost " then signed_decimal cost then codes "\n"

-- the line of money: what the account has, and what is reserved of it, in grains
abbrev pub money_held_line : ℤ → ℕ → List ℕ
money_held_line money reserved = codes "money " then signed_decimal money then codes " reserved " then decimal reserved then codes "\n"

-- the line of an asset: the units that the account has, and those that are reserved
abbrev pub units_held_line : List (List ℕ) → ℕ → ℤ → ℕ → List ℕ
units_held_line tickers asset units reserved =
    asset_name tickers asset then codes " units " then signed_decimal units then codes " reserved " then decimal reserved then codes "\n"
