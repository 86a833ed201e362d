-- What a weight makes of a demand that is rounded down and up.
use Rattle.std.specs.Prelude.{ℕ, suc, ◌*◌, ℤ, pos, negsuc, neg_ℤ}

-- a weight times a rate: `bought` if the weight buys, `sold` if it sells
abbrev pub part_by_sign : ℤ → ℕ → ℕ → ℤ
part_by_sign (pos n) bought sold = pos (n * bought)
part_by_sign (negsuc n) bought sold = neg_ℤ (pos (suc n * sold))
