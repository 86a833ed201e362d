-- The codes of refusals.
use Rattle.std.proofs.Common.{◌≡◌, ◌-◌, ◌<◌, ℕ, List, [], ◌∷◌, refl, sym, ap, ◌∙◌, lit<}
use Rattle.std.specs.Prelude.{slice_index_or}
use Rattle.wire_records.specs.declared.reply.Refusal.{Refusal}
use Rattle.wire_records.specs.declared.reply.Refusal.TheVariants.{UnknownTag, BadBody, AssetLimit, TickerTaken, BadTicker, AccountLimit, NoAccount, NoAsset, ZeroAmount, TotalLimit, NotFree, BadLimits, BadRate, BadCap, BadRow, OrderLimit, NoOrder, BadBudget, BatchLimit, BadLast, CreditInUse, CreditLimit}
use Rattle.wire_records.specs.Refusals.{code_of}

-- the refusals in the order of their codes; no refusal has the codes 20 and 21, so any refusal fills these places
abbrev refusals : List Refusal
refusals =
    UnknownTag ∷ BadBody ∷ AssetLimit ∷ TickerTaken ∷ BadTicker ∷ AccountLimit ∷ NoAccount ∷ NoAsset ∷ ZeroAmount ∷ TotalLimit
    ∷ NotFree ∷ BadLimits ∷ BadRate ∷ BadCap ∷ BadRow ∷ OrderLimit ∷ NoOrder ∷ BadBudget ∷ BatchLimit ∷ UnknownTag ∷ UnknownTag ∷ BadLast ∷ CreditInUse ∷ CreditLimit ∷ []

-- the refusal of a code
abbrev refusal_at : ℕ → Refusal
refusal_at code = slice_index_or refusals (code - 1) UnknownTag

-- a code determines its refusal
refusal_at-code_of : (r : Refusal) → refusal_at (code_of r) ≡ r
refusal_at-code_of UnknownTag = refl
refusal_at-code_of BadBody = refl
refusal_at-code_of AssetLimit = refl
refusal_at-code_of TickerTaken = refl
refusal_at-code_of BadTicker = refl
refusal_at-code_of AccountLimit = refl
refusal_at-code_of NoAccount = refl
refusal_at-code_of NoAsset = refl
refusal_at-code_of ZeroAmount = refl
refusal_at-code_of TotalLimit = refl
refusal_at-code_of NotFree = refl
refusal_at-code_of BadLimits = refl
refusal_at-code_of BadRate = refl
refusal_at-code_of BadCap = refl
refusal_at-code_of BadRow = refl
refusal_at-code_of OrderLimit = refl
refusal_at-code_of NoOrder = refl
refusal_at-code_of BadBudget = refl
refusal_at-code_of BatchLimit = refl
refusal_at-code_of BadLast = refl
refusal_at-code_of CreditInUse = refl
refusal_at-code_of CreditLimit = refl

-- two refusals of one code are one
pub code_of-unique : (a b : Refusal) → code_of a ≡ code_of b → a ≡ b
code_of-unique a b e = sym (refusal_at-code_of a) ∙ ap refusal_at e ∙ refusal_at-code_of b

-- a code is a byte
pub code_of-byte : (r : Refusal) → code_of r < 256
code_of-byte UnknownTag = lit< tt
code_of-byte BadBody = lit< tt
code_of-byte AssetLimit = lit< tt
code_of-byte TickerTaken = lit< tt
code_of-byte BadTicker = lit< tt
code_of-byte AccountLimit = lit< tt
code_of-byte NoAccount = lit< tt
code_of-byte NoAsset = lit< tt
code_of-byte ZeroAmount = lit< tt
code_of-byte TotalLimit = lit< tt
code_of-byte NotFree = lit< tt
code_of-byte BadLimits = lit< tt
code_of-byte BadRate = lit< tt
code_of-byte BadCap = lit< tt
code_of-byte BadRow = lit< tt
code_of-byte OrderLimit = lit< tt
code_of-byte NoOrder = lit< tt
code_of-byte BadBudget = lit< tt
code_of-byte BatchLimit = lit< tt
code_of-byte BadLast = lit< tt
code_of-byte CreditInUse = lit< tt
code_of-byte CreditLimit = lit< tt
