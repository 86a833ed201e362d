-- The code of each refusal, as a reply encodes it.
use Rattle.std.specs.Prelude.{ℕ}
use Rattle.wire_records.specs.declared.reply.Refusal.{Refusal}
use Rattle.wire_records.specs.declared.reply.Refusal.TheVariants.{UnknownTag, BadBody, AssetLimit, TickerTaken, BadTicker, AccountLimit, NoAccount, NoAsset, ZeroAmount, TotalLimit, NotFree, BadLimits, BadRate, BadCap, BadRow, OrderLimit, NoOrder, BadBudget, BatchLimit, BadLast, CreditInUse, CreditLimit}

-- the code of a refusal
abbrev pub code_of : Refusal → ℕ
code_of UnknownTag = 1
code_of BadBody = 2
code_of AssetLimit = 3
code_of TickerTaken = 4
code_of BadTicker = 5
code_of AccountLimit = 6
code_of NoAccount = 7
code_of NoAsset = 8
code_of ZeroAmount = 9
code_of TotalLimit = 10
code_of NotFree = 11
code_of BadLimits = 12
code_of BadRate = 13
code_of BadCap = 14
code_of BadRow = 15
code_of OrderLimit = 16
code_of NoOrder = 17
code_of BadBudget = 18
code_of BatchLimit = 19
code_of BadLast = 22
code_of CreditInUse = 23
code_of CreditLimit = 24
