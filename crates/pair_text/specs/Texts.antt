-- The pieces of the texts of entries.
use Rattle.std.specs.Prelude.{ℕ, List, [], ◌∷◌, ◌++◌, codes, decimal, get_or, ◌==◌, if◌then◌else◌, Option, Some, None}
use Rattle.std.specs.Fmt.{signed_decimal}
use Rattle.weight_rows.specs.declared.entries.Entry.{Entry}

infixr 5 ◌then◌
-- one text, followed by another
abbrev pub ◌then◌ : List ℕ → List ℕ → List ℕ
◌then◌ one other = one ++ other

-- the name of a ticker: its bytes before the first space
unfoldable pub name_of : List ℕ → List ℕ
name_of [] = []
name_of (byte ∷ more) = if byte == 32 then [] else byte ∷ name_of more

-- the name of an asset's ticker, or nothing if there is no such asset
abbrev pub asset_name : List (List ℕ) → ℕ → List ℕ
asset_name tickers asset = name_of (get_or tickers asset [])

-- the text of a leg of an order: its asset's ticker and its weight
abbrev pub entry_text : List (List ℕ) → Entry → List ℕ
entry_text tickers e = codes " " then asset_name tickers e.asset then codes ":" then signed_decimal e.weight

-- the text of an order's last batch, if it has one
abbrev pub last_text : Option ℕ → List ℕ
last_text None = []
last_text (Some last) = codes " last " then decimal last
