-- The pieces of a text of JSON without blanks.
use Rattle.std.specs.Prelude.{ℕ, zero, suc, ◌+◌, ◌/◌, ◌%◌, ◌==◌, nat_lt, if◌then◌else◌, ◌||◌, List, [], ◌∷◌, ◌++◌, codes, get_or}
use Rattle.std.specs.List.{flat_map, range_with_len}
use Rattle.pair_text.specs.Texts.{◌then◌}

-- a digit of a hexadecimal number, in capitals
abbrev pub hex_digit : ℕ → ℕ
hex_digit digit = if nat_lt digit 10 then 48 + digit else 55 + digit

-- a byte of a text: a quote (34) and a backslash (92) follow a backslash, and a byte below 32 is written by its number
unfoldable pub escaped : ℕ → List ℕ
escaped byte =
    if (byte == 34) || (byte == 92) then 92 ∷ byte ∷ []
    else (if nat_lt byte 32 then codes "\\u00" ++ hex_digit (byte / 16) ∷ hex_digit (byte % 16) ∷ [] else byte ∷ [])

-- a text in quotes
abbrev pub quoted : List ℕ → List ℕ
quoted text = codes "\"" then flat_map escaped text then codes "\""

-- a byte before the rest of a ticker without its padding: a space (32) before nothing is padding
abbrev pub before_rest : ℕ → List ℕ → List ℕ
before_rest byte [] = if byte == 32 then [] else byte ∷ []
before_rest byte (next ∷ rest) = byte ∷ next ∷ rest

-- a ticker without its padding, the spaces at its end
unfoldable pub unpadded : List ℕ → List ℕ
unpadded [] = []
unpadded (byte ∷ more) = before_rest byte (unpadded more)

-- the text of an asset's ticker
abbrev pub ticker_text : List (List ℕ) → ℕ → List ℕ
ticker_text tickers asset = quoted (unpadded (get_or tickers asset []))

-- what is before an item, by its place: nothing before the first, and else a comma
abbrev pub comma : ℕ → List ℕ
comma zero = []
comma (suc place) = codes ","

-- so many items, each by its place, with commas between them
abbrev pub listed : (ℕ → List ℕ) → ℕ → List ℕ
listed item count = flat_map (λ place. comma place then item place) (range_with_len 0 count)

-- the texts of the elements of a list, with commas between them
abbrev pub separated : {X : Type 0} → (X → List ℕ) → List X → List ℕ
separated text [] = []
separated text (x ∷ xs) = text x then flat_map (λ y. codes "," then text y) xs
