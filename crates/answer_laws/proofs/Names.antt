-- Tickers without their padding, padded again.
use Rattle.std.proofs.Common.{◌≡◌, ℕ, suc, ◌+◌, ◌-◌, ◌≤◌, ◌<◌, true, List, [], ◌∷◌, ◌++◌, length, length-append, replicate, get_or, Some, All, refl, sym, ap, ◌∙◌, arith, subst, inl, inr, IsUtf8}
use Rattle.std.specs.Prelude.{flat_map, unwrap_or}
use Rattle.std.specs.List.{AllByRecursion}
use Rattle.std.proofs.lemmas.Bool.{cases_eq, eq-eqb, ne_eqb, le-leb, le-ltb, lt-ltb}
use Rattle.std.proofs.lemmas.List.{length-replicate}
use Rattle.std.proofs.lemmas.List.Elements.{recursion_from_All, All-replicate, All-append, All-weaker}
use Rattle.std.proofs.lemmas.Option.{slice_get-get_or}
use Rattle.json.specs.Print.{escape_byte, escape}
use Rattle.json.proofs.Printed.Strings.{escape_byte_plain}
use Rattle.json.proofs.Printed.Utf8.{are_ascii, IsUtf8-are_ascii}
use Rattle.ticker_table.specs.Tickers.{IsNameCharacter, IsTicker, AreTickers, HasNumber}
use Rattle.ticker_table.proofs.Places.{one_number}
use Rattle.order_text.specs.Lines.{padded, asset_named}
use Rattle.order_text.proofs.Named.{found_is_named}
use Rattle.answer_text.specs.Texts.{escaped, before_rest, unpadded}

-- the spaces that a ticker lacks without its padding
spaces : (ticker : List ℕ) → (n : ℕ) × (unpadded ticker ++ replicate n 32 ≡ ticker)
unfolding unpadded
spaces [] = (0, refl)
spaces (byte ∷ more) = by (unpadded more) (spaces more).0 (spaces more).1
  where
    by : (rest : List ℕ) (n : ℕ) → rest ++ replicate n 32 ≡ more → (m : ℕ) × (before_rest byte rest ++ replicate m 32 ≡ byte ∷ more)
    by [] n e = elim (cases_eq byte 32) [
      | inl is ↦ (suc n, rw (eq-eqb byte 32 is) (ap (λ l. 32 ∷ l) e ∙ ap (λ b. b ∷ more) (sym is)))
      | inr other ↦ (n, rw (ne_eqb byte 32 other) (ap (λ l. byte ∷ l) e))
    ]
    by (x ∷ rest) n e = (n, ap (λ l. byte ∷ l) e)

-- a ticker without its padding is padded to the ticker
pub padded_again : (ticker : List ℕ) → length ticker ≡ 8 → padded (unpadded ticker) ≡ Some ticker
padded_again ticker eight =
    let s = spaces ticker in
    let count : length (unpadded ticker) + s.0 ≡ 8 = omega (arith, eight, ap length s.1, length-append (unpadded ticker) (replicate s.0 32), length-replicate {A = ℕ} s.0 32) in
    let short : length (unpadded ticker) ≤ 8 = omega (arith, count) in
    let missing : 8 - length (unpadded ticker) ≡ s.0 = omega (arith, count) in
    rw (le-leb (length (unpadded ticker)) 8 short) (ap (λ n. Some (unpadded ticker ++ replicate n 32)) missing ∙ ap Some s.1)

-- what holds of the first elements of a list
first_of : (P : ℕ → Type 0) (xs ys : List ℕ) → AllByRecursion P (xs ++ ys) → AllByRecursion P xs
first_of P [] ys h = tt
first_of P (x ∷ xs) ys h = (h.0, first_of P xs ys h.1)

-- what holds of the bytes of a ticker
pub bytes_of : (P : ℕ → Type 0) (ticker : List ℕ) → All P ticker → AllByRecursion P (unpadded ticker)
bytes_of P ticker all = let s = spaces ticker in first_of P (unpadded ticker) (replicate s.0 32) (subst (AllByRecursion P) (sym s.1) (recursion_from_All P ticker all))

-- a byte that a text has as it is
abbrev pub IsPlain : ℕ → Type 0
IsPlain byte = (byte ≡ 34 → ⊥) × (byte ≡ 92 → ⊥) × (32 ≤ byte) × (byte < 128)

plain_character : (c : ℕ) → IsNameCharacter c → IsPlain c
plain_character c (inl upper) = (λ e. omega (arith, e, upper.0, upper.1), λ e. omega (arith, e, upper.0, upper.1), omega (arith, upper.0), omega (arith, upper.1))
plain_character c (inr (inl digit)) = (λ e. omega (arith, e, digit.0, digit.1), λ e. omega (arith, e, digit.0, digit.1), omega (arith, digit.0), omega (arith, digit.1))
plain_character c (inr (inr (inl dot))) = (λ e. omega (arith, e, dot), λ e. omega (arith, e, dot), omega (arith, dot), omega (arith, dot))
plain_character c (inr (inr (inr dash))) = (λ e. omega (arith, e, dash), λ e. omega (arith, e, dash), omega (arith, dash), omega (arith, dash))

-- the bytes of a valid ticker
plain_ticker : (ticker : List ℕ) → IsTicker ticker → All IsPlain ticker
plain_ticker ticker is = subst (All IsPlain) (sym is.encoded) (All-append IsPlain is.name (replicate is.spaces 32) (All-weaker IsNameCharacter IsPlain (λ c h. plain_character c h) is.name is.characters)
    (All-replicate IsPlain is.spaces 32 (λ e. omega (arith, e), λ e. omega (arith, e), omega arith, omega arith)))

plain_escaped : (byte : ℕ) → IsPlain byte → escaped byte ≡ byte ∷ []
unfolding escaped
plain_escaped byte is = rw (ne_eqb byte 34 is.0, ne_eqb byte 92 is.1, le-ltb byte 32 is.2) refl

-- both writers write such bytes as they are
pub same_escapes : (text : List ℕ) → AllByRecursion IsPlain text → flat_map escaped text ≡ escape text
same_escapes [] h = refl
same_escapes (byte ∷ text) h =
    ap (λ l. l ++ flat_map escaped text) (plain_escaped byte h.0 ∙ sym (escape_byte_plain byte h.0.0 h.0.1 h.0.2)) ∙ ap (λ l. escape_byte byte ++ l) (same_escapes text h.1)

ascii_of : (text : List ℕ) → AllByRecursion IsPlain text → are_ascii text ≡ true
ascii_of [] h = refl
ascii_of (byte ∷ text) h = rw (lt-ltb byte 128 h.0.3) (ascii_of text h.1)

-- the name of an asset
abbrev pub name_of : List (List ℕ) → ℕ → List ℕ
name_of tickers asset = unpadded (get_or tickers asset [])

module _ (tickers : List (List ℕ)) (are : AreTickers tickers) where
  plain_name : (asset : ℕ) → asset < length tickers → AllByRecursion IsPlain (name_of tickers asset)
  plain_name asset below = bytes_of IsPlain (get_or tickers asset []) (plain_ticker (get_or tickers asset []) (are.valid asset [] below))

  pub name_escapes : (asset : ℕ) → asset < length tickers → flat_map escaped (name_of tickers asset) ≡ escape (name_of tickers asset)
  name_escapes asset below = same_escapes (name_of tickers asset) (plain_name asset below)

  pub name_utf8 : (asset : ℕ) → asset < length tickers → IsUtf8 (name_of tickers asset)
  name_utf8 asset below = IsUtf8-are_ascii (name_of tickers asset) (ascii_of (name_of tickers asset) (plain_name asset below))

  -- the name names the asset
  pub names_asset : (asset : ℕ) → asset < length tickers → asset_named tickers (name_of tickers asset) ≡ Some asset
  names_asset asset below =
      let ticker = get_or tickers asset [] in
      let there : HasNumber tickers asset ticker = slice_get-get_or tickers asset [] below in
      sym (found_is_named tickers (name_of tickers asset) ticker (Some asset) (padded_again ticker (are.valid asset [] below).whole) there (λ number at. ap Some (one_number tickers are.distinct asset number ticker there at)))

  -- different assets have different names
  pub names_differ : (a b : ℕ) → a < length tickers → b < length tickers → (a ≡ b → ⊥) → name_of tickers a ≡ name_of tickers b → ⊥
  names_differ a b below limit other same = other (ap (λ o. unwrap_or o 0) (sym (names_asset a below) ∙ ap (asset_named tickers) same ∙ names_asset b limit))
