-- Bytes of texts in quotes.
use Rattle.std.proofs.Common.{◌≡◌, ◌<◌, ◌≤◌, ℕ, Bool, true, false, [], ◌∷◌, ◌++◌, if◌then◌else◌, ◌==◌, refl, sym, subst}
use Rattle.std.specs.Prelude.{nat_lt, ◌||◌, ◌/◌, ◌%◌, codes}
use Rattle.std.proofs.lemmas.Bool.{ne_eqb, lt-ltb, le-ltb}
use Rattle.answer_text.specs.Texts.{hex_digit, escaped}

-- the text of a byte, by what it is compared with
by_tests : (byte : ℕ) (quote backslash low : Bool) → (byte == 34) ≡ quote → (byte == 92) ≡ backslash → nat_lt byte 32 ≡ low
    → escaped byte ≡ (if quote || backslash then 92 ∷ byte ∷ [] else (if low then codes "\\u00" ++ hex_digit (byte / 16) ∷ hex_digit (byte % 16) ∷ [] else byte ∷ []))
unfolding escaped
by_tests byte quote backslash low q b l = rw (sym q, sym b, sym l) refl

pub quote_escaped : (byte : ℕ) → byte ≡ 34 → escaped byte ≡ codes "\\\""
unfolding escaped
quote_escaped byte is = subst (λ b. escaped b ≡ codes "\\\"") (sym is) refl

pub backslash_escaped : (byte : ℕ) → byte ≡ 92 → escaped byte ≡ codes "\\\\"
unfolding escaped
backslash_escaped byte is = subst (λ b. escaped b ≡ codes "\\\\") (sym is) refl

pub low_escaped : (byte : ℕ) → (byte ≡ 34 → ⊥) → (byte ≡ 92 → ⊥) → byte < 32 → escaped byte ≡ codes "\\u00" ++ hex_digit (byte / 16) ∷ hex_digit (byte % 16) ∷ []
low_escaped byte quote backslash low = by_tests byte false false true (ne_eqb byte 34 quote) (ne_eqb byte 92 backslash) (lt-ltb byte 32 low)

pub plain_escaped : (byte : ℕ) → (byte ≡ 34 → ⊥) → (byte ≡ 92 → ⊥) → 32 ≤ byte → escaped byte ≡ byte ∷ []
plain_escaped byte quote backslash high = by_tests byte false false false (ne_eqb byte 34 quote) (ne_eqb byte 92 backslash) (le-ltb byte 32 high)
