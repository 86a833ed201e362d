-- No line begins as a checkpoint does.
use Rattle.std.proofs.Common.{◌≡◌, ℕ, List, ◌∷◌, ◌⊎◌, inl, inr, None, Some, refl, sym, ◌∙◌, arith}
use Rattle.std.proofs.lemmas.List.Elements.{All-head}
use Rattle.json.specs.Lex.{lex, punctuate}
use Rattle.json.specs.Word.{word, after_number}
use Rattle.json.specs.Json.{value}
use Rattle.serde_json.specs.Data.{Data}
use Rattle.serde_json.specs.Read.{read}
use Rattle.wire_records.specs.declared.version.Version.{Version}
use Rattle.order_text.specs.Lines.{SaysNothing}

-- a text that begins with F (70) is no value
no_value : (rest : List ℕ) → read (70 ∷ rest) ≡ None
unfolding lex punctuate word after_number value
no_value rest = refl

-- nor is F blank
not_blank : (byte : ℕ) → byte ≡ 70 → (byte ≡ 32) ⊎ (byte ≡ 9) ⊎ (byte ≡ 13) → ⊥
not_blank byte f (inl is) = omega (arith, f, is)
not_blank byte f (inr (inl is)) = omega (arith, f, is)
not_blank byte f (inr (inr is)) = omega (arith, f, is)

no_such : (d : Data) → Some d ≡ None → ⊥
no_such d e = cc

pub no_line : (version : Version) (known : List (List ℕ)) (rest : List ℕ) → SaysNothing version known (70 ∷ rest)
no_line version known rest = record {
  written = λ blank. not_blank 70 refl (All-head (λ (byte : ℕ). (byte ≡ 32) ⊎ (byte ≡ 9) ⊎ (byte ≡ 13)) 70 rest blank);
  no_command = λ asked asks. no_such asks.value (sym asks.reads ∙ no_value rest);
}
