-- A blank text has no value of JSON.
use Rattle.std.proofs.Common.{◌≡◌, ◌⊎◌, inl, inr, ℕ, zero, suc, List, [], ◌∷◌, Some, None, refl, sym, ap, subst, ◌∙◌, arith}
use Rattle.std.specs.Prelude.{option_and_then}
use Rattle.json.specs.Lex.{lex, between, fresh, punctuate, tokens}
use Rattle.json.specs.Json as json
use Rattle.serde_json.specs.Read as serde
use Rattle.order_text.specs.Lines.{IsBlank}
use Rattle.order_text.specs.Questions.{AsksQuestion}
use Rattle.order_text.specs.declared.question.Question.{Question}
use Rattle.envelope_text.specs.Envelopes.{Sent, IsEnvelope}

-- a blank byte is passed over
one_blank : (byte : ℕ) (more : List ℕ) → (byte ≡ 32) ⊎ ((byte ≡ 9) ⊎ (byte ≡ 13)) → lex between (byte ∷ more) ≡ lex between more
unfolding lex
one_blank byte more (inl is) = subst (λ b. lex between (b ∷ more) ≡ lex between more) (sym is) refl
one_blank byte more (inr (inl is)) = subst (λ b. lex between (b ∷ more) ≡ lex between more) (sym is) refl
one_blank byte more (inr (inr is)) = subst (λ b. lex between (b ∷ more) ≡ lex between more) (sym is) refl

none_read : lex between [] ≡ []
unfolding lex
none_read = refl

no_lexeme : (text : List ℕ) → IsBlank text → lex between text ≡ []
no_lexeme [] blank = none_read
no_lexeme (byte ∷ more) blank =
    one_blank byte more (blank zero byte (omega arith)) ∙ no_lexeme more (λ k d inside. blank (suc k) d (omega (arith, inside)))

none_placed : punctuate fresh [] ≡ []
unfolding punctuate
none_placed = refl

no_token : (text : List ℕ) → IsBlank text → tokens text ≡ []
no_token text blank = ap (punctuate fresh) (no_lexeme text blank) ∙ none_placed

no_value : (depth : ℕ) → json.value depth [] ≡ None
unfolding json.value
no_value zero = refl
no_value (suc depth) = refl

-- no value is none
none_is_some : {A : Type 0} (a : A) → None ≡ Some a → ⊥
none_is_some a is = absurd cc

-- a blank line is no envelope
pub no_envelope : (line : List ℕ) (sent : Sent) → IsBlank line → ¬ IsEnvelope line sent
no_envelope line sent blank envelope =
    let none : json.document line ≡ None =
    ap (λ ts. option_and_then (λ p. json.if_last p.0 p.1) (json.value json.max_depth ts)) (no_token line blank)
    ∙ ap (λ o. option_and_then (λ p. json.if_last p.0 p.1) o) (no_value json.max_depth) in
    none_is_some envelope.value (sym none ∙ envelope.reads)

-- a blank text asks no question
pub no_question : (text : List ℕ) (question : Question) → IsBlank text → ¬ AsksQuestion text question
no_question text question blank asks =
    let none : serde.read text ≡ None =
    ap (λ ts. option_and_then serde.of_json (option_and_then (λ p. json.if_last p.0 p.1) (json.value serde.max_depth ts))) (no_token text blank)
    ∙ ap (λ o. option_and_then serde.of_json (option_and_then (λ p. json.if_last p.0 p.1) o)) (no_value serde.max_depth) in
    none_is_some asks.value (sym none ∙ asks.reads)
