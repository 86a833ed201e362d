use Rattle.std.proofs.Common.{◌≡◌, ℕ, Result, Ok, Err, true≢false, sym, ap, ◌∙◌}
use Rattle.std.specs.Prelude.{decimal}
use Rattle.std.proofs.lemmas.Fmt.{parse-decimal}
use Rattle.flow_exchange.proofs.sample_form.number_of.Goals as goal

-- the number that was parsed
ok_is : {E : Type 0} (a b : ℕ) → ◌≡◌ {A = Result ℕ E} (Ok a) (Ok b) → a ≡ b
ok_is a b e = cc

-- a fault is no number
no_fault : {E : Type 0} (e : E) (b : ℕ) → ◌≡◌ {A = Result ℕ E} (Err e) (Ok b) → ⊥
no_fault e b same = absurd cc

pub returns-in-Ok-2-clause-none : goal.returns-in-Ok-2-clause-none
returns-in-Ok-2-clause-none c = λ number below is.
    let parsed = ok_is c.in-Ok.number number (sym c.in-Ok.is ∙ parse-decimal 64 number _ _ below below is c.parse.ensures.value.0) in
    true≢false (sym (c.is_decimal.ensures.1 (is ∙ ap decimal (sym parsed))) ∙ c.if-is_decimal.false)

pub returns-in-Err-clause-none : goal.returns-in-Err-clause-none
returns-in-Err-clause-none c = λ number below is. no_fault c.in-Err.field-0 number (sym c.in-Err.is ∙ parse-decimal 64 number _ _ below below is c.parse.ensures.value.0)
