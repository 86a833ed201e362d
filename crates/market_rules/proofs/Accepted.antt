-- What an accepted command's conditions give.
use Rattle.std.proofs.Common.{◌≡◌, ℕ, ◌≤◌, ◌<◌, ℤ, ◌≤ℤ◌, ◌<ℤ◌, Some, None, ◌⊎◌, inl, inr}
use Rattle.std.proofs.lemmas.Int.{by_lt_z}
use Rattle.std.proofs.lemmas.Bool.{cases_lt}
use Rattle.wire_records.specs.declared.reply.Refusal.{Refusal}

none_some : (r : Refusal) → None ≡ Some r → ⊥
none_some r e = cc

-- no refusal `when` a condition holds: it doesn't hold, and there is no refusal among the others
pub past_when : {C Others : Type 0} {r : Refusal} → (C × (None ≡ Some r)) ⊎ ((¬ C) × Others) → (¬ C) × Others
past_when {C} {Others} {r} first = elim first [ inl here ↦ absurd (none_some r here.1) | inr there ↦ there ]

-- no refusal `unless` a condition holds: it holds, and there is no refusal among the others
pub past_unless : {C Others : Type 0} {r : Refusal} → ((¬ C) × (None ≡ Some r)) ⊎ (C × Others) → C × Others
past_unless {C} {Others} {r} first = elim first [ inl here ↦ absurd (none_some r here.1) | inr there ↦ there ]

pub not_below : (a b : ℤ) → (a <ℤ b → ⊥) → b ≤ℤ a
not_below a b none = by_lt_z a b (λ below. absurd (none below)) (λ above. above)

pub not_least : (a b : ℕ) → (a ≤ b → ⊥) → b < a
not_least a b none = elim (cases_lt b a) [ inl below ↦ below | inr not ↦ absurd (none not) ]

pub not_above : (a b : ℕ) → (a < b → ⊥) → b ≤ a
not_above a b none = elim (cases_lt a b) [ inl above ↦ absurd (none above) | inr not ↦ not ]
