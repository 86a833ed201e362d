-- The bytes of a disk and of an input of lines lead to at most one status.
use Rattle.std.proofs.Common.{◌≡◌, ◌⊎◌, inl, inr, ℕ, List, sym, ◌∙◌, arith}
use Rattle.journal_keeping.specs.Openings.{Opening, Foreign, New, Damaged, Rejected, Legal}
use Rattle.journal_keeping.proofs.OneOpening.{one_opening}
use Rattle.exit_status.specs.declared.status.Status.{Status}
use Rattle.kept_exchange.specs.Statuses.{IsEnd, LinesOpenTo}
use Rattle.kept_exchange.specs.Laws.{LinesHaveOneStatus}

end_one : (limit : ℕ) (bytes : List ℕ) (a b : Status) → IsEnd limit bytes a → IsEnd limit bytes b → a ≡ b
end_one limit bytes a b (inl x) (inl y) = x.1 ∙ sym y.1
end_one limit bytes a b (inl x) (inr y) = absurd (omega (arith, x.0, y.0))
end_one limit bytes a b (inr x) (inl y) = absurd (omega (arith, x.0, y.0))
end_one limit bytes a b (inr x) (inr y) = x.1 ∙ sym y.1

-- what is before the lines is refused, or they are served to their end
start_one : (Bad : Type 0) (refused : Status) (limit : ℕ) (bytes : List ℕ) (a b : Status) → (Bad × (a ≡ refused)) ⊎ ((¬ Bad) × IsEnd limit bytes a)
    → (Bad × (b ≡ refused)) ⊎ ((¬ Bad) × IsEnd limit bytes b) → a ≡ b
start_one Bad refused limit bytes a b (inl x) (inl y) = x.1 ∙ sym y.1
start_one Bad refused limit bytes a b (inl x) (inr y) = absurd (y.0 x.0)
start_one Bad refused limit bytes a b (inr x) (inl y) = absurd (x.0 y.0)
start_one Bad refused limit bytes a b (inr x) (inr y) = end_one limit bytes a b x.1 y.1

opens_one : (limit : ℕ) (bytes : List ℕ) (opening : Opening) (a b : Status) → LinesOpenTo limit bytes opening a → LinesOpenTo limit bytes opening b → a ≡ b
opens_one limit bytes Foreign a b x y = x ∙ sym y
opens_one limit bytes (Damaged place) a b x y = x ∙ sym y
opens_one limit bytes (Rejected number) a b x y = x ∙ sym y
opens_one limit bytes New a b x y = start_one _ _ limit bytes a b x y
opens_one limit bytes (Legal begin pairs market) a b x y = start_one _ _ limit bytes a b x y

pub one_status : LinesHaveOneStatus
one_status limit held bytes a b x y = opens_one limit bytes y.0 a b (rw (one_opening held x.0 y.0 x.1 y.1) at x.2) y.2
