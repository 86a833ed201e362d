-- A clearing has one verdict, and it is `Right` exactly if the clearing is admissible.
use Rattle.std.proofs.Common.{◌≡◌, ◌↔◌, ℤ, List, length, refl, ap, subst}
use Rattle.flow_orders.specs.Orders.{Order}
use Rattle.flow_orders.specs.Outcomes.{Clearing, IsAdmissibleClearing}
use Rattle.batch_certificate.specs.declared.verdict.Verdict.{Verdict}
use Rattle.batch_certificate.specs.declared.verdict.Verdict.TheVariants.{Right, Count, Price, Rate, Residual, Gap}
use Rattle.batch_certificate.specs.Verdicts.{IsPriceRight, IsRateRight, IsResidualRight, IsVerdict}
use Rattle.batch_certificate.specs.Laws.{OneVerdict, RightIsForAdmissibleClearings}
use Rattle.batch_certificate.proofs.Places.{first_is_one, no_first}
use Rattle.batch_certificate.proofs.Verdicts.{admissible_clearing, right_parts}

pub one_verdict : OneVerdict
one_verdict orders start c Count Count a b = refl
one_verdict orders start c Count (Price k) a b = absurd (a b.0)
one_verdict orders start c Count (Rate k) a b = absurd (a b.0.counted)
one_verdict orders start c Count (Residual k) a b = absurd (a b.0.priced.counted)
one_verdict orders start c Count Gap a b = absurd (a b.0.rated.priced.counted)
one_verdict orders start c Count Right a b = absurd (a b.0.rated.priced.counted)
one_verdict orders start c (Price j) Count a b = absurd (b a.0)
one_verdict orders start c (Price j) (Price k) a b = ap Price (first_is_one (IsPriceRight orders start c) (length start) j k a.1 b.1)
one_verdict orders start c (Price j) (Rate k) a b = absurd (no_first (IsPriceRight orders start c) (length start) j b.0.prices a.1)
one_verdict orders start c (Price j) (Residual k) a b = absurd (no_first (IsPriceRight orders start c) (length start) j b.0.priced.prices a.1)
one_verdict orders start c (Price j) Gap a b = absurd (no_first (IsPriceRight orders start c) (length start) j b.0.rated.priced.prices a.1)
one_verdict orders start c (Price j) Right a b = absurd (no_first (IsPriceRight orders start c) (length start) j b.0.rated.priced.prices a.1)
one_verdict orders start c (Rate j) Count a b = absurd (b a.0.counted)
one_verdict orders start c (Rate j) (Price k) a b = absurd (no_first (IsPriceRight orders start c) (length start) k a.0.prices b.1)
one_verdict orders start c (Rate j) (Rate k) a b = ap Rate (first_is_one (IsRateRight orders c) (length orders) j k a.1 b.1)
one_verdict orders start c (Rate j) (Residual k) a b = absurd (no_first (IsRateRight orders c) (length orders) j b.0.rates a.1)
one_verdict orders start c (Rate j) Gap a b = absurd (no_first (IsRateRight orders c) (length orders) j b.0.rated.rates a.1)
one_verdict orders start c (Rate j) Right a b = absurd (no_first (IsRateRight orders c) (length orders) j b.0.rated.rates a.1)
one_verdict orders start c (Residual j) Count a b = absurd (b a.0.priced.counted)
one_verdict orders start c (Residual j) (Price k) a b = absurd (no_first (IsPriceRight orders start c) (length start) k a.0.priced.prices b.1)
one_verdict orders start c (Residual j) (Rate k) a b = absurd (no_first (IsRateRight orders c) (length orders) k a.0.rates b.1)
one_verdict orders start c (Residual j) (Residual k) a b = ap Residual (first_is_one (IsResidualRight orders c) (length start) j k a.1 b.1)
one_verdict orders start c (Residual j) Gap a b = absurd (no_first (IsResidualRight orders c) (length start) j b.0.residuals a.1)
one_verdict orders start c (Residual j) Right a b = absurd (no_first (IsResidualRight orders c) (length start) j b.0.residuals a.1)
one_verdict orders start c Gap Count a b = absurd (b a.0.rated.priced.counted)
one_verdict orders start c Gap (Price k) a b = absurd (no_first (IsPriceRight orders start c) (length start) k a.0.rated.priced.prices b.1)
one_verdict orders start c Gap (Rate k) a b = absurd (no_first (IsRateRight orders c) (length orders) k a.0.rated.rates b.1)
one_verdict orders start c Gap (Residual k) a b = absurd (no_first (IsResidualRight orders c) (length start) k a.0.residuals b.1)
one_verdict orders start c Gap Gap a b = refl
one_verdict orders start c Gap Right a b = absurd (a.1 b.1)
one_verdict orders start c Right Count a b = absurd (b a.0.rated.priced.counted)
one_verdict orders start c Right (Price k) a b = absurd (no_first (IsPriceRight orders start c) (length start) k a.0.rated.priced.prices b.1)
one_verdict orders start c Right (Rate k) a b = absurd (no_first (IsRateRight orders c) (length orders) k a.0.rated.rates b.1)
one_verdict orders start c Right (Residual k) a b = absurd (no_first (IsResidualRight orders c) (length start) k a.0.residuals b.1)
one_verdict orders start c Right Gap a b = absurd (b.1 a.1)
one_verdict orders start c Right Right a b = refl

pub right_where : (orders : List Order) (start : List ℤ) (c : Clearing) (v : Verdict) → IsVerdict orders start c v → (v ≡ Right) ↔ IsAdmissibleClearing orders start c
right_where orders start c v verdict = (
  (λ is. let right = subst (IsVerdict orders start c) is verdict in admissible_clearing orders start c right.0 right.1),
  (λ right. one_verdict orders start c v Right verdict (right_parts orders start c right)),
)

pub right_is_for_admissible_clearings : RightIsForAdmissibleClearings
right_is_for_admissible_clearings orders start c = ((λ right. admissible_clearing orders start c right.0 right.1), right_parts orders start c)
