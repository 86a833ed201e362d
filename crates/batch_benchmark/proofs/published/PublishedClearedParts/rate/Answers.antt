use Rattle.std.proofs.Common.{◌≡◌, ℕ, option_map, slice_get, Some, map, length, refl, ap, ◌∙◌, sym}
use Rattle.std.proofs.lemmas.Bool.{ltb-true}
use Rattle.std.proofs.lemmas.Option.{slice_get-map, slice_get_read}
use Rattle.flow_orders.specs.Outcomes.{Fill}
use Rattle.batch_benchmark.proofs.published.PublishedClearedParts.rate.Goals as goal

fill : ℕ × ℕ → Fill
fill f = record { order = f.0; rate = f.1 }

pub returns : goal.returns
unfolding fill
returns c =
    let fills = c.args.self.now.fills.now in
    let found : slice_get fills c.args.k ≡ Some c.in_ok-get.field-0.now = slice_get_read fills _ c.args.k _ refl (ltb-true c.args.k (length fills) (sym c.in_ok-get.ensures.lookup.0)) c.in_ok-get.ensures.lookup.1 in
    sym (slice_get-map (λ (f : Fill). f.rate) (map fill fills) c.args.k ∙ ap (option_map (λ (f : Fill). f.rate)) (slice_get-map fill fills c.args.k) ∙ ap (λ o. option_map (λ (f : Fill). f.rate) (option_map fill o)) found)
