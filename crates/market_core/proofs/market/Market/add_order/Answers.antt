use Rattle.std.proofs.Common.{◌≡◌, ◌+◌, ◌∷◌, ◌++◌, [], None, ◌∙◌, ap, refl}
use Rattle.std.specs.Int.{w64}
use Rattle.std.proofs.lemmas.Int.{to_z-of_z}
use Rattle.wire_records.specs.Commands.{Place, Plain}
use Rattle.wire_records.specs.declared.reply.Reply.TheVariants.{Order as OrderPlaced}
use Rattle.market_rules.specs.Step.{FirstRefusal, placed, ServesPlain, NoOutcome}
use Rattle.market_rules.proofs.Accepted.{past_unless}
use Rattle.market_core.specs.Kept.{market_in}
use Rattle.market_core.proofs.Fitting.{consistent-served}
use Rattle.market_core.proofs.Placing.{accepted_is_few, serves-place}
use Rattle.market_core.proofs.market.Market.add_order.Goals as goal

pub restore-requires-clause-limits : goal.restore-requires-clause-limits
restore-requires-clause-limits c =
    let low = to_z-of_z w64 c.low.result (record { sfits = c.low.type_inv }) in
    let high = to_z-of_z w64 c.high.result (record { sfits = c.high.type_inv }) in
    let limits = past_unless (past_unless c.requires.accepted).1 in
    rw (low, high, c.low.ensures, c.high.ensures) limits.0

pub add-requires-clause-few : goal.add-requires-clause-few
add-requires-clause-few c =
    let m = market_in c.self.inside in
    let first : FirstRefusal m (Place c.args.last c.args.place.now) None = rw (← c.self.view_is) at c.requires.accepted in
    rw c.in_ok-reserve_one.ensures.orders (accepted_is_few m c.args.last c.args.place.now first)

served : (c : goal.After-add) → ServesPlain (market_in c.self.inside) (Place c.args.last c.args.place.now) (Plain (OrderPlaced c.self.inside.next_order)) (record (market_in c.self.inside) { orders = c.add.new.self.orders; next_order = c.self.inside.next_order + 1 })
served c =
    let m = market_in c.self.inside in
    let first : FirstRefusal m (Place c.args.last c.args.place.now) None = rw (← c.self.view_is) at c.requires.accepted in
    let low = to_z-of_z w64 c.low.result (record { sfits = c.low.type_inv }) in
    let high = to_z-of_z w64 c.high.result (record { sfits = c.high.type_inv }) in
    let row : c.new-row.result ≡ c.args.place.now.row = c.new-row.ensures ∙ c.in_ok-to_list.ensures ∙ c.row.ensures in
    let is : c.restore.result ≡ placed m c.args.last c.args.place.now = c.restore.ensures.value ∙ rw (low, high, c.account.ensures, c.low.ensures, c.high.ensures, c.rate.ensures, c.cap.ensures, c.unwrap_or.ensures, row) refl in
    serves-place NoOutcome m c.args.last c.args.place.now c.restore.result c.add.new.self.orders first is (c.add.ensures.orders ∙ ap (λ os. os ++ c.restore.result ∷ []) c.in_ok-reserve_one.ensures.orders)

pub invariant_of-self-2 : goal.invariant_of-self-2
invariant_of-self-2 c = consistent-served (market_in c.self.inside) _ _ _ (rw (← c.self.view_is) at c.requires.version) c.self.invariant (served c)

pub returns-clause-served : goal.returns-clause-served
returns-clause-served c = rw (← c.self.view_is) (served c)
