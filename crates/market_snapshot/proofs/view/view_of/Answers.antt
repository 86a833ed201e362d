use Rattle.std.proofs.Common.{◌≡◌, ◌+◌, ◌*◌, ◌<◌, ◌∙◌, ap, sym, subst, arith}
use Rattle.std.proofs.lemmas.List.Elements.{All-from_get_or}
use Rattle.flow_orders.proofs.Limits.{orders_are}
use Rattle.byte_places.specs.Places.{unsigned_at}
use Rattle.market_snapshot.specs.Layout.{count_place, first_place, AreOrders, HasNoOrders}
use Rattle.market_snapshot.specs.Answers.{WhereNotSound}
use Rattle.market_snapshot.specs.Kept.{IsKept}
use Rattle.market_snapshot.proofs.Laid.{all_encoded, all_fit}
use Rattle.market_snapshot.proofs.Viewing.{too_many, faulted, begins_with_first}
use Rattle.market_snapshot.proofs.view.view_of.Goals as goal

pub returns-then-count-gt-MOST_ORDERS-clause-none : goal.returns-then-count-gt-MOST_ORDERS-clause-none
returns-then-count-gt-MOST_ORDERS-clause-none c =
    let l = c.in-Some.layout in
    let bytes = c.args.bytes.now in
    let read : c.u32_at-count.result ≡ unsigned_at 4 (count_place l) bytes = c.u32_at-count.ensures ∙ ap (λ n. unsigned_at 4 (l.totals + 44 + 24 * n) bytes) c.from.ensures in
    too_many l bytes c.u32_at-count.result c.in-Some.ensures.found read (omega (arith, orders_are, c.if-count-gt-MOST_ORDERS.true))

pub returns-in-Err-clause-none : goal.returns-in-Err-clause-none
returns-in-Err-clause-none c =
    let l = c.in-Some.layout in
    let bytes = c.args.bytes.now in
    let read : c.u32_at-count.result ≡ unsigned_at 4 (count_place l) bytes = c.u32_at-count.ensures ∙ ap (λ n. unsigned_at 4 (l.totals + 44 + 24 * n) bytes) c.from.ensures in
    let first : l.totals + 44 + 24 * c.from.result + 4 ≡ first_place l = omega (arith, c.from.ensures) in
    let none = subst (λ p. WhereNotSound c.in-Err.fault (HasNoOrders c.u32_at-count.result p bytes)) first c.in-Err.ensures.none in
    faulted c.in-Err.fault l bytes c.u32_at-count.result c.in-Some.ensures.found read none

kept : (c : goal.In-Ok) → IsKept (record { bytes = c.args.bytes; layout = c.in-Some.layout; orders = c.in-Ok.places.starts; end = c.in-Ok.places.end })
kept c =
    let l = c.in-Some.layout in
    let bytes = c.args.bytes.now in
    let read : c.u32_at-count.result ≡ unsigned_at 4 (count_place l) bytes = c.u32_at-count.ensures ∙ ap (λ n. unsigned_at 4 (l.totals + 44 + 24 * n) bytes) c.from.ensures in
    let first : l.totals + 44 + 24 * c.from.result + 4 ≡ first_place l = omega (arith, c.from.ensures) in
    record {
      layout = c.in-Some.ensures.found;
      orders = subst (λ p. AreOrders bytes p c.in-Ok.places.end c.in-Ok.places.starts.items) first c.in-Ok.ensures.found;
      count = sym read ∙ sym c.in-Ok.ensures.count;
      few = omega (arith, c.in-Ok.ensures.count, orders_are, c.if-count-gt-MOST_ORDERS.false);
      bytes = All-from_get_or (λ b. b < 256) bytes 0 (λ i there. omega (arith, c.type_inv.bytes i));
    }

pub invariant_of-result : goal.invariant_of-result
invariant_of-result c = kept c

pub returns-clause-fits : goal.returns-clause-fits
returns-clause-fits c =
    let k = kept c in
    all_fit c.args.bytes.now k.bytes c.in-Some.layout k.layout c.in-Ok.places.end c.in-Ok.places.starts.items k.orders k.count k.few

pub returns-clause-begins : goal.returns-clause-begins
returns-clause-begins c =
    let k = kept c in
    begins_with_first _ c.args.bytes.now c.in-Ok.places.end (all_encoded c.args.bytes.now k.bytes c.in-Some.layout k.layout c.in-Ok.places.end c.in-Ok.places.starts.items k.orders k.count k.few) k.orders.inside
