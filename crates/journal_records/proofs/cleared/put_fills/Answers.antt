use Rattle.std.proofs.Common.{◌≡◌, ℕ, ◌+◌, ◌<◌, ◌^◌, [], ◌∷◌, ◌++◌, length, get_or, refl, sym, ap, ◌∙◌, arith}
use Rattle.std.specs.Iterator.Adapters.{zip_first, zip_second}
use Rattle.std.specs.Slice.Iter.{iter_rest}
use Rattle.std.proofs.lemmas.Slice.Zip.{zip_turn, zip_end}
use Rattle.std.proofs.lemmas.List.{length_push, append-nil}
use Rattle.std.proofs.lemmas.List.Elements.{All-nil}
use Rattle.wire_fields.specs.Numbers.{unsigned}
use Rattle.flow_orders.specs.Orders.{Order}
use Rattle.journal_records.specs.Bodies.{IsFill}
use Rattle.journal_records.proofs.Fills.{one_more, all_written}
use Rattle.journal_records.proofs.cleared.put_fills.Goals.{In-Some, In-None}
use Rattle.journal_records.proofs.cleared.put_fills.Goals as goal

-- the order and the rate of a round are at one place of their lists
turn : (c : In-Some) → (length c.loop-order.yielded < length c.args.orders.now) × (length c.loop-order.yielded < length c.args.rates.now)
    × ((d : Order) → c.in-Some.order.now ≡ get_or c.args.orders.now (length c.loop-order.yielded) d)
    × ((d : ℕ) → c.in-Some.rate.now ≡ get_or c.args.rates.now (length c.loop-order.yielded) d)
turn c =
    let same = c.into_iter-order-iterator.ensures.into_iter_gives in
    zip_turn c.args.orders.now c.args.rates.now c.loop-order.yielded c.into_iter-order-iterator.result c.loop-order.order-iterator c.next.new.self c.next.result
    (ap (λ z. iter_rest (zip_first z)) same ∙ ap iter_rest c.zip-order-items.ensures.first ∙ c.iter.ensures.rest)
    (ap (λ z. iter_rest (zip_second z)) same ∙ c.zip-order-items.ensures.second.0)
    c.loop-order.yielded_by _ c.in-Some.is c.next.ensures.steps

-- at the end there was a round for each order
ended : (c : In-None) → length c.loop-order.yielded ≡ length c.args.orders.now
ended c =
    let same = c.into_iter-order-iterator.ensures.into_iter_gives in
    let count = zip_end c.args.orders.now c.args.rates.now c.loop-order.yielded c.into_iter-order-iterator.result c.loop-order.order-iterator c.next.new.self c.next.result
    (ap (λ z. iter_rest (zip_first z)) same ∙ ap iter_rest c.zip-order-items.ensures.first ∙ c.iter.ensures.rest)
    (ap (λ z. iter_rest (zip_second z)) same ∙ c.zip-order-items.ensures.second.0)
    c.loop-order.yielded_by c.in-None.is c.next.ensures.steps in
    omega (arith, count, c.requires.count)

pub loop-order-init : goal.loop-order-init
loop-order-init c = record {
  written = record { written = sym (append-nil c.args.out.now.items); fit = All-nil IsFill };
  len = omega arith;
  capacity = refl;
}

pub put_u64-requires : goal.put_u64-requires
put_u64-requires c =
    let at = turn (goal.at.put_u64-requires c).In-Some in
    omega (arith, at.0, c.requires.room, c.loop-order.invariant.len, c.loop-order.invariant.capacity)

pub put_u32-requires : goal.put_u32-requires
put_u32-requires c =
    let at = turn (goal.at.put_u32-requires c).In-Some in
    omega (arith, at.0, c.requires.room, c.loop-order.invariant.len, c.loop-order.invariant.capacity, c.put_u64.ensures.len, c.put_u64.ensures.capacity)

pub loop-order-preserved : goal.loop-order-preserved
loop-order-preserved c =
    let at = turn (goal.at.loop-order-preserved c).In-Some in
    let o = c.in-Some.order.now in
    let x = c.in-Some.rate.now in
    let i = length c.loop-order.yielded in
    let more : length (c.loop-order.yielded ++ (c.in-Some.order, c.in-Some.rate) ∷ []) ≡ i + 1 = length_push c.loop-order.yielded (c.in-Some.order, c.in-Some.rate) in
    let small_number : o.number < 2 ^ 64 = omega (arith, c.number.ensures.value, c.number.type_inv) in
    let small_rate : x < 2 ^ 32 = omega (arith, at.3 0, c.type_inv.rates i) in
    let next : c.put_u32.new.out.items ≡ (c.loop-order.out.items ++ unsigned 8 o.number) ++ unsigned 4 x =
    c.put_u32.ensures.written ∙ ap (λ xs. xs ++ unsigned 4 x) (c.put_u64.ensures.written ∙ ap (λ n. c.loop-order.out.items ++ unsigned 8 n) c.number.ensures.value) in
    rw more (record {
      written = one_more c.args.orders.now c.args.rates.now i o x c.args.out.now.items c.loop-order.out.items c.put_u32.new.out.items c.requires.count at.0 (at.2 o) (at.3 x) small_number small_rate c.loop-order.invariant.written next;
      len = omega (arith, c.loop-order.invariant.len, c.put_u64.ensures.len, c.put_u32.ensures.len);
      capacity = c.put_u32.ensures.capacity ∙ c.put_u64.ensures.capacity ∙ c.loop-order.invariant.capacity;
    })

pub returns-clause-written : goal.returns-clause-written
returns-clause-written c =
    let written = all_written c.args.orders.now c.args.rates.now c.args.out.now.items c.loop-order.out.items (length c.loop-order.yielded) c.requires.count (omega (arith, ended c)) c.loop-order.invariant.written in
    written.0

pub returns-clause-len : goal.returns-clause-len
returns-clause-len c = omega (arith, ended c, c.loop-order.invariant.len)

pub returns-clause-capacity : goal.returns-clause-capacity
returns-clause-capacity c = c.loop-order.invariant.capacity

pub returns-clause-fit : goal.returns-clause-fit
returns-clause-fit c =
    let written = all_written c.args.orders.now c.args.rates.now c.args.out.now.items c.loop-order.out.items (length c.loop-order.yielded) c.requires.count (omega (arith, ended c)) c.loop-order.invariant.written in
    written.1
