use Rattle.std.proofs.Common.{◌≡◌, ◌+◌, ◌-◌, ◌*◌, suc, ◌++◌, ◌∷◌, [], length, ap, sym, ◌∙◌, length-append, to_z, of_z, w32, arith}
use Rattle.std.proofs.lemmas.Int.{to_z-of_z}
use Rattle.weight_rows.specs.declared.entries.Entry.{Entry}
use Rattle.sample_market.specs.Draws.{drawn, state_after}
use Rattle.sample_market.specs.Orders.{drawn_entries}
use Rattle.sample_market.proofs.Drawn.{entry_of, row_begins, after_begins, entry_more, state_more}
use Rattle.sample_market.proofs.orders.row.Goals as goal

pub loop-asset-init : goal.loop-asset-init
loop-asset-init c =
    let count = c.below.ensures in
    let first = c.below-first.ensures in
    let entries = c.in_ok-entries.ensures in
    let left : (c.below-first.result + (1 + c.below.result)) - c.below-first.result ≡ 1 + c.below.result = omega arith in
    record {
      from = omega arith;
      row = row_begins c.args.draws.now c.below.new.self c.below-first.new.self c.below.result c.below-first.result _ _ count.value count.next (first.value ∙ ap (λ n. drawn n c.below.new.self) c.from.ensures) first.next left entries.items;
      following = after_begins c.args.draws.now c.below.new.self c.below-first.new.self c.below.result _ count.value count.next first.next left;
      few = rw entries.items (omega (arith, left, count.bound));
      room = omega (arith, left, entries.len, entries.capacity);
    }

pub loop-asset-preserved : goal.loop-asset-preserved
loop-asset-preserved c =
    let before = c.loop-asset.invariant in
    let asset = c.loop-asset.asset in
    let end = c.below-first.result + (1 + c.below.result) in
    let rest = end - (asset + 1) in
    let less : end - asset ≡ suc rest = omega (arith, c.loop-asset-test.true) in
    let weight = to_z-of_z w32 c.weight-weight.result (record { sfits = c.weight-weight.type_inv }) ∙ c.weight-weight.ensures.value in
    let entry : Entry = record { asset = asset; weight = to_z w32 (of_z w32 c.weight-weight.result) } in
    record {
      from = omega (arith, before.from);
      row =
          entry_more _ c.loop-asset.entries.items c.push_reserved.new.self.items entry (end - asset) rest asset c.loop-asset.draws before.row less c.push_reserved.ensures.items (ap (entry_of asset) weight)
          ∙ ap (λ s. c.push_reserved.new.self.items ++ drawn_entries rest (asset + 1) s) (sym c.weight-weight.ensures.following);
      following = state_more _ (end - asset) rest c.loop-asset.draws before.following less ∙ ap (state_after (2 * rest)) (sym c.weight-weight.ensures.following);
      few = omega (arith, before.few, less, ap length c.push_reserved.ensures.items, length-append c.loop-asset.entries.items (entry ∷ []));
      room = omega (arith, before.room, less, c.push_reserved.ensures.len, c.push_reserved.ensures.capacity);
    }
