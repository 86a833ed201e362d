use Rattle.std.proofs.Common.{◌≡◌, ◌++◌, length, take, drop, w64, ap, sym, ◌∙◌, arith}
use mir.Syntax.{w128}
use Rattle.std.proofs.lemmas.Int.{to_z-of_z}
use Rattle.excess_bounds.proofs.Kept.{columns_count, column_at, is_column, can_requote, stays_kept, written_back}
use Rattle.excess_bounds.proofs.workspace.Workspace.set_price.Goals as goal

pub index-requires : goal.index-requires
index-requires c =
    let count : length c.self.inside.columns.items ≡ length c.self.inside.prices.items = columns_count _ _ _ _ c.self.invariant.0 in
    let there = rw (← c.self.view_is) at c.requires.asset in
    omega (arith, count, there, c.from.ensures)

pub requote-requires-clause-light : goal.requote-requires-clause-light
requote-requires-clause-light c =
    let there = rw (← c.self.view_is) at c.requires.asset in
    let column = column_at _ _ _ _ c.args.asset c.index.result.now c.self.invariant.0 there in
    let at = rw c.from.ensures at c.index.ensures in
    rw (c.cells.ensures.value ∙ at ∙ column) (is_column _ _ _ _ c.self.invariant.0 c.args.asset there).light

pub requote-requires-clause-can : goal.requote-requires-clause-can
requote-requires-clause-can c =
    let there = rw (← c.self.view_is) at c.requires.asset in
    let column = column_at _ _ _ _ c.args.asset c.index.result.now c.self.invariant.0 there in
    let at = rw c.from.ensures at c.index.ensures in
    let amount = rw (to_z-of_z w64 c.args.price c.ranges.price, ← c.self.view_is) at c.amount-amount.ensures.value in
    let same = to_z-of_z w128 c.amount-amount.result (record { sfits = c.amount-amount.type_inv }) in
    rw (c.deref_mut.ensures.value, c.cells.ensures.value ∙ at ∙ column, same)
    (can_requote _ _ _ _ c.self.invariant.0 c.args.asset there c.args.price c.amount-amount.result c.requires.price amount)

-- the quotes after they are written back
quotes_are : (c : goal.After-self-2-1) → take c.self.inside.quotes.len (c.requote.new.quotes ++ drop (length c.requote.new.quotes) c.self.inside.quotes.items) ≡ c.requote.new.quotes
quotes_are c =
    let kept : length c.requote.new.quotes ≡ length c.deref_mut.result.now = c.requote.auto.quotes in
    written_back c.self.inside.quotes.len c.requote.new.quotes c.self.inside.quotes.items (kept ∙ c.deref_mut.ensures.len) (ap length (sym c.deref_mut.ensures.value) ∙ c.deref_mut.ensures.len)

pub invariant_of-self : goal.invariant_of-self
invariant_of-self c =
    let there = rw (← c.self.view_is) at c.requires.asset in
    let column = column_at _ _ _ _ c.args.asset c.index.result.now c.self.invariant.0 there in
    let at = rw c.from.ensures at c.index.ensures in
    let amount = rw (to_z-of_z w64 c.args.price c.ranges.price, ← c.self.view_is) at c.amount-amount.ensures.value in
    let same = to_z-of_z w128 c.amount-amount.result (record { sfits = c.amount-amount.type_inv }) in
    let quotes = rw (c.deref_mut.ensures.value, c.cells.ensures.value ∙ at ∙ column, same) at c.requote.ensures in
    rw (quotes_are c, quotes, c.from-2.ensures, to_z-of_z w64 c.args.price c.ranges.price)
    (stays_kept _ _ _ _ c.self.invariant.0 c.args.asset there c.args.price c.amount-amount.result c.requires.price amount, c.self.invariant.1)
