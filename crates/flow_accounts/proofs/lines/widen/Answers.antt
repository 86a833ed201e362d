use Rattle.std.proofs.Common.{◌+◌, ◌-◌, ◌*◌, ◌/◌, ◌%◌, get_or, sym, ap, subst, ◌∙◌, arith}
use Rattle.std.specs.Vec.{with_item}
use Rattle.flow_accounts.proofs.Widening.{IsWidening, starts, turn_moved, turn_emptied, ends, begins}
use Rattle.flow_accounts.proofs.lines.widen.Goals.{then-asset-from, else-asset-from}
use Rattle.flow_accounts.proofs.lines.widen.Goals as goal

pub loop-left-init : goal.loop-left-init
loop-left-init g c = starts c.args.none c.args.lines c.args.from c.args.to c.requires.wider c.resize.new.self (rw c.unwrap.ensures at c.resize.ensures.len)

pub loop-left-preserved : goal.loop-left-preserved
loop-left-preserved g c =
    let place = (c.loop-left.left - 1) / c.args.to * c.args.from + (c.loop-left.left - 1) % c.args.to in
    elim c.if-asset-from.branch [
      | then-asset-from w ↦ turn_moved c.args.none c.args.lines c.args.from c.args.to c.requires.wider c.resize.new.self c.loop-left.left c.loop-left.units c.loop-left-test.true c.loop-left.invariant c.if-asset-from.amount
          w.if-asset-from.true (w.amount-is ∙ w.index.ensures ∙ ap (λ d. get_or c.loop-left.units.items place d) (sym w.amount-is))
      | else-asset-from w ↦ subst (λ u. IsWidening c.args.none c.args.lines c.args.from c.args.to (c.loop-left.left - 1) c.resize.new.self (with_item c.loop-left.units (c.loop-left.left - 1) u)) (sym w.amount-is)
          (turn_emptied c.args.none c.args.lines c.args.from c.args.to c.requires.wider c.resize.new.self c.loop-left.left c.loop-left.units c.loop-left-test.true c.loop-left.invariant w.if-asset-from.false)
    ]

pub returns-clause-laid : goal.returns-clause-laid
returns-clause-laid g c = λ rows count widths is.
    let left = c.loop-left-test.false in
    ends c.args.none c.args.lines c.args.from c.args.to c.requires.wider c.resize.new.self c.loop-left.units
    (subst (λ n. IsWidening c.args.none c.args.lines c.args.from c.args.to n c.resize.new.self c.loop-left.units) (omega arith) c.loop-left.invariant) rows count widths
    (begins c.args.none c.args.lines c.args.from c.args.to rows c.args.units.now c.resize.new.self c.requires.wider count c.requires.held is (rw c.unwrap.ensures at c.resize.ensures.items))
