use Rattle.std.proofs.Common.{sym, subst, ◌∙◌}
use Rattle.std.proofs.lemmas.Bool.{false≢true}
use Rattle.std.specs.Int.{w128}
use Rattle.std.proofs.lemmas.Int.{to_z-of_z}
use Rattle.batch_audit.specs.Findings.{IsOtherDual}
use Rattle.batch_audit.proofs.Found.{settled_found, start_found, end_found, right_found}
use Rattle.batch_audit.proofs.outcomes.walk_finding.Goals as goal

pub returns-in-Illegal : goal.returns-in-Illegal
returns-in-Illegal c = λ budget whole. (whole, (rw (c.requires.orders, c.trace.ensures.value) at c.in-Illegal.ensures.retraced.0))

pub returns-then-are_settled : goal.returns-then-are_settled
returns-then-are_settled c =
    let walked = rw (c.requires.orders, c.trace.ensures.value) at c.in_default.ensures.retraced in
    let all = rw (c.in_default.ensures.orders, c.requires.orders) at c.are_settled.ensures.0 c.if-are_settled.true in
    λ budget whole. settled_found c.args.parts c.args.orders.now c.args.work.now.prices budget c.args.view.now.skipping whole walked.0 c.retrace.new.work.prices walked.1 all

pub returns-in-Some : goal.returns-in-Some
returns-in-Some c =
    let walked = rw (c.requires.orders, c.trace.ensures.value) at c.in_default.ensures.retraced in
    let settled = rw (c.in_default.ensures.orders, c.requires.orders) at c.are_settled.ensures in
    let start = to_z-of_z w128 c.start_dual.result (record { sfits = c.start_dual.type_inv }) ∙ c.start_dual.ensures in
    let right = to_z-of_z w128 c.in-Some.right c.in-Some.ensures.fits in
    λ budget whole. start_found c.args.parts c.args.orders.now c.args.work.now.prices budget c.args.view.now.skipping whole walked.0 c.retrace.new.work.prices walked.1
    (λ all. false≢true (sym c.if-are_settled.false ∙ settled.1 all)) _
    (subst (IsOtherDual c.args.orders.now c.args.work.now.prices c.args.view.now.skipping.start_dual) (sym right) (rw (start, c.prices.ensures.value) at c.in-Some.ensures.other))

pub returns-in-Some-other_dual : goal.returns-in-Some-other_dual
returns-in-Some-other_dual c =
    let walked = rw (c.requires.orders, c.trace.ensures.value) at c.in_default.ensures.retraced in
    let settled = rw (c.in_default.ensures.orders, c.requires.orders) at c.are_settled.ensures in
    let start = to_z-of_z w128 c.start_dual.result (record { sfits = c.start_dual.type_inv }) ∙ c.start_dual.ensures in
    let end = to_z-of_z w128 c.end_dual.result (record { sfits = c.end_dual.type_inv }) ∙ c.end_dual.ensures in
    let right = to_z-of_z w128 c.in-Some-other_dual.right c.in-Some-other_dual.ensures.fits in
    λ budget whole. end_found c.args.parts c.args.orders.now c.args.work.now.prices budget c.args.view.now.skipping whole walked.0 c.retrace.new.work.prices walked.1
    (λ all. false≢true (sym c.if-are_settled.false ∙ settled.1 all))
    (rw (start, c.prices.ensures.value) at c.in_default-start_dual.ensures.same) _
    (subst (IsOtherDual c.args.orders.now c.retrace.new.work.prices c.args.view.now.skipping.end_dual) (sym right) (rw (end, c.prices-2.ensures.value) at c.in-Some-other_dual.ensures.other))

pub returns-in-None : goal.returns-in-None
returns-in-None c =
    let walked = rw (c.requires.orders, c.trace.ensures.value) at c.in_default.ensures.retraced in
    let settled = rw (c.in_default.ensures.orders, c.requires.orders) at c.are_settled.ensures in
    let start = to_z-of_z w128 c.start_dual.result (record { sfits = c.start_dual.type_inv }) ∙ c.start_dual.ensures in
    let end = to_z-of_z w128 c.end_dual.result (record { sfits = c.end_dual.type_inv }) ∙ c.end_dual.ensures in
    λ budget whole. right_found c.args.parts c.args.orders.now c.args.work.now.prices budget c.args.view.now.skipping whole walked.0 c.retrace.new.work.prices walked.1
    (λ all. false≢true (sym c.if-are_settled.false ∙ settled.1 all))
    (rw (start, c.prices.ensures.value) at c.in_default-start_dual.ensures.same)
    (rw (end, c.prices-2.ensures.value) at c.in-None.ensures.same)
