use Rattle.std.proofs.Common.{ℕ, ◌-◌, [], get_or, take, drop, arith, ap, sym, ◌∙◌}
use Rattle.desk_session.proofs.Parts.{part_at, part_within}
use Rattle.desk_session.proofs.talk.part_at.Goals as goal

pub slice_bounds-result-count : goal.slice_bounds-result-count
slice_bounds-result-count c =
    let within = part_within 0 c.args.ends.now c.args.text.now c.args.place 0 c.requires.ascend c.requires.there in
    omega (arith, within.0, c.begin_of.ensures)

pub slice_bounds-result-start : goal.slice_bounds-result-start
slice_bounds-result-start c =
    let within = part_within 0 c.args.ends.now c.args.text.now c.args.place 0 c.requires.ascend c.requires.there in
    omega (arith, within.0, c.begin_of.ensures)

pub slice_bounds-result-end : goal.slice_bounds-result-end
slice_bounds-result-end c =
    let within = part_within 0 c.args.ends.now c.args.text.now c.args.place 0 c.requires.ascend c.requires.there in
    omega (arith, within.1)

pub returns : goal.returns
returns c =
    ap (λ (b : ℕ). take (get_or c.args.ends.now c.args.place 0 - b) (drop b c.args.text.now)) c.begin_of.ensures
    ∙ sym (part_at 0 c.args.ends.now c.args.text.now c.args.place 0 [] c.requires.there)
