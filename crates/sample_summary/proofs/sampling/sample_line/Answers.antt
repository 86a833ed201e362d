use Rattle.std.proofs.Common.{ap, ◌∙◌, length, arith}
use Rattle.file_units.specs.Units.{ending_of}
use Rattle.sample_market.proofs.Short.{samples_are_short}
use Rattle.sample_summary.specs.Private.{state_of}
use Rattle.sample_summary.proofs.Counted.{ready_fewer}
use Rattle.sample_summary.proofs.Written.{if_ok}
use Rattle.sample_summary.proofs.Sampled.{sample_long, summarizes}
use Rattle.sample_summary.proofs.sampling.sample_line.Goals as goal

pub take_units-requires-clause-inside : goal.take_units-requires-clause-inside
take_units-requires-clause-inside c = omega (arith, ap length (c.deref.ensures.value ∙ c.in_ok-file.ensures), sample_long c.args.number c.args.orders)

pub take_units-requires-clause-ready : goal.take_units-requires-clause-ready
take_units-requires-clause-ready c =
    ready_fewer c.new-sampling.result 928788 _ c.new-sampling.ensures.ready (omega (arith, ap length (c.deref.ensures.value ∙ c.in_ok-file.ensures), samples_are_short c.args.number c.args.orders, c.requires.few))

pub returns : goal.returns
returns c =
    let file = c.deref.ensures.value ∙ c.in_ok-file.ensures in
    if_ok c.line_of.result _ _ c.line_of.ensures
    (λ line told. summarizes c.args.number c.args.orders c.deref.result.now (state_of c.new-sampling.result) (state_of c.take_units.new.taker) tt tt (ending_of c.in_ok-take_units.field-0) line.items file c.in_ok-take_units.ensures.ended c.new-sampling.ensures.none told)
