use Rattle.std.proofs.Common.{ℕ, arith}
use Rattle.std.proofs.lemmas.List.{length-take, length-drop}
use Rattle.flow_io.proofs.Filling.{consumed}
use Rattle.flow_io.proofs.block.Block.give_up.Goals as goal

pub returns-clause-items : goal.returns-clause-items
returns-clause-items c =
    let b = c.args.self.now in
    consumed b.bytes.items b.start b.end c.args.count (omega (arith, length-take {A = ℕ}, length-drop {A = ℕ}))
