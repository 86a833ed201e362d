use Rattle.std.proofs.Common.{length, ap, ◌∙◌, refl, arith, true, false}
use Rattle.std.proofs.lemmas.Result.{err_from_is_err_and}
use Rattle.memory_io.proofs.MemoryCalls.{look_held, look_tells}
use Rattle.memory_io.proofs.memory_disk.MemoryDiskDisk.read_at.Goals as goal

pub returns-in_err-look-clause-tells : goal.returns-in_err-look-clause-tells
returns-in_err-look-clause-tells c =
    let p = err_from_is_err_and c.from_residual.result c.from_residual.ensures.1 in
    rw p.1 (look_tells c.args.self.now c.look.new.self true c.in_err-look.ensures.made _ _ tt c.in_err-look.ensures.cause)

pub read_out-requires : goal.read_out-requires
read_out-requires c = let same = c.bytes.ensures ∙ (look_held c.args.self.now c.look.new.self false c.in_ok-look.ensures.made) in omega (arith, c.requires, ap length same)

pub returns-clause-tells : goal.returns-clause-tells
returns-clause-tells c =
    let same = c.bytes.ensures ∙ (look_held c.args.self.now c.look.new.self false c.in_ok-look.ensures.made) in
    look_tells c.args.self.now c.look.new.self false c.in_ok-look.ensures.made _ _ (rw (c.read_out.ensures, same) refl) c.in_ok-look.ensures.cause
