use Rattle.std.proofs.Common.{subst}
use Rattle.batch_audit.specs.Judging.{IsChangeOf}
use Rattle.batch_audit.proofs.Served.{command_made}
use Rattle.batch_audit.proofs.audit.make.Goals as goal

pub returns-in_ok-make-in-Command-clause-legal : goal.returns-in_ok-make-in-Command-clause-legal
returns-in_ok-make-in-Command-clause-legal c =
    command_made c.args.market.now c.args.pair.now c.in-Command.command (subst (IsChangeOf c.args.market.now c.args.pair.now) c.in-Command.is c.requires.change)
    c.in_ok-make-in-Command.field-0 c.make.new.self c.in_ok-make-in-Command.ensures.served
