use Rattle.std.proofs.Common.{◌≡◌, [], ◌∷◌, subst}
use Rattle.wire_records.specs.Views.{command_of}
use Rattle.statement_rules.specs.Views.{seen_plain}
use Rattle.account_statement.specs.Telling.{Statement}
use Rattle.account_statement.specs.Private.{event_of}
use Rattle.account_statement.proofs.May.{may_take_own}
use Rattle.account_statement.proofs.statement.Statement.tell_plain.Goals as goal

pub tell_event-requires : goal.tell_event-requires
tell_event-requires c = may_take_own c.args.self.now (command_of c.args.command.now) c.args.answer (event_of c.in-Some.event) c.requires
    (subst (λ (s : Statement). seen_plain s.account s.is_open (command_of c.args.command.now) c.args.answer ≡ event_of c.in-Some.event ∷ []) c.self.view_is c.in-Some.ensures)
