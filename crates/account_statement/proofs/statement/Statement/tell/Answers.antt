use Rattle.wire_records.specs.Views.{command_of}
use Rattle.flow_orders.specs.Outcomes.{Cleared, Skipped}
use Rattle.pair_text.proofs.Joining.{on_ok}
use Rattle.account_statement.proofs.Agreeing.{command_read, command_served, is_told, is_silent, outcome_read, outcome_served, outcome_told}
use Rattle.account_statement.proofs.May.{may_clear_own}
use Rattle.account_statement.proofs.statement.Statement.tell.Goals as goal

pub tell_plain-requires : goal.tell_plain-requires
tell_plain-requires c =
    command_served c.args.market.now c.args.pair.now c.args.self.now c.accounts-consistent.ensures.consistent c.requires.agrees c.args.change.now c.requires.change
    (command_of c.in-Some.command.now) c.in-Some.ensures.some c.in-Plain.reply (rw c.in-Plain.is at c.requires.replied)

pub returns-in-Some-clause-told : goal.returns-in-Some-clause-told
returns-in-Some-clause-told c =
    on_ok c.tell_plain.result
    (λ told. is_told c.args.market.now c.args.pair.now c.args.self.now c.accounts-consistent.ensures.consistent c.requires.agrees c.tell_plain.new.self c.args.out.now.text c.tell_plain.new.out.text
    (command_of c.in-Some.command.now) _
    (command_read c.args.market.now c.args.pair.now c.args.self.now c.accounts-consistent.ensures.consistent c.requires.agrees c.args.change.now c.requires.change (command_of c.in-Some.command.now) c.in-Some.ensures.some)
    (rw c.in-Plain.is at c.requires.replied) told)
    c.tell_plain.ensures.told

pub returns-in-None-clause-told : goal.returns-in-None-clause-told
returns-in-None-clause-told c =
    is_silent c.args.market.now c.args.pair.now c.args.self.now c.accounts-consistent.ensures.consistent c.requires.agrees c.args.out.now.text c.args.change.now c.in-Plain.reply c.requires.change
    c.in-None.ensures.none (rw c.in-Plain.is at c.requires.replied)

pub tell_cleared-requires : goal.tell_cleared-requires
tell_cleared-requires c = λ open_now.
    let read = outcome_read c.args.market.now c.args.pair.now c.args.self.now c.accounts-consistent.ensures.consistent c.requires.agrees c.args.change.now c.requires.change
    c.in-Cleared.view.batch (Cleared c.in-Cleared.view.clearing) (rw c.in-Cleared.is at c.requires.replied) in
    may_clear_own c.args.self.now read.0 c.in-Cleared.view.batch c.in-Cleared.view.clearing
    (outcome_served c.args.market.now c.args.pair.now c.args.self.now c.accounts-consistent.ensures.consistent c.requires.agrees c.args.change.now c.requires.change
    c.in-Cleared.view.batch (Cleared c.in-Cleared.view.clearing) (rw c.in-Cleared.is at c.requires.replied)) open_now

pub returns-in-Cleared-clause-told : goal.returns-in-Cleared-clause-told
returns-in-Cleared-clause-told c =
    on_ok c.tell_cleared.result
    (outcome_told c.args.market.now c.args.pair.now c.args.self.now c.accounts-consistent.ensures.consistent c.requires.agrees c.args.change.now c.requires.change
    c.in-Cleared.view.batch (Cleared c.in-Cleared.view.clearing) (rw c.in-Cleared.is at c.requires.replied) c.tell_cleared.new.self c.args.out.now.text c.tell_cleared.new.out.text)
    c.tell_cleared.ensures.told

pub returns-in-Skipped-clause-told : goal.returns-in-Skipped-clause-told
returns-in-Skipped-clause-told c =
    on_ok c.tell_skipped.result
    (outcome_told c.args.market.now c.args.pair.now c.args.self.now c.accounts-consistent.ensures.consistent c.requires.agrees c.args.change.now c.requires.change
    c.in-Skipped.view.batch (Skipped c.in-Skipped.view.skipping) (rw c.in-Skipped.is at c.requires.replied) c.tell_skipped.new.self c.args.out.now.text c.tell_skipped.new.out.text)
    c.tell_skipped.ensures.told
