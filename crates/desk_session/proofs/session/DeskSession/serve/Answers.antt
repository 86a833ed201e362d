use Rattle.std.proofs.Common.{◌≡◌, ◌+◌, ◌^◌, ◌<◌, length, OnOk, refl, sym, subst, ◌∙◌}
use Rattle.wire_records.specs.Records.{Record}
use Rattle.wire_records.specs.Commands.{Command, Plain, Pair}
use Rattle.wire_records.specs.Views.{command_in}
use Rattle.flow_accounts.specs.Balances.{account_count}
use Rattle.flow_orders.specs.Outcomes.{Outcome}
use Rattle.journal_records.specs.Views.{answer_of}
use Rattle.pair_text.proofs.Joining.{on_ok}
use Rattle.exchange_session.specs.Halves.{IsHeld}
use Rattle.exchange_session.specs.Serving.{ServesCommand}
use Rattle.exchange_session.specs.declared.session.Served.TheVariants as variants
use Rattle.desk_messages.specs.Messages.{opened_by}
use Rattle.desk_session.specs.Talks.{says_of}
use Rattle.desk_session.specs.States.{State, CountsAccounts, Serves}
use Rattle.desk_session.proofs.Answering.{messages_of, asked_written, serves_plain, serves_batch, fits_held, served_counts}
use Rattle.desk_session.proofs.session.DeskSession.serve.Goals.{in-Cleared-2, in-Skipped-2}
use Rattle.desk_session.proofs.session.DeskSession.serve.Goals as goal

pub view-seen-requires-clause-written : goal.view-seen-requires-clause-written
view-seen-requires-clause-written c =
    let written = asked_written c.in_ok-answered.answered c.self.inside.market (command_in c.args.command.now) c.answer_command.new.market c.answer_command.new.out.items c.in_ok-answered.ensures.answered in
    (written.0, c.deref.ensures.value ∙ written.1)

pub tell_entry-requires-in-Batch-clause-fits : goal.tell_entry-requires-in-Batch-clause-fits
tell_entry-requires-in-Batch-clause-fits c =
    let inside = c.self.inside in
    let held : IsHeld inside.market (command_in c.args.command.now) c.answer_command.new.out.items c.in-Batch.held × (c.answer_command.new.market ≡ inside.market) = rw c.in-Batch.is at c.in_ok-answered.ensures.answered in
    let few : inside.market.next_order + 1 < 2 ^ 64 = subst (λ (s : State). s.market.next_order + 1 < 2 ^ 64) (sym c.self.view_is) c.requires.room.orders in
    let counted : length inside.talk.desks.accounts ≡ account_count inside.market.balances = subst CountsAccounts (sym c.self.view_is) c.requires.counted in
    fits_held inside.market c.answer_command.new.market (command_in c.args.command.now) c.answer_command.new.out.items c.in-Batch.held (answer_of c.reply-answer.result) (length inside.talk.desks.accounts) held few
    (λ pair fits is told. c.reply-answer.ensures pair fits (c.deref-in-Batch.ensures.value ∙ is) told) c.alloc-consistent.ensures.consistent counted

plain_served : (c : goal.After-tell_entry) → OnOk c.tell_entry.result ((pair : Pair Record Outcome) × Serves c.args.self.now c.args.sender c.args.line (command_in c.args.command.now) pair
    (record { market = c.tell_entry.new.market; talk = c.tell_entry.new.self; entries = c.self.inside.entries + 1; entry = c.answer_command.new.out.items }))
plain_served c =
    let inside = c.self.inside in
    let command = command_in c.args.command.now in
    let serves : ServesCommand inside.market command c.answer_command.new.market c.answer_command.new.out.items (variants.Plain c.in-Plain.reply) = rw c.in-Plain.is at c.in_ok-answered.ensures.answered in
    let few : inside.market.next_order + 1 < 2 ^ 64 = subst (λ (s : State). s.market.next_order + 1 < 2 ^ 64) (sym c.self.view_is) c.requires.room.orders in
    on_ok c.tell_entry.result
    (λ told.
    subst (λ (s : State). (pair : Pair Record Outcome) × Serves s c.args.sender c.args.line command pair
    (record { market = c.tell_entry.new.market; talk = c.tell_entry.new.self; entries = inside.entries + 1; entry = c.answer_command.new.out.items })) c.self.view_is
    (serves_plain inside.market c.tell_entry.new.market inside.talk c.tell_entry.new.self inside.entries (inside.entries + 1) inside.entry.items c.answer_command.new.out.items c.args.sender c.args.line command refl
    c.answer_command.new.market c.in-Plain.reply c.tell_entry.ensures.market serves few
    (subst (λ (k : Command). c.tell_entry.new.self ≡ says_of inside.talk (opened_by (Plain c.in-Plain.reply))
    (messages_of c.answer_command.new.market.tickers c.answer_command.new.market.orders c.args.sender c.args.line (inside.entries + 1) k (Plain c.in-Plain.reply))) c.view-seen.ensures told)))
    c.tell_entry.ensures.told

pub returns-in-Plain-clause-served : goal.returns-in-Plain-clause-served
returns-in-Plain-clause-served c = plain_served c

pub returns-in-Plain-clause-counted : goal.returns-in-Plain-clause-counted
returns-in-Plain-clause-counted c =
    on_ok c.tell_entry.result (λ served. served_counts c.args.self.now _ c.args.sender c.args.line (command_in c.args.command.now) c.requires.counted served) (plain_served c)

batch_served : (c : goal.Joined-held-2) → (pair : Pair Record Outcome) × Serves c.args.self.now c.args.sender c.args.line (command_in c.args.command.now) pair
    (record { market = c.settle.new.self; talk = c.tell_entry-in-Batch.new.self; entries = c.self.inside.entries + 1; entry = c.answer_command.new.out.items })
batch_served c =
    let inside = c.self.inside in
    let command = command_in c.args.command.now in
    let held : IsHeld inside.market command c.answer_command.new.out.items c.in-Batch.held × (c.answer_command.new.market ≡ inside.market) = rw c.in-Batch.is at c.in_ok-answered.ensures.answered in
    let few : inside.market.next_order + 1 < 2 ^ 64 = subst (λ (s : State). s.market.next_order + 1 < 2 ^ 64) (sym c.self.view_is) c.requires.room.orders in
    let mid : c.tell_entry-in-Batch.new.market ≡ c.answer_command.new.market = c.in_ok-tell_entry-in-Batch.ensures.market in
    subst (λ (s : State). (pair : Pair Record Outcome) × Serves s c.args.sender c.args.line command pair
    (record { market = c.settle.new.self; talk = c.tell_entry-in-Batch.new.self; entries = inside.entries + 1; entry = c.answer_command.new.out.items })) c.self.view_is
    (serves_batch inside.market c.settle.new.self inside.talk c.tell_entry-in-Batch.new.self inside.entries (inside.entries + 1) inside.entry.items c.answer_command.new.out.items c.args.sender c.args.line command refl
    c.in-Batch.held (answer_of c.reply-answer.result) held.0 few (λ pair fits is told. c.reply-answer.ensures pair fits (c.deref-in-Batch.ensures.value ∙ is) told)
    c.answer_command.new.market held.1 (rw c.view-seen.ensures at c.in_ok-tell_entry-in-Batch.ensures.told) (rw mid at c.settle.ensures))

pub returns-in_ok-tell_entry-in-Batch-clause-served : goal.returns-in_ok-tell_entry-in-Batch-clause-served
returns-in_ok-tell_entry-in-Batch-clause-served c =
    elim c.match-held-2.branch [ in-Cleared-2 w ↦ rw w.self-is (batch_served c) | in-Skipped-2 w ↦ rw w.self-is (batch_served c) ]

pub returns-in_ok-tell_entry-in-Batch-clause-counted : goal.returns-in_ok-tell_entry-in-Batch-clause-counted
returns-in_ok-tell_entry-in-Batch-clause-counted c =
    let counted = served_counts c.args.self.now _ c.args.sender c.args.line (command_in c.args.command.now) c.requires.counted (batch_served c) in
    elim c.match-held-2.branch [ in-Cleared-2 w ↦ rw w.self-is counted | in-Skipped-2 w ↦ rw w.self-is counted ]
