use Rattle.std.proofs.Common.{◌≡◌, ◌+◌, ◌*◌, ◌≤◌, inr, [], length, map, ap, ◌∙◌, arith}
use Rattle.std.proofs.lemmas.List.{length-map}
use Rattle.wire_records.specs.Views.{command_in}
use Rattle.market_rules.specs.Market.{Market}
use Rattle.order_text.specs.Lines.{Alone, OfLadder}
use Rattle.journal_disk.proofs.Lengths.{reach_wider}
use Rattle.journal_keeping.specs.Outputs.{output}
use Rattle.line_keeping.proofs.Keeping.{commands_none, commands_more, breaks_by}
use Rattle.line_keeping.proofs.Lines.{on_both, if_err, line_some, at_market, nothing_at, ladder_short, line_none, line_refused, line_asked, line_broke, line_unread, line_unwritten}
use Rattle.line_keeping.proofs.Served.{on_ok}
use Rattle.line_keeping.proofs.answering.Desk.answer_line.Goals as goal
use Rattle.journal_keeping.specs.Lengths.{longest_stored_entry}

pub answer_commands-requires-clause-ready : goal.answer_commands-requires-clause-ready
answer_commands-requires-clause-ready g c =
    let few = ladder_short c.version.result c.tickers.result.now c.args.line.now (map command_in c.in-Ok-Many.commands) (rw c.in-Ok-Many.field-0-is at c.in-Ok-Many.ensures.asked) in
    let some = line_some c.args.line.now (rw c.in-Ok-Many.field-0-is at c.in-Ok-Many.ensures.asked).written in
    record {
      orders = c.requires.ready.orders;
      counted = c.requires.ready.counted;
      room = omega (arith, c.requires.ready.room, few, some, length-map c.in-Ok-Many.commands command_in, ap length c.as_slice.ensures);
    }

pub returns-in-Ok-Blank-clause-answers : goal.returns-in-Ok-Blank-clause-answers
returns-in-Ok-Blank-clause-answers g c =
    line_none (c.args.self.now.lines + 1) c.args.line.now c.args.self.now.writer.session c.args.self.now.entries c.args.self.now.writer.appender (g.D.Disk.state c.args.disk.now) (output g.K.Sink.held g.K.Sink.calls g.K.Sink.faults c.args.out.now)
    (g.met.D.Disk.is_disk c.args.disk.now) ((λ long. omega (arith, long, c.requires.short)), (rw c.in-Ok-Blank.field-0-is at c.in-Ok-Blank.ensures.asked))

pub returns-in-Ok-Asks-clause-answers : goal.returns-in-Ok-Asks-clause-answers
returns-in-Ok-Asks-clause-answers g c =
    let market = c.args.self.now.writer.session in
    let out = output g.K.Sink.held g.K.Sink.calls g.K.Sink.faults c.args.out.now in
    let disk = g.D.Disk.state c.args.disk.now in
    let asks = at_market market c.version.result c.tickers.result.now c.args.line.now (Alone (command_in c.in-Ok-Asks.command)) (c.version.ensures.value ∙ ap (λ (m : Market). m.version) c.market-market.ensures.value) (c.tickers.ensures.value ∙ ap (λ (m : Market). m.tickers) c.market-market.ensures.value) (rw c.in-Ok-Asks.field-0-is at c.in-Ok-Asks.ensures.asked) in
    on_both c.answer_command.result _ ((c.answer_command.new.self.entries ≡ c.args.self.now.entries + 1) × (c.answer_command.new.self.writer.session.next_order ≤ c.args.self.now.writer.session.next_order + 1)) _
    (λ answers both. line_asked (c.args.self.now.lines + 1) c.args.line.now market c.args.self.now.entries c.args.self.now.writer.appender disk out (Alone (command_in c.in-Ok-Asks.command)) c.answer_command.new.self.writer.session c.answer_command.new.self.entries
    c.answer_command.new.self.writer.appender (g.D.Disk.state c.answer_command.new.disk) (output g.K.Sink.held g.K.Sink.calls g.K.Sink.faults c.answer_command.new.out) ((λ long. omega (arith, long, c.requires.short)), asks) (omega (arith, line_some c.args.line.now asks.written))
    (rw both.0 (commands_more market c.args.self.now.entries c.args.self.now.writer.appender disk out [] market c.args.self.now.entries c.args.self.now.writer.appender disk out (commands_none market c.args.self.now.entries c.args.self.now.writer.appender disk out (g.met.D.Disk.is_disk c.args.disk.now))
    (command_in c.in-Ok-Asks.command) c.answer_command.new.self.writer.session c.answer_command.new.self.writer.appender (g.D.Disk.state c.answer_command.new.disk) (output g.K.Sink.held g.K.Sink.calls g.K.Sink.faults c.answer_command.new.out) answers both.1)))
    c.answer_command.ensures.answers (on_both c.answer_command.result _ _ _ (λ counted orders. (counted, orders)) c.answer_command.ensures.counted c.answer_command.ensures.orders)

pub returns-in-Ok-Asks-clause-lengths : goal.returns-in-Ok-Asks-clause-lengths
returns-in-Ok-Asks-clause-lengths g c =
    reach_wider (c.args.self.now.writer.appender + (longest_stored_entry + 1)) (c.args.self.now.writer.appender + (longest_stored_entry * length c.args.line.now + 1)) (g.D.Disk.state c.args.disk.now) (g.D.Disk.state c.answer_command.new.disk)
    (omega (arith, line_some c.args.line.now (rw c.in-Ok-Asks.field-0-is at c.in-Ok-Asks.ensures.asked).written)) c.answer_command.ensures.lengths

pub returns-in-Ok-Asks-clause-broken : goal.returns-in-Ok-Asks-clause-broken
returns-in-Ok-Asks-clause-broken g c =
    let market = c.args.self.now.writer.session in
    let out = output g.K.Sink.held g.K.Sink.calls g.K.Sink.faults c.args.out.now in
    let disk = g.D.Disk.state c.args.disk.now in
    let asks = at_market market c.version.result c.tickers.result.now c.args.line.now (Alone (command_in c.in-Ok-Asks.command)) (c.version.ensures.value ∙ ap (λ (m : Market). m.version) c.market-market.ensures.value) (c.tickers.ensures.value ∙ ap (λ (m : Market). m.tickers) c.market-market.ensures.value) (rw c.in-Ok-Asks.field-0-is at c.in-Ok-Asks.ensures.asked) in
    if_err c.answer_command.result _ _
    (λ fault broke. line_broke (c.args.self.now.lines + 1) c.args.line.now market c.args.self.now.entries c.args.self.now.writer.appender disk out (Alone (command_in c.in-Ok-Asks.command)) (g.D.Disk.state c.answer_command.new.disk) (output g.K.Sink.held g.K.Sink.calls g.K.Sink.faults c.answer_command.new.out) fault
    ((λ long. omega (arith, long, c.requires.short)), asks)
    (breaks_by g.D.Disk.state c.args.disk.now c.answer_command.new.disk market c.args.self.now.entries c.args.self.now.writer.appender disk out [] market c.args.self.now.entries c.args.self.now.writer.appender c.answer_command.new.self.writer.appender out (output g.K.Sink.held g.K.Sink.calls g.K.Sink.faults c.answer_command.new.out)
    (commands_none market c.args.self.now.entries c.args.self.now.writer.appender disk out (g.met.D.Disk.is_disk c.args.disk.now)) (command_in c.in-Ok-Asks.command) [] fault (g.met.D.Disk.is_disk c.answer_command.new.disk) broke))
    c.answer_command.ensures.broken

pub returns-in-Ok-Many-clause-answers : goal.returns-in-Ok-Many-clause-answers
returns-in-Ok-Many-clause-answers g c =
    let market = c.args.self.now.writer.session in
    let asks = at_market market c.version.result c.tickers.result.now c.args.line.now (OfLadder (map command_in c.in-Ok-Many.commands)) (c.version.ensures.value ∙ ap (λ (m : Market). m.version) c.market-market.ensures.value) (c.tickers.ensures.value ∙ ap (λ (m : Market). m.tickers) c.market-market.ensures.value) (rw c.in-Ok-Many.field-0-is at c.in-Ok-Many.ensures.asked) in
    let few = ladder_short market.version market.tickers c.args.line.now (map command_in c.in-Ok-Many.commands) asks in
    on_ok c.answer_commands.result _ _
    (λ answers. line_asked (c.args.self.now.lines + 1) c.args.line.now market c.args.self.now.entries c.args.self.now.writer.appender (g.D.Disk.state c.args.disk.now) (output g.K.Sink.held g.K.Sink.calls g.K.Sink.faults c.args.out.now)
    (OfLadder (map command_in c.in-Ok-Many.commands)) c.answer_commands.new.self.writer.session c.answer_commands.new.self.entries c.answer_commands.new.self.writer.appender (g.D.Disk.state c.answer_commands.new.disk) (output g.K.Sink.held g.K.Sink.calls g.K.Sink.faults c.answer_commands.new.out)
    ((λ long. omega (arith, long, c.requires.short)), asks) (omega (arith, few, line_some c.args.line.now asks.written)) (rw c.as_slice.ensures at answers))
    c.answer_commands.ensures.answers

pub returns-in-Ok-Many-clause-lengths : goal.returns-in-Ok-Many-clause-lengths
returns-in-Ok-Many-clause-lengths g c =
    let few = ladder_short c.version.result c.tickers.result.now c.args.line.now (map command_in c.in-Ok-Many.commands) (rw c.in-Ok-Many.field-0-is at c.in-Ok-Many.ensures.asked) in
    reach_wider (c.args.self.now.writer.appender + (longest_stored_entry * length c.as_slice.result.now + 1)) (c.args.self.now.writer.appender + (longest_stored_entry * length c.args.line.now + 1)) (g.D.Disk.state c.args.disk.now) (g.D.Disk.state c.answer_commands.new.disk)
    (omega (arith, few, line_some c.args.line.now (rw c.in-Ok-Many.field-0-is at c.in-Ok-Many.ensures.asked).written, length-map c.in-Ok-Many.commands command_in, ap length c.as_slice.ensures)) c.answer_commands.ensures.lengths

pub returns-in-Ok-Many-clause-broken : goal.returns-in-Ok-Many-clause-broken
returns-in-Ok-Many-clause-broken g c =
    let market = c.args.self.now.writer.session in
    let asks = at_market market c.version.result c.tickers.result.now c.args.line.now (OfLadder (map command_in c.in-Ok-Many.commands)) (c.version.ensures.value ∙ ap (λ (m : Market). m.version) c.market-market.ensures.value) (c.tickers.ensures.value ∙ ap (λ (m : Market). m.tickers) c.market-market.ensures.value) (rw c.in-Ok-Many.field-0-is at c.in-Ok-Many.ensures.asked) in
    if_err c.answer_commands.result _ _
    (λ fault broke. line_broke (c.args.self.now.lines + 1) c.args.line.now market c.args.self.now.entries c.args.self.now.writer.appender (g.D.Disk.state c.args.disk.now) (output g.K.Sink.held g.K.Sink.calls g.K.Sink.faults c.args.out.now)
    (OfLadder (map command_in c.in-Ok-Many.commands)) (g.D.Disk.state c.answer_commands.new.disk) (output g.K.Sink.held g.K.Sink.calls g.K.Sink.faults c.answer_commands.new.out) fault ((λ long. omega (arith, long, c.requires.short)), asks) (rw c.as_slice.ensures at broke))
    c.answer_commands.ensures.broken

pub returns-in-Ok-clause-answers : goal.returns-in-Ok-clause-answers
returns-in-Ok-clause-answers g c =
    let market = c.args.self.now.writer.session in
    let says = nothing_at market c.version.result c.tickers.result.now c.args.line.now (c.version.ensures.value ∙ ap (λ (m : Market). m.version) c.market-market.ensures.value) (c.tickers.ensures.value ∙ ap (λ (m : Market). m.tickers) c.market-market.ensures.value) (rw c.in-Err-NoCommand.field-0-is at c.in-Err-NoCommand.ensures.asked) in
    rw (c.in-Ok.ensures.same.0, c.in-Ok.ensures.same.2) (line_refused (c.args.self.now.lines + 1) c.args.line.now market c.args.self.now.entries c.args.self.now.writer.appender (g.D.Disk.state c.args.disk.now) (output g.K.Sink.held g.K.Sink.calls g.K.Sink.faults c.args.out.now)
    (output g.K.Sink.held g.K.Sink.calls g.K.Sink.faults c.refuse.new.out) (g.met.D.Disk.is_disk c.args.disk.now) (inr says) c.in-Ok.ensures.refuses)

pub returns-in-Err-clause-broken : goal.returns-in-Err-clause-broken
returns-in-Err-clause-broken g c =
    let market = c.args.self.now.writer.session in
    let says = nothing_at market c.version.result c.tickers.result.now c.args.line.now (c.version.ensures.value ∙ ap (λ (m : Market). m.version) c.market-market.ensures.value) (c.tickers.ensures.value ∙ ap (λ (m : Market). m.tickers) c.market-market.ensures.value) (rw c.in-Err-NoCommand.field-0-is at c.in-Err-NoCommand.ensures.asked) in
    line_unwritten (c.args.self.now.lines + 1) c.args.line.now market c.args.self.now.entries c.args.self.now.writer.appender (g.D.Disk.state c.args.disk.now) (output g.K.Sink.held g.K.Sink.calls g.K.Sink.faults c.args.out.now)
    (output g.K.Sink.held g.K.Sink.calls g.K.Sink.faults c.refuse.new.out) (g.met.D.Disk.is_disk c.args.disk.now) (inr says) c.in-Err.ensures.refuses

pub returns-in-Err-Memory-clause-broken : goal.returns-in-Err-Memory-clause-broken
returns-in-Err-Memory-clause-broken g c =
    line_unread (c.args.self.now.lines + 1) c.args.line.now c.args.self.now.writer.session c.args.self.now.entries c.args.self.now.writer.appender (g.D.Disk.state c.args.disk.now) (output g.K.Sink.held g.K.Sink.calls g.K.Sink.faults c.args.out.now)
    (g.met.D.Disk.is_disk c.args.disk.now) (λ long. omega (arith, long, c.requires.short)) (rw c.in-Err-Memory.field-0-is at c.in-Err-Memory.ensures.asked)
