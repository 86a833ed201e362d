use Rattle.std.proofs.Common.{ap}
use Rattle.wire_records.specs.Views.{command_of}
use Rattle.journal_records.specs.Views.{answer_of}
use Rattle.pair_text.proofs.Joining.{on_ok}
use Rattle.desk_session.proofs.Telling.{cleared_told}
use Rattle.desk_session.proofs.talk.tell_all.Goals as goal

pub returns-in-Cleared-clause-told : goal.returns-in-Cleared-clause-told
returns-in-Cleared-clause-told c =
    on_ok c.tell_fills.result
    (λ last. cleared_told c.args.desks.now _ _ _ _ _ c.args.served.now.sender c.args.served.now.line c.args.served.now.entry _ c.args.market.now.tickers _ c.args.market.now.orders (command_of c.args.command.now)
    (answer_of c.args.answer.now) _ _ (ap answer_of c.in-Cleared.is) c.tickers.ensures.value c.orders.ensures.value c.in_ok-tell_served.ensures.told last) c.tell_fills.ensures.told
