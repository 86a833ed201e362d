use Rattle.std.proofs.Common.{◌≡◌, length, sym, ap, ◌∙◌, arith}
use Rattle.wire_records.specs.Views.{command_of}
use Rattle.journal_records.specs.Views.{answer_of}
use Rattle.pair_text.proofs.Joining.{on_ok}
use Rattle.answer_text.specs.Answers.{echo_members}
use Rattle.desk_messages.specs.Messages.{opened_by, concerned}
use Rattle.desk_messages.proofs.Telling.{served_told, opened_total, notices_few, told_two}
use Rattle.desk_messages.proofs.counts.Desks.tell_served.Goals as goal

pub tell_all-requires : goal.tell_all-requires
tell_all-requires c =
    let command = command_of c.args.command.now in
    let answer = answer_of c.args.answer.now in
    let start : c.count_opened.new.self.total.messages ≡ c.args.self.now.total.messages = ap (λ d. d.total.messages) c.in_ok-count_opened.ensures ∙ opened_total (opened_by answer) c.args.self.now in
    let few = notices_few (length c.echo.new.self.accounts) c.args.served.now.sender (concerned command answer) (echo_members c.args.tickers.now command answer) in
    let told = told_two c.args.self.now _ _ _ _ _ _ _ _ start c.in_ok-echo.ensures.told c.in_ok-tell_concerned.ensures.told (omega arith) few in
    record { few = omega (arith, told, c.requires.few) }

pub returns-clause-told : goal.returns-clause-told
returns-clause-told c =
    on_ok c.tell_all.result
    (λ last. rw (sym c.in_ok-count_opened.ensures) (served_told _ _ _ _ _ _ _ _ c.args.served.now.sender c.args.served.now.line c.args.served.now.entry _ _ _
    (rw c.entry_for.ensures at c.in_ok-echo.ensures.told) c.in_ok-tell_concerned.ensures.told last)) c.tell_all.ensures.told
