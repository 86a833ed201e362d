use Rattle.std.proofs.Common.{◌≡◌, map, All, rules, sym, subst, ◌∙◌}
use Rattle.std.proofs.lemmas.Bool.{true≢false}
use Rattle.wire_records.specs.Views.{command_in}
use Rattle.desk_lines.specs.Rights.{MayAsk}
use Rattle.desk_lines.specs.Wishes.{IsReadable}
use Rattle.desk_lines.proofs.Wishing.{not_yours, not_all_yours, no_commands}
use Rattle.desk_lines.proofs.wishes.wish_of.Goals as goal

pub returns-else-may_ask-clause-wish : goal.returns-else-may_ask-clause-wish
returns-else-may_ask-clause-wish c =
    let readable : IsReadable c.args.text.now = c.is_readable.ensures.0 (search rules) in
    not_yours c.args.version c.args.tickers.now c.args.desks.now c.args.sender c.args.text.now readable (command_in c.in-Ok-Asks.command) (rw c.in-Ok-Asks.field-0-is at c.in-Ok-Asks.ensures.asked)
    (λ may. true≢false (sym (c.may_ask.ensures.1 (rw (← c.in-Ok-Asks.command-is) at may)) ∙ c.if-may_ask.false))

pub returns-else-may_ask_all-clause-wish : goal.returns-else-may_ask_all-clause-wish
returns-else-may_ask_all-clause-wish c =
    let readable : IsReadable c.args.text.now = c.is_readable.ensures.0 (search rules) in
    let slice : c.as_slice.result.now ≡ c.in-Ok-Many.commands = c.as_slice.ensures ∙ c.in-Ok-Many.commands-is in
    not_all_yours c.args.version c.args.tickers.now c.args.desks.now c.args.sender c.args.text.now readable (map command_in c.in-Ok-Many.commands) (rw c.in-Ok-Many.field-0-is at c.in-Ok-Many.ensures.asked)
    (λ may. true≢false (sym (c.may_ask_all.ensures.1 (subst (λ commands. All (MayAsk c.args.sender) (map command_in commands)) (sym slice) may)) ∙ c.if-may_ask_all.false))

pub returns-in-Err-NoCommand-clause-wish : goal.returns-in-Err-NoCommand-clause-wish
returns-in-Err-NoCommand-clause-wish c =
    let readable : IsReadable c.args.text.now = c.is_readable.ensures.0 (search rules) in
    no_commands c.args.version c.args.tickers.now c.args.desks.now c.args.sender c.args.text.now readable c.question_in.result c.question_in.ensures.wish (rw c.in-Err-NoCommand.field-0-is at c.in-Err-NoCommand.ensures.asked)
