use Rattle.std.proofs.Common.{◌++◌, ap, ◌∙◌}
use Rattle.account_statement.proofs.Agreeing.{told_after}
use Rattle.account_statement.proofs.statement.Statement.pair.Goals as goal

pub returns-in-Ok-clause-told : goal.returns-in-Ok-clause-told
returns-in-Ok-clause-told c = λ next legal.
    told_after c.args.market.now c.args.pair.now c.args.self.now c.tell.new.self c.args.out.now.items c.following-text.result.text c.tell.new.out.text c.whole.result.items next legal c.following-text.ensures.empty
    (c.whole.ensures.items ∙ ap (λ b. b.items ++ c.tell.new.out.text) c.in-Ok.ensures.before ∙ ap (λ l. l ++ c.tell.new.out.text) c.following-text.ensures.items) (c.in-Ok.ensures.told next legal)
