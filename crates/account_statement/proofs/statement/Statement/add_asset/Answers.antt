use Rattle.std.proofs.Common.{[], ◌∷◌, ◌++◌, pos, refl, ap, subst, ◌∙◌, arith}
use Rattle.statement_rules.specs.Views.{Adds}
use Rattle.statement_rules.specs.Holdings.{after}
use Rattle.account_statement.specs.Telling.{Statement, holding_of}
use Rattle.account_statement.specs.Kept.{statement_in}
use Rattle.account_statement.specs.Private.{AreAlike}
use Rattle.account_statement.proofs.Keeping.{alike_added}
use Rattle.account_statement.proofs.statement.Statement.add_asset.Goals as goal

pub returns-in-Ok-clause-after : goal.returns-in-Ok-clause-after
returns-in-Ok-clause-after c =
    let old : Statement = statement_in c.self.inside in
    let new : Statement = record old { tickers = c.add.new.self; units = c.push_reserved.new.self.items } in
    subst (λ (s : Statement). AreAlike (holding_of new) (after (holding_of s) (Adds c.args.ticker.now))) c.self.view_is
    (alike_added old new c.args.ticker.now (c.in-Ok.ensures.added.1 ∙ ap (λ t. c.self.inside.tickers ++ t ∷ []) c.ticker_of.ensures) refl refl
    (c.push_reserved.ensures.items ∙ ap (λ l. l ++ pos 0 ∷ []) c.in_ok-reserve.ensures.items) refl (omega (arith, c.self.inside.units.ok.0, c.self.invariant.one_each)))
