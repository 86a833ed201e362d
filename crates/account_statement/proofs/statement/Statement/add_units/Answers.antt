use Rattle.std.proofs.Common.{◌≡◌, ◌+ℤ◌, length, set, to_z, of_z, refl, ap, sym, subst, ◌∙◌, arith, Some}
use mir.Syntax.{w64, w128}
use Rattle.std.proofs.lemmas.Int.{to_z-of_z}
use Rattle.statement_rules.specs.Holdings.{changed}
use Rattle.account_statement.specs.Telling.{Statement, holding_of}
use Rattle.account_statement.specs.Kept.{statement_in}
use Rattle.account_statement.specs.Private.{AreAlike}
use Rattle.account_statement.proofs.Keeping.{alike_units}
use Rattle.account_statement.proofs.statement.Statement.add_units.Goals as goal

pub returns-clause-after : goal.returns-clause-after
returns-clause-after c =
    let v = to_z w64 (of_z w64 c.sum_of-units.result) in
    let old : Statement = statement_in c.self.inside in
    let new : Statement = record old { units = set c.self.inside.units.items c.from-place.result v } in
    let sum : c.sum_of-units.result ≡ c.units_held.result +ℤ c.args.amount = rw (to_z-of_z w64 _ (record { sfits = c.units_held.type_inv }), to_z-of_z w128 _ (record { sfits = c.ranges.amount.sfits })) at c.sum_of-units.ensures in
    subst (λ (s : Statement). AreAlike (holding_of new) (changed (holding_of s) (Some c.args.asset) c.args.amount)) c.self.view_is
    (alike_units old new c.from-place.result c.args.asset c.args.amount v refl refl refl refl refl c.from-place.ensures
    (omega (arith, c.requires.there, c.self.invariant.one_each, c.self.inside.units.ok.0, ap (λ s. length s.tickers) c.self.view_is))
    (to_z-of_z w64 _ (record { sfits = c.sum_of-units.type_inv }) ∙ sum ∙ ap (λ z. z +ℤ c.args.amount) (c.units_held.ensures ∙ ap (λ s. (holding_of s).units c.args.asset) (sym c.self.view_is))))
