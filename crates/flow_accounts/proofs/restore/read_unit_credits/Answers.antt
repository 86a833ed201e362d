use Rattle.std.proofs.Common.{◌≡◌, ◌-◌, length, sym, ap, ◌∙◌, arith}
use Rattle.std.proofs.lemmas.List.{length-set}
use Rattle.flow_accounts.specs.Balances.{credit_of}
use Rattle.flow_accounts.specs.CreditLines.{Credits}
use Rattle.flow_accounts.specs.NoCredit.{no_line}
use Rattle.flow_accounts.proofs.Balance.{lawful_credit}
use Rattle.flow_accounts.proofs.Filling.{fill_none, credits_filled, all_credits_filled}
use Rattle.flow_accounts.proofs.Restoring.{read_value}
use Rattle.flow_accounts.proofs.restore.read_unit_credits.Goals as goal

pub loop-asset-init : goal.loop-asset-init
loop-asset-init g c =
    let first = c.args.lines.now in
    ap (λ ls. record first { lines = ls }) (fill_none 0 (no_line first.assets) first.lines (c.args.account - 1) (credit_of (g.P.AccountParts.balances c.args.parts.now) c.args.account).units first.assets c.requires.none)

pub set_units-requires-clause-place : goal.set_units-requires-clause-place
set_units-requires-clause-place g c =
    let first = c.args.lines.now in
    let count : length c.loop-asset.lines.lines ≡ length first.lines = ap (λ (t : Credits). length t.lines) c.loop-asset.invariant ∙ length-set first.lines (c.args.account - 1) _ in
    omega (arith, count, c.requires.line, c.requires.account.0)

pub set_units-requires-clause-asset : goal.set_units-requires-clause-asset
set_units-requires-clause-asset g c =
    let assets : c.loop-asset.lines.assets ≡ c.args.lines.now.assets = ap (λ (t : Credits). t.assets) c.loop-asset.invariant in
    omega (arith, assets, c.requires.assets, c.loop-asset-test.true, c.asset_count-asset-end.ensures.count)

pub loop-asset-preserved : goal.loop-asset-preserved
loop-asset-preserved g c =
    credits_filled c.args.lines.now c.loop-asset.lines c.set_units.new.self (c.args.account - 1) c.loop-asset.asset _ _ (c.requires.assets ∙ sym (lawful_credit _ c.args.account c.requires.lawful c.requires.account).one_each)
    (omega (arith, c.requires.line, c.requires.account.0)) (omega (arith, c.requires.assets, c.loop-asset-test.true, c.asset_count-asset-end.ensures.count))
    (read_value _ _ _ _ c.unit_credit.ensures c.unwrap.ensures) c.loop-asset.invariant c.set_units.ensures

pub returns : goal.returns
returns g c =
    all_credits_filled c.args.lines.now c.loop-asset.lines (c.args.account - 1) c.loop-asset.asset _ (c.requires.assets ∙ sym (lawful_credit _ c.args.account c.requires.lawful c.requires.account).one_each)
    (omega (arith, c.requires.assets, c.loop-asset-test.false, c.loop-asset.auto.asset-end, c.asset_count-asset-end.ensures.count)) c.loop-asset.invariant
