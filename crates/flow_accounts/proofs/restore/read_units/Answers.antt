use Rattle.std.proofs.Common.{◌≡◌, ◌-◌, pos, length, sym, ap, ◌∙◌, arith}
use Rattle.std.specs.Int.{w64}
use Rattle.std.proofs.lemmas.Int.{to_z-of_z}
use Rattle.std.proofs.lemmas.List.{length-set}
use Rattle.flow_accounts.specs.Balances.{account_of}
use Rattle.flow_accounts.specs.Lines.{Table}
use Rattle.flow_accounts.specs.NoCredit.{no_holding}
use Rattle.flow_accounts.proofs.Balance.{lawful_account}
use Rattle.flow_accounts.proofs.Filling.{fill_none, units_filled, all_units_filled}
use Rattle.flow_accounts.proofs.Restoring.{read_value}
use Rattle.flow_accounts.proofs.restore.read_units.Goals as goal

pub loop-asset-init : goal.loop-asset-init
loop-asset-init g c =
    let first = c.args.holdings.now in
    ap (λ ls. record first { lines = ls }) (fill_none (pos 0) no_holding first.lines (c.args.account - 1) (account_of (g.P.AccountParts.balances c.args.parts.now) c.args.account).units first.assets c.requires.none)

pub set_units-requires-clause-line : goal.set_units-requires-clause-line
set_units-requires-clause-line g c =
    let first = c.args.holdings.now in
    let count : length c.loop-asset.holdings.lines ≡ length first.lines = ap (λ (t : Table _ _). length t.lines) c.loop-asset.invariant ∙ length-set first.lines (c.args.account - 1) _ in
    omega (arith, count, c.requires.line, c.requires.account.0)

pub set_units-requires-clause-asset : goal.set_units-requires-clause-asset
set_units-requires-clause-asset g c =
    let assets : c.loop-asset.holdings.assets ≡ c.args.holdings.now.assets = ap (λ (t : Table _ _). t.assets) c.loop-asset.invariant in
    omega (arith, assets, c.requires.assets, c.loop-asset-test.true, c.asset_count-asset-end.ensures.count)

pub loop-asset-preserved : goal.loop-asset-preserved
loop-asset-preserved g c =
    units_filled c.args.holdings.now c.loop-asset.holdings c.set_units.new.self (c.args.account - 1) c.loop-asset.asset _ _ (c.requires.assets ∙ sym (lawful_account _ c.args.account c.requires.lawful c.requires.account).one_each)
    (omega (arith, c.requires.line, c.requires.account.0)) (omega (arith, c.requires.assets, c.loop-asset-test.true, c.asset_count-asset-end.ensures.count))
    (rw (to_z-of_z w64 c.unwrap.result (record { sfits = c.unwrap.type_inv })) (read_value _ _ _ _ c.units.ensures c.unwrap.ensures)) c.loop-asset.invariant (c.set_units.ensures no_holding)

pub returns : goal.returns
returns g c =
    all_units_filled c.args.holdings.now c.loop-asset.holdings (c.args.account - 1) c.loop-asset.asset _ (c.requires.assets ∙ sym (lawful_account _ c.args.account c.requires.lawful c.requires.account).one_each)
    (omega (arith, c.requires.assets, c.loop-asset-test.false, c.loop-asset.auto.asset-end, c.asset_count-asset-end.ensures.count)) c.loop-asset.invariant
