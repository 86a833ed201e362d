use Rattle.std.proofs.Common.{◌∙◌}
use Rattle.statement_rules.specs.Statements.{asset_line}
use Rattle.pair_text.proofs.Joining.{one_more_number}
use Rattle.account_statement.specs.Telling.{holding_of}
use Rattle.account_statement.proofs.statement.Statement.put_end.Goals as goal

pub loop-asset-preserved : goal.loop-asset-preserved
loop-asset-preserved c = (
  c.in_ok-put_asset.ensures.before ∙ c.loop-asset.invariant.0,
  one_more_number (asset_line (holding_of c.args.self.now)) _ c.loop-asset.asset _ _ c.loop-asset.invariant.1 c.in_ok-put_asset.ensures.put,
)
