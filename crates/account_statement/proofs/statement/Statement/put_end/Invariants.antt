use Rattle.std.proofs.Common.{◌≡◌, ◌++◌, None}
use Rattle.std.specs.List.{flat_map, range_with_len}
use Rattle.statement_rules.specs.Statements.{asset_line, reserved_balance}
use Rattle.statement_lines.specs.Lines.{money_held_line}
use Rattle.account_statement.specs.Telling.{holding_of}
use Rattle.account_statement.proofs.statement.Statement.put_end.Given as goal

abbrev pub invariant-loop-asset : goal.invariant-loop-asset
invariant-loop-asset l =
    (l.out.before ≡ l.fn.out.before)
    × (l.out.text ≡ (l.fn.out.text ++ money_held_line l.self.money (reserved_balance (holding_of l.self) None)) ++ flat_map (asset_line (holding_of l.self)) (range_with_len 0 l.asset))
