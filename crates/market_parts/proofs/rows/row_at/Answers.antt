use Rattle.std.proofs.Common.{◌∙◌, true≢false, sym}
use Rattle.market_parts.proofs.rows.row_at.Goals as goal

pub returns-then-not-is_consistent_row-clause-unsound : goal.returns-then-not-is_consistent_row-clause-unsound
returns-then-not-is_consistent_row-clause-unsound g c _ s = true≢false (sym (c.is_consistent_row.ensures.1 (rw (c.as_slice.ensures, c.in_ok-list.ensures, c.asset_count.ensures.count) s)) ∙ c.if-not-is_consistent_row.true)

pub new-requires : goal.new-requires
new-requires g c = rw c.as_slice.ensures at (c.is_consistent_row.ensures.0 c.if-not-is_consistent_row.false).lawful

pub returns-clause-consistent : goal.returns-clause-consistent
returns-clause-consistent g c = rw (c.as_slice.ensures, c.in_ok-list.ensures, c.asset_count.ensures.count) at (c.is_consistent_row.ensures.0 c.if-not-is_consistent_row.false)
