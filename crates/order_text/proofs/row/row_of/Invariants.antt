use Rattle.std.proofs.Common.{◌≡◌, []}
use Rattle.serde_json.specs.View.{members_view}
use Rattle.order_text.specs.Private.{put_members}
use Rattle.order_text.proofs.row.row_of.Given as goal

abbrev pub invariant-loop-key : goal.invariant-loop-key
invariant-loop-key l = put_members l.tickers (members_view l.members.entries) [] ≡ put_members l.tickers (members_view l.key-iterator) l.row.items
