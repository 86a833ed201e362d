use Rattle.std.proofs.Common.{ap, ◌∙◌, arith}
use Rattle.serde_json.specs.View.{members_view}
use Rattle.order_text.specs.Private.{put_members}
use Rattle.order_text.proofs.Weights.{row_made}
use Rattle.order_text.proofs.ShortRows.{few_entries}
use Rattle.order_text.proofs.row.row_of.Goals as goal

pub returns-clause-short : goal.returns-clause-short
returns-clause-short c =
    let tickers = c.args.tickers.now in
    let all = c.loop-key.invariant ∙ ap (λ es. put_members tickers (members_view es) c.loop-key.row.items) c.in-None.ensures.steps.0 in
    let few = few_entries tickers (members_view c.args.members.now.entries) c.loop-key.row.items (row_made tickers (members_view c.args.members.now.entries) c.loop-key.row.items all) in
    rw c.new.ensures (omega (arith, few, c.len-2.ensures.tickers.few))
