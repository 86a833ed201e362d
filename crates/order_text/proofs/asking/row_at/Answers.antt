use Rattle.std.proofs.Common.{rules}
use Rattle.std.specs.Prelude.{codes}
use Rattle.serde_json.specs.View.{view, members_view}
use Rattle.order_text.proofs.Weights.{made_at, none_at}
use Rattle.order_text.proofs.asking.row_at.Goals as goal

pub returns-in-Some-clause-row : goal.returns-in-Some-clause-row
returns-in-Some-clause-row c =
    made_at c.args.tickers.now (view c.args.value.now) (codes "weights") (members_view c.in-Some.members.now.entries) c.row_of.result (search rules) c.row_of.ensures.row

pub returns-in-Some-clause-none : goal.returns-in-Some-clause-none
returns-in-Some-clause-none c = λ bad. none_at c.args.tickers.now (view c.args.value.now) (codes "weights") (members_view c.in-Some.members.now.entries) (search rules) (c.row_of.ensures.none bad)
