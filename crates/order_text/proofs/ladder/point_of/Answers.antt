use Rattle.std.proofs.Common.{◌≡◌, length, ◌∙◌, rules}
use Rattle.serde_json.specs.View.{view}
use Rattle.order_text.proofs.Ladders.{not_two}
use Rattle.order_text.proofs.ladder.point_of.Goals as goal

pub returns-then-len-ne2 : goal.returns-then-len-ne2
returns-then-len-ne2 c =
    let len : c.len.result ≡ length c.in_ok-numbers.numbers.now.items = search rules in
    not_two (view c.args.value.now) c.in_ok-numbers.numbers.now.items c.in_ok-numbers.ensures (λ two. c.if-len-ne2.true (len ∙ two))
