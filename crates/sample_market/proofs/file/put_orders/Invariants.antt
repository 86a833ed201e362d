use Rattle.std.proofs.Common.{◌≡◌, ◌++◌, ◌-◌}
use Rattle.sample_market.specs.Orders.{drawn_orders}
use Rattle.sample_market.specs.Files.{encode_commands}
use Rattle.sample_market.proofs.file.put_orders.Given as goal

-- what was written, and what is still to be written
abbrev pub invariant-loop-place : goal.invariant-loop-place
invariant-loop-place l =
    l.fn.file.items ++ encode_commands (drawn_orders l.fn.orders 0 l.fn.number) ≡ l.file.items ++ encode_commands (drawn_orders (l.fn.orders - l.place) l.place l.draws)
