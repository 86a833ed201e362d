-- The parts of a market, and the market of parts.
use Rattle.std.proofs.Common.{◌≡◌, suc, ℤ, pos, negsuc, List, [], ◌∷◌, map, refl, sym, ap, ◌∙◌, arith}
use Rattle.std.specs.Prelude.{All}
use Rattle.std.proofs.lemmas.Int.{ints}
use Rattle.wire_records.proofs.Numbered.{same_number}
use Rattle.flow_orders.specs.Orders.{Order, IsOrder, price_of_ticks}
use Rattle.market_rules.specs.Market.{Market}
use Rattle.wire_records.specs.Versions.{number_of}
use Rattle.market_parts.specs.Parts.{ReadOrder, Parts, order_of, market_of, HasParts}
use Rattle.market_snapshot.specs.Checkpoints.{ticks_of}
use Rattle.market_snapshot.specs.Encodings.{read_order, parts_of_market}

-- a price of whole ticks, in ticks
pub ticks_are : (grains ticks : ℤ) → grains ≡ price_of_ticks ticks → ticks_of grains ≡ ticks
ticks_are (pos grains) ticks is = omega (arith, ints, is)
ticks_are (negsuc grains) ticks is = omega (arith, ints, is)

-- an order with its own limits is the same order
with_limits : (o : ReadOrder) (low high : ℤ) → low ≡ o.low → high ≡ o.high → ◌≡◌ {A = ReadOrder} (record o { low = low; high = high }) o
with_limits o low high a b = ap (λ l. record o { low = l; high = high }) a ∙ ap (λ h. record o { high = h }) b

-- an order is read as it is written
read_back : (o : ReadOrder) → read_order (order_of o) ≡ o
read_back o = with_limits o (ticks_of (price_of_ticks o.low)) (ticks_of (price_of_ticks o.high)) (ticks_are (price_of_ticks o.low) o.low refl) (ticks_are (price_of_ticks o.high) o.high refl)

all_read_back : (orders : List ReadOrder) → map read_order (map order_of orders) ≡ orders
all_read_back [] = refl
all_read_back (o ∷ orders) = ap (λ p. p ∷ map read_order (map order_of orders)) (read_back o) ∙ ap (λ os. o ∷ os) (all_read_back orders)

-- an order with its own limits in grains is the same order
in_grains : (o : Order) (low high : ℤ) → low ≡ o.low → high ≡ o.high → ◌≡◌ {A = Order} (record o { low = low; high = high }) o
in_grains o low high a b = ap (λ l. record o { low = l; high = high }) a ∙ ap (λ h. record o { high = h }) b

whole : (grains ticks : ℤ) → grains ≡ price_of_ticks ticks → price_of_ticks (ticks_of grains) ≡ grains
whole grains ticks is = ap price_of_ticks (ticks_are grains ticks is) ∙ sym is

written_back : (o : Order) → IsOrder o → order_of (read_order o) ≡ o
written_back o is = in_grains o (price_of_ticks (ticks_of o.low)) (price_of_ticks (ticks_of o.high)) (whole o.low is.ticks.0 is.ticks.2) (whole o.high is.ticks.1 is.ticks.3)

all_written_back : (orders : List Order) → All IsOrder orders → map order_of (map read_order orders) ≡ orders
all_written_back [] each = refl
all_written_back (o ∷ orders) each =
    ap (λ p. p ∷ map order_of (map read_order orders)) (written_back o (each 0 o (omega arith))) ∙ ap (λ os. o ∷ os) (all_written_back orders (λ i d inside. each (suc i) d (omega (arith, inside))))

-- a market whose limits are whole ticks has its parts
pub has_parts : (m : Market) → All IsOrder m.orders → HasParts (parts_of_market m) m
has_parts m each = record { version = refl; market = ap (λ os. record m { orders = os }) (sym (all_written_back m.orders each)) }

-- the parts that a market has are `parts_of_market` of it
pub own_parts : (p : Parts) (m : Market) → HasParts p m → parts_of_market m ≡ p
own_parts p m has =
    ap parts_of_market has.market
    ∙ ap (λ os. record p { version = number_of m.version; orders = os }) (all_read_back p.orders)
    ∙ ap (λ n. record p { version = n }) (sym has.version)

-- parts are of at most one market
pub same_market : (p : Parts) (m n : Market) → HasParts p m → HasParts p n → m ≡ n
same_market p m n a b = a.market ∙ ap (λ v. market_of v p) (same_number m.version n.version (sym a.version ∙ b.version)) ∙ sym b.market
