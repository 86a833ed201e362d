-- The dual value falls by at least the move times the demand before it, less half of the move times what the demand may move by.
use Rattle.std.proofs.Common.{◌≡◌, ℕ, ◌+◌, ◌-◌, ◌*◌, ◌≤◌, ◌<◌, min, ◌⊎◌, inl, inr, ℤ, pos, ◌+ℤ◌, ◌-ℤ◌, ap, arith}
use Rattle.std.proofs.Math.Nat.{mul-le-mul, mul-le-mul_left}
use Rattle.std.proofs.lemmas.Bool.{cases_lt}
use Rattle.std.proofs.lemmas.Int.{ints}
use Rattle.demand_curve.specs.Numbers.{distance}
use Rattle.demand_curve.specs.Demand.{Terms, span, line, scaled_demand, scaled_dual}
use Rattle.demand_curve.specs.Laws.{DualIsSmooth}
use Rattle.demand_curve.proofs.Distances.{distance_is}
use Rattle.demand_curve.proofs.Demands.{scaled_demand_is}
use Rattle.demand_curve.proofs.DualLaws.{dual_parts}
use Rattle.demand_curve.proofs.Squares.{twice_product}

-- a line, its demand and its dual value
record IsDual (a room e x : ℕ) : Type 0 where
  demand : e ≡ min a room
  value : x + e * e ≡ 2 * a * e

-- the demand is the line or the batch maximum
dual_cases : (a room e x : ℕ) → IsDual a room e x → ((e ≡ a) × (x ≡ a * a) × (a ≤ room)) ⊎ ((e ≡ room) × (x + room * room ≡ 2 * a * room) × (room ≤ a))
dual_cases a room e x d =
    elim (cases_lt room a) [
      | inl cut ↦
          let is : e ≡ room = omega (arith, d.demand, cut) in
          inr (is, rw is at d.value, omega (arith, cut))
      | inr free ↦
          let is : e ≡ a = omega (arith, d.demand, free) in
          let value = rw is at d.value in
          inl (is, omega (arith, value), free)
    ]

-- a square keeps an order
squares_keep : (v m : ℕ) → v ≤ m → v * v ≤ m * m
squares_keep v m h = mul-le-mul h h

-- the line falls from b + m to b
falls_whole : (b m room e f x y : ℕ) → IsDual (b + m) room e x → IsDual b room f y → y + 2 * e * m ≤ x + m * m
falls_whole b m room e f x y before after =
    elim (dual_cases (b + m) room e x before) [
      | inl free ↦ elim (dual_cases b room f y after) [
        | inl also ↦ rw (free.0, free.1, also.1) (omega arith)
        | inr cut ↦
            let none : m ≡ 0 = omega (arith, free.2, cut.2) in
            let same : room ≡ b = omega (arith, free.2, cut.2) in
            let value = rw same at cut.1 in
            rw (free.0, free.1, none) (omega (arith, value))
      ]
      | inr cut ↦ elim (dual_cases b room f y after) [
        | inl free ↦
            let split : b + (room - b) ≡ room = omega (arith, free.2) in
            let small = squares_keep (room - b) m (omega (arith, cut.2)) in
            let square : room * room + b * b ≡ 2 * b * room + (room - b) * (room - b) = from b room (room - b) split in
            rw (cut.0, free.1) (omega (arith, cut.1, square, small))
        | inr also ↦ rw cut.0 (omega (arith, cut.1, also.1))
      ]
    ]
  where
    from : (b r v : ℕ) → b + v ≡ r → r * r + b * b ≡ 2 * b * r + v * v
    from b r v split = rw (← split) (omega arith)

-- the line falls from a by more than a
falls_past : (a m room e f x y : ℕ) → a ≤ m → IsDual a room e x → IsDual 0 room f y → y + 2 * e * m ≤ x + m * m
falls_past a m room e f x y past before after =
    let zero : f ≡ 0 = omega (arith, after.demand) in
    let value = rw zero at after.value in
    let none : y ≡ 0 = omega (arith, value) in
    elim (dual_cases a room e x before) [
      | inl free ↦ rw (none, free.0, free.1) (omega (arith, twice_product a m))
      | inr cut ↦ rw (none, cut.0) (omega (arith, cut.1, twice_product room m, mul-le-mul_left room cut.2))
    ]

-- the line rises from a to a + m
rises_whole : (a m room e f x y : ℕ) → IsDual a room e x → IsDual (a + m) room f y → y ≤ x + 2 * e * m + m * m
rises_whole a m room e f x y before after =
    elim (dual_cases a room e x before) [
      | inl free ↦ elim (dual_cases (a + m) room f y after) [
        | inl also ↦ rw (free.0, free.1, also.1) (omega arith)
        | inr cut ↦
            let split : a + (room - a) ≡ room = omega (arith, free.2) in
            let square : room * room + a * a ≡ 2 * a * room + (room - a) * (room - a) = from a room (room - a) split in
            let product : 2 * m * room ≡ 2 * m * a + 2 * (room - a) * m = product_from a room m (room - a) split in
            rw (free.0, free.1) (omega (arith, cut.1, square, product, twice_product (room - a) m))
      ]
      | inr cut ↦ elim (dual_cases (a + m) room f y after) [
        | inl free ↦
            let none : m ≡ 0 = omega (arith, free.2, cut.2) in
            let same : room ≡ a = omega (arith, free.2, cut.2) in
            let value = rw same at cut.1 in
            rw (free.1, none) (omega (arith, value))
        | inr also ↦ rw cut.0 (omega (arith, cut.1, also.1))
      ]
    ]
  where
    from : (b r v : ℕ) → b + v ≡ r → r * r + b * b ≡ 2 * b * r + v * v
    from b r v split = rw (← split) (omega arith)

    product_from : (b r m v : ℕ) → b + v ≡ r → 2 * m * r ≡ 2 * m * b + 2 * v * m
    product_from b r m v split = rw (← split) (omega arith)

-- the line rises from 0 to b, by m or less
rises_past : (b m room e f x y : ℕ) → b ≤ m → IsDual 0 room e x → IsDual b room f y → y ≤ x + 2 * e * m + m * m
rises_past b m room e f x y past before after =
    let small = squares_keep b m past in
    elim (dual_cases b room f y after) [
      | inl free ↦ rw free.1 (omega (arith, small))
      | inr cut ↦ omega (arith, cut.1, twice_product b room, small)
    ]

-- the dual value of a curve is of that form
dual_is : (t : Terms) (price : ℤ) → IsDual (t.rate * distance t.high price) (t.room * span t) (scaled_demand t price) (scaled_dual t price)
unfolding line
dual_is t price = record { demand = scaled_demand_is t price; value = dual_parts t price }

-- a line that falls
line_falls : (q d g room e f x y : ℕ) → IsDual (q * d) room e x → IsDual (q * (d - g)) room f y → y + 2 * e * (q * g) ≤ x + q * g * (q * g)
line_falls q d g room e f x y before after =
    elim (cases_lt d g) [
      | inl past ↦
          let none : q * (d - g) ≡ 0 = rw (gone d g past) (omega arith) in
          falls_past (q * d) (q * g) room e f x y (mul-le-mul_left q (omega (arith, past))) before (rw none at after)
      | inr whole ↦
          let split : q * d ≡ q * (d - g) + q * g = parted q d g whole in
          falls_whole (q * (d - g)) (q * g) room e f x y (rw split at before) after
    ]
  where
    gone : (d g : ℕ) → d < g → d - g ≡ 0
    gone d g past = omega (arith, past)

    parted : (q d g : ℕ) → g ≤ d → q * d ≡ q * (d - g) + q * g
    parted q d g whole = let back : d - g + g ≡ d = omega (arith, whole) in omega (arith, ap (λ y. q * y) back)

-- a line that rises
line_rises : (q d g room e f x y : ℕ) → IsDual (q * (d - g)) room e x → IsDual (q * d) room f y → y ≤ x + 2 * e * (q * g) + q * g * (q * g)
line_rises q d g room e f x y before after =
    elim (cases_lt d g) [
      | inl past ↦
          let none : q * (d - g) ≡ 0 = rw (gone d g past) (omega arith) in
          rises_past (q * d) (q * g) room e f x y (mul-le-mul_left q (omega (arith, past))) (rw none at before) after
      | inr whole ↦
          let split : q * d ≡ q * (d - g) + q * g = parted q d g whole in
          rises_whole (q * (d - g)) (q * g) room e f x y before (rw split at after)
    ]
  where
    gone : (d g : ℕ) → d < g → d - g ≡ 0
    gone d g past = omega (arith, past)

    parted : (q d g : ℕ) → g ≤ d → q * d ≡ q * (d - g) + q * g
    parted q d g whole = let back : d - g + g ≡ d = omega (arith, whole) in omega (arith, ap (λ y. q * y) back)

pub dual_is_smooth : DualIsSmooth
dual_is_smooth t h price grains =
    let risen : distance t.high (price +ℤ pos grains) ≡ distance t.high price - grains = omega (arith, ints, distance_is t.high price, distance_is t.high (price +ℤ pos grains)) in
    let fallen : distance t.high price ≡ distance t.high (price -ℤ pos grains) - grains = omega (arith, ints, distance_is t.high price, distance_is t.high (price -ℤ pos grains)) in
    let up = line_falls t.rate (distance t.high price) grains (t.room * span t) (scaled_demand t price) (scaled_demand t (price +ℤ pos grains)) (scaled_dual t price) (scaled_dual t (price +ℤ pos grains))
    (dual_is t price) (rw risen at (dual_is t (price +ℤ pos grains))) in
    let down = line_rises t.rate (distance t.high (price -ℤ pos grains)) grains (t.room * span t) (scaled_demand t price) (scaled_demand t (price -ℤ pos grains)) (scaled_dual t price) (scaled_dual t (price -ℤ pos grains))
    (rw fallen at (dual_is t price)) (dual_is t (price -ℤ pos grains)) in
    record { rise = omega (arith, up); fall = omega (arith, down) }
