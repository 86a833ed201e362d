-- The fills of orders with one rate each, written one by one.
use Rattle.std.proofs.Common.{◌≡◌, ◌+◌, ◌<◌, ◌≤◌, ◌^◌, ℕ, zero, suc, List, [], ◌∷◌, ◌++◌, length, map, get_or, take, take_all, append_assoc, refl, sym, ap, ◌∙◌, subst, arith}
use Rattle.std.specs.Prelude.{All}
use Rattle.std.specs.List.{flat_map}
use Rattle.std.proofs.lemmas.List.{take_more, flat_map_more}
use Rattle.std.proofs.lemmas.List.Elements.{All-more}
use Rattle.wire_fields.specs.Numbers.{unsigned}
use Rattle.flow_orders.specs.Orders.{Order}
use Rattle.flow_orders.specs.Trades.{trades}
use Rattle.flow_orders.specs.Outcomes.{Fill, fill_of}
use Rattle.journal_records.specs.Bodies.{fill_encoding, IsFill}

-- the fills of orders with these rates
abbrev pub fills_of : List Order → List ℕ → List Fill
fills_of orders rates = map fill_of (trades orders rates)

-- one fill for each order
pub length-fills : (orders : List Order) (rates : List ℕ) → length rates ≡ length orders → length (fills_of orders rates) ≡ length orders
length-fills [] rates count = refl
length-fills (o ∷ orders) [] count = absurd (omega (arith, count))
length-fills (o ∷ orders) (x ∷ rates) count = omega (arith, length-fills orders rates (omega (arith, count)))

-- the fill at a place
fill_at : (orders : List Order) (rates : List ℕ) (i : ℕ) (d : Fill) (o : Order) (x : ℕ) → length rates ≡ length orders → i < length orders
    → o ≡ get_or orders i o → x ≡ get_or rates i x → get_or (fills_of orders rates) i d ≡ record { order = o.number; rate = x }
fill_at [] rates i d o x count inside order rate = absurd (omega (arith, inside))
fill_at (e ∷ orders) [] i d o x count inside order rate = absurd (omega (arith, count))
fill_at (e ∷ orders) (y ∷ rates) zero d o x count inside order rate =
    ap (λ (e : Order). record { order = e.number; rate = y }) (sym order) ∙ ap (λ (y : ℕ). record { order = o.number; rate = y }) (sym rate)
fill_at (e ∷ orders) (y ∷ rates) (suc i) d o x count inside order rate =
    fill_at orders rates i d o x (omega (arith, count)) (omega (arith, inside)) order rate

-- the first i fills are written after what was there
pub record AreWritten (fills : List Fill) (old new : List ℕ) (i : ℕ) : Type 0 where
  pub written : new ≡ old ++ flat_map fill_encoding (take i fills)
  pub fit : All IsFill (take i fills)

-- one more fill is written
pub one_more : (orders : List Order) (rates : List ℕ) (i : ℕ) (o : Order) (x : ℕ) (old mid new : List ℕ) → length rates ≡ length orders → i < length orders
    → o ≡ get_or orders i o → x ≡ get_or rates i x → o.number < 2 ^ 64 → x < 2 ^ 32
    → AreWritten (fills_of orders rates) old mid i → new ≡ (mid ++ unsigned 8 o.number) ++ unsigned 4 x → AreWritten (fills_of orders rates) old new (i + 1)
unfolding fill_encoding
one_more orders rates i o x old mid new count inside order rate small_number small_rate before next =
    let fills = fills_of orders rates in
    let f : Fill = record { order = o.number; rate = x } in
    let at : get_or fills i f ≡ f = fill_at orders rates i f o x count inside order rate in
    let within : i < length fills = omega (arith, inside, length-fills orders rates count) in
    record {
      written =
          next ∙ append_assoc mid (unsigned 8 o.number) (unsigned 4 x) ∙ ap (λ xs. xs ++ fill_encoding f) before.written
          ∙ flat_map_more fill_encoding old (take i fills) f ∙ ap (λ (g : Fill). old ++ flat_map fill_encoding (take i fills ++ g ∷ [])) (sym at)
          ∙ ap (λ xs. old ++ flat_map fill_encoding xs) (sym (take_more fills i f within));
      fit = All-more IsFill fills i f within before.fit (subst IsFill (sym at) (small_number, small_rate));
    }

-- all fills are written
pub all_written : (orders : List Order) (rates : List ℕ) (old new : List ℕ) (i : ℕ) → length rates ≡ length orders → length orders ≤ i
    → AreWritten (fills_of orders rates) old new i → (new ≡ old ++ flat_map fill_encoding (fills_of orders rates)) × All IsFill (fills_of orders rates)
all_written orders rates old new i count all before =
    let same : take i (fills_of orders rates) ≡ fills_of orders rates = take_all i (fills_of orders rates) (omega (arith, all, length-fills orders rates count)) in
    (before.written ∙ ap (λ xs. old ++ flat_map fill_encoding xs) same, subst (All IsFill) same before.fit)

-- a fill's encoding is the order's number and then the rate
pub apart : (f : Fill) (bytes rest : List ℕ) → bytes ≡ fill_encoding f ++ rest → bytes ≡ unsigned 8 f.order ++ (unsigned 4 f.rate ++ rest)
unfolding fill_encoding
apart f bytes rest same = same ∙ append_assoc (unsigned 8 f.order) (unsigned 4 f.rate) rest
