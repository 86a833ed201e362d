-- No order's fills in a journal pass its cap.
use Rattle.std.proofs.Common.{◌≡◌, ◌≢◌, ℕ, suc, zero, ◌+◌, ◌≤◌, ◌<◌, ◌⊎◌, inl, inr, true, false, cond, eqb, pos, List, [], ◌∷◌, ◌++◌, length, map, Option, Some, None, Result, Ok, Err, refl, ap, sym, subst, ◌∙◌, ⊎_elim, arith}
use Rattle.std.specs.Prelude.{Contains, All, AllPairs, slice_index_or, not, ◌==◌}
use Rattle.std.specs.List.{sum_by}
use Rattle.std.proofs.lemmas.List.{length-map, get_or-map, get_or_default}
use Rattle.std.proofs.lemmas.List.Elements.{All-push, All-map, All-filter}
use Rattle.std.proofs.lemmas.List.Sums.{sum_by-cons, sum_by-append}
use Rattle.std.proofs.lemmas.Bool.Decides.{eqb_tells}
use Rattle.flow_orders.specs.Orders.{Order}
use Rattle.flow_orders.specs.Outcomes.{Clearing, Fill, Outcome, Cleared, Skipped, trades_of, IsAdmissibleOutcome, IsAdmissibleClearing}
use Rattle.flow_orders.specs.Trades.{Trade, after_fill, staying}
use Rattle.wire_records.specs.Commands.{Request, Command, Place, CancelOrder, RunBatch, Answer, Plain, Batch, Pair}
use Rattle.wire_records.specs.declared.reply.Refusal.{Refusal}
use Rattle.wire_records.specs.declared.reply.Reply.TheVariants.{Order as OrderPlaced, Refused}
use Rattle.std.proofs.lemmas.Bool.{cases_lt}
use Rattle.market_rules.specs.Market.{IsLiveOrder, Market, IsConsistent, search_of, start_prices}
use Rattle.market_rules.specs.Step.{Accepts, Serves, after_batch, placed, ServesRead}
use Rattle.market_rules.proofs.ByFirst.{Answers}
use Rattle.wire_records.specs.declared.command.BodyFault.{BodyFault}
use Rattle.wire_records.specs.declared.version.Version.{Version}
use Rattle.market_rules.specs.Journal.{Step, Follows, filled_in, filled_by, fills_of, Places}
use Rattle.flow_orders.proofs.TradeFacts.{before_fills, after_fills, is_live}
use Rattle.market_rules.proofs.ConsistentBatch.{orders_before, allowed}
use Rattle.market_rules.proofs.Consistency.{ReadsOwn, consistent_step, consistent_follows}
use Rattle.market_rules.proofs.Versions.{follows_version}
use Rattle.market_rules.proofs.OneJournal.{follows-parts}

-- ---- one number in a list of trades

-- the sum of the trades of orders with this number
abbrev traded_in : ℕ → List Trade → ℕ
traded_in number ts = sum_by (λ t. cond (eqb t.order.number number) t.traded 0) ts

-- the rates listed under a number are those of the trades
filled_is_traded : (number : ℕ) (orders : List Order) (fills : List Fill) → map (λ (f : Fill). f.order) fills ≡ map (λ (o : Order). o.number) orders → filled_in number fills ≡ traded_in number (trades_of orders fills)
filled_is_traded number [] [] e = refl
filled_is_traded number [] (f ∷ fills) e = absurd cc
filled_is_traded number (o ∷ orders) [] e = absurd cc
filled_is_traded number (o ∷ orders) (f ∷ fills) e =
    let parts = heads f.order o.number (map (λ (f : Fill). f.order) fills) (map (λ (o : Order). o.number) orders) e in
    let rest = filled_is_traded number orders fills parts.1 in
    let here : cond (eqb f.order number) f.rate 0 ≡ cond (eqb o.number number) f.rate 0 = ap (λ n. cond (eqb n number) f.rate 0) parts.0 in
    omega (arith, sum_by-cons (λ (f : Fill). cond (eqb f.order number) f.rate 0) f fills, sum_by-cons (λ (t : Trade). cond (eqb t.order.number number) t.traded 0) (record { order = o; traded = f.rate }) (trades_of orders fills), rest, here)
  where
    heads : (a b : ℕ) (x y : List ℕ) → a ∷ x ≡ b ∷ y → (a ≡ b) × (x ≡ y)
    heads a b x y e = (cc, cc)

-- one trade's part
own_part : (number : ℕ) (t : Trade) → eqb t.order.number number ≡ true → cond (eqb t.order.number number) t.traded 0 ≡ t.traded
own_part number t own = ap (λ b. cond b t.traded 0) own

other_part : (number : ℕ) (t : Trade) → eqb t.order.number number ≡ false → cond (eqb t.order.number number) t.traded 0 ≡ 0
other_part number t other = ap (λ b. cond b t.traded 0) other

-- without a trade of the number the sum is 0
traded_none : (number : ℕ) (ts : List Trade) → All (λ t. t.order.number ≢ number) ts → traded_in number ts ≡ 0
traded_none number [] none = refl
traded_none number (t ∷ ts) none =
    let here : t.order.number ≢ number = none 0 t (omega arith) in
    let rest = traded_none number ts (λ k d inside. none (suc k) d (omega (arith, inside))) in
    let all = sum_by-cons (λ (t : Trade). cond (eqb t.order.number number) t.traded 0) t ts in
    ⊎_elim (λ same. absurd (here same.1)) (λ other. omega (arith, all, other_part number t other.0, rest)) (eqb_tells t.order.number number)

-- the sum is 0, or there is a trade of the number
traded_found : (number : ℕ) (ts : List Trade) → (traded_in number ts ≡ 0) ⊎ ((k : ℕ) × (k < length ts) × ((d : Trade) → (slice_index_or ts k d).order.number ≡ number))
traded_found number [] = inl refl
traded_found number (t ∷ ts) =
    ⊎_elim
    (λ same. inr (0, omega arith, λ d. same.1))
    (λ other.
    let all = sum_by-cons (λ (t : Trade). cond (eqb t.order.number number) t.traded 0) t ts in
    ⊎_elim (λ none. inl (omega (arith, all, other_part number t other.0, none))) (λ found. inr (suc found.0, omega (arith, found.1), found.2)) (traded_found number ts))
    (eqb_tells t.order.number number)

-- if numbers ascend, the trade of the number is the sum
traded_at : (number : ℕ) (ts : List Trade) → AllPairs (λ (x : Trade) (y : Trade). x.order.number < y.order.number) ts → (k : ℕ) (d : Trade) → k < length ts → (slice_index_or ts k d).order.number ≡ number → traded_in number ts ≡ (slice_index_or ts k d).traded
traded_at number [] ascend k d inside is = absurd (omega (arith, inside))
traded_at number (t ∷ ts) ascend zero d inside is =
    let all = sum_by-cons (λ (t : Trade). cond (eqb t.order.number number) t.traded 0) t ts in
    let none = traded_none number ts (λ k e within same. let above = ascend 0 (suc k) e (omega arith) (omega (arith, within)) in omega (arith, above, same, is)) in
    ⊎_elim (λ same. omega (arith, all, own_part number t same.0, none)) (λ other. absurd (other.1 is)) (eqb_tells t.order.number number)
traded_at number (t ∷ ts) ascend (suc k) d inside is =
    let all = sum_by-cons (λ (t : Trade). cond (eqb t.order.number number) t.traded 0) t ts in
    let rest = traded_at number ts (λ i j e below within. ascend (suc i) (suc j) e (omega (arith, below)) (omega (arith, within))) k d (omega (arith, inside)) is in
    let above = ascend 0 (suc k) d (omega arith) inside in
    ⊎_elim (λ same. absurd (omega (arith, same.1, above, is))) (λ other. omega (arith, all, other_part number t other.0, rest)) (eqb_tells t.order.number number)

-- ---- one number in a market

-- an order of a number that was given out has this cap, and this much is filled of it
record IsFilled (m : Market) (number cap filled : ℕ) : Type 0 where
  most : filled ≤ cap
  used : number < m.next_order
  live : All (λ (o : Order). o.number ≡ number → (o.cap ≡ cap) × (o.filled ≡ filled)) m.orders

trades_ascend : (ts : List Trade) → AllPairs (λ (x : Order) (y : Order). x.number < y.number) (before_fills ts) → AllPairs (λ (x : Trade) (y : Trade). x.order.number < y.order.number) ts
trades_ascend ts ascend i j d below inside =
    let order : Trade → Order = λ t. t.order in
    let count = length-map ts order in
    let first : slice_index_or (before_fills ts) i d.order ≡ (slice_index_or ts i d).order = get_or-map order ts i d d.order (omega (arith, below, inside)) in
    let second : slice_index_or (before_fills ts) j d.order ≡ (slice_index_or ts j d).order = get_or-map order ts j d d.order inside in
    let less = ascend i j d.order below (omega (arith, inside, count)) in
    omega (arith, less, ap (λ (o : Order). o.number) first, ap (λ (o : Order). o.number) second)

each_before : (P : Order → Type 0) (ts : List Trade) → All P (before_fills ts) → All (λ t. P t.order) ts
each_before P ts all k d inside =
    let order : Trade → Order = λ t. t.order in
    let count = length-map ts order in
    subst P (get_or-map order ts k d d.order inside) (all k d.order (omega (arith, inside, count)))

-- a cleared batch fills what it lists
filled_cleared : (m : Market) (c : Clearing) (number cap filled : ℕ) → IsConsistent m → IsAdmissibleClearing m.orders (start_prices m) c → IsFilled m number cap filled → IsFilled (after_batch m (Cleared c)) number cap (filled + filled_in number c.fills)
filled_cleared m c number cap filled consistent right is =
    let ts = trades_of m.orders c.fills in
    let before = orders_before m c ts refl consistent right in
    let allowed_each = allowed m c ts refl consistent right in
    let sum = filled_is_traded number m.orders c.fills right.numbers in
    let ascend = trades_ascend ts (rw before consistent.ascending) in
    let live = each_before (λ (o : Order). o.number ≡ number → (o.cap ≡ cap) × (o.filled ≡ filled)) ts (rw before is.live) in
    record {
      most =
          ⊎_elim
          (λ none. omega (arith, sum, none, is.most))
          (λ found.
          let d : Trade = record { order = record { number = 0; account = 0; low = pos 0; high = pos 0; rate = 0; cap = 0; filled = 0; row = []; last = 0 }; traded = 0 } in
          let t = slice_index_or ts found.0 d in
          let here = live found.0 d found.1 (found.2 d) in
          let one = traded_at number ts ascend found.0 d found.1 (found.2 d) in
          let within = (allowed_each found.0 d found.1).within in
          omega (arith, sum, one, within, here.0, here.1, is.most))
          (traded_found number ts);
      used = is.used;
      live =
          let P : Order → Type 0 = λ o. o.number ≡ number → (o.cap ≡ cap) × (o.filled ≡ filled + filled_in number c.fills) in
          All-filter (λ (o : Order). not (o.last == m.batches + 1)) P (staying ts)
          (All-filter is_live P (after_fills ts)
          (All-map P after_fill ts
          (λ k d inside its.
          let here = live k d inside its in
          let one = traded_at number ts ascend k d inside its in
          (here.0, omega (arith, here.1, one, sum)))));
    }

-- an order's state stays if the orders stay and nothing is filled
filled_same : (m n : Market) (number cap filled now : ℕ) → IsFilled m number cap filled → n.orders ≡ m.orders → n.next_order ≡ m.next_order → now ≡ filled + 0 → IsFilled n number cap now
filled_same m n number cap filled now is orders next none =
    let same : now ≡ filled = omega (arith, none) in
    record {
      most = omega (arith, same, is.most);
      used = omega (arith, is.used, next);
      live = rw (same, orders) is.live;
    }

-- a command that is no batch fills nothing
filled_accepted : (m : Market) (c : Command) (a : Answer Outcome) (n : Market) (number cap filled : ℕ) → IsConsistent m → Accepts IsAdmissibleOutcome m c a n → IsFilled m number cap filled → IsFilled n number cap (filled + filled_by number a)
filled_accepted m (Place last r) a n number cap filled consistent accepts is =
    let none : filled + 0 ≡ filled = omega arith in
    rw (accepts.0, accepts.1) (record {
      most = omega (arith, is.most);
      used = omega (arith, is.used);
      live = rw none (All-push (λ (o : Order). o.number ≡ number → (o.cap ≡ cap) × (o.filled ≡ filled)) m.orders (placed m last r) is.live (λ same. absurd (omega (arith, same, is.used))));
    })
filled_accepted m (CancelOrder account other) a n number cap filled consistent accepts is =
    let none : filled + 0 ≡ filled = omega arith in
    rw (accepts.0, accepts.1) (record {
      most = omega (arith, is.most);
      used = is.used;
      live = rw none (All-filter (λ (o : Order). not (o.number == other)) (λ (o : Order). o.number ≡ number → (o.cap ≡ cap) × (o.filled ≡ filled)) m.orders is.live);
    })
filled_accepted m (RunBatch budget) a n number cap filled consistent accepts is = rw (accepts.2.0, accepts.2.1) (by_outcome accepts.0 accepts.1)
  where
    by_outcome : (o : Outcome) → IsAdmissibleOutcome (search_of m.version) m.orders (start_prices m) budget o → IsFilled (after_batch m o) number cap (filled + filled_by number (Batch (m.batches + 1) o))
    by_outcome (Cleared c) right = filled_cleared m c number cap filled consistent right is
    by_outcome (Skipped s) right =
        let none : filled + 0 ≡ filled = omega arith in
        record {
          most = omega (arith, is.most);
          used = is.used;
          live = rw none (All-filter (λ (o : Order). not (o.last == m.batches + 1)) (λ (o : Order). o.number ≡ number → (o.cap ≡ cap) × (o.filled ≡ filled)) m.orders is.live);
        }
filled_accepted m command a n number cap filled consistent accepts is = rw (accepts.0, accepts.1) (filled_same m _ number cap filled (filled + 0) is refl refl refl)

-- numbers that aren't given out yet get no fills, and numbers never come back
record IsUnused (m n : Market) (number filled : ℕ) : Type 0 where
  later : m.next_order ≤ n.next_order
  none : m.next_order ≤ number → filled ≡ 0

unused_cleared : (m : Market) (c : Clearing) (number : ℕ) → IsConsistent m → IsAdmissibleClearing m.orders (start_prices m) c → m.next_order ≤ number → filled_in number c.fills ≡ 0
unused_cleared m c number consistent right above =
    let ts = trades_of m.orders c.fills in
    let before = orders_before m c ts refl consistent right in
    let below = each_before (λ (o : Order). o.number < m.next_order) ts (rw before (λ k d inside. (consistent.live k d inside).numbered.1)) in
    filled_is_traded number m.orders c.fills right.numbers ∙ traded_none number ts (λ k d inside same. let less = below k d inside in omega (arith, less, same, above))

unused_accepted : (m : Market) (c : Command) (a : Answer Outcome) (n : Market) (number : ℕ) → IsConsistent m → Accepts IsAdmissibleOutcome m c a n → IsUnused m n number (filled_by number a)
unused_accepted m (RunBatch budget) a n number consistent accepts = rw (accepts.2.0, accepts.2.1) (by_outcome accepts.0 accepts.1)
  where
    by_outcome : (o : Outcome) → IsAdmissibleOutcome (search_of m.version) m.orders (start_prices m) budget o → IsUnused m (after_batch m o) number (filled_by number (Batch (m.batches + 1) o))
    by_outcome (Cleared c) right = record { later = omega arith; none = unused_cleared m c number consistent right }
    by_outcome (Skipped s) right = record { later = omega arith; none = λ _. refl }
unused_accepted m command a n number consistent accepts = rw (accepts.0, accepts.1) (record { later = omega arith; none = λ _. refl })

-- what is placed by an answer that names an order
placed_by : (m : Market) (last : Option ℕ) (r : Request) (a : Answer Outcome) (n : Market) (number : ℕ) → IsConsistent m → Serves IsAdmissibleOutcome m (Place last r) a n → a ≡ Plain (OrderPlaced number) → (number ≡ m.next_order) × IsFilled n number r.cap 0
placed_by m last r a n number consistent serves named = by_first serves.first serves.answered
  where
    number_of : (x y : ℕ) → ◌≡◌ {A = Answer Outcome} (Plain (OrderPlaced x)) (Plain (OrderPlaced y)) → x ≡ y
    number_of x y e = cc

    no_refusal : (x : ℕ) (f : Refusal) → ◌≡◌ {A = Answer Outcome} (Plain (OrderPlaced x)) (Plain (Refused f)) → ⊥
    no_refusal x f e = cc

    by_first : (first : Option Refusal) → Answers IsAdmissibleOutcome m (Place last r) first a n → (number ≡ m.next_order) × IsFilled n number r.cap 0
    by_first (Some f) answers = absurd (no_refusal number f (sym named ∙ answers.0))
    by_first None answers =
        let is : number ≡ m.next_order = number_of number m.next_order (sym named ∙ answers.0) in (
          is,
          rw (answers.1, is) (record {
            most = omega arith;
            used = omega arith;
            live = All-push (λ (o : Order). o.number ≡ m.next_order → (o.cap ≡ r.cap) × (o.filled ≡ 0)) m.orders (placed m last r)
                (λ k d inside same. let less = (consistent.live k d inside).numbered.1 in absurd (omega (arith, same, less)))
                (λ _. (refl, refl));
          }),
        )

module _ {R : Type 0} (Reads : Version → R → Result Command BodyFault → Type 0) (own : ReadsOwn Reads) (one_reading : (version : Version) (r : R) (a b : Result Command BodyFault) → Reads version r a → Reads version r b → a ≡ b) where
  filled_step : (m : Market) (asked : R) (a : Answer Outcome) (n : Market) (number cap filled : ℕ) → IsConsistent m → Step Reads IsAdmissibleOutcome m asked a n → IsFilled m number cap filled → IsFilled n number cap (filled + filled_by number a)
  filled_step m asked a n number cap filled consistent step is = by_read step.read step.served
    where
      by_first : (c : Command) (first : Option Refusal) → Answers IsAdmissibleOutcome m c first a n → IsFilled n number cap (filled + filled_by number a)
      by_first c (Some r) answers = rw (answers.0, answers.1) (filled_same m m number cap filled (filled + 0) is refl refl refl)
      by_first c None answers = filled_accepted m c a n number cap filled consistent answers is

      by_read : (read : Result Command BodyFault) → ServesRead IsAdmissibleOutcome m read a n → IsFilled n number cap (filled + filled_by number a)
      by_read (Ok c) serves = by_first c serves.first serves.answered
      by_read (Err r) serves = rw (serves.0, serves.1) (filled_same m m number cap filled (filled + 0) is refl refl refl)

  unused_step : (m : Market) (asked : R) (a : Answer Outcome) (n : Market) (number : ℕ) → IsConsistent m → Step Reads IsAdmissibleOutcome m asked a n → IsUnused m n number (filled_by number a)
  unused_step m asked a n number consistent step = by_read step.read step.served
    where
      by_first : (c : Command) (first : Option Refusal) → Answers IsAdmissibleOutcome m c first a n → IsUnused m n number (filled_by number a)
      by_first c (Some r) answers = rw (answers.0, answers.1) (record { later = omega arith; none = λ _. refl })
      by_first c None answers = unused_accepted m c a n number consistent answers

      by_read : (read : Result Command BodyFault) → ServesRead IsAdmissibleOutcome m read a n → IsUnused m n number (filled_by number a)
      by_read (Ok c) serves = by_first c serves.first serves.answered
      by_read (Err r) serves = rw (serves.0, serves.1) (record { later = omega arith; none = λ _. refl })

  fills-cons : (number : ℕ) (pair : Pair R Outcome) (pairs : List (Pair R Outcome)) → fills_of number (pair ∷ pairs) ≡ filled_by number pair.answer + fills_of number pairs
  fills-cons number pair pairs = sum_by-cons (λ (p : Pair R Outcome). filled_by number p.answer) pair pairs

  filled_follows : (m : Market) (pairs : List (Pair R Outcome)) (n : Market) (number cap filled : ℕ) → IsConsistent m → Follows Reads IsAdmissibleOutcome m pairs n → IsFilled m number cap filled → filled + fills_of number pairs ≤ cap
  filled_follows m [] n number cap filled consistent follows is = omega (arith, is.most)
  filled_follows m (pair ∷ pairs) n number cap filled consistent follows is =
      let next = follows.0 in
      let now = filled_step m pair.asked pair.answer next number cap filled consistent follows.1 is in
      let rest = filled_follows next pairs n number cap (filled + filled_by number pair.answer) (consistent_step Reads own m pair.asked pair.answer next consistent follows.1) follows.2 now in
      omega (arith, rest, fills-cons number pair pairs)

  unused_follows : (m : Market) (pairs : List (Pair R Outcome)) (n : Market) (number : ℕ) → IsConsistent m → Follows Reads IsAdmissibleOutcome m pairs n → n.next_order ≤ number → (fills_of number pairs ≡ 0) × (m.next_order ≤ n.next_order)
  unused_follows m [] n number consistent follows above = (refl, omega (arith, ap (λ (x : Market). x.next_order) follows))
  unused_follows m (pair ∷ pairs) n number consistent follows above =
      let next = follows.0 in
      let here = unused_step m pair.asked pair.answer next number consistent follows.1 in
      let rest = unused_follows next pairs n number (consistent_step Reads own m pair.asked pair.answer next consistent follows.1) follows.2 above in
      let none = here.none (omega (arith, here.later, rest.1, above)) in
      (omega (arith, fills-cons number pair pairs, none, rest.0), omega (arith, here.later, rest.1))

  -- from a consistent market on, the fills listed under a placed order's number don't pass its cap
  pub fills_within_cap : (old : Market) (before after : List (Pair R Outcome)) (pair : Pair R Outcome) (m : Market) (number cap : ℕ) → IsConsistent old → Follows Reads IsAdmissibleOutcome old (before ++ pair ∷ after) m → Places (Reads old.version) number cap pair → fills_of number (before ++ pair ∷ after) ≤ cap
  fills_within_cap old before after pair m number cap start follows places =
      let parts = follows-parts Reads one_reading IsAdmissibleOutcome old m before (pair ∷ after) follows in
      let mid = parts.0 in
      let consistent = consistent_follows Reads own old before mid start parts.1 in
      let next = parts.2.0 in
      let step = parts.2.1 in
      let version : mid.version ≡ old.version = follows_version IsAdmissibleOutcome Reads old before mid parts.1 in
      let last = places.asks.0 in
      let command = Place last places.request in
      let served = subst (λ r. ServesRead IsAdmissibleOutcome mid r pair.answer next)
      (one_reading mid.version pair.asked step.read (Ok command) step.encoded (subst (λ v. Reads v pair.asked (Ok command)) (sym version) places.asks.1)) step.served in
      let placing : (number ≡ mid.next_order) × IsFilled next number places.request.cap 0 = placed_by mid last places.request pair.answer next number consistent served places.answered in
      let none = (unused_follows old before mid number start parts.1 (omega (arith, placing.0))).0 in
      let here : filled_by number pair.answer ≡ 0 = ap (filled_by number) places.answered in
      let rest = filled_follows next after m number places.request.cap 0 (consistent_step Reads own mid pair.asked pair.answer next consistent step) parts.2.2 placing.1 in
      let all = sum_by-append (λ (p : Pair R Outcome). filled_by number p.answer) before (pair ∷ after) in
      omega (arith, all, none, fills-cons number pair after, here, rest, places.cap_is)

  -- from a consistent market on, a live order's fills with those listed from now on don't pass its cap
  pub live_fills_within_cap : (old : Market) (pairs : List (Pair R Outcome)) (m : Market) (o : Order) → IsConsistent old → Contains old.orders o → Follows Reads IsAdmissibleOutcome old pairs m → o.filled + fills_of o.number pairs ≤ o.cap
  live_fills_within_cap old pairs m o consistent live follows =
      let k = live.0 in
      let is : slice_index_or old.orders k o ≡ o = live.2 in
      let own = subst (IsLiveOrder old) is (consistent.live k o live.1) in
      filled_follows old pairs m o.number o.cap o.filled consistent follows (record {
        most = let left = own.order.left in omega (arith, left);
        used = own.numbered.1;
        live = λ j d inside same.
            ⊎_elim
            (λ (below : j < k). let less = consistent.ascending j k d below live.1 in absurd (omega (arith, less, same, ap (λ (x : Order). x.number) (sym (same_place old.orders k d o live.1) ∙ is))))
            (λ not_below. ⊎_elim
            (λ (above : k < j). let less = consistent.ascending k j d above inside in absurd (omega (arith, less, same, ap (λ (x : Order). x.number) (sym (same_place old.orders k d o live.1) ∙ is))))
            (λ not_above.
            let at : j ≡ k = omega (arith, not_below, not_above) in
            let here : slice_index_or old.orders j d ≡ o = ap (λ i. slice_index_or old.orders i d) at ∙ sym (same_place old.orders k d o live.1) ∙ is in
            (ap (λ (x : Order). x.cap) here, ap (λ (x : Order). x.filled) here))
            (cases_lt k j))
            (cases_lt j k);
      })
    where
      same_place : (xs : List Order) (k : ℕ) (d e : Order) → k < length xs → slice_index_or xs k e ≡ slice_index_or xs k d
      same_place xs k d e inside = get_or_default xs k e d inside
