-- Bytes begin with the encoding of at most one market's parts that fit.
use Rattle.std.proofs.Common.{◌≡◌, ◌≤◌, ℕ, ℤ, List, ◌++◌, length, map, take, drop, append_assoc, sym, ap, ◌∙◌, subst, arith}
use Rattle.std.specs.Prelude.{All}
use Rattle.std.specs.List.{flat_map, zip}
use Rattle.std.proofs.lemmas.Slice.Zip.{firsts-zip, seconds-zip, length-zip}
use Rattle.std.proofs.Math.Seq.{drop-append_seam}
use Rattle.std.proofs.lemmas.List.{take_at}
use Rattle.wire_fields.specs.Numbers.{unsigned, signed, IsUnsigned, IsSigned}
use Rattle.wire_fields.proofs.Encoding.{unsigned_unique, signed_unique}
use Rattle.weight_rows.specs.declared.entries.Entry.{Entry}
use Rattle.wire_records.specs.Bodies.{entry_encoding, IsEntry}
use Rattle.wire_records.proofs.CodeLaws.{counted_unique}
use Rattle.wire_records.proofs.Requests.{same_entry}
use Rattle.flow_accounts.specs.Balances.{Account, Credit, Balances, account_count}
use Rattle.flow_orders.specs.Orders.{most_orders}
use Rattle.flow_orders.proofs.Limits.{orders_fit}
use Rattle.market_parts.specs.Parts.{ReadOrder, Parts}
use Rattle.market_snapshot.specs.Checkpoints.{checkpoint_magic}
use Rattle.market_snapshot.specs.Encodings.{units_encoding, account_encoding, order_encoding, tickers_encoding, accounts_encoding, totals_encoding, exchange_encoding, batches_encoding, orders_encoding, parts_encoding}
use Rattle.market_snapshot.specs.Widths.{FitUnits, FitsAccount, FitsOrder, FitBalances, FitsExchange, FitWidths}

-- what follows equal bytes is equal
after_same : (prefix x y : List ℕ) → prefix ++ x ≡ prefix ++ y → x ≡ y
after_same prefix x y e = sym (drop-append_seam prefix x) ∙ ap (drop (length prefix)) e ∙ drop-append_seam prefix y

-- two lists of as many numbers with a sign
signs_unique : (p q : List ℤ) (x y : List ℕ) → All (IsSigned 8) p → All (IsSigned 8) q → length p ≡ length q → flat_map (signed 8) p ++ x ≡ flat_map (signed 8) q ++ y → (p ≡ q) × (x ≡ y)
signs_unique = counted_unique (IsSigned 8) (signed 8) (λ a b x y h k e. signed_unique 8 a b x y (omega arith) h k e)

-- two texts of eight bytes
bytes_unique : (s t x y : List ℕ) → length s ≡ 8 → length t ≡ 8 → s ++ x ≡ t ++ y → (s ≡ t) × (x ≡ y)
bytes_unique s t x y h k e =
    let same : s ≡ t = sym (take_at s x 8 h) ∙ ap (take 8) e ∙ take_at t y 8 k in
    (same, after_same t x y (ap (λ z. z ++ x) (sym same) ∙ e))

-- units of an asset, and the credit in it
units_unique : (u v : ℤ × ℕ) (x y : List ℕ) → FitUnits u → FitUnits v → units_encoding u ++ x ≡ units_encoding v ++ y → (u ≡ v) × (x ≡ y)
unfolding units_encoding
units_unique u v x y h k e =
    let apart = sym (append_assoc (signed 8 u.0) (unsigned 8 u.1) x) ∙ e ∙ append_assoc (signed 8 v.0) (unsigned 8 v.1) y in
    let units = signed_unique 8 u.0 v.0 _ _ (omega arith) h.0 k.0 apart in
    let credits = unsigned_unique 8 u.1 v.1 x y h.1 k.1 units.1 in
    (ap (λ n. (n, u.1)) units.0 ∙ ap (λ n. (v.0, n)) credits.0, credits.1)

-- three or four pieces, and what follows them
three : (a b c x : List ℕ) → (a ++ (b ++ c)) ++ x ≡ a ++ (b ++ (c ++ x))
three a b c x = simp append_assoc

four : (a b c d x : List ℕ) → (a ++ (b ++ (c ++ d))) ++ x ≡ a ++ (b ++ (c ++ (d ++ x)))
four a b c d x = simp append_assoc

ten : (a b c d e f g h i j x : List ℕ) → (a ++ (b ++ (c ++ (d ++ (e ++ (f ++ (g ++ (h ++ (i ++ j))))))))) ++ x ≡ a ++ (b ++ (c ++ (d ++ (e ++ (f ++ (g ++ (h ++ (i ++ (j ++ x)))))))))
ten a b c d e f g h i j x = simp append_assoc

-- two lists of one length, from the list that zips them
firsts_from : {A B : Type 0} (ps qs : List A) (rs ts : List B) → length rs ≡ length ps → length ts ≡ length qs → zip ps rs ≡ zip qs ts → (ps ≡ qs) × (rs ≡ ts)
firsts_from {A = A} {B = B} ps qs rs ts h k e =
    (sym (firsts-zip ps rs h) ∙ ap (map (λ (p : A × B). p.0)) e ∙ firsts-zip qs ts k, sym (seconds-zip ps rs h) ∙ ap (map (λ (p : A × B). p.1)) e ∙ seconds-zip qs ts k)

-- how long the zipped list is
pub length-pairs : {A B : Type 0} (ps : List A) (rs : List B) → length rs ≡ length ps → length (zip ps rs) ≡ length ps
length-pairs ps rs h = length-zip ps rs ∙ omega (arith, h)

-- an account and its credit line
account_unique : (assets : ℕ) (a b : Account × Credit) (x y : List ℕ) → FitsAccount assets a → FitsAccount assets b → account_encoding a ++ x ≡ account_encoding b ++ y → (a ≡ b) × (x ≡ y)
unfolding account_encoding
account_unique assets a b x y h k e =
    let pairs_a = zip a.0.units a.1.units in
    let pairs_b = zip b.0.units b.1.units in
    let each_a = h.credits ∙ sym h.balances in
    let each_b = k.credits ∙ sym k.balances in
    let apart = sym (three (signed 16 a.0.money) (unsigned 8 a.1.ticks) (flat_map units_encoding pairs_a) x) ∙ e ∙ three (signed 16 b.0.money) (unsigned 8 b.1.ticks) (flat_map units_encoding pairs_b) y in
    let money = signed_unique 16 a.0.money b.0.money _ _ (omega arith) h.money k.money apart in
    let ticks = unsigned_unique 8 a.1.ticks b.1.ticks _ _ h.ticks k.ticks money.1 in
    let count = length-pairs a.0.units a.1.units each_a ∙ h.balances ∙ sym k.balances ∙ sym (length-pairs b.0.units b.1.units each_b) in
    let units = counted_unique FitUnits units_encoding units_unique pairs_a pairs_b x y h.units k.units count ticks.1 in
    let both = firsts_from a.0.units b.0.units a.1.units b.1.units each_a each_b units.0 in
    let made : ℤ → List ℤ → ℕ → List ℕ → Account × Credit = λ m u t c. (record { money = m; units = u }, record { ticks = t; units = c }) in (
      ap (λ m. made m a.0.units a.1.ticks a.1.units) money.0 ∙ ap (λ u. made b.0.money u a.1.ticks a.1.units) both.0
          ∙ ap (λ t. made b.0.money b.0.units t a.1.units) ticks.0 ∙ ap (λ c. made b.0.money b.0.units b.1.ticks c) both.1,
      units.1,
    )

-- a leg
entry_unique : (e f : Entry) (x y : List ℕ) → IsEntry e → IsEntry f → entry_encoding e ++ x ≡ entry_encoding f ++ y → (e ≡ f) × (x ≡ y)
unfolding entry_encoding
entry_unique e f x y h k same =
    let regrouped = sym (append_assoc (unsigned 2 e.asset) (signed 4 e.weight) x) ∙ same ∙ append_assoc (unsigned 2 f.asset) (signed 4 f.weight) y in
    let assets = unsigned_unique 2 e.asset f.asset _ _ h.0 k.0 regrouped in
    let weights = signed_unique 4 e.weight f.weight x y (omega arith) h.1 k.1 assets.1 in
    (same_entry e f assets.0 weights.0, weights.1)

-- an order from its parts
same_order : (o p : ReadOrder) → o.number ≡ p.number → o.account ≡ p.account → o.low ≡ p.low → o.high ≡ p.high → o.rate ≡ p.rate → o.cap ≡ p.cap → o.filled ≡ p.filled → o.last ≡ p.last → o.row ≡ p.row → o ≡ p
same_order o p number account low high rate cap filled last row =
    let made : ℕ → ℕ → ℤ → ℤ → ℕ → ℕ → ℕ → ℕ → List Entry → ReadOrder = λ n a l h q c f b r. record { number = n; account = a; low = l; high = h; rate = q; cap = c; filled = f; row = r; last = b } in
    ap (λ n. made n o.account o.low o.high o.rate o.cap o.filled o.last o.row) number
    ∙ ap (λ a. made p.number a o.low o.high o.rate o.cap o.filled o.last o.row) account
    ∙ ap (λ l. made p.number p.account l o.high o.rate o.cap o.filled o.last o.row) low
    ∙ ap (λ h. made p.number p.account p.low h o.rate o.cap o.filled o.last o.row) high
    ∙ ap (λ q. made p.number p.account p.low p.high q o.cap o.filled o.last o.row) rate
    ∙ ap (λ c. made p.number p.account p.low p.high p.rate c o.filled o.last o.row) cap
    ∙ ap (λ f. made p.number p.account p.low p.high p.rate p.cap f o.last o.row) filled
    ∙ ap (λ b. made p.number p.account p.low p.high p.rate p.cap p.filled b o.row) last
    ∙ ap (λ r. made p.number p.account p.low p.high p.rate p.cap p.filled p.last r) row

order_unique : (o p : ReadOrder) (x y : List ℕ) → FitsOrder o → FitsOrder p → order_encoding o ++ x ≡ order_encoding p ++ y → (o ≡ p) × (x ≡ y)
unfolding order_encoding
order_unique o p x y h k e =
    let apart = sym (ten (unsigned 8 o.number) (unsigned 4 o.account) (signed 8 o.low) (signed 8 o.high) (unsigned 4 o.rate) (unsigned 8 o.cap) (unsigned 8 o.filled) (unsigned 4 o.last) (unsigned 1 (length o.row)) (flat_map entry_encoding o.row) x)
    ∙ e ∙ ten (unsigned 8 p.number) (unsigned 4 p.account) (signed 8 p.low) (signed 8 p.high) (unsigned 4 p.rate) (unsigned 8 p.cap) (unsigned 8 p.filled) (unsigned 4 p.last) (unsigned 1 (length p.row)) (flat_map entry_encoding p.row) y in
    let number = unsigned_unique 8 o.number p.number _ _ h.number k.number apart in
    let account = unsigned_unique 4 o.account p.account _ _ h.account k.account number.1 in
    let low = signed_unique 8 o.low p.low _ _ (omega arith) h.low k.low account.1 in
    let high = signed_unique 8 o.high p.high _ _ (omega arith) h.high k.high low.1 in
    let rate = unsigned_unique 4 o.rate p.rate _ _ h.rate k.rate high.1 in
    let cap = unsigned_unique 8 o.cap p.cap _ _ h.cap k.cap rate.1 in
    let filled = unsigned_unique 8 o.filled p.filled _ _ h.filled k.filled cap.1 in
    let last = unsigned_unique 4 o.last p.last _ _ h.last k.last filled.1 in
    let count = unsigned_unique 1 (length o.row) (length p.row) _ _ h.count k.count last.1 in
    let row = counted_unique IsEntry entry_encoding entry_unique o.row p.row x y h.row k.row count.0 count.1 in
    (same_order o p number.0 account.0 low.0 high.0 rate.0 cap.0 filled.0 last.0 row.0, row.1)

-- the parts of a market, one after the other
tickers_unique : (v w : ℕ) (s t : List (List ℕ)) (x y : List ℕ) → IsUnsigned 1 v → IsUnsigned 1 w → IsUnsigned 2 (length s) → IsUnsigned 2 (length t) → All (λ (b : List ℕ). length b ≡ 8) s → All (λ (b : List ℕ). length b ≡ 8) t → tickers_encoding v s ++ x ≡ tickers_encoding w t ++ y → (v ≡ w) × (s ≡ t) × (x ≡ y)
unfolding tickers_encoding
tickers_unique v w s t x y in_v in_w h k in_s in_t e =
    let apart = sym (four checkpoint_magic (unsigned 1 v) (unsigned 2 (length s)) (flat_map (λ b. b) s) x) ∙ e ∙ four checkpoint_magic (unsigned 1 w) (unsigned 2 (length t)) (flat_map (λ b. b) t) y in
    let numbers = unsigned_unique 1 v w _ _ in_v in_w (after_same checkpoint_magic _ _ apart) in
    let count = unsigned_unique 2 (length s) (length t) _ _ h k numbers.1 in
    let tickers = counted_unique (λ (b : List ℕ). length b ≡ 8) (λ b. b) bytes_unique s t x y in_s in_t count.0 count.1 in
    (numbers.0, tickers.0, tickers.1)

accounts_unique : (assets : ℕ) (a b : Balances) (x y : List ℕ) → FitBalances assets a → FitBalances assets b → accounts_encoding a ++ x ≡ accounts_encoding b ++ y → (a.accounts ≡ b.accounts) × (a.credits ≡ b.credits) × (x ≡ y)
unfolding accounts_encoding
accounts_unique assets a b x y h k e =
    let pairs_a = zip a.accounts a.credits in
    let pairs_b = zip b.accounts b.credits in
    let apart = sym (append_assoc (unsigned 4 (account_count a)) (flat_map account_encoding pairs_a) x) ∙ e ∙ append_assoc (unsigned 4 (account_count b)) (flat_map account_encoding pairs_b) y in
    let count = unsigned_unique 4 (account_count a) (account_count b) _ _ h.count k.count apart in
    let many = length-pairs a.accounts a.credits h.one_each ∙ count.0 ∙ sym (length-pairs b.accounts b.credits k.one_each) in
    let accounts = counted_unique (FitsAccount assets) account_encoding (account_unique assets) pairs_a pairs_b x y h.accounts k.accounts many count.1 in
    let both = firsts_from a.accounts b.accounts a.credits b.credits h.one_each k.one_each accounts.0 in
    (both.0, both.1, accounts.1)

totals_unique : (assets : ℕ) (a b : Balances) (x y : List ℕ) → FitBalances assets a → FitBalances assets b → totals_encoding a ++ x ≡ totals_encoding b ++ y → (a.totals.money ≡ b.totals.money) × (a.totals.units ≡ b.totals.units) × (x ≡ y)
unfolding totals_encoding
totals_unique assets a b x y h k e =
    let apart = sym (append_assoc (signed 16 a.totals.money) (flat_map (signed 8) a.totals.units) x) ∙ e ∙ append_assoc (signed 16 b.totals.money) (flat_map (signed 8) b.totals.units) y in
    let money = signed_unique 16 a.totals.money b.totals.money _ _ (omega arith) h.total_money k.total_money apart in
    let units = signs_unique a.totals.units b.totals.units x y h.total_units k.total_units (h.totals ∙ sym k.totals) money.1 in
    (money.0, units.0, units.1)

exchange_unique : (assets : ℕ) (a b : Account) (x y : List ℕ) → FitsExchange assets a → FitsExchange assets b → exchange_encoding a ++ x ≡ exchange_encoding b ++ y → (a ≡ b) × (x ≡ y)
unfolding exchange_encoding
exchange_unique assets a b x y h k e =
    let apart = sym (append_assoc (signed 16 a.money) (flat_map (signed 8) a.units) x) ∙ e ∙ append_assoc (signed 16 b.money) (flat_map (signed 8) b.units) y in
    let money = signed_unique 16 a.money b.money _ _ (omega arith) h.money k.money apart in
    let units = signs_unique a.units b.units x y h.units k.units (h.balances ∙ sym k.balances) money.1 in
    let made : ℤ → List ℤ → Account = λ m u. record { money = m; units = u } in
    (ap (λ m. made m a.units) money.0 ∙ ap (λ u. made b.money u) units.0, units.1)

batches_unique : (k l b c : ℕ) (p q : List ℤ) (x y : List ℕ) → IsUnsigned 8 k → IsUnsigned 8 l → IsUnsigned 4 b → IsUnsigned 4 c → All (IsSigned 8) p → All (IsSigned 8) q → length p ≡ length q → batches_encoding k b p ++ x ≡ batches_encoding l c q ++ y → (k ≡ l) × (b ≡ c) × (p ≡ q) × (x ≡ y)
unfolding batches_encoding
batches_unique k l b c p q x y in_k in_l in_b in_c in_p in_q len e =
    let apart = sym (three (unsigned 8 k) (unsigned 4 b) (flat_map (signed 8) p) x) ∙ e ∙ three (unsigned 8 l) (unsigned 4 c) (flat_map (signed 8) q) y in
    let next = unsigned_unique 8 k l _ _ in_k in_l apart in
    let batches = unsigned_unique 4 b c _ _ in_b in_c next.1 in
    let prices = signs_unique p q x y in_p in_q len batches.1 in
    (next.0, batches.0, prices.0, prices.1)

orders_unique : (o p : List ReadOrder) (x y : List ℕ) → length o ≤ most_orders → length p ≤ most_orders → All FitsOrder o → All FitsOrder p → orders_encoding o ++ x ≡ orders_encoding p ++ y → (o ≡ p) × (x ≡ y)
unfolding orders_encoding
orders_unique o p x y h k in_o in_p e =
    let apart = sym (append_assoc (unsigned 4 (length o)) (flat_map order_encoding o) x) ∙ e ∙ append_assoc (unsigned 4 (length p)) (flat_map order_encoding p) y in
    let count = unsigned_unique 4 (length o) (length p) _ _ (omega (arith, h, orders_fit)) (omega (arith, k, orders_fit)) apart in
    counted_unique FitsOrder order_encoding order_unique o p x y in_o in_p count.0 count.1

-- all parts are equal if each is
same_parts : (m n : Parts) → m.version ≡ n.version → m.tickers ≡ n.tickers → m.balances.accounts ≡ n.balances.accounts → m.balances.credits ≡ n.balances.credits → m.balances.totals.money ≡ n.balances.totals.money → m.balances.totals.units ≡ n.balances.totals.units → m.exchange ≡ n.exchange → m.next_order ≡ n.next_order → m.batches ≡ n.batches → m.last_prices ≡ n.last_prices → m.orders ≡ n.orders → m ≡ n
same_parts m n version tickers accounts credits money units exchange next batches prices orders =
    let kept : List Account → List Credit → ℤ → List ℤ → Balances = λ a c t u. record { accounts = a; credits = c; totals = record { money = t; units = u } } in
    let same : m.balances ≡ n.balances =
    ap (λ a. kept a m.balances.credits m.balances.totals.money m.balances.totals.units) accounts
    ∙ ap (λ c. kept n.balances.accounts c m.balances.totals.money m.balances.totals.units) credits
    ∙ ap (λ t. kept n.balances.accounts n.balances.credits t m.balances.totals.units) money
    ∙ ap (λ u. kept n.balances.accounts n.balances.credits n.balances.totals.money u) units in
    let made : ℕ → List (List ℕ) → Balances → Account → List ReadOrder → ℕ → ℕ → List ℤ → Parts =
    λ v t b e o k c p. record { version = v; tickers = t; balances = b; exchange = e; orders = o; next_order = k; batches = c; last_prices = p } in
    ap (λ v. made v m.tickers m.balances m.exchange m.orders m.next_order m.batches m.last_prices) version
    ∙ ap (λ t. made n.version t m.balances m.exchange m.orders m.next_order m.batches m.last_prices) tickers
    ∙ ap (λ b. made n.version n.tickers b m.exchange m.orders m.next_order m.batches m.last_prices) same
    ∙ ap (λ e. made n.version n.tickers n.balances e m.orders m.next_order m.batches m.last_prices) exchange
    ∙ ap (λ o. made n.version n.tickers n.balances n.exchange o m.next_order m.batches m.last_prices) orders
    ∙ ap (λ k. made n.version n.tickers n.balances n.exchange n.orders k m.batches m.last_prices) next
    ∙ ap (λ c. made n.version n.tickers n.balances n.exchange n.orders n.next_order c m.last_prices) batches
    ∙ ap (λ p. made n.version n.tickers n.balances n.exchange n.orders n.next_order n.batches p) prices

six : (a b c d e f x : List ℕ) → (a ++ (b ++ (c ++ (d ++ (e ++ f))))) ++ x ≡ a ++ (b ++ (c ++ (d ++ (e ++ (f ++ x)))))
six a b c d e f x = simp append_assoc

pub parts_unique : (m n : Parts) (x y : List ℕ) → FitWidths m → FitWidths n → parts_encoding m ++ x ≡ parts_encoding n ++ y → (m ≡ n) × (x ≡ y)
unfolding parts_encoding
parts_unique m n x y h k e =
    let apart = sym (six (tickers_encoding m.version m.tickers) (accounts_encoding m.balances) (totals_encoding m.balances) (exchange_encoding m.exchange) (batches_encoding m.next_order m.batches m.last_prices) (orders_encoding m.orders) x)
    ∙ e ∙ six (tickers_encoding n.version n.tickers) (accounts_encoding n.balances) (totals_encoding n.balances) (exchange_encoding n.exchange) (batches_encoding n.next_order n.batches n.last_prices) (orders_encoding n.orders) y in
    let tickers = tickers_unique m.version n.version m.tickers n.tickers _ _ h.version k.version h.assets k.assets h.tickers k.tickers apart in
    let many : length m.tickers ≡ length n.tickers = ap length tickers.1 in
    let balances = subst (λ assets. FitBalances assets m.balances) many h.balances in
    let accounts = accounts_unique (length n.tickers) m.balances n.balances _ _ balances k.balances tickers.2 in
    let totals = totals_unique (length n.tickers) m.balances n.balances _ _ balances k.balances accounts.2 in
    let exchange = exchange_unique (length n.tickers) m.exchange n.exchange _ _ (subst (λ assets. FitsExchange assets m.exchange) many h.exchange) k.exchange totals.2 in
    let batches = batches_unique m.next_order n.next_order m.batches n.batches m.last_prices n.last_prices _ _ h.next k.next h.batches k.batches h.prices k.prices (h.price_each ∙ many ∙ sym k.price_each) exchange.1 in
    let orders = orders_unique m.orders n.orders x y h.few k.few h.orders k.orders batches.3 in
    (same_parts m n tickers.0 tickers.1 accounts.0 accounts.1 totals.0 totals.1 exchange.0 batches.0 batches.1 batches.2 orders.0, orders.1)
