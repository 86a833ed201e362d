-- What is drawn, draw by draw.
use Rattle.std.proofs.Common.{◌≡◌, ℕ, ◌+◌, ◌-◌, ◌*◌, ◌^◌, ◌≤◌, ◌<◌, ◌%◌, suc, ℤ, pos, neg_ℤ, ◌+ℤ◌, ◌-ℤ◌, ◌*ℤ◌, eqb, List, [], ◌∷◌, ◌++◌, length, take, get_or, append_assoc, sym, ap, ◌∙◌, to_z, of_z, w64, FitsSigned, arith}
use Rattle.std.specs.Prelude.{if◌then◌else◌, unsigned_abs}
use Rattle.std.proofs.lemmas.Int.{to_z-of_z, fits_signed_from_abs}
use Rattle.list_sums.proofs.Products.{unsigned_abs-add}
use Rattle.list_sums.proofs.SumLemmas.{int_sum_by_more}
use Rattle.weight_rows.specs.declared.entries.Entry.{Entry}
use Rattle.wire_records.specs.Commands.{Request}
use Rattle.sample_market.specs.Draws.{next_state, drawn, state_after}
use Rattle.sample_market.specs.Orders.{drawn_weight, drawn_entries, drawn_count, drawn_first, drawn_row, after_row, usual_price, drawn_middle, drawn_half, drawn_rate, drawn_turns, drawn_order, after_order}

-- a weight
pub weight_is : (state next size sold : ℕ) → size ≡ drawn 4 state → next ≡ next_state state → sold ≡ drawn 2 next → (if eqb sold 1 then neg_ℤ (pos (1 + size)) else pos (1 + size)) ≡ drawn_weight state
unfolding drawn_weight
weight_is state next size sold first following second =
    ap (λ n. if eqb sold 1 then neg_ℤ (pos (1 + n)) else pos (1 + n)) first
    ∙ ap (λ n. if eqb n 1 then neg_ℤ (pos (1 + drawn 4 state)) else pos (1 + drawn 4 state)) (second ∙ ap (drawn 2) following)

-- the first legs of a weight vector
pub row_begins : (start one two count first left : ℕ) (entries : List Entry) → count ≡ drawn 3 start → one ≡ next_state start → first ≡ drawn (9 - (1 + count)) one → two ≡ next_state one → left ≡ 1 + count → entries ≡ []
    → drawn_row start ≡ entries ++ drawn_entries left first two
unfolding drawn_row drawn_count drawn_first
row_begins start one two count first left entries counted following at later all none =
    let n : 1 + drawn 3 start ≡ left = ap (λ k. 1 + k) (sym counted) ∙ sym all in
    let f : drawn (9 - (1 + drawn 3 start)) (next_state start) ≡ first = ap (λ k. drawn (9 - (1 + k)) (next_state start)) (sym counted) ∙ ap (drawn (9 - (1 + count))) (sym following) ∙ sym at in
    ap (λ k. drawn_entries k (drawn (9 - (1 + drawn 3 start)) (next_state start)) (next_state (next_state start))) n ∙ ap (λ k. drawn_entries left k (next_state (next_state start))) f
    ∙ ap (drawn_entries left first) (ap next_state (sym following) ∙ sym later) ∙ ap (λ (xs : List Entry). xs ++ drawn_entries left first two) (sym none)

pub after_begins : (start one two count left : ℕ) → count ≡ drawn 3 start → one ≡ next_state start → two ≡ next_state one → left ≡ 1 + count → after_row start ≡ state_after (2 * left) two
unfolding after_row drawn_count
after_begins start one two count left counted following later all =
    let n : 2 + 2 * (1 + drawn 3 start) ≡ suc (suc (2 * left)) = omega (arith, counted, all) in
    ap (λ k. state_after k start) n ∙ ap (λ s. state_after (2 * left) (next_state s)) (sym following) ∙ ap (state_after (2 * left)) (sym later)

-- the leg of an asset
abbrev pub entry_of : ℕ → ℤ → Entry
entry_of asset weight = record { asset = asset; weight = weight }

-- the next leg of those that are still to be drawn
pub entry_more : (whole now after : List Entry) (entry : Entry) (left rest asset state : ℕ) → whole ≡ now ++ drawn_entries left asset state → left ≡ suc rest → after ≡ now ++ entry ∷ [] → entry ≡ record { asset = asset; weight = drawn_weight state }
    → whole ≡ after ++ drawn_entries rest (asset + 1) (state_after 2 state)
entry_more whole now after entry left rest asset state before more one is =
    let tail = drawn_entries rest (asset + 1) (state_after 2 state) in
    before ∙ ap (λ n. now ++ drawn_entries n asset state) more ∙ sym (append_assoc now ((record { asset = asset; weight = drawn_weight state }) ∷ []) tail)
    ∙ ap (λ (e : Entry). (now ++ e ∷ []) ++ tail) (sym is) ∙ ap (λ (xs : List Entry). xs ++ tail) (sym one)

-- the state after the legs that are still to be drawn
pub state_more : (following left rest state : ℕ) → following ≡ state_after (2 * left) state → left ≡ suc rest → following ≡ state_after (2 * rest) (state_after 2 state)
state_more following left rest state before more =
    let twice : 2 * left ≡ suc (suc (2 * rest)) = omega (arith, more) in
    before ∙ ap (λ n. state_after n state) twice

-- ---- the usual price
abbrev price_of : Entry → ℤ
price_of e = e.weight *ℤ pos (1000 * (e.asset + 1))

-- the sum of the first i legs' prices
pub record IsPriceTo (row : List Entry) (i : ℕ) (sum : ℤ) : Type 0 where
  pub value : sum ≡ usual_price (take i row)
  pub bound : unsigned_abs sum ≤ i * 2 ^ 57

pub price_more : (row : List Entry) (i : ℕ) (sum part : ℤ) (d : Entry) → length row ≤ 3 → i < length row → FitsSigned w64 part → IsPriceTo row i sum → part ≡ price_of (get_or row i d) → unsigned_abs part ≤ 2 ^ 57
    → IsPriceTo row (i + 1) (to_z w64 (of_z w64 (sum +ℤ to_z w64 (of_z w64 part))))
price_more row i sum part d few within part_fits before is small =
    let bound : unsigned_abs (sum +ℤ part) ≤ (i + 1) * 2 ^ 57 = omega (arith, unsigned_abs-add sum part, small, before.bound) in
    let fits : FitsSigned w64 (sum +ℤ part) = fits_signed_from_abs w64 _ (omega (arith, bound, few, within)) in
    let value : sum +ℤ part ≡ usual_price (take (i + 1) row) = rw (is, before.value) (sym (int_sum_by_more price_of row i d within)) in
    rw (to_z-of_z w64 part part_fits, to_z-of_z w64 (sum +ℤ part) fits) (record { value = value; bound = bound })

-- ---- an order
pub middle_is : (state : ℕ) (row : List Entry) (middle : ℤ) (following : ℕ) → row ≡ drawn_row state → following ≡ after_row state → middle ≡ (usual_price row +ℤ pos (drawn 41 following)) -ℤ pos 20 → middle ≡ drawn_middle state
unfolding drawn_middle
middle_is state row middle following is at value = value ∙ ap (λ (r : List Entry). (usual_price r +ℤ pos (drawn 41 following)) -ℤ pos 20) is ∙ ap (λ s. (usual_price (drawn_row state) +ℤ pos (drawn 41 s)) -ℤ pos 20) at

-- a request of the account at this place
abbrev request : ℕ → ℤ → ℤ → ℕ → ℕ → List Entry → Request
request place low high rate cap row = record { account = 1 + place % 64; low = low; high = high; rate = rate; cap = cap; row = row }

pub order_is : (place state : ℕ) (row : List Entry) (middle low high : ℤ) (following s1 s2 s3 half rate turns : ℕ) → row ≡ drawn_row state → following ≡ after_row state → middle ≡ (usual_price row +ℤ pos (drawn 41 following)) -ℤ pos 20 → s1 ≡ next_state following
    → half ≡ drawn 50 s1 → s2 ≡ next_state s1 → rate ≡ drawn 1000 s2 → s3 ≡ next_state s2 → turns ≡ drawn 20 s3 → low ≡ middle -ℤ pos (1 + half) → high ≡ middle +ℤ pos (1 + half)
    → request place low high (1 + rate) ((1 + rate) * (1 + turns)) row ≡ drawn_order place state
unfolding drawn_half drawn_rate drawn_turns
order_is place state row middle low high following s1 s2 s3 half rate turns row_is at value one is_half two is_rate three is_turns is_low is_high =
    let first : s1 ≡ state_after 1 (after_row state) = one ∙ ap next_state at in
    let second : s2 ≡ state_after 2 (after_row state) = two ∙ ap next_state first in
    let third : s3 ≡ state_after 3 (after_row state) = three ∙ ap next_state second in
    let m = middle_is state row middle following row_is at value in
    let h : 1 + half ≡ drawn_half state = ap (λ n. 1 + n) (is_half ∙ ap (drawn 50) first) in
    let r : 1 + rate ≡ drawn_rate state = ap (λ n. 1 + n) (is_rate ∙ ap (drawn 1000) second) in
    let t : 1 + turns ≡ drawn_turns state = ap (λ n. 1 + n) (is_turns ∙ ap (drawn 20) third) in
    let l : low ≡ drawn_middle state -ℤ pos (drawn_half state) = is_low ∙ ap (λ x. x -ℤ pos (1 + half)) m ∙ ap (λ n. drawn_middle state -ℤ pos n) h in
    let u : high ≡ drawn_middle state +ℤ pos (drawn_half state) = is_high ∙ ap (λ x. x +ℤ pos (1 + half)) m ∙ ap (λ n. drawn_middle state +ℤ pos n) h in
    ap (λ x. request place x high (1 + rate) ((1 + rate) * (1 + turns)) row) l ∙ ap (λ x. request place (drawn_middle state -ℤ pos (drawn_half state)) x (1 + rate) ((1 + rate) * (1 + turns)) row) u
    ∙ ap (λ n. request place (drawn_middle state -ℤ pos (drawn_half state)) (drawn_middle state +ℤ pos (drawn_half state)) n (n * (1 + turns)) row) r
    ∙ ap (λ n. request place (drawn_middle state -ℤ pos (drawn_half state)) (drawn_middle state +ℤ pos (drawn_half state)) (drawn_rate state) (drawn_rate state * n) row) t
    ∙ ap (λ (x : List Entry). request place (drawn_middle state -ℤ pos (drawn_half state)) (drawn_middle state +ℤ pos (drawn_half state)) (drawn_rate state) (drawn_rate state * drawn_turns state) x) row_is

pub after_is : (state following s1 s2 s3 s4 : ℕ) → following ≡ after_row state → s1 ≡ next_state following → s2 ≡ next_state s1 → s3 ≡ next_state s2 → s4 ≡ next_state s3 → s4 ≡ after_order state
unfolding after_order
after_is state following s1 s2 s3 s4 at one two three four = four ∙ ap next_state (three ∙ ap next_state (two ∙ ap next_state (one ∙ ap next_state at)))
