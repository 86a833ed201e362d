-- The commands of a sample are lawful, and their records short.
use Rattle.std.proofs.Common.{◌≡◌, ℕ, zero, suc, ◌+◌, ◌-◌, ◌*◌, ◌^◌, ◌<◌, ◌≤◌, ℤ, pos, neg_ℤ, ◌+ℤ◌, ◌-ℤ◌, ◌*ℤ◌, Bool, true, false, eqb, List, ◌∷◌, ◌++◌, length, get_or, codes, refl, w32, w64, arith, None}
use Rattle.std.specs.Prelude.{if◌then◌else◌, unsigned_abs, All}
use Rattle.std.specs.List.{flat_map, range_with_len}
use Rattle.std.proofs.Math.Nat.{mod-lt, mul-le-mul}
use Rattle.std.proofs.lemmas.Nat.{mod_below}
use Rattle.std.proofs.lemmas.Int.{ints, fits_signed_from_abs}
use Rattle.std.proofs.lemmas.List.Elements.{All-nil, All-cons, All-append, All-map, All-replicate}
use Rattle.list_sums.proofs.Products.{unsigned_abs-mul_le}
use Rattle.list_sums.proofs.SumLemmas.{unsigned_abs-int_sum_by}
use Rattle.wire_fields.specs.Numbers.{IsSigned}
use Rattle.wire_fields.proofs.Encoding.{IsSigned-from_fits}
use Rattle.weight_rows.specs.declared.entries.Entry.{Entry}
use Rattle.wire_records.specs.Records.{AreBytes}
use Rattle.wire_records.specs.Commands.{OpenAccount, Deposit, Place, RunBatch}
use Rattle.wire_records.specs.Bodies.{IsEntry}
use Rattle.wire_records.proofs.FieldForms.{command_fits}
use Rattle.sample_market.specs.Draws.{next_state, drawn, state_after}
use Rattle.sample_market.specs.Orders.{drawn_weight, drawn_entries, drawn_count, drawn_first, drawn_row, after_row, usual_price, drawn_middle, drawn_half, drawn_rate, drawn_turns, drawn_order, drawn_orders, after_order}
use Rattle.sample_market.specs.Files.{new_asset, new_assets, new_accounts, unit_deposit, unit_deposits, deposits_of, all_deposits, batches, sample}
use Rattle.sample_market.specs.Laws.{IsLawful}

-- ---- what is drawn is small
drawn_below : (end x : ℕ) → 0 < end → drawn end x < end
unfolding drawn
drawn_below end x some = mod-lt _ some

weight_small : (x : ℕ) → unsigned_abs (drawn_weight x) ≤ 4
unfolding drawn_weight
weight_small x = by_sign (eqb (drawn 2 (next_state x)) 1) (1 + drawn 4 x) (omega (arith, drawn_below 4 x (omega arith)))
  where
    by_sign : (sold : Bool) (size : ℕ) → size ≤ 4 → unsigned_abs (if sold then neg_ℤ (pos size) else pos size) ≤ 4
    by_sign true size few = omega (arith, ints, few)
    by_sign false size few = omega (arith, ints, few)

-- a leg of one of the eight assets, with a small weight
pub record IsSmall (e : Entry) : Type 0 where
  pub asset : e.asset < 8
  pub weight : unsigned_abs e.weight ≤ 4

entries_small : (n asset x : ℕ) → asset + n ≤ 8 → All IsSmall (drawn_entries n asset x) × (length (drawn_entries n asset x) ≡ n)
entries_small zero asset x few = (All-nil IsSmall, refl)
entries_small (suc n) asset x few =
    let rest = entries_small n (asset + 1) (state_after 2 x) (omega (arith, few)) in
    (All-cons IsSmall _ _ (record { asset = omega (arith, few); weight = weight_small x }) rest.0, omega (arith, rest.1))

pub row_small : (x : ℕ) → All IsSmall (drawn_row x) × (length (drawn_row x) ≤ 3)
unfolding drawn_row drawn_count drawn_first
row_small x =
    let count = drawn_below 3 x (omega arith) in
    let first = drawn_below (9 - (1 + drawn 3 x)) (next_state x) (omega (arith, count)) in
    let small = entries_small (1 + drawn 3 x) (drawn (9 - (1 + drawn 3 x)) (next_state x)) (state_after 2 x) (omega (arith, count, first)) in
    (small.0, omega (arith, small.1, count))

price_small : (e : Entry) → IsSmall e → unsigned_abs (e.weight *ℤ pos (1000 * (e.asset + 1))) ≤ 32000
price_small e small = unsigned_abs-mul_le e.weight (pos (1000 * (e.asset + 1))) 4 8000 small.weight (omega (arith, ints, small.asset))

usual_small : (row : List Entry) → All IsSmall row → length row ≤ 3 → unsigned_abs (usual_price row) ≤ 96000
usual_small row small few =
    omega (arith, unsigned_abs-int_sum_by (λ (e : Entry). e.weight *ℤ pos (1000 * (e.asset + 1))) 32000 row (λ k d within. price_small (get_or row k d) (small k d within)), few)

middle_small : (x : ℕ) → unsigned_abs (drawn_middle x) ≤ 96040
unfolding drawn_middle
middle_small x =
    let row = row_small x in
    omega (arith, ints, usual_small (drawn_row x) row.0 row.1, drawn_below 41 (after_row x) (omega arith))

half_small : (x : ℕ) → drawn_half x ≤ 50
unfolding drawn_half
half_small x = omega (arith, drawn_below 50 (state_after 1 (after_row x)) (omega arith))

rate_small : (x : ℕ) → drawn_rate x ≤ 1000
unfolding drawn_rate
rate_small x = omega (arith, drawn_below 1000 (state_after 2 (after_row x)) (omega arith))

turns_small : (x : ℕ) → drawn_turns x ≤ 20
unfolding drawn_turns
turns_small x = omega (arith, drawn_below 20 (state_after 3 (after_row x)) (omega arith))

-- ---- each command is lawful
signed_small : (z : ℤ) → unsigned_abs z ≤ 100000 → IsSigned 8 z
signed_small z small = IsSigned-from_fits 8 w64 refl z (fits_signed_from_abs w64 z (omega (arith, small)))

entry_fits : (e : Entry) → IsSmall e → IsEntry e
entry_fits e small = (omega (arith, small.asset), IsSigned-from_fits 4 w32 refl e.weight (fits_signed_from_abs w32 e.weight (omega (arith, small.weight))))

order_lawful : (place x : ℕ) → IsLawful (Place None (drawn_order place x))
order_lawful place x =
    let row = row_small x in
    let middle = middle_small x in
    let half = half_small x in
    let turn = mod_below place 64 (omega arith) in
    let cap : drawn_rate x * drawn_turns x ≤ 1000 * 20 = mul-le-mul (rate_small x) (turns_small x) in
    record {
      fits = command_fits (Place None (drawn_order place x)) (record {
        account = omega (arith, turn);
        low = signed_small (drawn_middle x -ℤ pos (drawn_half x)) (omega (arith, ints, middle, half));
        high = signed_small (drawn_middle x +ℤ pos (drawn_half x)) (omega (arith, ints, middle, half));
        rate = omega (arith, rate_small x);
        cap = omega (arith, cap);
        count = omega (arith, row.1);
        row = λ k d within. entry_fits (get_or (drawn_row x) k d) (row.0 k d within);
      });
      short = omega (arith, row.1);
      own = (omega arith, omega arith);
    }

orders_lawful : (n place x : ℕ) → All IsLawful (drawn_orders n place x)
orders_lawful zero place x = All-nil IsLawful
orders_lawful (suc n) place x = All-cons IsLawful _ _ (order_lawful place x) (orders_lawful n (place + 1) (after_order x))

asset_lawful : (asset : ℕ) → asset < 8 → IsLawful (new_asset asset)
asset_lawful asset few =
    let byte : ℕ → Type 0 = λ b. b < 256 in
    let spaces : AreBytes (codes "      ") = All-replicate byte 6 32 (omega arith) in
    let bytes : AreBytes (codes "A" ++ (48 + asset) ∷ codes "      ") = All-cons byte 65 ((48 + asset) ∷ codes "      ") (omega arith) (All-cons byte (48 + asset) (codes "      ") (omega (arith, few)) spaces) in
    record { fits = command_fits (new_asset asset) (refl, bytes); short = tt; own = (omega arith, omega arith) }

-- numbers of a range are below its end
pub range_below : (P : ℕ → Type 0) (a n : ℕ) → ((k : ℕ) → k < a + n → P k) → All P (range_with_len a n)
range_below P a zero each = All-nil P
range_below P a (suc n) each = All-cons P a (range_with_len (a + 1) n) (each a (omega arith)) (range_below P (a + 1) n (λ k below. each k (omega (arith, below))))

assets_lawful : All IsLawful new_assets
unfolding new_assets
assets_lawful = All-map IsLawful new_asset (range_with_len 0 8) (range_below (λ k. IsLawful (new_asset k)) 0 8 (λ k below. asset_lawful k below))

accounts_lawful : All IsLawful new_accounts
unfolding new_accounts
accounts_lawful = All-replicate IsLawful 64 OpenAccount (record { fits = command_fits OpenAccount tt; short = tt; own = (omega arith, omega arith) })

batches_lawful : All IsLawful batches
unfolding batches
batches_lawful = All-replicate IsLawful 4 (RunBatch 1000) (record { fits = command_fits (RunBatch 1000) (omega arith); short = tt; own = (omega arith, omega arith) })

units_lawful : (account : ℕ) → account < 65 → All IsLawful (unit_deposits account)
unfolding unit_deposits
units_lawful account few =
    All-map IsLawful (unit_deposit account) (range_with_len 0 8)
    (range_below (λ k. IsLawful (unit_deposit account k)) 0 8 (λ k below. record { fits = command_fits (unit_deposit account k) (omega (arith, few), omega (arith, below), omega arith); short = tt; own = (omega arith, omega arith) }))

deposits_lawful : (account : ℕ) → account < 65 → All IsLawful (deposits_of account)
deposits_lawful account few =
    All-cons IsLawful (Deposit account None (2 ^ 50)) (unit_deposits account) (record { fits = command_fits (Deposit account None (2 ^ 50)) (omega (arith, few), omega arith); short = tt; own = (omega arith, omega arith) }) (units_lawful account few)

each_lawful : (a n : ℕ) → a + n ≤ 65 → All IsLawful (flat_map deposits_of (range_with_len a n))
each_lawful a zero few = All-nil IsLawful
each_lawful a (suc n) few = All-append IsLawful (deposits_of a) (flat_map deposits_of (range_with_len (a + 1) n)) (deposits_lawful a (omega (arith, few))) (each_lawful (a + 1) n (omega (arith, few)))

all_deposits_lawful : All IsLawful all_deposits
unfolding all_deposits
all_deposits_lawful = each_lawful 1 64 (omega arith)

pub sample_lawful : (number orders : ℕ) → All IsLawful (sample number orders)
unfolding sample
sample_lawful number orders =
    let drawn_and = All-append IsLawful (drawn_orders orders 0 number) batches (orders_lawful orders 0 number) batches_lawful in
    let deposits_and = All-append IsLawful all_deposits _ all_deposits_lawful drawn_and in
    All-append IsLawful new_assets _ assets_lawful (All-append IsLawful new_accounts _ accounts_lawful deposits_and)
