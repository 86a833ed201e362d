-- How many bytes a sample's file has.
use Rattle.std.proofs.Common.{ℕ, zero, suc, ◌^◌, ◌+◌, ◌*◌, ◌≤◌, List, [], ◌∷◌, ◌++◌, map, length, replicate, ap, length-append, arith, None}
use Rattle.std.specs.Prelude.{All}
use Rattle.std.specs.List.{flat_map, range_with_len}
use Rattle.std.proofs.lemmas.List.{length-replicate}
use Rattle.std.proofs.lemmas.List.FromFn.{length-map-range_with_len}
use Rattle.std.proofs.lemmas.List.Elements.{All-head, All-tail, All-map, All-replicate}
use Rattle.wire_fields.specs.Numbers.{unsigned}
use Rattle.wire_fields.proofs.Encoding.{length-unsigned}
use Rattle.wire_records.specs.Records.{encoding}
use Rattle.wire_records.specs.Formats.{command_magic_of}
use Rattle.wire_records.specs.declared.version.Version.TheVariants.{One}
use Rattle.wire_records.specs.Commands.{Command, OpenAccount, Deposit, RunBatch, Place}
use Rattle.wire_records.specs.CommandRecords.{record_of}
use Rattle.wire_records.specs.Bodies.{body_encoding}
use Rattle.wire_records.proofs.FieldForms.{body_is_plain}
use Rattle.wire_records.proofs.Encoded.{length-encoding}
use Rattle.wire_records.proofs.Requests.{request_size}
use Rattle.sample_market.specs.Orders.{drawn_order, drawn_orders, after_order}
use Rattle.sample_market.specs.Files.{new_asset, new_assets, new_accounts, unit_deposit, unit_deposits, deposits_of, all_deposits, batches, sample, encode_commands, sample_file}
use Rattle.sample_market.specs.Laws.{SamplesAreShort}
use Rattle.sample_market.proofs.Written.{encode_both}
use Rattle.sample_market.proofs.Lawful.{row_small, range_below}

abbrev size_of : Command → ℕ
size_of command = length (encoding (record_of command))

-- records of at most so many bytes
bytes_few : (most : ℕ) (commands : List Command) → All (λ c. size_of c ≤ most) commands → length (encode_commands commands) ≤ most * length commands
bytes_few most [] few = omega arith
bytes_few most (c ∷ commands) few =
    let P : Command → Type 0 = λ c. size_of c ≤ most in
    omega (arith, length-append (encoding (record_of c)) (encode_commands commands), All-head P c commands few, bytes_few most commands (All-tail P c commands few))

asset_size : (asset : ℕ) → size_of (new_asset asset) ≤ 13
unfolding body_encoding
asset_size asset = omega (arith, length-encoding (record_of (new_asset asset)), ap length (body_is_plain (new_asset asset)))

account_size : size_of OpenAccount ≤ 5
unfolding body_encoding
account_size = omega (arith, length-encoding (record_of OpenAccount), ap length (body_is_plain OpenAccount))

money_size : (account ticks : ℕ) → size_of (Deposit account None ticks) ≤ 17
unfolding body_encoding
money_size account ticks = omega (arith, length-encoding (record_of (Deposit account None ticks)), ap length (body_is_plain (Deposit account None ticks)), length-append (unsigned 4 account) (unsigned 8 ticks), length-unsigned 4 account, length-unsigned 8 ticks)

units_size : (account asset : ℕ) → size_of (unit_deposit account asset) ≤ 19
unfolding body_encoding
units_size account asset =
    omega (arith, length-encoding (record_of (unit_deposit account asset)), ap length (body_is_plain (unit_deposit account asset)), length-append (unsigned 4 account) (unsigned 2 asset ++ unsigned 8 (2 ^ 50)), length-append (unsigned 2 asset) (unsigned 8 (2 ^ 50)), length-unsigned 4 account, length-unsigned 2 asset, length-unsigned 8 (2 ^ 50))

batch_size : size_of (RunBatch 1000) ≤ 9
unfolding body_encoding
batch_size = omega (arith, length-encoding (record_of (RunBatch 1000)), ap length (body_is_plain (RunBatch 1000)), length-unsigned 4 1000)

order_size : (place x : ℕ) → size_of (Place None (drawn_order place x)) ≤ 56
unfolding body_encoding
order_size place x = omega (arith, length-encoding (record_of (Place None (drawn_order place x))), ap length (body_is_plain (Place None (drawn_order place x))), request_size (drawn_order place x), (row_small x).1)

-- ---- all of them
assets_few : length (encode_commands new_assets) ≤ 104
unfolding new_assets
assets_few =
    let few = bytes_few 13 (map new_asset (range_with_len 0 8)) (All-map (λ c. size_of c ≤ 13) new_asset (range_with_len 0 8) (range_below (λ k. size_of (new_asset k) ≤ 13) 0 8 (λ k below. asset_size k))) in
    omega (arith, few, length-map-range_with_len new_asset 0 8)

accounts_few : length (encode_commands new_accounts) ≤ 320
unfolding new_accounts
accounts_few = omega (arith, bytes_few 5 (replicate 64 OpenAccount) (All-replicate (λ c. size_of c ≤ 5) 64 OpenAccount account_size), length-replicate 64 OpenAccount)

batches_few : length (encode_commands batches) ≤ 36
unfolding batches
batches_few = omega (arith, bytes_few 9 (replicate 4 (RunBatch 1000)) (All-replicate (λ c. size_of c ≤ 9) 4 (RunBatch 1000) batch_size), length-replicate 4 (RunBatch 1000))

deposits_few : (account : ℕ) → length (encode_commands (deposits_of account)) ≤ 169
unfolding unit_deposits
deposits_few account =
    let units = map (unit_deposit account) (range_with_len 0 8) in
    let few = bytes_few 19 units (All-map (λ c. size_of c ≤ 19) (unit_deposit account) (range_with_len 0 8) (range_below (λ k. size_of (unit_deposit account k) ≤ 19) 0 8 (λ k below. units_size account k))) in
    omega (arith, few, length-map-range_with_len (unit_deposit account) 0 8, money_size account (2 ^ 50), length-append (encoding (record_of (Deposit account None (2 ^ 50)))) (encode_commands units))

each_few : (a n : ℕ) → length (encode_commands (flat_map deposits_of (range_with_len a n))) ≤ 169 * n
each_few a zero = omega arith
each_few a (suc n) =
    let rest = flat_map deposits_of (range_with_len (a + 1) n) in
    omega (arith, ap length (encode_both (deposits_of a) rest), length-append (encode_commands (deposits_of a)) (encode_commands rest), deposits_few a, each_few (a + 1) n)

all_deposits_few : length (encode_commands all_deposits) ≤ 10816
unfolding all_deposits
all_deposits_few = each_few 1 64

orders_few : (n place x : ℕ) → length (encode_commands (drawn_orders n place x)) ≤ 56 * n
orders_few zero place x = omega arith
orders_few (suc n) place x =
    omega (arith, length-append (encoding (record_of (Place None (drawn_order place x)))) (encode_commands (drawn_orders n (place + 1) (after_order x))), order_size place x, orders_few n (place + 1) (after_order x))

pub samples_are_short : SamplesAreShort
unfolding sample_file sample
samples_are_short number orders =
    let drawn = drawn_orders orders 0 number in
    let a = encode_both new_assets (new_accounts ++ (all_deposits ++ (drawn ++ batches))) in
    let b = encode_both new_accounts (all_deposits ++ (drawn ++ batches)) in
    let c = encode_both all_deposits (drawn ++ batches) in
    let d = encode_both drawn batches in
    let size = λ (x : List Command) (y : List Command). length-append (encode_commands x) (encode_commands y) in
    omega (
      arith,
      ap length a,
      ap length b,
      ap length c,
      ap length d,
      size new_assets (new_accounts ++ (all_deposits ++ (drawn ++ batches))),
      size new_accounts (all_deposits ++ (drawn ++ batches)),
      size all_deposits (drawn ++ batches),
      size drawn batches,
      length-append (command_magic_of One) (encode_commands (new_assets ++ (new_accounts ++ (all_deposits ++ (drawn ++ batches))))),
      assets_few,
      accounts_few,
      all_deposits_few,
      orders_few orders 0 number,
      batches_few,
    )
