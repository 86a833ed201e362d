-- Records of commands that are written one after the other.
use Rattle.std.proofs.Common.{◌≡◌, ℕ, ◌+◌, ◌^◌, suc, List, [], ◌∷◌, ◌++◌, map, map-id, replicate, append_assoc, append-nil, refl, sym, ap, ◌∙◌, None}
use Rattle.std.specs.List.{flat_map, range_with_len}
use Rattle.std.proofs.lemmas.List.{flat_map_more, replicate_more}
use Rattle.std.proofs.lemmas.Grind.{flat_map-append}
use Rattle.std.proofs.lemmas.List.FromFn.{map-range_with_len_more}
use Rattle.wire_records.specs.Records.{encoding}
use Rattle.wire_records.specs.Formats.{command_magic_of}
use Rattle.wire_records.specs.declared.version.Version.TheVariants.{One}
use Rattle.wire_records.specs.Commands.{Command, OpenAccount, Deposit, RunBatch, Place}
use Rattle.wire_records.specs.CommandRecords.{record_of}
use Rattle.sample_market.specs.Orders.{drawn_order, drawn_orders, after_order}
use Rattle.sample_market.specs.Files.{new_asset, new_assets, new_accounts, unit_deposit, unit_deposits, deposits_of, all_deposits, batches, sample, encode_commands, sample_file}

-- the record of a command
abbrev bytes_of : Command → List ℕ
bytes_of command = encoding (record_of command)

-- a command's record is written after those of others
one_more : (file now after : List ℕ) (commands : List Command) (command : Command) → now ≡ file ++ encode_commands commands → after ≡ now ++ bytes_of command → after ≡ file ++ encode_commands (commands ++ command ∷ [])
one_more file now after commands command before one = one ∙ ap (λ xs. xs ++ bytes_of command) before ∙ flat_map_more bytes_of file commands command

-- the command of one more number is written
pub one_numbered : (file now after : List ℕ) (of : ℕ → Command) (command : Command) (a n : ℕ) → now ≡ file ++ encode_commands (map of (range_with_len a n)) → after ≡ now ++ bytes_of command → command ≡ of (a + n)
    → after ≡ file ++ encode_commands (map of (range_with_len a (n + 1)))
one_numbered file now after of command a n before one is =
    one_more file now after (map of (range_with_len a n)) (of (a + n)) before (one ∙ ap (λ (c : Command). now ++ bytes_of c) is)
    ∙ ap (λ (cs : List Command). file ++ encode_commands cs) (sym (map-range_with_len_more of a n (a + n) refl))

-- the command is written once more
pub one_again : (file now after : List ℕ) (command : Command) (n : ℕ) → now ≡ file ++ encode_commands (replicate n command) → after ≡ now ++ bytes_of command → after ≡ file ++ encode_commands (replicate (n + 1) command)
one_again file now after command n before one =
    one_more file now after (replicate n command) command before one ∙ ap (λ (cs : List Command). file ++ encode_commands cs) (replicate_more n command)

-- the encodings of two lists of commands, one after the other
pub encode_both : (first second : List Command) → encode_commands (first ++ second) ≡ encode_commands first ++ encode_commands second
encode_both first second = flat_map-append bytes_of first second

-- the next order of those that are still to be drawn
pub order_more : (whole now after : List ℕ) (command : Command) (left rest place state : ℕ) → whole ≡ now ++ encode_commands (drawn_orders left place state) → left ≡ suc rest → after ≡ now ++ bytes_of command → command ≡ Place None (drawn_order place state)
    → whole ≡ after ++ encode_commands (drawn_orders rest (place + 1) (after_order state))
order_more whole now after command left rest place state before more one is =
    before ∙ ap (λ n. now ++ encode_commands (drawn_orders n place state)) more ∙ sym (append_assoc now (bytes_of (Place None (drawn_order place state))) (encode_commands (drawn_orders rest (place + 1) (after_order state))))
    ∙ ap (λ (c : Command). (now ++ bytes_of c) ++ encode_commands (drawn_orders rest (place + 1) (after_order state))) (sym is)
    ∙ ap (λ xs. xs ++ encode_commands (drawn_orders rest (place + 1) (after_order state))) (sym one)

-- one number more
range_more : (a n : ℕ) → range_with_len a (n + 1) ≡ range_with_len a n ++ (a + n) ∷ []
range_more a n = sym (map-id _) ∙ map-range_with_len_more (λ k. k) a n (a + n) refl ∙ ap (λ xs. xs ++ (a + n) ∷ []) (map-id _)

-- the deposits of the next account
pub account_more : (file now between after : List ℕ) (account n m : ℕ) → now ≡ file ++ encode_commands (flat_map deposits_of (range_with_len 1 n)) → account ≡ 1 + n → m ≡ n + 1
    → between ≡ now ++ bytes_of (Deposit account None (2 ^ 50)) → after ≡ between ++ encode_commands (unit_deposits account) → after ≡ file ++ encode_commands (flat_map deposits_of (range_with_len 1 m))
account_more file now between after account n m before is next one units =
    let first = flat_map deposits_of (range_with_len 1 n) in
    let more : flat_map deposits_of (range_with_len 1 (n + 1)) ≡ first ++ deposits_of account =
    ap (flat_map deposits_of) (range_more 1 n) ∙ flat_map-append deposits_of (range_with_len 1 n) ((1 + n) ∷ []) ∙ ap (λ xs. first ++ xs) (append-nil (deposits_of (1 + n))) ∙ ap (λ k. first ++ deposits_of k) (sym is)
    in
    units ∙ ap (λ xs. xs ++ encode_commands (unit_deposits account)) one ∙ append_assoc now (bytes_of (Deposit account None (2 ^ 50))) (encode_commands (unit_deposits account))
    ∙ ap (λ xs. xs ++ encode_commands (deposits_of account)) before ∙ append_assoc file (encode_commands first) (encode_commands (deposits_of account))
    ∙ ap (λ xs. file ++ xs) (sym (encode_both first (deposits_of account))) ∙ ap (λ (cs : List Command). file ++ encode_commands cs) (sym more)
    ∙ ap (λ k. file ++ encode_commands (flat_map deposits_of (range_with_len 1 k))) (sym next)

-- ---- all of them

pub assets_written : (file now : List ℕ) (n : ℕ) → now ≡ file ++ encode_commands (map new_asset (range_with_len 0 n)) → n ≡ 8 → now ≡ file ++ encode_commands new_assets
unfolding new_assets
assets_written file now n before all = before ∙ ap (λ k. file ++ encode_commands (map new_asset (range_with_len 0 k))) all

pub accounts_written : (file now : List ℕ) (n : ℕ) → now ≡ file ++ encode_commands (replicate n OpenAccount) → n ≡ 64 → now ≡ file ++ encode_commands new_accounts
unfolding new_accounts
accounts_written file now n before all = before ∙ ap (λ k. file ++ encode_commands (replicate k OpenAccount)) all

pub units_written : (file now : List ℕ) (account n : ℕ) → now ≡ file ++ encode_commands (map (unit_deposit account) (range_with_len 0 n)) → n ≡ 8 → now ≡ file ++ encode_commands (unit_deposits account)
unfolding unit_deposits
units_written file now account n before all = before ∙ ap (λ k. file ++ encode_commands (map (unit_deposit account) (range_with_len 0 k))) all

pub deposits_written : (file now : List ℕ) (n : ℕ) → now ≡ file ++ encode_commands (flat_map deposits_of (range_with_len 1 n)) → n ≡ 64 → now ≡ file ++ encode_commands all_deposits
unfolding all_deposits
deposits_written file now n before all = before ∙ ap (λ k. file ++ encode_commands (flat_map deposits_of (range_with_len 1 k))) all

pub batches_written : (file now : List ℕ) (n : ℕ) → now ≡ file ++ encode_commands (replicate n (RunBatch 1000)) → n ≡ 4 → now ≡ file ++ encode_commands batches
unfolding batches
batches_written file now n before all = before ∙ ap (λ k. file ++ encode_commands (replicate k (RunBatch 1000))) all

-- no orders are left
pub orders_written : (file now : List ℕ) (orders number left place state : ℕ) → file ++ encode_commands (drawn_orders orders 0 number) ≡ now ++ encode_commands (drawn_orders left place state) → left ≡ 0 → now ≡ file ++ encode_commands (drawn_orders orders 0 number)
orders_written file now orders number left place state before none = sym (before ∙ ap (λ k. now ++ encode_commands (drawn_orders k place state)) none ∙ append-nil now)

-- the complete file
pub file_written : (magic made opened paid placed held : List ℕ) (number orders : ℕ) → magic ≡ command_magic_of One → made ≡ magic ++ encode_commands new_assets → opened ≡ made ++ encode_commands new_accounts → paid ≡ opened ++ encode_commands all_deposits
    → placed ≡ paid ++ encode_commands (drawn_orders orders 0 number) → held ≡ placed ++ encode_commands batches → held ≡ sample_file number orders
unfolding sample_file sample
file_written magic made opened paid placed held number orders begins assets accounts deposits drawn last =
    let orders_and = encode_both (drawn_orders orders 0 number) batches in
    let deposits_and = encode_both all_deposits (drawn_orders orders 0 number ++ batches) ∙ ap (λ xs. encode_commands all_deposits ++ xs) orders_and in
    let accounts_and = encode_both new_accounts (all_deposits ++ (drawn_orders orders 0 number ++ batches)) ∙ ap (λ xs. encode_commands new_accounts ++ xs) deposits_and in
    let all = encode_both new_assets (new_accounts ++ (all_deposits ++ (drawn_orders orders 0 number ++ batches))) ∙ ap (λ xs. encode_commands new_assets ++ xs) accounts_and in
    let a = encode_commands new_assets in
    let b = encode_commands new_accounts in
    let c = encode_commands all_deposits in
    let d = encode_commands (drawn_orders orders 0 number) in
    let e = encode_commands batches in
    last ∙ ap (λ xs. xs ++ e) (drawn ∙ ap (λ xs. xs ++ d) (deposits ∙ ap (λ xs. xs ++ c) (accounts ∙ ap (λ xs. xs ++ b) (assets ∙ ap (λ xs. xs ++ a) begins))))
    ∙ append_assoc (((command_magic_of One ++ a) ++ b) ++ c) d e ∙ append_assoc ((command_magic_of One ++ a) ++ b) c (d ++ e) ∙ append_assoc (command_magic_of One ++ a) b (c ++ (d ++ e)) ∙ append_assoc (command_magic_of One) a (b ++ (c ++ (d ++ e)))
    ∙ ap (λ xs. command_magic_of One ++ xs) (sym all)
