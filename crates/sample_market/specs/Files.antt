-- The commands of a sample, and its file.
use Rattle.std.specs.Prelude.{ℕ, ◌+◌, ◌^◌, List, ◌∷◌, ◌++◌, map, codes, replicate, Some, None}
use Rattle.std.specs.List.{flat_map, range_with_len}
use Rattle.wire_records.specs.Records.{encoding}
use Rattle.wire_records.specs.Formats.{command_magic_of}
use Rattle.wire_records.specs.declared.version.Version.TheVariants.{One}
use Rattle.wire_records.specs.Commands.{Command, AddAsset, OpenAccount, Deposit, RunBatch}
use Rattle.wire_records.specs.CommandRecords.{record_of}
use Rattle.sample_market.specs.Orders.{drawn_orders}

-- the command that adds the asset of a number below 10: its ticker is `A` and the number
abbrev pub new_asset : ℕ → Command
new_asset asset = AddAsset (codes "A" ++ (48 + asset) ∷ codes "      ")

-- the commands that add eight assets, A0 to A7
unfoldable pub new_assets : List Command
new_assets = map new_asset (range_with_len 0 8)

-- the commands that open 64 accounts
unfoldable pub new_accounts : List Command
new_accounts = replicate 64 OpenAccount

-- the command that deposits 2^50 units of an asset into an account
abbrev pub unit_deposit : ℕ → ℕ → Command
unit_deposit account asset = Deposit account (Some asset) (2 ^ 50)

-- the commands that deposit 2^50 units of each asset into an account
unfoldable pub unit_deposits : ℕ → List Command
unit_deposits account = map (unit_deposit account) (range_with_len 0 8)

-- the commands that deposit 2^50 ticks and 2^50 units of each asset into an account
abbrev pub deposits_of : ℕ → List Command
deposits_of account = Deposit account None (2 ^ 50) ∷ unit_deposits account

-- the deposits of all accounts, one account after the other
unfoldable pub all_deposits : List Command
all_deposits = flat_map deposits_of (range_with_len 1 64)

-- the commands that run four batches of at most 1,000 moves each
unfoldable pub batches : List Command
batches = replicate 4 (RunBatch 1000)

-- A sample: assets, accounts, deposits, so many orders that are drawn from the state `number` on, and batches.
unfoldable pub sample : ℕ → ℕ → List Command
sample number orders = new_assets ++ (new_accounts ++ (all_deposits ++ (drawn_orders orders 0 number ++ batches)))

-- the encodings of commands' records, one after the other
abbrev pub encode_commands : List Command → List ℕ
encode_commands commands = flat_map (λ command. encoding (record_of command)) commands

-- the command file of a sample, of version One
unfoldable pub sample_file : ℕ → ℕ → List ℕ
sample_file number orders = command_magic_of One ++ encode_commands (sample number orders)
