-- Commands and their replies as plain values.
use Rattle.std.specs.Prelude.{ℕ, ℤ, List, Option}
use Rattle.weight_rows.specs.declared.entries.Entry.{Entry}
use Rattle.wire_records.specs.declared.reply.Reply.{Reply}

-- the order that a command asks for, with its limits in whole ticks, its rate and its cap in whole units
pub record Request : Type 0 where
  pub account : ℕ
  pub low : ℤ
  pub high : ℤ
  pub rate : ℕ
  pub cap : ℕ
  pub row : List Entry

-- A command. Accounts, orders and batches are numbered from 1, assets from 0. Deposits, withdrawals and credits are of a kind: of money
-- (None), in ticks, or of an asset (Some), in units.
pub data Command : Type 0 where
  AddAsset : (ticker : List ℕ) → Command
  OpenAccount : Command
  Deposit : (account : ℕ) (kind : Option ℕ) (count : ℕ) → Command
  Withdraw : (account : ℕ) (kind : Option ℕ) (count : ℕ) → Command
  Place : (last : Option ℕ) (request : Request) → Command
  CancelOrder : (account number : ℕ) → Command
  RunBatch : (budget : ℕ) → Command
  SetCredit : (account : ℕ) (kind : Option ℕ) (count : ℕ) → Command

-- the reply to a command: a plain reply, or the number of a batch and its outcome, of any type
pub data Answer (O : Type 0) : Type 0 where
  Plain : (reply : Reply) → Answer O
  Batch : (number : ℕ) (outcome : O) → Answer O

-- an entry: a command, of any type, and its reply
pub record Pair (R O : Type 0) : Type 0 where
  pub asked : R
  pub answer : Answer O
