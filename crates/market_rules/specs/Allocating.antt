-- Which commands may run out of memory: those that add something or hold a batch, if they aren't refused.
use Rattle.std.specs.Prelude.{None, Ok}
use Rattle.wire_records.specs.Records.{Record}
use Rattle.wire_records.specs.Commands.{Command, AddAsset, OpenAccount, Deposit, Withdraw, Place, CancelOrder, RunBatch, SetCredit}
use Rattle.wire_records.specs.Versions.{IsReadAs}
use Rattle.market_rules.specs.Market.{Market}
use Rattle.market_rules.specs.Step.{FirstRefusal}

-- a command allocates if it is accepted: it adds an asset, an account or an order, or holds a batch
abbrev pub TakesMemory : Command → Type 0
TakesMemory (AddAsset ticker) = Unit {0}
TakesMemory OpenAccount = Unit {0}
TakesMemory (Deposit account kind count) = ⊥
TakesMemory (Withdraw account kind count) = ⊥
TakesMemory (Place last request) = Unit {0}
TakesMemory (CancelOrder account number) = ⊥
TakesMemory (RunBatch budget) = Unit {0}
TakesMemory (SetCredit account kind count) = ⊥

-- a command may run out of memory: it is one that allocates, and no refusal holds
abbrev pub MayAllocate : Market → Command → Type 0
MayAllocate m command = TakesMemory command × FirstRefusal m command None

-- a record may run out of memory: in the market's version it is read as a command that may
abbrev pub RecordMayAllocate : Market → Record → Type 0
RecordMayAllocate m asked = (command : Command) × IsReadAs m.version asked (Ok command) × MayAllocate m command
