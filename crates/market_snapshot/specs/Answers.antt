-- What reading a checkpoint answers.
use Rattle.std.specs.Prelude.{◌≤◌, ℕ, List, length, take, Result, Ok, Err}
use Rattle.market_rules.specs.Market.{Market}
use Rattle.market_snapshot.specs.declared.reading.SnapshotFault.{SnapshotFault}
use Rattle.market_snapshot.specs.declared.reading.SnapshotFault.TheVariants.{NotSound, Memory}
use Rattle.market_snapshot.specs.Checkpoints.{IsCheckpoint, BeginsWithNoCheckpoint}

-- reading answers a market and how many of the first bytes are its checkpoint; or that the bytes begin with no checkpoint; or that an
-- allocation failed
abbrev pub IsMarketRead : List ℕ → Result (Market × ℕ) SnapshotFault → Type 0
IsMarketRead bytes (Ok found) = IsCheckpoint found.0 (take found.1 bytes) × (found.1 ≤ length bytes)
IsMarketRead bytes (Err NotSound) = BeginsWithNoCheckpoint bytes
IsMarketRead bytes (Err Memory) = Unit {0}

-- P holds if the fault says that the bytes begin with no checkpoint
abbrev pub WhereNotSound : SnapshotFault → Type 0 → Type 0
WhereNotSound NotSound P = P
WhereNotSound Memory P = Unit {0}

-- P holds if the result is the fault that the bytes begin with no checkpoint
abbrev pub IfNotSound : {T : Type 0} → Result T SnapshotFault → Type 0 → Type 0
IfNotSound (Ok found) P = Unit {0}
IfNotSound (Err fault) P = WhereNotSound fault P
