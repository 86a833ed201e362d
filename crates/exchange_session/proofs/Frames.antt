-- What the rest of a command file begins with.
use Rattle.std.proofs.Common.{◌≡◌, ◌+◌, ◌-◌, ◌<◌, ◌≤◌, ℕ, List, [], ◌++◌, length, drop, ap, length-append, arith}
use Rattle.wire_records.specs.Records.{Record, IsRecord, StatesLength, HasNoPrefix, encoding}
use Rattle.wire_records.specs.Formats.{StatesOver}
use Rattle.wire_records.proofs.Prefixes.{no_prefix-from_few, states_none-from_few, no_prefix-from_overlong}
use Rattle.wire_records.proofs.Encoded.{length-encoding}
use Rattle.journal_records.specs.Pairs.{plain_room}

-- a buffer too short for a record's entry with a plain reply has room for fewer than 1,042 bytes
pub few_room : (r : Record) (capacity len : ℕ) → IsRecord 1024 r → capacity < len + plain_room r → capacity - len < 1042
few_room r capacity len fits short = omega (arith, length-encoding r, fits.body, short)

-- a record that is a prefix of bytes leaves as many fewer, and takes five at least
pub record_within : (bytes : List ℕ) (r : Record) (taken : ℕ) → taken ≡ length (encoding r) → bytes ≡ encoding r ++ drop taken bytes → (taken ≤ length bytes) × (5 ≤ taken)
record_within bytes r taken size prefix = (omega (arith, size, ap length prefix, length-append (encoding r) (drop taken bytes)), omega (arith, size, length-encoding r))

-- no bytes begin with no record
pub no_prefix-from_none : (rest : List ℕ) → rest ≡ [] → HasNoPrefix 1024 rest
no_prefix-from_none rest e = no_prefix-from_few 1024 rest (rw e (omega arith))

-- a stated length that is too large
pub no_prefix-from_large : (n : ℕ) (rest : List ℕ) → StatesLength n rest → 1024 < n → HasNoPrefix 1024 rest
no_prefix-from_large n rest states above = no_prefix-from_overlong 1024 n rest (omega arith) states above

-- no bytes state a length
pub not_overlong-from_none : (rest : List ℕ) → rest ≡ [] → StatesOver 1024 rest → ⊥
not_overlong-from_none rest e over = states_none-from_few over.0 rest (rw e (omega arith)) over.1

-- no stated length is too large
pub not_overlong-from_stated : (rest : List ℕ) → ((n : ℕ) → StatesLength n rest → n ≤ 1024) → StatesOver 1024 rest → ⊥
not_overlong-from_stated rest small over = omega (arith, small over.0 over.1, over.2)
