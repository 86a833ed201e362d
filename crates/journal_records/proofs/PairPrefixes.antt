-- Entries that bytes begin with.
use Rattle.std.proofs.Common.{◌≡◌, ◌≢◌, ◌<◌, ◌≤◌, ◌^◌, ℕ, List, [], ◌++◌, inl, inr, length, append_assoc, sym, ap, ◌∙◌, subst, arith}
use Rattle.wire_records.specs.Records.{Record, IsRecord, encoding, StatesLength, HasNoPrefix}
use Rattle.wire_records.specs.Grammars.{BeginsWithNone, both}
use Rattle.wire_records.specs.Formats.{records, StatesOver, EitherStatesOver}
use Rattle.wire_records.proofs.Prefixes.{no_prefix-from_few, no_prefix-from_overlong, states_none-from_few}
use Rattle.wire_records.proofs.Encoded.{encoding_unique}

-- bytes that begin with no record begin with no entry
pub no_pair-from_first : (limit next : ℕ) (bytes : List ℕ) → HasNoPrefix limit bytes → BeginsWithNone (both (records limit) (records next)) bytes
no_pair-from_first limit next bytes none pair rest lawful e =
    none pair.0 (encoding pair.1 ++ rest) lawful.0 (e ∙ append_assoc (encoding pair.0) (encoding pair.1) rest)

-- bytes with no record after the first one begin with no entry
pub no_pair-from_second : (limit next : ℕ) (bytes left : List ℕ) (first : Record) → limit < 2 ^ 32 → IsRecord limit first → bytes ≡ encoding first ++ left → HasNoPrefix next left → BeginsWithNone (both (records limit) (records next)) bytes
no_pair-from_second limit next bytes left first small lawful whole none pair rest both_lawful e =
    let one = encoding_unique limit first pair.0 left (encoding pair.1 ++ rest) small lawful both_lawful.0 (sym whole ∙ e ∙ append_assoc (encoding pair.0) (encoding pair.1) rest) in
    none pair.1 rest both_lawful.1 one.1

-- no bytes hold no record
pub no_prefix-from_none : (limit : ℕ) (bytes : List ℕ) → bytes ≡ [] → HasNoPrefix limit bytes
no_prefix-from_none limit bytes none = no_prefix-from_few limit bytes (omega (arith, ap length none))

-- bytes that state a length are some
pub some-from_stated : (n : ℕ) (bytes : List ℕ) → StatesLength n bytes → bytes ≢ []
some-from_stated n bytes states none = states_none-from_few n bytes (omega (arith, ap length none)) states

-- bytes that begin with a record are some
pub some-from_prefix : (limit : ℕ) (bytes left : List ℕ) (first : Record) → IsRecord limit first → bytes ≡ encoding first ++ left → bytes ≢ []
some-from_prefix limit bytes left first lawful whole none = no_prefix-from_none limit bytes none first left lawful whole

-- no bytes state no length above a limit
pub none_over : (limit : ℕ) (bytes : List ℕ) → bytes ≡ [] → ¬ StatesOver limit bytes
none_over limit bytes none over = some-from_stated over.0 bytes over.1 none

-- bytes that begin with a complete record state no length above the limit
pub whole_not_over : (limit : ℕ) (bytes left : List ℕ) (first : Record) → limit < 2 ^ 32 → IsRecord limit first → bytes ≡ encoding first ++ left → ¬ StatesOver limit bytes
whole_not_over limit bytes left first small lawful whole over =
    no_prefix-from_overlong limit over.0 bytes small over.1 over.2 first left lawful whole

-- bytes that state no length above the limit don't state one over it
pub short_not_over : (limit : ℕ) (bytes : List ℕ) → ((n : ℕ) → StatesLength n bytes → n ≤ limit) → ¬ StatesOver limit bytes
short_not_over limit bytes within over = omega (arith, over.2, within over.0 over.1)

-- if the first record is neither complete nor too long, no record is too long
pub neither_over : (limit next : ℕ) (bytes : List ℕ) → HasNoPrefix limit bytes → (¬ StatesOver limit bytes) → ¬ EitherStatesOver limit next bytes
neither_over limit next bytes none short (inl over) = short over
neither_over limit next bytes none short (inr later) = none later.0 later.1 later.2.0 later.2.1

-- after a complete record, the bytes after it decide
pub over_after : (limit next : ℕ) (bytes left : List ℕ) (first : Record) → limit < 2 ^ 32 → IsRecord limit first → bytes ≡ encoding first ++ left → EitherStatesOver limit next bytes → StatesOver next left
over_after limit next bytes left first small lawful whole (inl over) = absurd (whole_not_over limit bytes left first small lawful whole over)
over_after limit next bytes left first small lawful whole (inr later) =
    let one = encoding_unique limit first later.0 left later.1 small lawful later.2.0 (sym whole ∙ later.2.1) in
    subst (StatesOver next) (sym one.1) later.3

-- a complete record and none after it are some bytes and no entry
pub broken_after : (limit next : ℕ) (bytes left : List ℕ) (first : Record) → limit < 2 ^ 32 → IsRecord limit first → bytes ≡ encoding first ++ left → HasNoPrefix next left → (bytes ≢ []) × BeginsWithNone (both (records limit) (records next)) bytes
broken_after limit next bytes left first small lawful whole none =
    (some-from_prefix limit bytes left first lawful whole, no_pair-from_second limit next bytes left first small lawful whole none)
