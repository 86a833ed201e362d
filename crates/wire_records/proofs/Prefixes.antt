-- Bytes that don't begin with a complete record.
use Rattle.std.proofs.Common.{◌≡◌, ◌<◌, ◌^◌, ℕ, List, ◌++◌, length, length-append, append_assoc, sym, ap, ◌∙◌, arith}
use Rattle.wire_records.specs.Records.{head, encoding, StatesLength, HasNoPrefix}
use Rattle.wire_records.proofs.Encoded.{length-head, length-encoding, head_unique}

-- fewer than five bytes hold no record
pub no_prefix-from_few : (limit : ℕ) (bytes : List ℕ) → length bytes < 5 → HasNoPrefix limit bytes
no_prefix-from_few limit bytes few r rest prefix e = omega (arith, few, ap length e, length-append (encoding r) rest, length-encoding r)

-- fewer than five bytes state no length
pub states_none-from_few : (n : ℕ) (bytes : List ℕ) → length bytes < 5 → StatesLength n bytes → ⊥
states_none-from_few n bytes few states =
    let tag = states.1 in
    let rest = states.3 in
    omega (arith, few, ap length states.4, length-append (head tag n) rest, length-head tag n)

-- a body that isn't all there is no record
pub no_prefix-from_stated : (limit tag n : ℕ) (bytes first : List ℕ) → limit < 2 ^ 32 → tag < 256 → n < 2 ^ 32 → bytes ≡ head tag n ++ first → length first < n → HasNoPrefix limit bytes
unfolding encoding
no_prefix-from_stated limit tag n bytes first small byte fits a few r rest prefix e =
    let both : head tag n ++ first ≡ head r.tag (length r.body) ++ (r.body ++ rest) =
    sym a ∙ e ∙ append_assoc (head r.tag (length r.body)) r.body rest
    in
    let heads = head_unique tag n r.tag (length r.body) first (r.body ++ rest) byte fits prefix.tag (omega (arith, prefix.body)) both in
    omega (arith, few, heads.1, ap length heads.2, length-append r.body rest)

-- a length is stated once
pub states_one : (tag n m : ℕ) (bytes first : List ℕ) → tag < 256 → n < 2 ^ 32 → bytes ≡ head tag n ++ first → StatesLength m bytes → m ≡ n
states_one tag n m bytes first byte fits a states =
    let heads = head_unique tag n states.1 m first states.3 byte fits states.2 states.0 (sym a ∙ states.4) in
    sym heads.1

-- a length above the limit begins no record
pub no_prefix-from_overlong : (limit n : ℕ) (bytes : List ℕ) → limit < 2 ^ 32 → StatesLength n bytes → limit < n → HasNoPrefix limit bytes
unfolding encoding
no_prefix-from_overlong limit n bytes small states above r rest prefix e =
    let both : head states.1 n ++ states.3 ≡ head r.tag (length r.body) ++ (r.body ++ rest) =
    sym states.4 ∙ e ∙ append_assoc (head r.tag (length r.body)) r.body rest
    in
    let heads = head_unique states.1 n r.tag (length r.body) states.3 (r.body ++ rest) states.2 states.0 prefix.tag (omega (arith, prefix.body)) both in
    omega (arith, above, heads.1, prefix.body)
