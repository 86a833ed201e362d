-- The whole numbers of a value that was read are within 64 bits.
use Rattle.std.proofs.Common.{◌≡◌, ℕ, pos, ◌<◌, ◌≤◌, ◌^◌, Bool, true, false, List, Option, Some, None, option_map, refl, ap, subst, arith, ltb-true}
use Rattle.std.specs.Prelude.{option_and_then, unwrap_or, ◌≤ℤ◌, ◌<ℤ◌, neg_ℤ, nat_lt, nat_le, if◌then◌else◌, ◌&&◌, slice_index, drop, ⊤, ◌==◌}
use Rattle.std.proofs.Common.{Ordering, leb-true, Less, Equal, Greater}
use Rattle.std.specs.Ordering.{nat_cmp, match_ordering}
use Rattle.std.proofs.lemmas.Int.{ints}
use Rattle.std.specs.Cmp.Lexicographic.{slice_cmp}
use Rattle.std.specs.Float.{binary64, float_is_finite}
use Rattle.fast_float.specs.Text.{minus, Parts, scan, digits_of, nearest, with_sign}
use Rattle.json.specs.Json as json
use Rattle.json.specs.Lex.{tokens}
use Rattle.serde_json.specs.Data.{Num, unsigned, negative, float, Data, null, boolean, number, string, array, object, Members, no_members, member, put}
use Rattle.serde_json.specs.Read.{number_of, number_from, float_of, is_integer, of_json, of_items, of_members, read}

-- a whole number is within 64 bits, with or without a sign
abbrev pub IsNum : Num → Type 0
IsNum (unsigned n) = n < 2 ^ 64
IsNum (negative z) = (neg_ℤ (pos (2 ^ 63)) ≤ℤ z) × (z <ℤ pos (2 ^ 63))
IsNum (float x) = ⊤

-- two equal answers hold the same number
num_is : (a b : Num) → Some a ≡ Some b → a ≡ b
num_is a b is = ap (λ o. unwrap_or o (unsigned 0)) is

-- a float fits
floats : (sign : Bool) (p : Parts) (n : Num) → float_of sign p ≡ Some n → IsNum n
floats sign p n is = by (float_is_finite (nearest binary64 sign p)) is
  where
    by : (finite : Bool) → (if finite then Some (float (nearest binary64 sign p)) else None) ≡ Some n → IsNum n
    by true e = subst IsNum (num_is (float (nearest binary64 sign p)) n e) tt
    by false e = absurd (cc)

-- a number without a sign fits
plain : (p : Parts) (n : Num) → number_from false p ≡ Some n → IsNum n
plain p n is = by (is_integer p) (nat_lt (digits_of p) (2 ^ 64)) refl is
  where
    by : (whole small : Bool) → nat_lt (digits_of p) (2 ^ 64) ≡ small → (if whole && small then Some (unsigned (digits_of p)) else float_of false p) ≡ Some n → IsNum n
    by true true e eq = subst IsNum (num_is (unsigned (digits_of p)) n eq) (ltb-true (digits_of p) (2 ^ 64) e)
    by true false e eq = floats false p n eq
    by false small e eq = floats false p n eq

-- a number with a sign fits
signed : (p : Parts) (n : Num) → number_from true p ≡ Some n → IsNum n
signed p n is = by (is_integer p) (nat_lt 0 (digits_of p)) (nat_le (digits_of p) (2 ^ 63)) refl is
  where
    by : (whole some small : Bool) → nat_le (digits_of p) (2 ^ 63) ≡ small → (if whole && some && small then Some (negative (with_sign true (digits_of p))) else float_of true p) ≡ Some n → IsNum n
    by true true true e eq =
        let small : digits_of p ≤ 2 ^ 63 = leb-true (digits_of p) (2 ^ 63) e in
        subst IsNum (num_is (negative (with_sign true (digits_of p))) n eq) (omega (arith, ints, small), omega (arith, ints, small))
    by true true false e eq = floats true p n eq
    by true false small e eq = floats true p n eq
    by false some small e eq = floats true p n eq

-- a number that is read fits
pub number_fits : (s : List ℕ) (n : Num) → number_of s ≡ Some n → IsNum n
unfolding number_of
number_fits s n is = by (slice_index s 0 == minus) is
  where
    by : (sign : Bool) → (if sign then number_from true (scan (drop 1 s)) else number_from false (scan s)) ≡ Some n → IsNum n
    by true e = signed (scan (drop 1 s)) n e
    by false e = plain (scan s) n e

-- every number in a value fits
abbrev mutual
  pub Fits : Data → Type 0
  Fits null = ⊤
  Fits (boolean b) = ⊤
  Fits (number n) = IsNum n
  Fits (string s) = ⊤
  Fits (array ds) = ⊤
  Fits (object ms) = MembersFit ms

  pub MembersFit : Members → Type 0
  MembersFit no_members = ⊤
  MembersFit (member k d ms) = Fits d × MembersFit ms

-- members with one more
put_fits : (k : List ℕ) (d : Data) (ms : Members) → Fits d → MembersFit ms → MembersFit (put k d ms)
put_fits k d no_members f h = (f, tt)
put_fits k d (member l e ms) f h = by (put_fits k d ms f h.1) (slice_cmp nat_cmp k l)
  where
    by : MembersFit (put k d ms) → (o : Ordering) → MembersFit (match_ordering o (member k d (member l e ms)) (member l d ms) (member l e (put k d ms)))
    by again Less = (f, h)
    by again Equal = (f, h.1)
    by again Greater = (h.0, again)

data_is : (a b : Data) → Some a ≡ Some b → a ≡ b
data_is a b is = ap (λ o. unwrap_or o null) is

-- a value that is made of what was read
mapped : {A : Type 0} (f : A → Data) (o : Option A) (d : Data) → ((a : A) → o ≡ Some a → Fits (f a)) → option_map f o ≡ Some d → Fits d
mapped f None d h e = absurd (cc)
mapped f (Some a) d h e = subst Fits (data_is (f a) d e) (h a refl)

members_is : (a b : Members) → Some a ≡ Some b → a ≡ b
members_is a b is = ap (λ o. unwrap_or o no_members) is

-- one member, and those after it
one_fits : (k : List ℕ) (o : Option Data) (ms : json.Members) (old found : Members) → ((d : Data) → o ≡ Some d → Fits d) → ((d : Data) → Fits d → of_members ms (put k d old) ≡ Some found → MembersFit found)
    → option_and_then (λ d. of_members ms (put k d old)) o ≡ Some found → MembersFit found
one_fits k None ms old found h again e = absurd (cc)
one_fits k (Some d) ms old found h again e = again d (h d refl) e

-- values and members, to any depth
mutual
  pub json_fits : (j : json.Json) (d : Data) → of_json j ≡ Some d → Fits d
  json_fits json.null d e = subst Fits (data_is null d e) tt
  json_fits (json.boolean b) d e = subst Fits (data_is (boolean b) d e) tt
  json_fits (json.number s) d e = mapped number (number_of s) d (λ n is. number_fits s n is) e
  json_fits (json.string s) d e = subst Fits (data_is (string s) d e) tt
  json_fits (json.array js) d e = mapped array (of_items js) d (λ a is. tt) e
  json_fits (json.object ms) d e = mapped object (of_members ms no_members) d (λ found is. members_fit ms no_members found tt is) e

  members_fit : (ms : json.Members) (old found : Members) → MembersFit old → of_members ms old ≡ Some found → MembersFit found
  members_fit json.no_members old found h e = subst MembersFit (members_is old found e) h
  members_fit (json.member k j ms) old found h e = one_fits k (of_json j) ms old found (λ d is. json_fits j d is) (λ d f is. members_fit ms (put k d old) found (put_fits k d old f h) is) e

-- a text that is read
pub read_fits : (text : List ℕ) (d : Data) → read text ≡ Some d → Fits d
read_fits text d e = by (option_and_then (λ p. json.if_last p.0 p.1) (json.value 127 (tokens text))) e
  where
    by : (o : Option json.Json) → option_and_then of_json o ≡ Some d → Fits d
    by None e = absurd (cc)
    by (Some j) e = json_fits j d e
