-- What a value has: whole numbers, members, and the envelope that they are.
use Rattle.std.proofs.Common.{◌≡◌, ℕ, suc, ◌<◌, ◌^◌, List, [], ◌∷◌, length, Option, Some, None, refl, ap, sym, ◌∙◌, subst, map, arith}
use Rattle.std.specs.Prelude.{IfSome, IfNone, MatchOption, ok_or, codes, ⊤, unwrap_or}
use Rattle.std.specs.Borrow.{Bor}
use Rattle.std.specs.Str.Parse.{ParsesUnsigned, IsNumeral, digits_value, without_leading_plus}
use Rattle.json.specs.Json.{Json, Members, no_members, member}
use Rattle.json.specs.Find.{get, as_str, as_number, as_object}
use Rattle.json.specs.Strict.{keys}
use Rattle.json.specs.Value.{members_of}
use Rattle.envelope_text.specs.Envelopes.{Sent, IsWhole, HasWhole, HasText, HasCount, HasId, HasMembers}

-- two options with values that are equal have equal values
pub values : {A : Type 0} (a b : A) → Some a ≡ Some b → a ≡ b
values a b is = ap (λ o. unwrap_or o a) is

-- no value is none
none_is_some : {A : Type 0} (a : A) → None ≡ Some a → ⊥
none_is_some a is = absurd (cc)

-- what holds, holds if there is none
pub when_none : {A : Type 0} {P : Type 0} (r : Option A) → P → IfNone r P
when_none None p = p
when_none (Some a) p = tt

-- a number that was parsed is the value
pub whole_if_some : (j : Json) (r : Option ℕ) → MatchOption (as_number j) (r ≡ None) (λ s. ParsesUnsigned 64 10 s (ok_or r s)) → IfSome r (IsWhole j)
whole_if_some j r parses = by (as_number j) refl r parses
  where
    by : (o : Option (List ℕ)) → as_number j ≡ o → (r : Option ℕ) → MatchOption o (r ≡ None) (λ s. ParsesUnsigned 64 10 s (ok_or r s)) → IfSome r (IsWhole j)
    by None e None is = tt
    by None e (Some n) is = absurd (cc)
    by (Some s) e None is = tt
    by (Some s) e (Some n) is = (s, e, is.0.0, subst (λ k. k < 2 ^ 64) (sym is.1) is.0.1, is.1)

-- a value whose number wasn't parsed is no whole number
pub none_if_none : (j : Json) (r : Option ℕ) → MatchOption (as_number j) (r ≡ None) (λ s. ParsesUnsigned 64 10 s (ok_or r s)) → IfNone r ((n : ℕ) → ¬ IsWhole j n)
none_if_none j r parses = by (as_number j) refl r parses
  where
    by : (o : Option (List ℕ)) → as_number j ≡ o → (r : Option ℕ) → MatchOption o (r ≡ None) (λ s. ParsesUnsigned 64 10 s (ok_or r s)) → IfNone r ((n : ℕ) → ¬ IsWhole j n)
    by None e None is = λ n whole. none_is_some whole.0 (sym e ∙ whole.1)
    by None e (Some n) is = tt
    by (Some s) e None is = λ n whole.
        let same = values whole.0 s (sym whole.1 ∙ e) in
        is (subst (λ t. IsNumeral 10 (without_leading_plus t)) same whole.2, subst (λ t. digits_value 10 (without_leading_plus t) < 2 ^ 64) same (subst (λ k. k < 2 ^ 64) whole.4 whole.3))
    by (Some s) e (Some n) is = tt

-- as many keys as members
pub keys_are : (ms : List (Bor (List ℕ) × Json)) → length (keys (members_of ms)) ≡ length ms
keys_are [] = refl
keys_are (m ∷ ms) = ap suc (keys_are ms)

-- a value is one whole number at most
one_whole : (j : Json) (a b : ℕ) → IsWhole j a → IsWhole j b → a ≡ b
one_whole j a b one other = one.4 ∙ ap (λ t. digits_value 10 (without_leading_plus t)) (values one.0 other.0 (sym one.1 ∙ other.1)) ∙ sym other.4

-- there is one value at a key
at_key : (j v w : Json) (key : List ℕ) → get key j ≡ Some v → get key j ≡ Some w → v ≡ w
at_key j v w key is also = values v w (sym is ∙ also)

-- an object has one whole number at a key
pub one_whole_at : (j : Json) (key : List ℕ) (a b : ℕ) → HasWhole j key a → HasWhole j key b → a ≡ b
one_whole_at j key a b one other = one_whole other.0 a b (subst (λ v. IsWhole v a) (at_key j one.0 other.0 key one.1 other.1) one.2) other.2

-- an object has one text at a key
pub one_text_at : (j : Json) (key : List ℕ) (a b : List ℕ) → HasText j key a → HasText j key b → a ≡ b
one_text_at j key a b one other = values a b (sym one.2 ∙ ap as_str (at_key j one.0 other.0 key one.1 other.1) ∙ other.2)

-- an object has one number of members
pub one_count : (j : Json) (a b : ℕ) → HasCount j a → HasCount j b → a ≡ b
one_count j a b one other = sym one.2 ∙ ap (λ ms. length (keys ms)) (values one.0 other.0 (sym one.1 ∙ other.1)) ∙ other.2

-- no value at a key has a whole number if none of what is there is one
pub none_at : (j v : Json) (key : List ℕ) (r : Option ℕ) → get key j ≡ Some v → IfNone r ((n : ℕ) → ¬ IsWhole v n) → IfNone r ((n : ℕ) → ¬ HasWhole j key n)
none_at j v key None is none = λ n has. none n (subst (λ w. IsWhole w n) (at_key j has.0 v key has.1 is) has.2)
none_at j v key (Some m) is none = tt

-- with a number of a text or without one, an object has so many members
pub counted : (j : Json) (id : Option ℕ) → HasId j id → (count : ℕ) × HasCount j count
counted j None has = (2, has)
counted j (Some id) has = (3, has.2)

-- an object whose members aren't two has a number of a text, or is no envelope
pub no_id : (j : Json) (count : ℕ) → HasCount j count → (count ≡ 2 → ⊥) → ((n : ℕ) → ¬ HasWhole j (codes "id") n) → (id : Option ℕ) → ¬ HasId j id
no_id j count counted two none None has = two (one_count j count 2 counted has)
no_id j count counted two none (Some id) has = none id has.0

-- two isn't three
two_is_three : (◌≡◌ {A = ℕ} 2 3) → ⊥
two_is_three is = absurd (omega (arith, is))

-- the options for a number of a text are one
pub one_id : (j : Json) (a b : Option ℕ) → HasId j a → HasId j b → a ≡ b
one_id j None None one other = refl
one_id j None (Some b) one other = absurd (two_is_three (one_count j 2 3 one other.2))
one_id j (Some a) None one other = absurd (two_is_three (one_count j 2 3 other one.2))
one_id j (Some a) (Some b) one other = ap Some (one_whole_at j (codes "id") a b one.0 other.0)
