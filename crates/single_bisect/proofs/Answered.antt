-- The last place before the answers change, as the least and as the greatest true place.
use Rattle.std.proofs.Common.{◌≡◌, ◌≢◌, ℤ, pos, ◌+ℤ◌, Bool, true, false, IsTrue, refl, arith}
use Rattle.std.specs.Prelude.{IsFalse}
use Rattle.std.proofs.Math.Bool.{beq}
use Rattle.std.proofs.lemmas.Int.{ints, by_lt_z}
use Rattle.single_bisect.specs.Places.{IsLeastTrue, IsGreatestTrue}
use Rattle.single_bisect.specs.Turns.{IsLastBefore}

-- two answers that are found equal, and that are not
pub equal-true : (a b : Bool) → beq a b ≡ true → a ≡ b
equal-true true true same = refl
equal-true true false same = cc
equal-true false true same = cc
equal-true false false same = refl

pub equal-false : (a b : Bool) → beq a b ≡ false → a ≢ b
equal-false true true apart = cc
equal-false true false apart = λ same. cc
equal-false false true apart = λ same. cc
equal-false false false apart = cc

-- an answer that is not one of the two is the other
false_unless : (a : Bool) → a ≢ true → IsFalse a
false_unless true not_true = absurd (not_true refl)
false_unless false not_true = refl

true_unless : (a : Bool) → a ≢ false → IsTrue a
true_unless true not_false = refl
true_unless false not_false = absurd (not_false refl)

-- the place after the last one before the answers change to yes
pub IsLeastTrue-after : (test : ℤ → Bool) (low high place next : ℤ) → IsTrue (test high) → IsLastBefore test low high true place → next ≡ place +ℤ pos 1 → IsLeastTrue test low next
IsLeastTrue-after test low high place next holds turn after =
    record {
      above = omega (arith, ints, turn.first);
      holds = by_lt_z {P = IsTrue (test next)} next high
          (λ inside. turn.later next (omega (arith, ints)) inside)
          (λ outside. let end : next ≡ high = omega (arith, ints, turn.last, outside) in rw end holds);
      none_before = λ p from upto. false_unless (test p) (turn.earlier p from (omega (arith, ints, upto)));
    }

-- the last place before the answers change to no
pub IsGreatestTrue-before : (test : ℤ → Bool) (low high place : ℤ) → IsTrue (test low) → IsLastBefore test low high false place → IsGreatestTrue test high place
IsGreatestTrue-before test low high place holds turn =
    record {
      below = turn.last;
      holds = by_lt_z {P = IsTrue (test place)} low place
          (λ inside. true_unless (test place) (turn.earlier place inside (omega (arith, ints))))
          (λ outside. let end : place ≡ low = omega (arith, ints, turn.first, outside) in rw end holds);
      none_after = turn.later;
    }
