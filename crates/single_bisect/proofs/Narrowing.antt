-- What the search for the place at which the answers change keeps at each ask.
use Rattle.std.proofs.Common.{◌≡◌, ◌≢◌, ℕ, ◌+◌, ◌-◌, ◌^◌, ◌<◌, ◌≤◌, ℤ, pos, ◌+ℤ◌, ◌<ℤ◌, ◌≤ℤ◌, Bool, sym, ◌∙◌, refl, arith}
use Rattle.std.proofs.lemmas.Int.{ints}
use Rattle.single_bisect.specs.Places.{SameTest}
use Rattle.single_bisect.specs.Turns.{TurnsOnce, IsLastBefore}
use Rattle.single_bisect.proofs.Halving.{HasAsks, HasAsks-start, HasAsks-more}

-- the last place before the change is from `before` on, less than `width` places later
pub record IsNarrowed (test now : ℤ → Bool) (start asked : ℕ) (low high : ℤ) (turned : Bool) (before : ℤ) (width : ℕ) : Type 0 where
  pub asks : HasAsks start asked width
  pub same : SameTest now test
  pub first : low ≤ℤ before
  pub wide : 0 < width
  pub within : (before +ℤ pos width) ≤ℤ high
  pub earlier : (p : ℤ) → low <ℤ p → p ≤ℤ before → test p ≢ turned
  pub later : (p : ℤ) → (before +ℤ pos width) ≤ℤ p → p <ℤ high → test p ≡ turned

-- before the first ask
pub IsNarrowed-start : (test : ℤ → Bool) (asked : ℕ) (low high : ℤ) (turned : Bool) (width : ℕ) → low <ℤ high → width ≤ 2 ^ 63 → low +ℤ pos width ≡ high → IsNarrowed test test asked asked low high turned low width
IsNarrowed-start test asked low high turned width ends bound reach =
    record {
      asks = HasAsks-start asked width bound;
      same = λ p. refl;
      first = omega (arith, ints);
      wide = omega (arith, ints);
      within = omega (arith, ints, reach);
      earlier = λ p after before. absurd (omega (arith, ints, after, before));
      later = λ p after before. absurd (omega (arith, ints, reach, after, before));
    }

-- the answer at `middle` was `turned`, so the place is before it
pub IsNarrowed-turned : (test now now' : ℤ → Bool) (start asked asked' : ℕ) (low high : ℤ) (turned : Bool) (before middle : ℤ) (width half : ℕ) → TurnsOnce test low high turned → IsNarrowed test now start asked low high turned before width → 1 < width → 0 < half → half + half ≤ width + 1 → middle ≡ before +ℤ pos half → now middle ≡ turned → SameTest now' now → asked' ≡ asked + 1 → IsNarrowed test now' start asked' low high turned before half
IsNarrowed-turned test now now' start asked asked' low high turned before middle width half turns kept wide some halved at_half answer same counted =
    let inside : low <ℤ middle = omega (arith, ints, kept.first) in
    record {
      asks = HasAsks-more start asked asked' width half kept.asks wide counted halved;
      same = λ p. same p ∙ kept.same p;
      first = kept.first;
      wide = some;
      within = omega (arith, ints, kept.within);
      earlier = kept.earlier;
      later = λ p after end. turns middle p inside (rw at_half after) end (sym (kept.same middle) ∙ answer);
    }

-- the answer at `middle` was not `turned`, so the place is from there on
pub IsNarrowed-not_yet : (test now now' : ℤ → Bool) (start asked asked' : ℕ) (low high : ℤ) (turned : Bool) (before middle : ℤ) (width rest : ℕ) → TurnsOnce test low high turned → IsNarrowed test now start asked low high turned before width → 1 < width → 0 < rest → rest < width → rest + rest ≤ width + 1 → middle ≡ before +ℤ pos (width - rest) → now middle ≢ turned → SameTest now' now → asked' ≡ asked + 1 → IsNarrowed test now' start asked' low high turned middle rest
IsNarrowed-not_yet test now now' start asked asked' low high turned before middle width rest turns kept wide some part halved at_rest answer same counted =
    let end : middle +ℤ pos rest ≡ before +ℤ pos width = omega (arith, ints) in
    let inside : middle <ℤ high = omega (arith, ints, kept.within) in
    record {
      asks = HasAsks-more start asked asked' width rest kept.asks wide counted halved;
      same = λ p. same p ∙ kept.same p;
      first = omega (arith, ints, kept.first);
      wide = some;
      within = rw end kept.within;
      earlier = λ p after upto early. answer (kept.same middle ∙ turns p middle after upto inside early);
      later = λ p after. kept.later p (rw end at after);
    }

-- one place is left
pub IsLastBefore-narrowed : (test now : ℤ → Bool) (start asked : ℕ) (low high : ℤ) (turned : Bool) (before : ℤ) (width : ℕ) → IsNarrowed test now start asked low high turned before width → width ≤ 1 → IsLastBefore test low high turned before
IsLastBefore-narrowed test now start asked low high turned before width kept narrow =
    record {
      first = kept.first;
      last = omega (arith, ints, kept.within, kept.wide);
      earlier = kept.earlier;
      later = λ p after. kept.later p (omega (arith, ints, after, narrow));
    }
