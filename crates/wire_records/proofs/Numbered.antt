-- A version is determined by its number, and has the commands up to its highest tag.
use Rattle.std.proofs.Common.{◌≡◌, ◌<◌, ◌≤◌, ℕ, zero, suc, refl, sym, ap, ◌∙◌, arith}
use Rattle.wire_records.specs.declared.version.Version.{Version}
use Rattle.wire_records.specs.declared.version.Version.TheVariants.{One, Two, Three, Four}
use Rattle.wire_records.specs.Versions.{number_of, most_tag}

-- the version of a number, and some version of any other
abbrev pub version_at : ℕ → Version
version_at (suc zero) = One
version_at (suc (suc zero)) = Two
version_at (suc (suc (suc zero))) = Three
version_at _ = Four

pub at_number : (version : Version) → version_at (number_of version) ≡ version
at_number One = refl
at_number version = refl

-- a number above that of each version
abbrev pub all_numbers : ℕ
all_numbers = 5

pub number_small : (version : Version) → number_of version < all_numbers
number_small One = omega arith
number_small version = omega arith

-- no two versions have one number
pub same_number : (v w : Version) → number_of v ≡ number_of w → v ≡ w
same_number v w e = sym (at_number v) ∙ ap version_at e ∙ at_number w

-- each version has the commands of the first
pub first_tags : (version : Version) → 9 ≤ most_tag version
first_tags One = omega arith
first_tags version = omega arith

-- a version that has more commands than the first has all of them
pub all_tags : (version : Version) → 10 ≤ most_tag version → most_tag version ≡ 12
all_tags One more = absurd (omega (arith, more))
all_tags version more = refl
