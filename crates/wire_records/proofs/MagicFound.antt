-- The version of a file.
use Rattle.std.proofs.Common.{◌≡◌, ◌≢◌, ◌↔◌, ℕ, ◌+◌, List, ◌++◌, length, drop, get_or, Bool, true, false, Option, Some, None, sym, ap, ◌∙◌, arith}
use Rattle.std.specs.List.{starts_with}
use Rattle.std.proofs.Math.Dec.{eqb}
use Rattle.std.proofs.lemmas.Bool.Decides.{Decides-eqb}
use Rattle.std.proofs.Math.ListN.{get_or-append}
use Rattle.std.proofs.lemmas.Slice.Eq.{starts_is}
use Rattle.wire_records.specs.Grammars.{BeginsWith, BeginsWithNone}
use Rattle.wire_records.specs.declared.version.Version.{Version}
use Rattle.wire_records.specs.Versions.{number_of}
use Rattle.wire_records.specs.Formats.{magics}
use Rattle.wire_records.proofs.Numbered.{same_number}
use Rattle.wire_records.proofs.RecordCode.{AreMagics, one_magic}

version_of : (v w : Version) → ◌≡◌ {A = Option Version} (Some v) (Some w) → v ≡ w
version_of v w e = cc

-- if a test found a version's magic at the beginning of bytes, they begin with this version's, and with no other's
pub version_found : (magic_of : Version → List ℕ) → AreMagics magic_of → (bytes : List ℕ) (v : Version) (found : Bool) → found ≡ starts_with eqb bytes (magic_of v) → found ≡ true
    → (w : Version) → (◌≡◌ {A = Option Version} (Some v) (Some w)) ↔ ((body : List ℕ) × BeginsWith (magics magic_of) bytes w body)
version_found magic_of are bytes v found value is w =
    let rest = drop (length (magic_of v)) bytes in
    let whole : bytes ≡ magic_of v ++ rest = (starts_is Decides-eqb bytes (magic_of v) found value).0 is in (
      λ e. (rest, (tt, whole ∙ ap (λ u. magic_of u ++ rest) (version_of v w e))),
      λ begins. ap Some (one_magic magic_of are v w rest begins.0 (sym whole ∙ begins.1.1)).0,
    )

module _ (magic_of : Version → List ℕ) (are : AreMagics magic_of) (bytes : List ℕ) where
  -- the digit that ends a magic
  digit : (v : Version) (rest : List ℕ) → bytes ≡ magic_of v ++ rest → get_or bytes 7 0 ≡ 48 + number_of v
  digit v rest e = ap (λ (l : List ℕ). get_or l 7 0) e ∙ get_or-append (magic_of v) rest 0 7 (omega (arith, are.eight v)) ∙ are.last v

  -- if no version's digit is there, the bytes begin with no magic
  pub no_digit : ((v : Version) → get_or bytes 7 0 ≢ 48 + number_of v) → BeginsWithNone (magics magic_of) bytes
  no_digit none v rest lawful e = none v (digit v rest e)

  -- if the digit is a version's, and the bytes don't begin with its magic, they begin with none
  pub no_magic : (v : Version) (found : Bool) → get_or bytes 7 0 ≡ 48 + number_of v → found ≡ starts_with eqb bytes (magic_of v) → found ≡ false → BeginsWithNone (magics magic_of) bytes
  no_magic v found at value is w rest lawful e =
      let same : w ≡ v = same_number w v (omega (arith, at, digit w rest e)) in
      absurd (let there : found ≡ true = (starts_is Decides-eqb bytes (magic_of v) found value).1 rest (e ∙ ap (λ u. magic_of u ++ rest) same) in cc)

  -- if the bytes begin with no magic, the result is no version
  pub none_found : BeginsWithNone (magics magic_of) bytes → (w : Version) → (◌≡◌ {A = Option Version} None (Some w)) ↔ ((body : List ℕ) × BeginsWith (magics magic_of) bytes w body)
  none_found none w = (λ e. absurd (let no : ◌≡◌ {A = Option Version} None (Some w) = e in cc), λ begins. absurd (none w begins.0 begins.1.0 begins.1.1))
