-- Whether bytes begin with a magic.
use Rattle.std.proofs.Common.{◌≡◌, ◌↔◌, ℕ, List, ◌++◌, length, drop, Bool, IsTrue, refl, sym, ap, ◌∙◌}
use Rattle.std.specs.List.{starts_with}
use Rattle.std.proofs.Math.Dec.{eqb}
use Rattle.std.proofs.lemmas.Bool.Decides.{Decides-eqb}
use Rattle.std.proofs.lemmas.List.{drop_at}
use Rattle.std.proofs.lemmas.Slice.Eq.{starts_is}

pub found_where : (prefix bytes : List ℕ) (found : Bool) → found ≡ starts_with eqb bytes prefix → IsTrue found ↔ ((body : List ℕ) × (bytes ≡ prefix ++ body))
found_where prefix bytes found value =
    let told = starts_is Decides-eqb bytes prefix found value in (
      λ is. (drop (length prefix) bytes, told.0 is),
      λ begins. told.1 (drop (length prefix) bytes) (begins.1 ∙ ap (λ xs. prefix ++ xs) (sym (drop_at prefix begins.0 (length prefix) refl) ∙ ap (drop (length prefix)) (sym begins.1))),
    )
