use Rattle.std.proofs.Common.{◌≡◌, ℕ, ◌-◌, ◌≤◌, List, ◌++◌, Option, Result, Ok, Err, length, take, drop, ap, append_assoc, take-append-drop, length-append, refl, arith}
use Rattle.std.proofs.lemmas.List.{take_at, take_rest}
use Rattle.std.specs.Io.KnownBytes.{Appends, WriteAppends}
use Rattle.std.proofs.KnownBytes.{Appends-trans, Appends-kept}
use Rattle.flow_io.specs.Standard.{AppendsPrefix}

-- what a loop over a writer has done so far: of these bytes, all but the rest were appended
pub record HasWritten (before after : Option (List ℕ)) (bytes rest : List ℕ) : Type 0 where
  pub done : List ℕ
  pub split : bytes ≡ done ++ rest
  pub appended : Appends before after done

-- one more write, of so many bytes of the rest
pub HasWritten-more : (first second third : Option (List ℕ)) (bytes rest : List ℕ) (count : ℕ) → HasWritten first second bytes rest → Appends second third (take count rest) → HasWritten first third bytes (take (length rest - count) (drop count rest))
HasWritten-more first second third bytes rest count h more = record {
  done = h.done ++ take count rest;
  split = rw (h.split, take_rest, append_assoc, take-append-drop) refl;
  appended = Appends-trans first second third h.done (take count rest) h.appended more;
}

-- what was written so far is a prefix
HasWritten-prefix : (before after : Option (List ℕ)) (bytes rest : List ℕ) → HasWritten before after bytes rest → AppendsPrefix before after bytes
HasWritten-prefix before after bytes rest h =
    let short : length h.done ≤ length bytes = omega (arith, length-append h.done rest, ap length h.split) in
    let prefix : take (length h.done) bytes ≡ h.done = rw h.split (take_at h.done rest (length h.done) refl) in
    (length h.done, short, rw prefix h.appended)

-- what was written after a last write, whatever it returns, is a prefix
pub HasWritten-last : {E : Type 0} (first second third : Option (List ℕ)) (bytes rest : List ℕ) (result : Result ℕ E) → HasWritten first second bytes rest → WriteAppends second third result rest → AppendsPrefix first third bytes
HasWritten-last first second third bytes rest (Ok count) h more =
    HasWritten-prefix first third bytes _ (HasWritten-more first second third bytes rest count h more)
HasWritten-last first second third bytes rest (Err _) h kept =
    HasWritten-prefix first third bytes rest (record { done = h.done; split = h.split; appended = Appends-kept first second third h.done h.appended kept })
