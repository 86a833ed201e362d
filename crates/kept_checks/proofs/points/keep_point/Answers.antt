use Rattle.std.proofs.Common.{◌≡◌, ◌≤◌, ◌<◌, ◌^◌, ◌∷◌, ◌++◌, ℕ, List, [], length, ap, length-append, arith}
use Rattle.journal_disk.specs.Entries.{framed}
use Rattle.journal_disk.proofs.Entries.{length-framed}
use Rattle.kept_checks.proofs.points.keep_point.Goals as goal

-- a first entry whose bytes were copied is short
stored_short : (point none copy stored whole : List ℕ) → length point < 2 ^ 32 → none ≡ [] → copy ≡ none ++ point → stored ≡ framed copy ++ 0 ∷ [] → whole ≡ stored → length whole ≤ 2 ^ 33
stored_short point none copy stored whole short empty same is lent =
    omega (arith, short, ap length empty, ap length same, length-append none point, ap length lent, ap length is, length-append (framed copy) (0 ∷ []), length-framed copy)

pub append_first-requires-clause-short : goal.append_first-requires-clause-short
append_first-requires-clause-short g c =
    stored_short c.args.point.now _ _ _ _ c.requires.short c.new-bytes.ensures.items c.in_ok-extend_from_slice.ensures.items c.in_ok-stored.ensures c.deref.ensures.value
