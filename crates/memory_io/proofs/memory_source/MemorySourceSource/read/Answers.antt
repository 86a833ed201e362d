use Rattle.std.proofs.Common.{◌≡◌, ◌≤◌, ◌++◌, ℕ, List, length, take, drop, sym, ◌∙◌, ap, arith}
use Rattle.std.proofs.lemmas.List.{drop-append-le, take-append-drop}
use Rattle.memory_io.proofs.memory_source.MemorySourceSource.read.Goals as goal

-- the bytes after a read of the first part of a buffer are unchanged in the whole buffer
following : (into prefix : List ℕ) (most count : ℕ) → count ≤ length prefix → length prefix ≡ length (take most into) → drop count prefix ≡ drop count (take most into) → drop count (prefix ++ drop most into) ≡ drop count into
following into prefix most count short same e =
    drop-append-le count prefix (drop most into) short
    ∙ ap (λ ys. ys ++ drop most into) e
    ∙ sym (drop-append-le count (take most into) (drop most into) (omega arith))
    ∙ ap (λ ys. drop count ys) (take-append-drop most into)

pub returns-clause-following : goal.returns-clause-following
returns-clause-following c =
    let all = c.read.ensures.all in
    let kept = rw all at c.read.ensures.following in
    let same = c.read.auto.into in
    rw all (following c.args.into.now c.read.new.into c.min-most.result _ (omega arith) same kept)
