-- A piece of a disk that was read ahead.
use Rattle.std.proofs.Common.{◌≡◌, ◌+◌, ◌-◌, ◌≤◌, ℕ, List, Option, Some, None, IfSome, length, take, drop, get_or, ap, subst, ◌∙◌, arith}
use Rattle.std.proofs.lemmas.List.{drop-take, drop_more}
use Rattle.std.proofs.Math.Seq.{take-take, drop-drop}
use Rattle.journal_disk.specs.Ahead.{AheadState, IsPiece, HoldsPart, part_of}

-- the disk's length
pub size_known : (ahead : AheadState) (content : Option (List ℕ)) → IfSome content (IsPiece ahead) → IfSome content (λ bytes. ahead.size ≡ length bytes)
size_known ahead None is = tt
size_known ahead (Some bytes) is = is.long

-- a part of the piece is that part of the bytes
pub in_piece : (ahead : AheadState) (bytes : List ℕ) (place count : ℕ) → IsPiece ahead bytes → ahead.from ≤ place → place + count ≤ ahead.from + length ahead.held → take count (drop (place - ahead.from) ahead.held) ≡ take count (drop place bytes)
in_piece ahead bytes place count is following within =
    let first = place - ahead.from in
    let all = length ahead.held in
    let parts : all ≡ first + (all - first) = omega (arith, following, within) in
    ap (λ (l : List ℕ). take count (drop first l)) (is.piece ∙ ap (λ (n : ℕ). take n (drop ahead.from bytes)) parts)
    ∙ ap (take count) (drop-take first (all - first) (drop ahead.from bytes))
    ∙ take-take count (all - first) (drop first (drop ahead.from bytes)) (omega (arith, following, within))
    ∙ ap (take count) (drop-drop first ahead.from bytes ∙ ap (λ (n : ℕ). drop n bytes) (omega (arith, following)))

-- a slice of as many bytes
pub copied : (items now : List ℕ) (first count : ℕ) → now ≡ items → take (first + count - first) (drop first now) ≡ take count (drop first items)
copied items now first count is = ap (λ (n : ℕ). take n (drop first now)) (omega arith) ∙ ap (λ (l : List ℕ). take count (drop first l)) is

-- a part of the piece is that part of the content, if it is known
pub part_read : (ahead : AheadState) (content now : Option (List ℕ)) (place count : ℕ) (got : List ℕ) → now ≡ content → IfSome now (IsPiece ahead) → HoldsPart place count ahead → got ≡ part_of ahead place count → IfSome content (λ bytes. got ≡ take count (drop place bytes))
part_read ahead content now place count got same is held lent = over content (subst (λ (o : Option (List ℕ)). IfSome o (IsPiece ahead)) same is)
  where
    over : (o : Option (List ℕ)) → IfSome o (IsPiece ahead) → IfSome o (λ bytes. got ≡ take count (drop place bytes))
    over None piece = tt
    over (Some bytes) piece = lent ∙ in_piece ahead bytes place count piece held.0 held.1

-- a byte of the piece is that byte of the content, if it is known
pub byte_read : (ahead : AheadState) (content now : Option (List ℕ)) (place : ℕ) (got : List ℕ) → now ≡ content → IfSome now (IsPiece ahead) → HoldsPart place 1 ahead → got ≡ part_of ahead place 1 → IfSome content (λ bytes. get_or got 0 0 ≡ get_or bytes place 0)
byte_read ahead content now place got same is held lent = over content (subst (λ (o : Option (List ℕ)). IfSome o (IsPiece ahead)) same is)
  where
    over : (o : Option (List ℕ)) → IfSome o (IsPiece ahead) → IfSome o (λ bytes. get_or got 0 0 ≡ get_or bytes place 0)
    over None piece = tt
    over (Some bytes) piece =
        ap (λ (l : List ℕ). get_or l 0 0) (lent ∙ in_piece ahead bytes place 1 piece held.0 held.1)
        ∙ ap (λ (l : List ℕ). get_or (take 1 l) 0 0) (drop_more bytes place 0 (omega (arith, piece.inside, held.1)))
