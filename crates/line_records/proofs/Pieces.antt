-- Lines that end with a line feed: bytes are such lines and a rest in one way.
use Rattle.std.proofs.Common.{◌≡◌, ◌≢◌, ◌+◌, ◌<◌, ℕ, zero, suc, List, [], ◌∷◌, ◌++◌, ◌⊎◌, inl, inr, All, Contains, Some, None, length, take, drop, get_or, length-append, length-take, append_assoc, append-nil, take-append-drop, Bool, true, false, IsTrue, get_or-take, zero-le, refl, sym, ap, subst, ◌∙◌, arith, eq-eqb, eqb-true}
use Rattle.std.proofs.lemmas.Bool.{cases_eq}
use Rattle.std.proofs.lemmas.List.{get_or_default, drop_more}
use Rattle.std.proofs.lemmas.Grind.{flat_map-append}
use Rattle.std.proofs.lemmas.List.Elements.{All-append, Contains-append_left, Contains-append_right, Contains-push}
use Rattle.memchr.specs.Find.{IsFirstByte, is_byte}
use Rattle.wire_records.specs.Grammars.{Grammar, BeginsWith, BeginsWithNone}
use Rattle.wire_records.proofs.CodeLaws.{IsCode, parted}
use Rattle.line_records.specs.Lines.{HasNoFeed, ended_by_feeds, AreLines}

-- a line, and the line feed that ends it
abbrev pub ended_lines : Grammar (List ℕ)
ended_lines = record { IsLawful = HasNoFeed; encode = λ piece. piece ++ 10 ∷ [] }

-- a piece begins with no line that is ended
pub none_in_piece : (bytes : List ℕ) → HasNoFeed bytes → BeginsWithNone ended_lines bytes
none_in_piece bytes piece line rest lawful is =
    piece (subst (λ xs. Contains xs 10) (sym is) (Contains-append_left (line ++ 10 ∷ []) rest 10 (Contains-push line 10)))

-- no bytes are a piece
pub empty_piece : HasNoFeed []
empty_piece has = absurd (omega (arith, has.1))

-- a piece with one more byte before it, which is no line feed
piece_more : (byte : ℕ) (bytes : List ℕ) → byte ≢ 10 → HasNoFeed bytes → HasNoFeed (byte ∷ bytes)
piece_more byte bytes not piece (zero, inside, is) = not is
piece_more byte bytes not piece (suc k, inside, is) = piece (k, omega (arith, inside), is)

-- the rest of a piece is one
piece_rest : (byte : ℕ) (bytes : List ℕ) → HasNoFeed (byte ∷ bytes) → HasNoFeed bytes
piece_rest byte bytes piece has = piece (Contains-append_right (byte ∷ []) bytes 10 has)

-- a piece begins with no line feed
piece_first : (byte : ℕ) (bytes : List ℕ) → HasNoFeed (byte ∷ bytes) → byte ≢ 10
piece_first byte bytes piece is = piece (0, omega arith, is)

-- one byte more at the start of the first line
line_more : (byte : ℕ) (bytes line rest : List ℕ) → byte ≢ 10 → BeginsWith ended_lines bytes line rest → BeginsWith ended_lines (byte ∷ bytes) (byte ∷ line) rest
line_more byte bytes line rest not begins = (piece_more byte line not begins.0, ap (λ xs. byte ∷ xs) begins.1)

-- bytes begin with a line that is ended, or they are a piece
pub line_or_piece : (bytes : List ℕ) → ((line : List ℕ) × (rest : List ℕ) × BeginsWith ended_lines bytes line rest) ⊎ HasNoFeed bytes
line_or_piece [] = inr empty_piece
line_or_piece (byte ∷ bytes) =
    elim (cases_eq byte 10) [
      | inl feed ↦ inl ([], bytes, (empty_piece, ap (λ b. b ∷ bytes) feed))
      | inr not ↦
          elim (line_or_piece bytes) [
            | inl found ↦ inl (byte ∷ found.0, found.1, line_more byte bytes found.0 found.1 not found.2)
            | inr piece ↦ inr (piece_more byte bytes not piece)
          ]
    ]

-- two lines with the same bytes are one
one_line : (a b x y : List ℕ) → HasNoFeed a → HasNoFeed b → a ++ 10 ∷ x ≡ b ++ 10 ∷ y → (a ≡ b) × (x ≡ y)
one_line [] [] x y p q e = (refl, ap (drop 1) e)
one_line [] (c ∷ b) x y p q e = absurd (piece_first c b q (sym (ap (λ xs. get_or xs 0 0) e)))
one_line (c ∷ a) [] x y p q e = absurd (piece_first c a p (ap (λ xs. get_or xs 0 0) e))
one_line (c ∷ a) (d ∷ b) x y p q e =
    let rest = one_line a b x y (piece_rest c a p) (piece_rest d b q) (ap (drop 1) e) in
    let first : c ≡ d = ap (λ xs. get_or xs 0 0) e in
    (rw (first, rest.0) refl, rest.1)

-- lines that are ended can be told apart
pub ended_code : IsCode ended_lines
ended_code = record {
  some = λ line piece. omega (arith, length-append line (10 ∷ []));
  one = λ a b x y p q e. one_line a b x y p q (sym (append_assoc a (10 ∷ []) x) ∙ e ∙ append_assoc b (10 ∷ []) y);
  told = λ bytes. elim (line_or_piece bytes) [ inl found ↦ inl found | inr piece ↦ inr (none_in_piece bytes piece) ];
}

-- what begins with no line is a piece
pub piece_from_none : (bytes : List ℕ) → BeginsWithNone ended_lines bytes → HasNoFeed bytes
piece_from_none bytes none =
    elim (line_or_piece bytes) [ inl found ↦ absurd (none found.0 found.1 found.2.0 found.2.1) | inr piece ↦ piece ]

-- bytes up to the first line feed are a line that is ended
pub line_found : (bytes : List ℕ) (size : ℕ) → IsFirstByte (is_byte 10) bytes (Some size) → BeginsWith ended_lines bytes (take size bytes) (drop (size + 1) bytes) × (size < length bytes)
line_found bytes size first =
    let inside : size < length bytes = first.0.high in
    let feed : get_or bytes size 0 ≡ 10 = eqb-true (get_or bytes size 0) 10 first.1 in (
      (
        λ has.
            let low : has.0 < size = omega (arith, has.1, length-take size bytes) in
            first.0.before has.0 zero-le low
            (eq-eqb (get_or bytes has.0 0) 10 (get_or_default bytes has.0 0 10 (omega (arith, low, inside)) ∙ sym (get_or-take size bytes has.0 10 low) ∙ has.2)),
        sym (take-append-drop size bytes) ∙ ap (λ xs. take size bytes ++ xs) (drop_more bytes size 0 inside ∙ ap (λ b. b ∷ drop (size + 1) bytes) feed)
            ∙ sym (append_assoc (take size bytes) (10 ∷ []) (drop (size + 1) bytes)),
      ),
      inside,
    )

-- bytes with no line feed are a piece
pub no_line_found : (bytes : List ℕ) → IsFirstByte (is_byte 10) bytes None → HasNoFeed bytes
no_line_found bytes nowhere has =
    nowhere has.0 zero-le has.1 (eq-eqb (get_or bytes has.0 0) 10 (get_or_default bytes has.0 0 10 has.1 ∙ has.2))

-- a list has elements, or none
pub any_or_none : (xs : List ℕ) → (xs ≡ []) ⊎ (xs ≢ [])
any_or_none [] = inl refl
any_or_none (x ∷ xs) = inr (λ e. absurd cc)

-- all lines, if the lines that are ended and the piece after them are known
pub all_lines : (More : Type 0) → More ⊎ (¬ More) → (bytes : List ℕ) (ended : List (List ℕ)) (last : List ℕ) → bytes ≡ ended_by_feeds ended ++ last → All HasNoFeed ended → HasNoFeed last
    → (rest : List (List ℕ)) × AreLines More bytes (ended ++ rest)
all_lines More more bytes ended last whole pieces piece =
    elim more [
      | inl is ↦ ([], record { ended = ended; last = last; whole = whole; pieces = pieces; piece = piece; all = inl (append-nil ended, inl is) })
      | inr not ↦
          elim (any_or_none last) [
            | inl none ↦ ([], record { ended = ended; last = last; whole = whole; pieces = pieces; piece = piece; all = inl (append-nil ended, inr none) })
            | inr some ↦ (last ∷ [], record { ended = ended; last = last; whole = whole; pieces = pieces; piece = piece; all = inr (refl, not, some) })
          ]
    ]

-- all lines, if the first ones are known
pub lines_after : (More : Type 0) → More ⊎ (¬ More) → (bytes following : List ℕ) (ended : List (List ℕ)) → bytes ≡ ended_by_feeds ended ++ following → All HasNoFeed ended
    → (rest : List (List ℕ)) × AreLines More bytes (ended ++ rest)
lines_after More more bytes following ended whole pieces =
    let parts = parted ended_lines ended_code following in
    let all = all_lines More more bytes (ended ++ parts.values) parts.rest
    (whole ∙ ap (λ xs. ended_by_feeds ended ++ xs) parts.whole ∙ sym (append_assoc (ended_by_feeds ended) (ended_by_feeds parts.values) parts.rest)
    ∙ ap (λ xs. xs ++ parts.rest) (sym (flat_map-append ended_lines.encode ended parts.values)))
    (All-append HasNoFeed ended parts.values pieces parts.each) (piece_from_none parts.rest parts.none)
    in
    (parts.values ++ all.0, subst (λ lines. AreLines More bytes lines) (append_assoc ended parts.values all.0) all.1)

-- there is more, or not
pub told : (more : Bool) → IsTrue more ⊎ (¬ IsTrue more)
told true = inl refl
told false = inr (λ e. absurd cc)
