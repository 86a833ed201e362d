-- Records are a code, and it is decidable whether bytes are overlong.
use Rattle.std.proofs.Common.{◌≡◌, ◌≢◌, ◌<◌, ◌≤◌, ◌+◌, ◌^◌, ℕ, zero, suc, List, ◌++◌, Bool, true, false, inl, inr, ◌⊎◌, length, take, drop, get_or, length-append, append_assoc, refl, sym, ap, ◌∙◌, arith}
use Rattle.std.specs.Bool.{Decides}
use Rattle.std.specs.Str.{bytes_eq}
use Rattle.std.proofs.lemmas.Slice.Eq.{bytes_eq-Decides}
use Rattle.std.proofs.lemmas.Bool.{cases_lt}
use Rattle.std.proofs.lemmas.List.{take-append-drop, take_at, drop_at, length-take-le, append_cancel_left}
use Rattle.wire_records.specs.Records.{Record, IsRecord, head, encoding}
use Rattle.wire_records.specs.Grammars.{BeginsWith, BeginsWithNone}
use Rattle.wire_records.specs.declared.version.Version.{Version}
use Rattle.wire_records.specs.Versions.{number_of}
use Rattle.wire_records.specs.Formats.{magics, records, StatesOver, EitherStatesOver, command_magic_of, commands}
use Rattle.wire_records.proofs.CodeLaws.{IsCode}
use Rattle.wire_records.proofs.ReadingLaws.{IsReadable}
use Rattle.wire_records.proofs.Numbered.{version_at, at_number, all_numbers, number_small, same_number}
use Rattle.wire_records.proofs.Encoded.{length-head, length-encoding, read_whole, encoding_unique}

-- what a test decides
told_by : (b : Bool) (P : Type 0) → Decides b P → P ⊎ (¬ P)
told_by true P decides = inl (decides.0 refl)
told_by false P decides = inr (λ p. absurd (let e = decides.1 p in cc))

-- whether two lists are the same
pub same_or_not : (xs ys : List ℕ) → (xs ≡ ys) ⊎ (xs ≢ ys)
same_or_not xs ys = told_by (bytes_eq xs ys) (xs ≡ ys) (bytes_eq-Decides xs ys)

-- a number below a bound is below the one before, or is it
below_or_last : (n k : ℕ) → n < suc k → (n < k) ⊎ (n ≡ k)
below_or_last n k below = elim (cases_lt n k) [ inl less ↦ inl less | inr not ↦ inr (omega (arith, below, not)) ]

-- the search among the numbers below a bound
found_below : (P : ℕ → Type 0) → ((n : ℕ) → P n ⊎ (¬ P n)) → (k : ℕ) → ((n : ℕ) × (n < k) × P n) ⊎ ((n : ℕ) → n < k → ¬ P n)
found_below P told zero = inr (λ n below. absurd (omega (arith, below)))
found_below P told (suc k) =
    elim (told k) [
      | inl here ↦ inl (k, omega arith, here)
      | inr not ↦
          elim (found_below P told k) [
            | inl found ↦ inl (found.0, omega (arith, found.1), found.2)
            | inr none ↦ inr (λ n below p. elim (below_or_last n k below) [ inl less ↦ none n less p | inr last ↦ not (rw last at p) ])
          ]
    ]

-- the conjunction of two decidable facts is decidable
told_both : (P Q : Type 0) → P ⊎ (¬ P) → Q ⊎ (¬ Q) → (P × Q) ⊎ (¬ (P × Q))
told_both P Q p q =
    elim p [
      | inl is ↦ elim q [ inl also ↦ inl (is, also) | inr not ↦ inr (λ both. not both.1) ]
      | inr not ↦ inr (λ both. not both.0)
    ]

-- the bytes begin with this head, and a body of this length is there
IsAt : List ℕ → ℕ → ℕ → Type 0
IsAt bytes n tag = (bytes ≡ head tag n ++ drop 5 bytes) × (n ≤ length (drop 5 bytes))

-- whether the bytes begin so
at_or_not : (bytes : List ℕ) (n tag : ℕ) → IsAt bytes n tag ⊎ (¬ IsAt bytes n tag)
unfolding IsAt
at_or_not bytes n tag =
    told_both _ _ (same_or_not bytes (head tag n ++ drop 5 bytes))
    (elim (cases_lt (length (drop 5 bytes)) n) [ inl few ↦ inr (λ enough. omega (arith, few, enough)) | inr enough ↦ inl enough ])

-- the bytes after a head
after_head : (bytes rest : List ℕ) (n tag : ℕ) → bytes ≡ head tag n ++ rest → drop 5 bytes ≡ rest
after_head bytes rest n tag e = ap (drop 5) e ∙ drop_at (head tag n) rest 5 (length-head tag n)

-- a record whose head and body are there
whole_at : (limit : ℕ) (bytes : List ℕ) (n tag : ℕ) → n < limit + 1 → tag < 256 → IsAt bytes n tag → (r : Record) × (rest : List ℕ) × BeginsWith (records limit) bytes r rest
unfolding IsAt
whole_at limit bytes n tag small byte there =
    let first = drop 5 bytes in
    let size : length (take n first) ≡ n = length-take-le n first there.1 in
    let r : Record = record { tag = tag; body = take n first } in
    (r, drop n first, (record { tag = byte; body = omega (arith, size, small) }, read_whole bytes first (take n first) (drop n first) tag n there.0 (sym (take-append-drop n first)) size))

-- head and body of a record are there
at_whole : (limit : ℕ) (bytes : List ℕ) (r : Record) (rest : List ℕ) → IsRecord limit r → bytes ≡ encoding r ++ rest → IsAt bytes (length r.body) r.tag
unfolding IsAt encoding
at_whole limit bytes r rest lawful e =
    let regrouped : bytes ≡ head r.tag (length r.body) ++ (r.body ++ rest) = e ∙ append_assoc (head r.tag (length r.body)) r.body rest in
    let following = after_head bytes (r.body ++ rest) (length r.body) r.tag regrouped in
    (regrouped ∙ ap (λ xs. head r.tag (length r.body) ++ xs) (sym following), omega (arith, ap length following, length-append r.body rest))

-- whether bytes begin with a record
record_told : (limit : ℕ) (bytes : List ℕ) → ((r : Record) × (rest : List ℕ) × BeginsWith (records limit) bytes r rest) ⊎ BeginsWithNone (records limit) bytes
record_told limit bytes =
    let by_tag = λ (n : ℕ). found_below (IsAt bytes n) (at_or_not bytes n) 256 in
    let by_length =
    found_below (λ n. (tag : ℕ) × (tag < 256) × IsAt bytes n tag)
    (λ n. elim (by_tag n) [ inl found ↦ inl found | inr none ↦ inr (λ found. none found.0 found.1 found.2) ]) (limit + 1)
    in
    elim by_length [
      | inl found ↦ inl (whole_at limit bytes found.0 found.2.0 found.1 found.2.1 found.2.2)
      | inr none ↦ inr (λ r rest lawful e. none (length r.body) (omega (arith, lawful.body)) (r.tag, lawful.tag, at_whole limit bytes r rest lawful e))
    ]

-- records are a code
pub record_code : (limit : ℕ) → limit < 2 ^ 32 → IsCode (records limit)
record_code limit small = record {
  some = λ r lawful. omega (arith, length-encoding r);
  one = λ r s x y a b e. encoding_unique limit r s x y small a b e;
  told = record_told limit;
}

-- whether the first record states a body above the limit
pub over_told : (limit : ℕ) (bytes : List ℕ) → StatesOver limit bytes ⊎ (¬ StatesOver limit bytes)
over_told limit bytes =
    let by_tag = λ (n : ℕ). found_below (λ tag. bytes ≡ head tag n ++ drop 5 bytes) (λ tag. same_or_not bytes (head tag n ++ drop 5 bytes)) 256 in
    let by_length =
    found_below (λ n. (limit < n) × ((tag : ℕ) × (tag < 256) × (bytes ≡ head tag n ++ drop 5 bytes)))
    (λ n. told_both _ _
    (elim (cases_lt limit n) [ inl more ↦ inl more | inr not ↦ inr (λ more. omega (arith, more, not)) ])
    (elim (by_tag n) [ inl found ↦ inl found | inr none ↦ inr (λ found. none found.0 found.1 found.2) ])) (2 ^ 32)
    in
    elim by_length [
      | inl found ↦ inl (found.0, (found.1, found.2.1.0, found.2.1.1, drop 5 bytes, found.2.1.2), found.2.0)
      | inr none ↦
          inr (λ over.
          let states = over.1 in
          none over.0 states.0 (over.2, (states.1, states.2, states.4 ∙ ap (λ xs. head states.1 over.0 ++ xs) (sym (after_head bytes states.3 over.0 states.1 states.4)))))
    ]

-- whether the first of two records in a row that isn't complete states a body above its limit
pub either_over_told : (limit next : ℕ) → limit < 2 ^ 32 → (bytes : List ℕ) → EitherStatesOver limit next bytes ⊎ (¬ EitherStatesOver limit next bytes)
either_over_told limit next small bytes =
    elim (over_told limit bytes) [
      | inl over ↦ inl (inl over)
      | inr not ↦
          elim (record_told limit bytes) [
            | inl first ↦
                elim (over_told next first.1) [
                  | inl over ↦ inl (inr (first.0, first.1, first.2, over))
                  | inr short ↦
                      inr (λ either. elim either [
                        | inl over ↦ not over
                        | inr later ↦
                            let one = encoding_unique limit first.0 later.0 first.1 later.1 small first.2.0 later.2.0 (sym first.2.1 ∙ later.2.1) in
                            short (rw (← one.1) at later.3)
                      ])
                ]
            | inr none ↦ inr (λ either. elim either [ inl over ↦ not over | inr later ↦ none later.0 later.1 later.2.0 later.2.1 ])
          ]
    ]

-- a magic of each version, of eight bytes, the last of which determines the version
pub record AreMagics (magic_of : Version → List ℕ) : Type 0 where
  pub eight : (version : Version) → length (magic_of version) ≡ 8
  pub last : (version : Version) → get_or (magic_of version) 7 0 ≡ 48 + number_of version

-- as many bytes at the beginning of the same bytes are the same
same_prefix : (a b x y : List ℕ) → length b ≡ length a → a ++ x ≡ b ++ y → a ≡ b
same_prefix a b x y alike e = sym (take_at a x (length a) refl) ∙ ap (take (length a)) e ∙ take_at b y (length a) alike

module _ (magic_of : Version → List ℕ) (are : AreMagics magic_of) where
  -- bytes begin with one magic
  pub one_magic : (v w : Version) (x y : List ℕ) → magic_of v ++ x ≡ magic_of w ++ y → (v ≡ w) × (x ≡ y)
  one_magic v w x y e =
      let magic = same_prefix (magic_of v) (magic_of w) x y (are.eight w ∙ sym (are.eight v)) e in
      let last = sym (are.last v) ∙ ap (λ (l : List ℕ). get_or l 7 0) magic ∙ are.last w in
      (same_number v w (omega (arith, last)), append_cancel_left (magic_of v) x y (e ∙ ap (λ (l : List ℕ). l ++ y) (sym magic)))

  -- bytes that begin with a magic are the magic and the bytes after its length
  begins_with : (magic bytes rest : List ℕ) → bytes ≡ magic ++ rest → bytes ≡ magic ++ drop (length magic) bytes
  begins_with magic bytes rest e = e ∙ ap (λ xs. magic ++ xs) (sym (ap (drop (length magic)) e ∙ drop_at magic rest (length magic) refl))

  -- whether bytes begin with a magic
  pub magic_told : (bytes : List ℕ) → ((v : Version) × (rest : List ℕ) × BeginsWith (magics magic_of) bytes v rest) ⊎ BeginsWithNone (magics magic_of) bytes
  magic_told bytes =
      let following : Version → List ℕ = λ v. magic_of v ++ drop (length (magic_of v)) bytes in
      elim (found_below (λ n. bytes ≡ following (version_at n)) (λ n. same_or_not bytes (following (version_at n))) all_numbers) [
        | inl found ↦ inl (version_at found.0, drop (length (magic_of (version_at found.0))) bytes, (tt, found.2))
        | inr none ↦
            inr (λ v rest lawful e.
            none (number_of v) (number_small v) (begins_with (magic_of v) bytes rest e ∙ ap following (sym (at_number v))))
      ]

-- the magics of the versions are a code
pub magic_code : (magic_of : Version → List ℕ) → AreMagics magic_of → IsCode (magics magic_of)
magic_code magic_of are = record {
  some = λ version lawful. omega (arith, are.eight version);
  one = λ v w x y a b e. one_magic magic_of are v w x y e;
  told = magic_told magic_of are;
}

-- each magic of a command file has eight bytes
pub eight : (version : Version) → length (command_magic_of version) ≡ 8
eight version = refl

-- the magics of command files
pub command_magics : AreMagics command_magic_of
command_magics = record { eight = eight; last = λ version. refl }

-- command files can be read
pub commands_readable : IsReadable commands
commands_readable = record {
  magics = magic_code command_magic_of command_magics;
  units = record_code 1024 (omega arith);
  overlong = over_told 1024;
}
