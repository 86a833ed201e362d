-- What is found at a place where a first entry may be.
use Rattle.std.proofs.Common.{◌≡◌, ◌≢◌, ℕ, ◌+◌, ◌-◌, ◌<◌, ◌≤◌, ◌^◌, min, Bool, true, false, List, [], ◌∷◌, ◌++◌, Option, Some, None, IfSome, length, take, drop, get_or, refl, sym, ap, subst, ◌∙◌, arith, append_assoc, length-append, length-take, length-drop, take-append-drop}
use Rattle.std.proofs.lemmas.List.{append-nil, drop-drop, drop_at, drop_all, take_at}
use Rattle.std.proofs.lemmas.Bool.{false≢true}
use Rattle.std.proofs.lemmas.Bool.Decides.{Decides-eqb}
use Rattle.std.proofs.lemmas.Slice.Eq.{starts_is}
use Rattle.std.proofs.Math.Dec.{eqb}
use Rattle.std.specs.List.{starts_with}
use Rattle.wire_fields.specs.Numbers.{unsigned}
use Rattle.wire_records.specs.declared.version.Version.{Version}
use Rattle.disk_edge.specs.Disks.{DiskState}
use Rattle.journal_disk.specs.Entries.{IsHead, framed, entries, disk_magic_of, Holds}
use Rattle.journal_disk.specs.Stepping.{HasFrameAt, FindsFirst}
use Rattle.journal_disk.proofs.Entries.{length-framed, magic_alone, first_after, eight}
use Rattle.journal_disk.proofs.Beginning.{take_past}
use Rattle.journal_disk.proofs.Framing.{after_length, frame_count, stands}
use Rattle.journal_disk.proofs.Stepping.{commit_first}

heads : (a b : ℕ) (x y : List ℕ) → a ∷ x ≡ b ∷ y → a ≡ b
heads a b x y e = ap (λ (l : List ℕ). get_or l 0 0) e

-- what follows the commit byte of what is stored at the place
after_commit : (place : ℕ) (held bytes : List ℕ) (frame : HasFrameAt place held bytes) → drop (place + 1) bytes ≡ framed held ++ frame.rest
after_commit place held bytes frame = sym (drop-drop 1 place bytes) ∙ ap (drop 1) frame.encoded

long_enough : (place : ℕ) (held bytes : List ℕ) (frame : HasFrameAt place held bytes) → place + (5 + length held) ≤ length bytes
long_enough place held bytes frame = omega (arith, ap length frame.encoded, length-drop place bytes, length-append (framed held) frame.rest, length-framed held)

-- what doesn't begin with the magic is no entry that does
pub other_magic : (content : Option (List ℕ)) (place count : ℕ) (magic got : List ℕ) (found : Bool) → IfSome content (λ bytes. got ≡ take (length magic) (drop place bytes)) → found ≡ starts_with eqb got magic → found ≡ false
    → IfSome content (λ bytes. (held rest : List ℕ) → length (magic ++ held) ≡ count → drop place bytes ≢ (magic ++ held) ++ rest)
other_magic None place count magic got found is value not = tt
other_magic (Some bytes) place count magic got found is value not = λ held rest size begins.
    let prefix : got ≡ magic ++ [] =
    is ∙ ap (take (length magic)) (begins ∙ append_assoc magic held rest) ∙ take_at magic (held ++ rest) (length magic) refl ∙ sym (append-nil magic) in
    false≢true (sym not ∙ (starts_is Decides-eqb got magic found value).1 [] prefix)

-- what begins with the magic
pub this_magic : (content : Option (List ℕ)) (place count : ℕ) (magic got : List ℕ) (found : Bool) → length magic ≤ count → IfSome content (λ bytes. got ≡ take (length magic) (drop place bytes)) → found ≡ starts_with eqb got magic → found ≡ true
    → IfSome content (λ bytes. (rest : List ℕ) × (take count (drop place bytes) ≡ magic ++ rest))
this_magic None place count magic got found enough is value yes_it_is = tt
this_magic (Some bytes) place count magic got found enough is value yes_it_is =
    let all = drop place bytes in
    let n = length magic in
    let begins : got ≡ magic ++ drop n got = (starts_is Decides-eqb got magic found value).0 yes_it_is in
    let few : length got ≤ n = omega (arith, ap length is, length-take n all) in
    let prefix : take n all ≡ magic = sym is ∙ begins ∙ ap (λ (l : List ℕ). magic ++ l) (drop_all n got few) ∙ append-nil magic in
    let long : length (take n all) ≤ count = omega (arith, ap length prefix, enough) in
    let whole : take count all ≡ take n all ++ take (count - length (take n all)) (drop n all) = ap (take count) (sym (take-append-drop n all)) ∙ take_past (take n all) (drop n all) count long in
    (take (count - length (take n all)) (drop n all), whole ∙ ap (λ (l : List ℕ). l ++ take (count - length (take n all)) (drop n all)) prefix)

-- fewer bytes than the magic has are no entry that begins with it
pub too_small : (content : Option (List ℕ)) (place count : ℕ) (magic : List ℕ) → count < length magic → IfSome content (λ bytes. (held rest : List ℕ) → length (magic ++ held) ≡ count → drop place bytes ≢ (magic ++ held) ++ rest)
too_small None place count magic few = tt
too_small (Some bytes) place count magic few = λ held rest size begins. omega (arith, few, size, length-append magic held)

module _ (content : Option (List ℕ)) (place size end : ℕ) (magic : List ℕ) (counts : IfSome content (λ bytes. size ≡ length bytes)) (ends : end ≡ min size (2 ^ 60)) where
  pub none_short : end < place + 5 → IfSome content (FindsFirst None magic place)
  none_short short = over content counts
    where
      over : (o : Option (List ℕ)) → IfSome o (λ bytes. size ≡ length bytes) → IfSome o (FindsFirst None magic place)
      over None n = tt
      over (Some bytes) n = λ held frame. omega (arith, n, ends, short, frame.within, long_enough place (magic ++ held) bytes frame)

  pub none_closed : (byte : ℕ) → place + 5 ≤ end → IfSome content (λ bytes. byte ≡ get_or bytes place 0) → byte ≢ 1 → IfSome content (FindsFirst None magic place)
  none_closed byte long reads shut = over content counts reads
    where
      over : (o : Option (List ℕ)) → IfSome o (λ bytes. size ≡ length bytes) → IfSome o (λ bytes. byte ≡ get_or bytes place 0) → IfSome o (FindsFirst None magic place)
      over None n r = tt
      over (Some bytes) n r = λ held frame. shut (heads byte 1 _ _ (sym (commit_first place byte bytes (omega (arith, n, ends, long)) r) ∙ frame.encoded))

  module _ (count : ℕ) (small : count < 2 ^ 32) (states : IfSome content (λ bytes. take 4 (drop (place + 1) bytes) ≡ unsigned 4 count)) where
    pub none_past : end - (place + 5) < count → IfSome content (FindsFirst None magic place)
    none_past past = over content counts states
      where
        over : (o : Option (List ℕ)) → IfSome o (λ bytes. size ≡ length bytes) → IfSome o (λ bytes. take 4 (drop (place + 1) bytes) ≡ unsigned 4 count) → IfSome o (FindsFirst None magic place)
        over None n s = tt
        over (Some bytes) n s = λ held frame.
            let same = frame_count (place + 1) count bytes small s (magic ++ held) frame.rest frame.short (after_commit place (magic ++ held) bytes frame) in
            omega (arith, same, n, ends, past, frame.within, long_enough place (magic ++ held) bytes frame)

    pub none_begins : IfSome content (λ bytes. (held rest : List ℕ) → length (magic ++ held) ≡ count → drop (place + 5) bytes ≢ (magic ++ held) ++ rest) → IfSome content (FindsFirst None magic place)
    none_begins others = over content states others
      where
        over : (o : Option (List ℕ)) → IfSome o (λ bytes. take 4 (drop (place + 1) bytes) ≡ unsigned 4 count) → IfSome o (λ bytes. (held rest : List ℕ) → length (magic ++ held) ≡ count → drop (place + 5) bytes ≢ (magic ++ held) ++ rest)
            → IfSome o (FindsFirst None magic place)
        over None s other = tt
        over (Some bytes) s other = λ held frame.
            let after = after_commit place (magic ++ held) bytes frame in
            let same = frame_count (place + 1) count bytes small s (magic ++ held) frame.rest frame.short after in
            other held frame.rest (sym same) (ap (λ (n : ℕ). drop n bytes) (omega arith) ∙ after_length (place + 1) bytes (magic ++ held) frame.rest after)

    pub some_first : (byte : ℕ) → IfSome content (λ bytes. (rest : List ℕ) × (take count (drop (place + 5) bytes) ≡ magic ++ rest)) → IfSome content (λ bytes. byte ≡ get_or bytes place 0) → byte ≡ 1 → place + 5 ≤ end → count ≤ end - (place + 5) → IfSome content (FindsFirst (Some count) magic place)
    some_first byte begins reads is_open long there = over content counts states reads begins
      where
        over : (o : Option (List ℕ)) → IfSome o (λ bytes. size ≡ length bytes) → IfSome o (λ bytes. take 4 (drop (place + 1) bytes) ≡ unsigned 4 count) → IfSome o (λ bytes. byte ≡ get_or bytes place 0) → IfSome o (λ bytes. (rest : List ℕ) × (take count (drop (place + 5) bytes) ≡ magic ++ rest)) → IfSome o (FindsFirst (Some count) magic place)
        over None n s r b = tt
        over (Some bytes) n s r b =
            let found : List ℕ = take count (drop (place + 5) bytes) in
            let whole : length found ≡ count = omega (arith, length-take count (drop (place + 5) bytes), length-drop (place + 5) bytes, n, ends, long, there) in
            let five : found ≡ take count (drop (place + 1 + 4) bytes) = ap (λ (k : ℕ). take count (drop k bytes)) (omega arith) in
            let commit : drop place bytes ≡ 1 ∷ drop (place + 1) bytes = commit_first place byte bytes (omega (arith, n, ends, long)) r ∙ ap (λ (b : ℕ). b ∷ drop (place + 1) bytes) is_open in (
              record {
                short = omega (arith, whole, small);
                rest = drop count (drop (place + 1 + 4) bytes);
                encoded = commit ∙ ap (λ (l : List ℕ). 1 ∷ l) (stands (place + 1) count bytes small s found five whole);
                within = omega (arith, whole, ends, long, there);
              },
              whole,
              b.0,
              b.1,
            )

-- a disk of a version that has this first entry begins with it
pub first_holds : (version : Version) (held rest : List ℕ) (disk : DiskState) → Holds (record { version = version; first = None }) [] 8 rest disk → IfSome disk.content (HasFrameAt 8 held) → IsHead (record { version = version; first = Some held })
    → (left : List ℕ) × Holds (record { version = version; first = Some held }) [] (8 + (5 + length held)) left disk
first_holds version held rest disk holds has lawful =
    let alone : List ℕ = entries (record { version = version; first = None }) [] in
    let frame = subst (λ (o : Option (List ℕ)). IfSome o (HasFrameAt 8 held)) holds.content has in
    let eight_bytes : length alone ≡ 8 = omega (arith, ap length (magic_alone version), eight version) in
    let following : rest ≡ 1 ∷ (framed held ++ frame.rest) = sym (drop_at alone rest 8 eight_bytes) ∙ frame.encoded in
    let whole : alone ++ rest ≡ entries (record { version = version; first = Some held }) [] ++ frame.rest =
    ap (λ (l : List ℕ). alone ++ l) following
    ∙ ap (λ (l : List ℕ). l ++ 1 ∷ (framed held ++ frame.rest)) (magic_alone version)
    ∙ sym (append_assoc (disk_magic_of version) (1 ∷ framed held) frame.rest)
    ∙ ap (λ (l : List ℕ). l ++ frame.rest) (sym (first_after version held)) in (
      frame.rest,
      record {
        lawful = lawful;
        each = tt;
        begins = omega (arith, ap length (first_after version held), length-append (disk_magic_of version) (1 ∷ framed held), eight version, length-framed held);
        content = holds.content ∙ ap (λ (l : List ℕ). Some l) whole;
        durable = λ image left. holds.durable image left ∙ whole;
      },
    )
