-- What is before the lines of an input stays shown when more of the input is taken.
use Rattle.std.proofs.Common.{◌≡◌, ◌⊎◌, ⊎_elim, inl, inr, ℕ, ◌+◌, ◌≤◌, List, [], ◌∷◌, ◌++◌, Option, None, Some, IfSome, length, length-append, length-take, take, drop, refl, sym, ap, subst, ◌∙◌, arith, append_assoc}
use Rattle.std.proofs.lemmas.Bool.{cases_lt}
use Rattle.std.proofs.lemmas.List.{take_all}
use Rattle.std.proofs.Math.Seq.{take-add}
use Rattle.flow_io.specs.Streams.{Takes}
use Rattle.word_driver.specs.Does.{IsTaken}
use Rattle.market_history.specs.Histories.{Start, Empty, Kept}
use Rattle.market_snapshot.specs.Checkpoints.{checkpoint_bytes, HasCheckpointMagic}
use Rattle.journal_keeping.specs.Inputs.{HasShownStart}
use Rattle.line_keeping.specs.Inputs.{IsBefore, IsUnopened, line_starts}
use Rattle.line_keeping.proofs.Looking.{whole_magic, part_magic}
use Rattle.line_keeping.proofs.InputStart.{checkpoint_opened}

-- bytes that are neither a magic nor a part of it don't become one
no_magic_after : (x z : List ℕ) → ¬ IsUnopened None x → ¬ HasCheckpointMagic x → ¬ HasCheckpointMagic (x ++ z)
no_magic_after x z opened none (rest, e) =
    ⊎_elim (λ few. let part = part_magic x z rest few e in opened (inl (part.0, part.1, few))) (λ many. none (whole_magic x z rest many e)) (cases_lt (length x) 8)

stays_opened : (x z : List ℕ) → ¬ IsUnopened None x → ¬ HasCheckpointMagic x → ¬ IsUnopened None (x ++ z)
stays_opened x z opened none (inl (rest, e, few)) = opened (inl (z ++ rest, e ∙ append_assoc x z rest, omega (arith, few, length-append x z)))
stays_opened x z opened none (inr unsound) = no_magic_after x z opened none unsound.0

module _ (limit : ℕ) (bytes : List ℕ) (m l taken : List ℕ) (takes : m ≡ taken ++ l) (n : ℕ) (is_taken : n + length m ≡ length bytes) where
  abbrev x : List ℕ
  x = take n (take limit bytes)

  abbrev y : List ℕ
  y = take (n + length taken) (take limit bytes)

  abbrev z : List ℕ
  z = take (length taken) (drop n (take limit bytes))

  joined : y ≡ x ++ z
  joined = take-add n (length taken) (take limit bytes)

  now_taken : IsTaken bytes (Some l) (n + length taken)
  now_taken = omega (arith, is_taken, ap length takes, length-append taken l)

  opened_more : (first : Start) (text : List ℕ) → IsBefore x first text → ¬ IsUnopened None x → HasShownStart line_starts limit bytes (Some l)
  opened_more (Empty version) text is opened =
      let not = no_magic_after x z opened is.0 in
      (n + length taken, now_taken, Empty version, y, (subst (λ (k : List ℕ). ¬ HasCheckpointMagic k) (sym joined) not, refl), inl (subst (λ (k : List ℕ). ¬ IsUnopened None k) (sym joined) (stays_opened x z opened is.0)))
  opened_more (Kept market) text is opened =
      let whole : y ≡ checkpoint_bytes market ++ (text ++ z) = joined ∙ ap (λ (k : List ℕ). k ++ z) is.1 ∙ append_assoc (checkpoint_bytes market) text z in
      (n + length taken, now_taken, Kept market, text ++ z, (is.0, whole), inl (subst (λ (k : List ℕ). ¬ IsUnopened None k) (sym whole) (checkpoint_opened market (text ++ z) is.0)))

  ended_more : (first : Start) (text : List ℕ) → IsBefore x first text → m ≡ [] → HasShownStart line_starts limit bytes (Some l)
  ended_more first text is none =
      let size : length taken + length l ≡ 0 = omega (arith, ap length none, ap length takes, length-append taken l) in
      let same : x ≡ y = ap (λ (k : ℕ). take k (take limit bytes)) (omega (arith, size)) in
      (n + length taken, now_taken, first, text, subst (λ (k : List ℕ). IsBefore k first text) same is, inr (inl (ap (λ (k : List ℕ). Some k) (empty l (omega (arith, size))))))
    where
      empty : (k : List ℕ) → length k ≡ 0 → k ≡ []
      empty [] e = refl
      empty (b ∷ k) e = absurd (omega (arith, e))

  full_more : (first : Start) (text : List ℕ) → IsBefore x first text → limit ≤ n → HasShownStart line_starts limit bytes (Some l)
  full_more first text is full =
      let few : length (take limit bytes) ≤ limit = omega (arith, length-take limit bytes) in
      let same : x ≡ y = take_all n (take limit bytes) (omega (arith, few, full)) ∙ sym (take_all (n + length taken) (take limit bytes) (omega (arith, few, full))) in
      (n + length taken, now_taken, first, text, subst (λ (k : List ℕ). IsBefore k first text) same is, inr (inr (omega (arith, full))))

  shown_by : (first : Start) (text : List ℕ) → IsBefore x first text → (¬ IsUnopened None x) ⊎ ((Some m ≡ Some []) ⊎ (limit ≤ n)) → HasShownStart line_starts limit bytes (Some l)
  shown_by first text is (inl opened) = opened_more first text is opened
  shown_by first text is (inr (inl ended)) = ended_more first text is (let both : Some m ≡ Some [] = ended in cc)
  shown_by first text is (inr (inr full)) = full_more first text is full

pub shown_more : (limit : ℕ) (content mid left : Option (List ℕ)) (taken : List ℕ) → IfSome content (λ bytes. HasShownStart line_starts limit bytes mid) → Takes mid left taken → IfSome content (λ bytes. HasShownStart line_starts limit bytes left)
shown_more limit None mid left taken shown takes = tt
shown_more limit (Some bytes) None None taken shown takes = shown
shown_more limit (Some bytes) None (Some l) taken shown takes = absurd takes
shown_more limit (Some bytes) (Some m) None taken shown takes = absurd takes
shown_more limit (Some bytes) (Some m) (Some l) taken (n, is_taken, first, text, is, why) takes = shown_by limit bytes m l taken takes n is_taken first text is why
