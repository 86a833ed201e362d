-- Bytes that begin with two lists of stored entries.
use Rattle.std.proofs.Common.{◌≡◌, ◌⊎◌, inl, inr, ℕ, ◌≤◌, ◌^◌, List, [], ◌∷◌, ◌++◌, length, drop, refl, sym, ap, subst, ◌∙◌, arith, length-append, length-drop, append_assoc}
use Rattle.std.proofs.lemmas.List.{drop_at, append_cancel_left}
use Rattle.std.proofs.lemmas.Grind.{flat_map-append}
use Rattle.std.specs.List.{flat_map, AllByRecursion}
use Rattle.journal_disk.specs.Pairs.{RecordPair, IsRecordPair, pair_bytes}
use Rattle.journal_disk.specs.Entries.{Head, framed, head_bytes, entry, entries}
use Rattle.journal_disk.specs.Stepping.{IsDamagedAt}
use Rattle.journal_disk.proofs.Entries.{length-framed}
use Rattle.journal_disk.proofs.OneList.{framed_unique}
use Rattle.journal_disk.proofs.Excluding.{entry_not_damaged}

tails : (a b : ℕ) (x y : List ℕ) → a ∷ x ≡ b ∷ y → x ≡ y
tails a b x y e = cc

-- one of the two lists is a prefix of the other
abbrev pub ArePrefixes : List RecordPair → List RecordPair → Type 0
ArePrefixes p q = ((more : List RecordPair) × (q ≡ p ++ more)) ⊎ ((more : List RecordPair) × (p ≡ q ++ more))

cons_prefixes : (p q : RecordPair) (ps qs : List RecordPair) → p ≡ q → ArePrefixes ps qs → ArePrefixes (p ∷ ps) (q ∷ qs)
cons_prefixes p q ps qs same (inl more) = let is = more.1 in inl (more.0, cc (same, is))
cons_prefixes p q ps qs same (inr more) = let is = more.1 in inr (more.0, cc (same, is))

prefixes : (p q : List RecordPair) (x y : List ℕ) → AllByRecursion IsRecordPair p → AllByRecursion IsRecordPair q → flat_map entry p ++ x ≡ flat_map entry q ++ y → ArePrefixes p q
prefixes [] q x y a b e = inl (q, refl)
prefixes (p ∷ ps) [] x y a b e = inr (p ∷ ps, refl)
prefixes (p ∷ ps) (q ∷ qs) x y a b e =
    let regrouped = sym (append_assoc (framed (pair_bytes p)) (flat_map entry ps) x) ∙ tails 1 1 _ _ e ∙ append_assoc (framed (pair_bytes q)) (flat_map entry qs) y in
    let found = framed_unique p q _ _ a.0 b.0 regrouped in
    cons_prefixes p q ps qs found.0 (prefixes ps qs x y a.1 b.1 found.1)

each_after : (p q : List RecordPair) → AllByRecursion IsRecordPair (p ++ q) → AllByRecursion IsRecordPair q
each_after [] q all = all
each_after (p ∷ ps) q all = each_after ps q all.1

module _ (head : Head) where
  pub are_prefixes : (p q : List RecordPair) (x y bytes : List ℕ) → AllByRecursion IsRecordPair p → AllByRecursion IsRecordPair q → bytes ≡ entries head p ++ x → bytes ≡ entries head q ++ y → ArePrefixes p q
  unfolding entries
  are_prefixes p q x y bytes a b is also =
      prefixes p q x y a b (append_cancel_left (head_bytes head) _ _ (sym (append_assoc (head_bytes head) (flat_map entry p) x) ∙ sym is ∙ also ∙ append_assoc (head_bytes head) (flat_map entry q) y))

  -- what follows the first entries
  drop_first : (first more : List RecordPair) (rest bytes : List ℕ) → bytes ≡ entries head (first ++ more) ++ rest → drop (length (entries head first)) bytes ≡ flat_map entry more ++ rest
  unfolding entries
  drop_first first more rest bytes is =
      ap (λ (l : List ℕ). drop (length (entries head first)) l)
      (is
      ∙ ap (λ (l : List ℕ). ((head_bytes head) ++ l) ++ rest) (flat_map-append entry first more)
      ∙ ap (λ (l : List ℕ). l ++ rest) (sym (append_assoc (head_bytes head) (flat_map entry first) (flat_map entry more)))
      ∙ append_assoc (entries head first) (flat_map entry more) rest)
      ∙ drop_at (entries head first) (flat_map entry more ++ rest) (length (entries head first)) refl

  -- there is no entry at a damaged place
  pub ends_at_damage : (first : List RecordPair) (next : RecordPair) (more : List RecordPair) (rest bytes : List ℕ) (place : ℕ) → AllByRecursion IsRecordPair (first ++ next ∷ more) → bytes ≡ entries head (first ++ next ∷ more) ++ rest
      → place ≡ length (entries head first) → length bytes ≤ 2 ^ 60 → ¬ IsDamagedAt place bytes
  ends_at_damage first next more rest bytes place each is begins small damage =
      let left = flat_map entry more ++ rest in
      let at = length (entries head first) in
      let encoded : drop at bytes ≡ entry next ++ left = drop_first first (next ∷ more) rest bytes is ∙ append_assoc (entry next) (flat_map entry more) rest in
      entry_not_damaged at bytes next left (record {
        is_pair = (each_after first (next ∷ more) each).0;
        encoded = encoded;
        within = omega (arith, small, ap length encoded, length-drop at bytes, length-append (framed (pair_bytes next)) left, length-framed (pair_bytes next));
      }) (subst (λ (n : ℕ). IsDamagedAt n bytes) begins damage)
