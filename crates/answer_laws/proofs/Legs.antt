-- The members of a weight vector, written and read.
use Rattle.std.proofs.Common.{◌≡◌, ℕ, ℤ, pos, negsuc, suc, ◌+◌, max, ◌<◌, ◌^◌, true, false, List, [], ◌∷◌, ◌++◌, length, append_assoc, Some, refl, sym, ap, ap₂, ◌∙◌, arith, IsUtf8, option_map, subst, inl, inr, flat_map, Ordering, Less, Equal, Greater, is_eq, slice_index_or, lt-ltb}
use Rattle.std.specs.Prelude.{⊤}
use Rattle.std.specs.Fmt.{signed_decimal}
use Rattle.std.specs.List.{AllByRecursion, range_with_len}
use Rattle.std.specs.Ordering.{nat_cmp, match_ordering}
use Rattle.std.specs.Cmp.Lexicographic.{slice_cmp}
use Rattle.std.proofs.lemmas.Int.{ints}
use Rattle.std.proofs.lemmas.Map.Text.{is_eq-slice_cmp}
use Rattle.std.proofs.lemmas.Slice.Eq.{bytes_eq-Decides}
use Rattle.std.proofs.lemmas.List.{get_or_default}
use Rattle.std.proofs.lemmas.List.Elements.{All-from_recursion}
use Rattle.std.proofs.lemmas.Str.{IsUtf8-from_ascii}
use Rattle.std.proofs.lemmas.Fmt.{IsAscii-signed}
use Rattle.json.specs.Token.{Token}
use Rattle.json.specs.Json as json
use Rattle.json.specs.Print.{print_from, escape, IsNumber}
use Rattle.json.specs.Tree.{members_tokens, MembersHaveNumbers, members_depth}
use Rattle.json.proofs.Printed.Decimals.{IsNumber-signed_decimal}
use Rattle.json.proofs.Printed.Utf8.{IsUtf8-key, IsUtf8-are_ascii}
use Rattle.serde_json.specs.Data.{Data, number, object, Members, no_members, member, put}
use Rattle.serde_json.specs.Read.{of_json, of_members}
use Rattle.serde_json.specs.Find.{of_integer}
use Rattle.serde_json.specs.Events.{members_len}
use Rattle.serde_json.proofs.Numbers.{number_of-decimal, number_of-negative}
use Rattle.weight_rows.specs.declared.entries.Entry.{Entry}
use Rattle.wire_fields.specs.Numbers.{IsSigned}
use Rattle.ticker_table.specs.Tickers.{AreTickers}
use Rattle.order_text.specs.Lines.{signed_of, asset_named, IsEntryOf, AreWeights}
use Rattle.order_text.proofs.Weights.{Rises}
use Rattle.pair_text.specs.Texts.{◌then◌}
use Rattle.answer_text.specs.Texts.{ticker_text, comma, listed}
use Rattle.answer_text.specs.Answers.{leg_member}
use Rattle.answer_laws.proofs.ReadBack.{one_more, AreUtf8}
use Rattle.answer_laws.proofs.Names.{name_of, name_escapes, name_utf8, names_asset, names_differ}

-- ---- signed numbers

pub signed_number : (z : ℤ) → IsSigned 8 z → IsNumber (signed_decimal z)
signed_number (pos n) h = IsNumber-signed_decimal (pos n) (omega (arith, ints, h.1))
signed_number (negsuc n) h = IsNumber-signed_decimal (negsuc n) (omega (arith, ints, h.0))

pub signed_utf8 : (z : ℤ) → IsSigned 8 z → IsUtf8 (signed_decimal z)
signed_utf8 (pos n) h = IsUtf8-from_ascii (signed_decimal (pos n)) (IsAscii-signed (pos n) (omega (arith, ints, h.1)))
signed_utf8 (negsuc n) h = IsUtf8-from_ascii (signed_decimal (negsuc n)) (IsAscii-signed (negsuc n) (omega (arith, ints, h.0)))

pub signed_back : (z : ℤ) → IsSigned 8 z → of_json (json.number (signed_decimal z)) ≡ Some (number (of_integer z))
signed_back (pos n) h = ap (option_map number) (number_of-decimal n (omega (arith, ints, h.1)))
signed_back (negsuc n) h = ap (option_map number) (number_of-negative n (omega (arith, ints, h.0)))

pub signed_means : (z : ℤ) → IsSigned 8 z → signed_of (number (of_integer z)) ≡ Some z
signed_means (pos n) h = let small : n < 2 ^ 63 = omega (arith, ints, h.1) in rw (lt-ltb n (2 ^ 63) small) refl
signed_means (negsuc n) h = refl

-- ---- objects with one member more

-- no member has this key
abbrev pub Lacks : List ℕ → Members → Type 0
Lacks k no_members = ⊤
Lacks k (member l d ms) = (k ≡ l → ⊥) × Lacks k ms

-- keys that compare equal are equal
keys_are : (k l : List ℕ) → slice_cmp nat_cmp k l ≡ Equal → k ≡ l
keys_are k l is = (bytes_eq-Decides k l).0 (sym (is_eq-slice_cmp k l) ∙ ap is_eq is)

lacks_put : (k l : List ℕ) (d : Data) (ms : Members) → (k ≡ l → ⊥) → Lacks k ms → Lacks k (put l d ms)
lacks_put k l d no_members other h = (other, tt)
lacks_put k l d (member m e ms) other h = by (slice_cmp nat_cmp l m) (lacks_put k l d ms other h.1)
  where
    by : (o : Ordering) → Lacks k (put l d ms) → Lacks k (match_ordering o (member l d (member m e ms)) (member m d ms) (member m e (put l d ms)))
    by Less more = (other, h)
    by Equal more = h
    by Greater more = (h.0, more)

long_put : (k : List ℕ) (d : Data) (ms : Members) → Lacks k ms → members_len (put k d ms) ≡ suc (members_len ms)
long_put k d no_members h = refl
long_put k d (member l e ms) h = by (slice_cmp nat_cmp k l) refl (long_put k d ms h.1)
  where
    by : (o : Ordering) → slice_cmp nat_cmp k l ≡ o → members_len (put k d ms) ≡ suc (members_len ms)
        → members_len (match_ordering o (member k d (member l e ms)) (member l d ms) (member l e (put k d ms))) ≡ suc (suc (members_len ms))
    by Less is more = refl
    by Equal is more = absurd (h.0 (keys_are k l is))
    by Greater is more = ap suc more

module _ (tickers : List (List ℕ)) where
  -- a leg is what this member says
  abbrev Says : List ℕ → Data → Entry → Type 0
  Says k d x = (asset_named tickers k ≡ Some x.asset) × (signed_of d ≡ Some x.weight) × IsSigned 4 x.weight

  says_put : (k : List ℕ) (d : Data) (ms : Members) (x : Entry) → Says k d x → IsEntryOf tickers (put k d ms) x
  says_put k d no_members x says = inl says
  says_put k d (member l e ms) x says = by (slice_cmp nat_cmp k l) refl (says_put k d ms x says)
    where
      by : (o : Ordering) → slice_cmp nat_cmp k l ≡ o → IsEntryOf tickers (put k d ms) x
          → IsEntryOf tickers (match_ordering o (member k d (member l e ms)) (member l d ms) (member l e (put k d ms))) x
      by Less is more = inl says
      by Equal is more = inl (subst (λ (m : List ℕ). Says m d x) (keys_are k l is) says)
      by Greater is more = inr more

  keeps_put : (k : List ℕ) (d : Data) (ms : Members) (x : Entry) → Lacks k ms → IsEntryOf tickers ms x → IsEntryOf tickers (put k d ms) x
  keeps_put k d no_members x h is = absurd is
  keeps_put k d (member l e ms) x h is = by (slice_cmp nat_cmp k l) refl (keeps_put k d ms x h.1)
    where
      by : (o : Ordering) → slice_cmp nat_cmp k l ≡ o → (IsEntryOf tickers ms x → IsEntryOf tickers (put k d ms) x)
          → IsEntryOf tickers (match_ordering o (member k d (member l e ms)) (member l d ms) (member l e (put k d ms))) x
      by Less eq more = inr is
      by Equal eq more = absurd (h.0 (keys_are k l eq))
      by Greater eq more = elim is [ inl here ↦ inl here | inr later ↦ inr (more later) ]

-- ---- legs

-- a leg of an asset that is there, with a weight of 32 bits
abbrev pub IsLeg : List (List ℕ) → Entry → Type 0
IsLeg tickers e = (e.asset < length tickers) × IsSigned 4 e.weight

wide : (z : ℤ) → IsSigned 4 z → IsSigned 8 z
wide z h = (omega (arith, ints, h.0), omega (arith, ints, h.1))

abbrev pub legs_json : List (List ℕ) → List Entry → json.Members
legs_json tickers [] = json.no_members
legs_json tickers (e ∷ row) = json.member (name_of tickers e.asset) (json.number (signed_decimal e.weight)) (legs_json tickers row)

abbrev put_legs : List (List ℕ) → List Entry → Members → Members
put_legs tickers [] found = found
put_legs tickers (e ∷ row) found = put_legs tickers row (put (name_of tickers e.asset) (number (of_integer e.weight)) found)

-- what is read of the legs
abbrev pub legs_data : List (List ℕ) → List Entry → Members
legs_data tickers row = put_legs tickers row no_members

legs_put : (tickers : List (List ℕ)) (row : List Entry) (found : Members) → AllByRecursion (IsLeg tickers) row → of_members (legs_json tickers row) found ≡ Some (put_legs tickers row found)
legs_put tickers [] found h = refl
legs_put tickers (e ∷ row) found h =
    one_more (name_of tickers e.asset) (json.number (signed_decimal e.weight)) (legs_json tickers row) found (number (of_integer e.weight)) (signed_back e.weight (wide e.weight h.0.1))
    ∙ legs_put tickers row (put (name_of tickers e.asset) (number (of_integer e.weight)) found) h.1

pub legs_back : (tickers : List (List ℕ)) (row : List Entry) → AllByRecursion (IsLeg tickers) row → of_json (json.object (legs_json tickers row)) ≡ Some (object (legs_data tickers row))
legs_back tickers row h = ap (option_map object) (legs_put tickers row no_members h)

pub legs_numbers : (tickers : List (List ℕ)) (row : List Entry) → AllByRecursion (IsLeg tickers) row → MembersHaveNumbers (legs_json tickers row)
legs_numbers tickers [] h = tt
legs_numbers tickers (e ∷ row) h = (signed_number e.weight (wide e.weight h.0.1), legs_numbers tickers row h.1)

pub legs_flat : (tickers : List (List ℕ)) (row : List Entry) → members_depth (legs_json tickers row) ≡ 0
legs_flat tickers [] = refl
legs_flat tickers (e ∷ row) = ap (max 0) (legs_flat tickers row)

module _ (tickers : List (List ℕ)) (are : AreTickers tickers) where
  pub legs_utf8 : (row : List Entry) → AllByRecursion (IsLeg tickers) row → AreUtf8 (members_tokens (legs_json tickers row))
  legs_utf8 [] h = (IsUtf8-are_ascii (125 ∷ []) refl, tt)
  legs_utf8 (e ∷ row) h = (IsUtf8-key (name_of tickers e.asset) (name_utf8 tickers are e.asset h.0.0), (signed_utf8 e.weight (wide e.weight h.0.1), legs_utf8 row h.1))

  -- these legs' keys aren't there yet
  abbrev AreNew : List Entry → Members → Type 0
  AreNew row found = AllByRecursion (λ (e : Entry). Lacks (name_of tickers e.asset) found) row

  none_there : (row : List Entry) → AreNew row no_members
  none_there [] = tt
  none_there (e ∷ row) = (tt, none_there row)

  still_new : (e : Entry) (low : ℕ) (row : List Entry) (found : Members) → IsLeg tickers e → e.asset < low → Rises low row → AllByRecursion (IsLeg tickers) row → AreNew row found
      → AreNew row (put (name_of tickers e.asset) (number (of_integer e.weight)) found)
  still_new e low [] found leg below rises h new = tt
  still_new e low (x ∷ row) found leg below rises h new = (
    lacks_put (name_of tickers x.asset) (name_of tickers e.asset) (number (of_integer e.weight)) found (names_differ tickers are x.asset e.asset h.0.0 leg.0 (λ same. omega (arith, same, below, rises.0))) new.0,
    still_new e (suc x.asset) row found leg (omega (arith, below, rises.0)) rises.1 h.1 new.1,
  )

  legs_long : (low : ℕ) (row : List Entry) (found : Members) → Rises low row → AllByRecursion (IsLeg tickers) row → AreNew row found → members_len (put_legs tickers row found) ≡ length row + members_len found
  legs_long low [] found rises h new = omega arith
  legs_long low (e ∷ row) found rises h new =
      let next = put (name_of tickers e.asset) (number (of_integer e.weight)) found in
      let more = legs_long (suc e.asset) row next rises.1 h.1 (still_new e (suc e.asset) row found h.0 (omega arith) rises.1 h.1 new.1) in
      omega (arith, more, long_put (name_of tickers e.asset) (number (of_integer e.weight)) found new.0)

  legs_keep : (low : ℕ) (row : List Entry) (found : Members) (x : Entry) → Rises low row → AllByRecursion (IsLeg tickers) row → AreNew row found → IsEntryOf tickers found x → IsEntryOf tickers (put_legs tickers row found) x
  legs_keep low [] found x rises h new is = is
  legs_keep low (e ∷ row) found x rises h new is =
      let next = put (name_of tickers e.asset) (number (of_integer e.weight)) found in
      legs_keep (suc e.asset) row next x rises.1 h.1 (still_new e (suc e.asset) row found h.0 (omega arith) rises.1 h.1 new.1)
      (keeps_put tickers (name_of tickers e.asset) (number (of_integer e.weight)) found x new.0 is)

  legs_say : (low : ℕ) (row : List Entry) (found : Members) → Rises low row → AllByRecursion (IsLeg tickers) row → AreNew row found → AllByRecursion (IsEntryOf tickers (put_legs tickers row found)) row
  legs_say low [] found rises h new = tt
  legs_say low (e ∷ row) found rises h new =
      let next = put (name_of tickers e.asset) (number (of_integer e.weight)) found in
      let newer = still_new e (suc e.asset) row found h.0 (omega arith) rises.1 h.1 new.1 in (
        legs_keep (suc e.asset) row next e rises.1 h.1 newer
            (says_put tickers (name_of tickers e.asset) (number (of_integer e.weight)) found e (names_asset tickers are e.asset h.0.0, signed_means e.weight (wide e.weight h.0.1), h.0.1)),
        legs_say (suc e.asset) row next rises.1 h.1 newer,
      )

  -- the legs that are read are the weight vector
  pub legs_weigh : (row : List Entry) → Rises 0 row → AllByRecursion (IsLeg tickers) row → (read : Members) → AreWeights tickers read row → AreWeights tickers (legs_data tickers row) row
  legs_weigh row rises h read weights = record {
    ascending = weights.ascending;
    count = omega (arith, legs_long 0 row no_members rises h (none_there row));
    each = All-from_recursion (IsEntryOf tickers (legs_data tickers row)) row (legs_say 0 row no_members rises h (none_there row));
  }

  -- ---- the text of legs

  -- the text of a leg
  abbrev leg_text : Entry → List ℕ
  leg_text e = ticker_text tickers e.asset ++ (58 ∷ signed_decimal e.weight)

  -- the texts of items that are found by their places
  by_places : (item : ℕ → List ℕ) (text : Entry → List ℕ) (row : List Entry) (first : ℕ) → ((i : ℕ) (d : Entry) → i < length row → item (first + i) ≡ text (slice_index_or row i d)) → flat_map item (range_with_len first (length row)) ≡ flat_map text row
  by_places item text [] first same = refl
  by_places item text (e ∷ row) first same =
      let here : first ≡ first + 0 = omega arith in
      ap₂ (λ (a b : List ℕ). a ++ b) (ap item here ∙ same 0 e (omega arith))
      (by_places item text row (first + 1) (λ i d within. let next : first + 1 + i ≡ first + suc i = omega arith in ap item next ∙ same (suc i) d (omega (arith, within))))

  -- legs with a comma before each
  later_legs : List Entry → List ℕ
  later_legs row = flat_map (λ e. 44 ∷ leg_text e) row

  joined : (name weight others rest : List ℕ) → ((name ++ 34 ∷ []) ++ 58 ∷ []) ++ (weight ++ (others ++ rest)) ≡ (((name ++ 34 ∷ []) ++ (58 ∷ weight)) ++ others) ++ rest
  joined name weight others rest = simp append_assoc

  legs_after : (row : List Entry) (rest : List Token) → AllByRecursion (IsLeg tickers) row → print_from true (members_tokens (legs_json tickers row) ++ rest) ≡ later_legs row ++ (125 ∷ print_from true rest)
  unfolding print_from later_legs
  legs_after [] rest h = refl
  legs_after (e ∷ row) rest h =
      let name = escape (name_of tickers e.asset) in
      let weight = signed_decimal e.weight in
      let end = 125 ∷ print_from true rest in
      ap (λ l. 44 ∷ 34 ∷ (((name ++ 34 ∷ []) ++ 58 ∷ []) ++ (weight ++ l))) (legs_after row rest h.1)
      ∙ ap (λ l. 44 ∷ 34 ∷ l) (joined name weight (later_legs row) end)
      ∙ ap (λ l. 44 ∷ 34 ∷ ((((l ++ 34 ∷ []) ++ (58 ∷ weight)) ++ later_legs row) ++ end)) (sym (name_escapes tickers are e.asset h.0.0))

  -- the items after the first
  others_are : (e : Entry) (row : List Entry) → flat_map (λ place. comma place then leg_member tickers (e ∷ row) place) (range_with_len 1 (length row)) ≡ later_legs row
  unfolding later_legs
  others_are e row = by_places (λ place. comma place then leg_member tickers (e ∷ row) place) (λ x. 44 ∷ leg_text x) row 1 (λ i d within.
      let next : 1 + i ≡ suc i = omega arith in
      let other : Entry = record { asset = 0; weight = pos 0 } in
      ap (λ n. comma n then leg_member tickers (e ∷ row) n) next ∙ ap (λ (x : Entry). 44 ∷ leg_text x) (get_or_default row i other d within))

  pub legs_printed : (row : List Entry) (rest : List Token) → AllByRecursion (IsLeg tickers) row → print_from false (members_tokens (legs_json tickers row) ++ rest) ≡ listed (leg_member tickers row) (length row) ++ (125 ∷ print_from true rest)
  unfolding print_from later_legs
  legs_printed [] rest h = refl
  legs_printed (e ∷ row) rest h =
      let name = escape (name_of tickers e.asset) in
      let weight = signed_decimal e.weight in
      let end = 125 ∷ print_from true rest in
      ap (λ l. 34 ∷ (((name ++ 34 ∷ []) ++ 58 ∷ []) ++ (weight ++ l))) (legs_after row rest h.1)
      ∙ ap (λ l. 34 ∷ l) (joined name weight (later_legs row) end)
      ∙ ap (λ l. 34 ∷ ((((l ++ 34 ∷ []) ++ (58 ∷ weight)) ++ later_legs row) ++ end)) (sym (name_escapes tickers are e.asset h.0.0))
      ∙ ap (λ l. (leg_text e ++ l) ++ end) (sym (others_are e row))
