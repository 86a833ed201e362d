-- A block whose lines get more places, from the last place to the first.
use Rattle.std.proofs.Common.{◌≡◌, ℕ, zero, suc, ◌+◌, ◌-◌, ◌*◌, ◌/◌, ◌%◌, ◌<◌, ◌≤◌, List, [], ◌∷◌, ◌++◌, length, length-append, append_assoc, append-nil, take, drop, vec_len, vec_capacity, replicate, get_or, set, sym, ap, subst, ◌∙◌, arith}
use Rattle.std.specs.Global.{Vec}
use Rattle.std.proofs.Math.Nat.{mul-le-mul, mul_comm, add-mul, one-mul, mul-zero, div-add-mod, mod-lt, lt_of_mul-lt-mul_right}
use Rattle.std.proofs.Math.Seq.{set-append_seam}
use Rattle.std.proofs.lemmas.List.{take_more, take_all, drop_more, drop_all, length-take-le, length-replicate, get_or-take, get_or_append_left, get_or_default, get_or_past}
use Rattle.flow_accounts.specs.Lines.{laid, HasWidth}
use Rattle.std.specs.Vec.{with_item}
use Rattle.flow_accounts.proofs.LaidLines.{length-laid, cell}
use Rattle.flow_accounts.proofs.Laying.{filled_up}

module _ {U : Type 0} (none : U) where
  -- one list up to a place, and another from there, when the place before is written
  step : (xs ys : List U) (n : ℕ) (v : U) → n < length xs → length xs ≡ length ys → v ≡ get_or ys n none → set (take (n + 1) xs ++ drop (n + 1) ys) n v ≡ take n xs ++ drop n ys
  step xs ys n v there same is =
      let rest = drop (n + 1) ys in
      let first = take n xs in
      let count : length first ≡ n = length-take-le n xs (omega arith) in
      ap (λ zs. set (zs ++ rest) n v) (take_more xs n none there)
      ∙ ap (λ zs. set zs n v) (append_assoc first (get_or xs n none ∷ []) rest)
      ∙ ap (λ k. set (first ++ get_or xs n none ∷ rest) k v) (sym count)
      ∙ set-append_seam first (get_or xs n none) rest v
      ∙ ap (λ u. first ++ u ∷ rest) is
      ∙ ap (λ zs. first ++ zs) (sym (drop_more ys n none (omega arith)))

  -- what is read before the place is as it was
  before : (xs ys : List U) (n k : ℕ) (u : U) → n < length xs → k ≤ n → get_or (take (n + 1) xs ++ drop (n + 1) ys) k u ≡ get_or xs k u
  before xs ys n k u there early =
      let count = length-take-le (n + 1) xs (omega arith) in
      get_or_append_left (take (n + 1) xs) (drop (n + 1) ys) u k (omega arith) ∙ get_or-take (n + 1) xs k u (omega arith)

  -- the block with the places of `to`, as far as they aren't written yet
  abbrev pub begun : ℕ → ℕ → List (List U) → List U
  begun from to rows = laid none from rows ++ replicate (length rows * to - length rows * from) none

  module _ (from to : ℕ) (wider : from ≤ to) (rows : List (List U)) (widths : HasWidth from rows) where
    more_places : length rows * from ≤ length rows * to
    more_places = mul-le-mul (omega arith) wider

    begun_count : length (begun from to rows) ≡ length rows * to
    begun_count =
        let pad = replicate (length rows * to - length rows * from) none in
        let counts = length-append (laid none from rows) pad in
        let filled = length-replicate (length rows * to - length rows * from) none in
        let first = length-laid none from from (omega arith) rows widths in
        omega (arith, counts, filled, first, more_places)

    target_count : length (laid none to rows) ≡ length rows * to
    target_count = length-laid none from to wider rows widths

    pub record IsAt (n line asset : ℕ) : Type 0 where
      pub place : line * to + asset ≡ n
      pub line_there : line < length rows
      pub asset_there : asset < to
      pub source : line * from + asset ≤ n

    at : (n : ℕ) → n < length rows * to → 0 < to → IsAt n (n / to) (n % to)
    at n below some =
        let place : n / to * to + n % to ≡ n = ap (λ k. k + n % to) (mul_comm (n / to) to) ∙ div-add-mod n to in
        let moved : n / to * from ≤ n / to * to = mul-le-mul (omega arith) wider in
        record {
          place = place;
          line_there = lt_of_mul-lt-mul_right to (omega (arith, place));
          asset_there = mod-lt n some;
          source = omega (arith, place, moved);
        }

    -- the place that is written next, and what belongs there
    target : (n line asset : ℕ) → IsAt n line asset → get_or (laid none to rows) n none ≡ get_or (get_or rows line []) asset none
    target n line asset is = ap (λ k. get_or (laid none to rows) k none) (sym is.place) ∙ cell none from to wider rows line asset widths is.line_there is.asset_there

    -- what is moved there
    source_within : (line asset : ℕ) → line < length rows → asset < from → line * from + asset < length rows * from
    source_within line asset there used =
        let below : (line + 1) * from ≤ length rows * from = mul-le-mul (omega arith) (omega arith) in
        let next : (line + 1) * from ≡ line * from + from = add-mul line 1 from ∙ ap (λ n. line * from + n) (one-mul from) in
        omega (arith, below, next)

    source : (line asset : ℕ) (u : U) → line < length rows → asset < from → get_or (begun from to rows) (line * from + asset) u ≡ get_or (get_or rows line []) asset none
    source line asset u there used =
        let pad = replicate (length rows * to - length rows * from) none in
        let count = length-laid none from from (omega arith) rows widths in
        let within = source_within line asset there used in
        get_or_append_left (laid none from rows) pad u (line * from + asset) (omega (arith, count, within))
        ∙ get_or_default (laid none from rows) (line * from + asset) u none (omega (arith, count, within))
        ∙ cell none from from (omega arith) rows line asset widths there used

    -- a place in use gets what was in its line
    pub moved : (n : ℕ) (u : U) → n < length rows * to → n % to < from → u ≡ get_or (take (n + 1) (begun from to rows) ++ drop (n + 1) (laid none to rows)) (n / to * from + n % to) u
        → set (take (n + 1) (begun from to rows) ++ drop (n + 1) (laid none to rows)) n u ≡ take n (begun from to rows) ++ drop n (laid none to rows)
    moved n u below used read =
        let is = at n below (omega arith) in
        let count = begun_count in
        let same = target_count in
        let value : u ≡ get_or (laid none to rows) n none =
        read ∙ before (begun from to rows) (laid none to rows) n (n / to * from + n % to) u (omega arith) is.source
        ∙ source (n / to) (n % to) u is.line_there used ∙ sym (target n (n / to) (n % to) is) in
        step (begun from to rows) (laid none to rows) n u (omega arith) (omega arith) value

    -- another place gets none
    pub emptied : (n : ℕ) → n < length rows * to → 0 < to → from ≤ n % to
        → set (take (n + 1) (begun from to rows) ++ drop (n + 1) (laid none to rows)) n none ≡ take n (begun from to rows) ++ drop n (laid none to rows)
    emptied n below some unused =
        let is = at n below some in
        let count = begun_count in
        let same = target_count in
        let width : length (get_or rows (n / to) []) ≡ from = widths (n / to) [] is.line_there in
        let value : none ≡ get_or (laid none to rows) n none = sym (target n (n / to) (n % to) is ∙ get_or_past (get_or rows (n / to) []) (n % to) none (omega (arith, width))) in
        step (begun from to rows) (laid none to rows) n none (omega arith) (omega arith) value

    -- nothing is written yet
    pub none_moved : take (length rows * to) (begun from to rows) ++ drop (length rows * to) (laid none to rows) ≡ begun from to rows
    none_moved =
        let count = begun_count in
        let same = target_count in
        ap (λ zs. take (length rows * to) (begun from to rows) ++ zs) (drop_all (length rows * to) (laid none to rows) (omega arith))
        ∙ append-nil (take (length rows * to) (begun from to rows)) ∙ take_all (length rows * to) (begun from to rows) (omega arith)

-- lines with a place have places
positive : (lines to left : ℕ) → left ≤ lines * to → 0 < left → 0 < to
positive lines zero left most some = absurd (omega (arith, mul-zero lines))
positive lines (suc to) left most some = omega arith

-- the block while places up to `left` are still as they were, and the others are written
pub record IsWidening {U : Type 0} (none : U) (lines from to left : ℕ) (first : Vec U) (units : Vec U) : Type 0 where
  pub len : vec_len units ≡ lines * to
  pub most : left ≤ lines * to
  pub capacity : vec_capacity first ≤ vec_capacity units
  pub items : (rows : List (List U)) → length rows ≡ lines → HasWidth from rows → first.items ≡ begun none from to rows
      → units.items ≡ take left (begun none from to rows) ++ drop left (laid none to rows)

module _ {U : Type 0} (none : U) (lines from to : ℕ) (wider : from ≤ to) (first : Vec U) where
  pub starts : vec_len first ≡ lines * to → IsWidening none lines from to (lines * to) first first
  starts len = record {
    len = len;
    most = omega arith;
    capacity = omega arith;
    items = λ rows count widths is. is ∙ sym (none_moved none from to wider rows widths) ∙ ap (λ n. take (n * to) (begun none from to rows) ++ drop (n * to) (laid none to rows)) count;
  }

  module _ (left : ℕ) (units : Vec U) (some_left : 0 < left) (now : IsWidening none lines from to left first units) where
    turn : (v : U) → ((rows : List (List U)) → length rows ≡ lines → HasWidth from rows → units.items ≡ take (left - 1 + 1) (begun none from to rows) ++ drop (left - 1 + 1) (laid none to rows)
        → set (take (left - 1 + 1) (begun none from to rows) ++ drop (left - 1 + 1) (laid none to rows)) (left - 1) v ≡ take (left - 1) (begun none from to rows) ++ drop (left - 1) (laid none to rows))
        → IsWidening none lines from to (left - 1) first (with_item units (left - 1) v)
    turn v written = record {
      len = now.len;
      most = omega (arith, now.most);
      capacity = now.capacity;
      items = λ rows count widths is.
          let one : left ≡ left - 1 + 1 = omega arith in
          let before = subst (λ n. units.items ≡ take n (begun none from to rows) ++ drop n (laid none to rows)) one (now.items rows count widths is) in
          ap (λ us. set us (left - 1) v) before ∙ written rows count widths before;
    }

    pub turn_moved : (v : U) → (left - 1) % to < from → v ≡ get_or units.items ((left - 1) / to * from + (left - 1) % to) v → IsWidening none lines from to (left - 1) first (with_item units (left - 1) v)
    turn_moved v used read = turn v (λ rows count widths before.
        moved none from to wider rows widths (left - 1) v (subst (λ n. left - 1 < n * to) (sym count) (omega (arith, now.most))) used
        (read ∙ ap (λ us. get_or us ((left - 1) / to * from + (left - 1) % to) v) before))

    pub turn_emptied : from ≤ (left - 1) % to → IsWidening none lines from to (left - 1) first (with_item units (left - 1) none)
    turn_emptied unused = turn none (λ rows count widths before.
        emptied none from to wider rows widths (left - 1) (subst (λ n. left - 1 < n * to) (sym count) (omega (arith, now.most))) (positive lines to left now.most some_left) unused)

  -- all places are written
  pub ends : (units : Vec U) → IsWidening none lines from to 0 first units → (rows : List (List U)) → length rows ≡ lines → HasWidth from rows → first.items ≡ begun none from to rows → units.items ≡ laid none to rows
  ends units now rows count widths is = now.items rows count widths is

-- what a block is filled up to
pub begins : {U : Type 0} (none : U) (lines from to : ℕ) (rows : List (List U)) (old first : Vec U) → from ≤ to → length rows ≡ lines → vec_len old ≡ lines * from → old.items ≡ laid none from rows
    → first.items ≡ take (lines * to) old.items ++ replicate (lines * to - vec_len old) none → first.items ≡ begun none from to rows
begins none lines from to rows old first wider count held is filled =
    let more : lines * from ≤ lines * to = mul-le-mul (omega arith) wider in
    filled_up old.items first.items (lines * to) (vec_len old) (lines * to - lines * from) none filled old.ok.0 (omega arith)
    ∙ ap (λ us. us ++ replicate (lines * to - lines * from) none) is ∙ ap (λ n. laid none from rows ++ replicate (n * to - n * from) none) (sym count)
