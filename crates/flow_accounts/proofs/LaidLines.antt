-- Lines that are laid in one block.
use Rattle.std.proofs.Common.{◌≡◌, ℕ, zero, suc, ◌+◌, ◌-◌, ◌*◌, ◌<◌, ◌≤◌, List, [], ◌∷◌, ◌++◌, length, length-append, append_assoc, map, take, drop, replicate, get_or, set, refl, sym, ap, ◌∙◌, ⊎_elim, arith}
use Rattle.std.proofs.lemmas.Bool.{cases_lt}
use Rattle.std.proofs.Math.Nat.{zero-mul, suc-mul}
use Rattle.std.proofs.Math.Seq.{take-append_seam, drop-append_seam}
use Rattle.std.proofs.lemmas.List.{length-replicate, length-set, length_push, get_or_append_left, get_or-append_right, get_or-replicate, get_or_past, set-append_left, set-append_right, append-nil}
use Rattle.flow_accounts.specs.Lines.{Line, laid, HasWidth}
use Rattle.flow_accounts.specs.Laid.{lines_of}

module _ {U : Type 0} (none : U) (w s : ℕ) (enough : w ≤ s) where
  row_width : (row : List U) (rows : List (List U)) → HasWidth w (row ∷ rows) → length row ≡ w
  row_width row rows widths = widths 0 row (omega arith)

  rest_widths : (row : List U) (rows : List (List U)) → HasWidth w (row ∷ rows) → HasWidth w rows
  rest_widths row rows widths = λ k d below. widths (suc k) d (omega arith)

  -- a row that is filled up has all places
  filled : (row : List U) → length row ≡ w → length (row ++ replicate (s - length row) none) ≡ s
  filled row width = length-append row (replicate (s - length row) none) ∙ ap (λ n. length row + n) (length-replicate (s - length row) none) ∙ omega (arith, enough, width)

  -- the first row with its places, and the others after it
  parted : (row : List U) (rows : List (List U)) → laid none s (row ∷ rows) ≡ (row ++ replicate (s - length row) none) ++ laid none s rows
  parted row rows = sym (append_assoc row (replicate (s - length row) none) (laid none s rows))

  pub length-laid : (rows : List (List U)) → HasWidth w rows → length (laid none s rows) ≡ length rows * s
  length-laid [] widths = sym (zero-mul s)
  length-laid (row ∷ rows) widths =
      ap length (parted row rows) ∙ length-append (row ++ replicate (s - length row) none) (laid none s rows)
      ∙ ap (λ n. n + length (laid none s rows)) (filled row (row_width row rows widths))
      ∙ omega (arith, length-laid rows (rest_widths row rows widths), suc-mul (length rows) s)

  -- a place in the first row
  first_cell : (row : List U) (rows : List (List U)) (k : ℕ) → k < s → length row ≡ w → get_or (laid none s (row ∷ rows)) k none ≡ get_or row k none
  first_cell row rows k within width =
      let pad = replicate (s - length row) none in
      ⊎_elim
      (λ inside. get_or_append_left row (pad ++ laid none s rows) none k inside)
      (λ past.
      get_or-append_right row (pad ++ laid none s rows) (length row) k none refl past
      ∙ get_or_append_left pad (laid none s rows) none (k - length row) (omega (arith, length-replicate (s - length row) none))
      ∙ get_or-replicate (s - length row) (k - length row) none none (omega arith) ∙ sym (get_or_past row k none past))
      (cases_lt k (length row))

  -- what is at a place of a row
  pub cell : (rows : List (List U)) (i k : ℕ) → HasWidth w rows → i < length rows → k < s → get_or (laid none s rows) (i * s + k) none ≡ get_or (get_or rows i []) k none
  cell [] i k widths there within = absurd (omega arith)
  cell (row ∷ rows) zero k widths there within =
      let at : 0 * s + k ≡ k = omega (arith, zero-mul s) in
      ap (λ j. get_or (laid none s (row ∷ rows)) j none) at ∙ first_cell row rows k within (row_width row rows widths)
  cell (row ∷ rows) (suc i) k widths there within =
      let width = filled row (row_width row rows widths) in
      let product = suc-mul i s in
      let behind : suc i * s + k - s ≡ i * s + k = omega arith in
      ap (λ xs. get_or xs (suc i * s + k) none) (parted row rows)
      ∙ get_or-append_right (row ++ replicate (s - length row) none) (laid none s rows) s (suc i * s + k) none width (omega arith)
      ∙ ap (λ j. get_or (laid none s rows) j none) behind
      ∙ cell rows i k (rest_widths row rows widths) (omega arith) within

  -- a place of a row is written
  pub set_cell : (rows : List (List U)) (i k : ℕ) (v : U) → HasWidth w rows → i < length rows → k < w → set (laid none s rows) (i * s + k) v ≡ laid none s (set rows i (set (get_or rows i []) k v))
  set_cell [] i k v widths there within = absurd (omega arith)
  set_cell (row ∷ rows) zero k v widths there within =
      let at : 0 * s + k ≡ k = omega (arith, zero-mul s) in
      ap (λ j. set (laid none s (row ∷ rows)) j v) at
      ∙ set-append_left row (replicate (s - length row) none ++ laid none s rows) k v (omega (arith, row_width row rows widths))
      ∙ ap (λ n. set row k v ++ (replicate (s - n) none ++ laid none s rows)) (sym (length-set row k v))
  set_cell (row ∷ rows) (suc i) k v widths there within =
      let width = filled row (row_width row rows widths) in
      let new = set rows i (set (get_or rows i []) k v) in
      let product = suc-mul i s in
      let behind : suc i * s + k - s ≡ i * s + k = omega arith in
      ap (λ xs. set xs (suc i * s + k) v) (parted row rows)
      ∙ set-append_right (row ++ replicate (s - length row) none) (laid none s rows) s (suc i * s + k) v width (omega arith)
      ∙ ap (λ j. (row ++ replicate (s - length row) none) ++ set (laid none s rows) j v) behind
      ∙ ap (λ xs. (row ++ replicate (s - length row) none) ++ xs) (set_cell rows i k v (rest_widths row rows widths) (omega arith) within)
      ∙ sym (parted row new)

  -- a row is added
  pub laid-push : (rows : List (List U)) (row : List U) → laid none s (rows ++ row ∷ []) ≡ laid none s rows ++ (row ++ replicate (s - length row) none)
  laid-push [] row = ap (λ xs. row ++ xs) (append-nil (replicate (s - length row) none))
  laid-push (r ∷ rows) row =
      let pad = replicate (s - length r) none in
      ap (λ xs. r ++ (pad ++ xs)) (laid-push rows row)
      ∙ ap (λ xs. r ++ xs) (sym (append_assoc pad (laid none s rows) (row ++ replicate (s - length row) none)))
      ∙ sym (append_assoc r (pad ++ laid none s rows) (row ++ replicate (s - length row) none))

  -- one more place of each row is in use
  pub laid-more : (rows : List (List U)) → HasWidth w rows → w < s → laid none s (map (λ (row : List U). row ++ none ∷ []) rows) ≡ laid none s rows
  laid-more [] widths spare = refl
  laid-more (row ∷ rows) widths spare =
      let width = row_width row rows widths in
      let more = row ++ none ∷ [] in
      let rest = laid none s rows in
      let one_less : s - length row ≡ suc (s - length more) = omega (arith, length_push row none, width) in
      ap (λ xs. more ++ (replicate (s - length more) none ++ xs)) (laid-more rows (rest_widths row rows widths) spare)
      ∙ append_assoc row (none ∷ []) (replicate (s - length more) none ++ rest)
      ∙ ap (λ n. row ++ (replicate n none ++ rest)) (sym one_less)

module _ {M U : Type 0} (none : U) (w s : ℕ) (enough : w ≤ s) where
  -- lines that were laid are read again
  pub lines_of-laid : (ls : List (Line M U)) → HasWidth w (map (λ (l : Line M U). l.units) ls)
      → lines_of w s (map (λ (l : Line M U). l.money) ls) (laid none s (map (λ (l : Line M U). l.units) ls)) ≡ ls
  lines_of-laid [] widths = refl
  lines_of-laid (l ∷ ls) widths =
      let rows = map (λ (l : Line M U). l.units) ls in
      let pad = replicate (s - length l.units) none in
      let width = row_width none w s enough l.units rows widths in
      let front : take w (laid none s (l.units ∷ rows)) ≡ l.units =
      ap (λ n. take n (laid none s (l.units ∷ rows))) (sym width) ∙ take-append_seam l.units (pad ++ laid none s rows) in
      let back : drop s (laid none s (l.units ∷ rows)) ≡ laid none s rows =
      ap (λ xs. drop s xs) (parted none w s enough l.units rows) ∙ ap (λ n. drop n ((l.units ++ pad) ++ laid none s rows)) (sym (filled none w s enough l.units width))
      ∙ drop-append_seam (l.units ++ pad) (laid none s rows) in
      rw (front, back, lines_of-laid ls (rest_widths none w s enough l.units rows widths)) refl

-- the money of lines that are read is what was given
pub money-lines_of : {M U : Type 0} (w s : ℕ) (money : List M) (units : List U) → map (λ (l : Line M U). l.money) (lines_of w s money units) ≡ money
money-lines_of w s [] units = refl
money-lines_of w s (m ∷ money) units = ap (λ ms. m ∷ ms) (money-lines_of w s money (drop s units))
