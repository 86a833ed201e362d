-- A line whose amounts are set one after the other.
use Rattle.std.proofs.Common.{◌≡◌, ℕ, ℤ, pos, suc, ◌+◌, ◌-◌, ◌<◌, List, [], ◌∷◌, ◌++◌, length, append_assoc, append-nil, take, replicate, get_or, set, sym, ap, ◌∙◌, arith}
use Rattle.std.proofs.Math.Seq.{set-append_seam}
use Rattle.std.proofs.lemmas.List.{take_more, take_all, length-take-le, get_or-set_same, set-set, set-get_or}
use Rattle.flow_accounts.specs.CreditLines.{Credits}
use Rattle.flow_accounts.specs.Lines.{Line, Table}
use Rattle.flow_accounts.specs.NoCredit.{no_holding, no_line}

module _ {X : Type 0} (none : X) where
  -- the first k of these amounts, and none of the other assets
  abbrev pub filled : List X → ℕ → ℕ → List X
  filled xs n k = take k xs ++ replicate (n - k) none

  filled-more : (xs : List X) (n k : ℕ) (v d : X) → n ≡ length xs → k < n → v ≡ get_or xs k d → set (filled xs n k) k v ≡ filled xs n (k + 1)
  filled-more xs n k v d all there is =
      let first = take k xs in
      let rest = replicate (n - (k + 1)) none in
      let count : length first ≡ k = length-take-le k xs (omega arith) in
      let one : n - k ≡ suc (n - (k + 1)) = omega arith in
      ap (λ m. set (first ++ replicate m none) k v) one
      ∙ ap (λ i. set (first ++ none ∷ rest) i v) (sym count)
      ∙ set-append_seam first none rest v
      ∙ sym (append_assoc first (v ∷ []) rest)
      ∙ ap (λ u. (first ++ u ∷ []) ++ rest) is
      ∙ ap (λ zs. zs ++ rest) (sym (take_more xs k d (omega arith)))

  pub filled-all : (xs : List X) (n : ℕ) → n ≡ length xs → filled xs n n ≡ xs
  filled-all xs n all =
      let no_more : n - n ≡ 0 = omega arith in
      ap (λ m. take n xs ++ replicate m none) no_more ∙ append-nil (take n xs) ∙ take_all n xs (omega arith)

module _ {M U : Type 0} (none : U) (d : Line M U) (first : List (Line M U)) (line : ℕ) (units : List U) (n : ℕ) where
  -- the lines after the first k amounts of one line were set
  abbrev pub filling : ℕ → List (Line M U)
  filling k = set first line (record (get_or first line d) { units = filled none units n k })

  pub fill_none : (get_or first line d).units ≡ replicate n none → first ≡ filling 0
  fill_none is =
      let nothing : n - 0 ≡ n = omega arith in
      sym (ap (λ m. set first line (record (get_or first line d) { units = replicate m none })) nothing
      ∙ ap (λ us. set first line (record (get_or first line d) { units = us })) (sym is) ∙ set-get_or first line d)

  pub fill_more : (k : ℕ) (v e : U) → n ≡ length units → line < length first → k < n → v ≡ get_or units k e
      → set (filling k) line (record (get_or (filling k) line d) { units = set (get_or (filling k) line d).units k v }) ≡ filling (k + 1)
  fill_more k v e all there within is =
      let new : Line M U = record (get_or first line d) { units = filled none units n k } in
      ap (λ (l : Line M U). set (filling k) line (record l { units = set l.units k v })) (get_or-set_same first line new d there)
      ∙ set-set first line new (record new { units = set new.units k v })
      ∙ ap (λ us. set first line (record (get_or first line d) { units = us })) (filled-more none units n k v e all within is)

  pub fill_all : n ≡ length units → filling n ≡ set first line (record (get_or first line d) { units = units })
  fill_all all = ap (λ us. set first line (record (get_or first line d) { units = us })) (filled-all none units n all)

-- one more amount of a line is set
pub units_filled : (first now new : Table ℤ ℤ) (line k : ℕ) (units : List ℤ) (v : ℤ) → first.assets ≡ length units → line < length first.lines → k < first.assets → v ≡ get_or units k (pos 0)
    → now ≡ record first { lines = filling (pos 0) no_holding first.lines line units first.assets k }
    → new ≡ record now { lines = set now.lines line (record (get_or now.lines line no_holding) { units = set (get_or now.lines line no_holding).units k v }) }
    → new ≡ record first { lines = filling (pos 0) no_holding first.lines line units first.assets (k + 1) }
units_filled first now new line k units v all there within is before written =
    written ∙ ap (λ (t : Table ℤ ℤ). record t { lines = set t.lines line (record (get_or t.lines line no_holding) { units = set (get_or t.lines line no_holding).units k v }) }) before
    ∙ ap (λ (ls : List (Line ℤ ℤ)). record first { lines = ls }) (fill_more (pos 0) no_holding first.lines line units first.assets k v (pos 0) all there within is)

pub all_units_filled : (first now : Table ℤ ℤ) (line k : ℕ) (units : List ℤ) → first.assets ≡ length units → k ≡ first.assets → now ≡ record first { lines = filling (pos 0) no_holding first.lines line units first.assets k }
    → now ≡ record first { lines = set first.lines line (record (get_or first.lines line no_holding) { units = units }) }
all_units_filled first now line k units all at_end before =
    before ∙ ap (λ k. record first { lines = filling (pos 0) no_holding first.lines line units first.assets k }) at_end
    ∙ ap (λ (ls : List (Line ℤ ℤ)). record first { lines = ls }) (fill_all (pos 0) no_holding first.lines line units first.assets all)

-- one more credit of a line is set
pub credits_filled : (first now new : Credits) (line k : ℕ) (units : List ℕ) (v : ℕ) → first.assets ≡ length units → line < length first.lines → k < first.assets → v ≡ get_or units k 0
    → now ≡ record first { lines = filling 0 (no_line first.assets) first.lines line units first.assets k }
    → new ≡ record now { lines = set now.lines line (record (get_or now.lines line (no_line now.assets)) { units = set (get_or now.lines line (no_line now.assets)).units k v }) }
    → new ≡ record first { lines = filling 0 (no_line first.assets) first.lines line units first.assets (k + 1) }
credits_filled first now new line k units v all there within is before written =
    written ∙ ap (λ (t : Credits). record t { lines = set t.lines line (record (get_or t.lines line (no_line t.assets)) { units = set (get_or t.lines line (no_line t.assets)).units k v }) }) before
    ∙ ap (λ (ls : List (Line ℕ ℕ)). record first { lines = ls }) (fill_more 0 (no_line first.assets) first.lines line units first.assets k v 0 all there within is)

pub all_credits_filled : (first now : Credits) (line k : ℕ) (units : List ℕ) → first.assets ≡ length units → k ≡ first.assets → now ≡ record first { lines = filling 0 (no_line first.assets) first.lines line units first.assets k }
    → now ≡ record first { lines = set first.lines line (record (get_or first.lines line (no_line first.assets)) { units = units }) }
all_credits_filled first now line k units all at_end before =
    before ∙ ap (λ k. record first { lines = filling 0 (no_line first.assets) first.lines line units first.assets k }) at_end
    ∙ ap (λ (ls : List (Line ℕ ℕ)). record first { lines = ls }) (fill_all 0 (no_line first.assets) first.lines line units first.assets all)
