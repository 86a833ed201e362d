-- The credit lines of all accounts while some of them are stored.
use Rattle.std.proofs.Common.{◌≡◌, ◌+◌, ◌-◌, ◌≤◌, ◌<◌, ℕ, zero, suc, List, [], ◌∷◌, ◌++◌, length, length-append, append_assoc, append-nil, map, max, replicate, get_or, set, refl, sym, ap, subst, ◌∙◌, arith}
use Rattle.std.proofs.lemmas.List.{length-replicate, length-map, length-set, length_push, get_or_append_left, get_or-append_right, set-append_left, set-get_or, replicate-append-replicate, map-append}
use Rattle.flow_accounts.specs.declared.credit_lines.CreditLines.TheInside.{Inside}
use Rattle.flow_accounts.specs.CreditLines.{Credits}
use Rattle.flow_accounts.specs.Lines.{Line, Table, with_place, new_line}
use Rattle.flow_accounts.specs.NoCredit.{no_line}
use Rattle.flow_accounts.specs.StoredLines.{credits_in, AreStored}
use Rattle.flow_accounts.proofs.ListLemmas.{any_of_one}

-- after a list, where one value follows any number of times, that value is read at any place
pub behind : {X : Type 0} (xs : List X) (n k : ℕ) (d : X) → length xs ≤ k → get_or (xs ++ replicate n d) k d ≡ d
behind xs n k d past = get_or-append_right xs (replicate n d) (length xs) k d refl past ∙ any_of_one n (k - length xs) d

-- the table while lines without credit are stored
pub record IsStoring (lines : ℕ) (first now : Table ℕ ℕ) : Type 0 where
  pub none : now.none ≡ 0
  pub room : first.room ≤ now.room
  pub count : length first.lines ≤ length now.lines
  pub most : length now.lines ≤ max (length first.lines) lines
  pub stored : now ≡ record first { lines = first.lines ++ replicate (length now.lines - length first.lines) (no_line first.assets); room = now.room }

module _ (lines : ℕ) (first : Table ℕ ℕ) (none : first.none ≡ 0) where
  pub storing_starts : IsStoring lines first first
  storing_starts = record {
    none = none;
    room = omega arith;
    count = omega arith;
    most = omega arith;
    stored =
        let none_more : length first.lines - length first.lines ≡ 0 = omega arith in
        sym (ap (λ (ls : List (Line ℕ ℕ)). record first { lines = ls }) (ap (λ n. first.lines ++ replicate n (no_line first.assets)) none_more ∙ append-nil first.lines));
  }

  pub storing_more : (now next : Table ℕ ℕ) → IsStoring lines first now → length now.lines < lines → next ≡ record now { lines = now.lines ++ new_line now.assets 0 now.none ∷ []; room = next.room } → now.room ≤ next.room → IsStoring lines first next
  storing_more now next is few pushed grows =
      let k = length now.lines - length first.lines in
      let L = no_line first.assets in
      let assets : now.assets ≡ first.assets = ap (λ (t : Table ℕ ℕ). t.assets) is.stored in
      let line : new_line now.assets 0 now.none ≡ L = rw (assets, is.none) refl in
      let old : now.lines ≡ first.lines ++ replicate k L = ap (λ (t : Table ℕ ℕ). t.lines) is.stored in
      let count : length next.lines ≡ length now.lines + 1 = ap (λ (t : Table ℕ ℕ). length t.lines) pushed ∙ length_push now.lines (new_line now.assets 0 now.none) in
      let lines_now : now.lines ++ new_line now.assets 0 now.none ∷ [] ≡ first.lines ++ replicate (length next.lines - length first.lines) L =
      ap (λ l. now.lines ++ l ∷ []) line ∙ ap (λ ls. ls ++ L ∷ []) old ∙ append_assoc first.lines (replicate k L) (L ∷ [])
      ∙ ap (λ ls. first.lines ++ ls) (replicate-append-replicate k 1 L) ∙ ap (λ n. first.lines ++ replicate n L) (omega (arith, count, is.count)) in
      record {
        none = ap (λ (t : Table ℕ ℕ). t.none) pushed ∙ is.none;
        room = omega (arith, is.room, grows);
        count = omega (arith, is.count, count);
        most = omega (arith, is.most, count, few);
        stored =
            pushed ∙ ap (λ (ls : List (Line ℕ ℕ)). record now { lines = ls; room = next.room }) lines_now
            ∙ ap (λ (t : Table ℕ ℕ). record t { lines = first.lines ++ replicate (length next.lines - length first.lines) L; room = next.room }) is.stored;
      }

  pub storing_ends : (now : Table ℕ ℕ) → IsStoring lines first now → lines ≤ length now.lines → now ≡ record first { lines = first.lines ++ replicate (lines - length first.lines) (no_line first.assets); room = now.room }
  storing_ends now is all = is.stored ∙ ap (λ n. record first { lines = first.lines ++ replicate n (no_line first.assets); room = now.room }) (omega (arith, is.most, is.count))

-- the lines are the same if more of them are stored
stored_more : {X : Type 0} (xs : List X) (l : X) (n m count : ℕ) → n + m ≤ count → (xs ++ replicate m l) ++ replicate (count - (n + m)) l ≡ xs ++ replicate (count - n) l
stored_more xs l n m count few =
    let rest : m + (count - (n + m)) ≡ count - n = omega (arith, few) in
    append_assoc xs (replicate m l) (replicate (count - (n + m)) l) ∙ ap (λ ys. xs ++ ys) (replicate-append-replicate m (count - (n + m)) l ∙ ap (λ k. replicate k l) rest)

-- A line is written once it is stored.
pub record IsWritten (c : Inside) (grown : Table ℕ ℕ) (place : ℕ) : Type 0 where
  pub there : place < length grown.lines
  pub read : (d : Line ℕ ℕ) → get_or grown.lines place d ≡ get_or (credits_in c).lines place d
  pub written : (new : Line ℕ ℕ) → set grown.lines place new ++ replicate (c.count - length (set grown.lines place new)) (no_line c.stored.assets) ≡ set (credits_in c).lines place new
  pub few : length grown.lines ≤ c.count

pub is_written : (c : Inside) (grown : Table ℕ ℕ) (place : ℕ) → AreStored c → place < length (credits_in c).lines
    → grown.lines ≡ c.stored.lines ++ replicate (place + 1 - length c.stored.lines) (no_line c.stored.assets) → IsWritten c grown place
is_written c grown place kept there stored =
    let xs = c.stored.lines in
    let l = no_line c.stored.assets in
    let n = length xs in
    let m = place + 1 - n in
    let rest = replicate (c.count - length grown.lines) l in
    let all : length (credits_in c).lines ≡ n + (c.count - n) = length-append xs (replicate (c.count - n) l) ∙ ap (λ k. n + k) (length-replicate (c.count - n) l) in
    let grown_len : length grown.lines ≡ n + m = ap length stored ∙ length-append xs (replicate m l) ∙ ap (λ k. n + k) (length-replicate m l) in
    let few : n + m ≤ c.count = omega (arith, there, all, kept.few) in
    let here : place < length grown.lines = omega (arith, grown_len) in
    let same : grown.lines ++ rest ≡ (credits_in c).lines =
    ap (λ ys. ys ++ rest) stored ∙ ap (λ k. (xs ++ replicate m l) ++ replicate (c.count - k) l) grown_len ∙ stored_more xs l n m c.count few in
    record {
      there = here;
      read = λ d. sym (get_or_append_left grown.lines rest d place here) ∙ ap (λ ys. get_or ys place d) same;
      written = λ new. ap (λ k. set grown.lines place new ++ replicate (c.count - k) l) (length-set grown.lines place new) ∙ sym (set-append_left grown.lines rest place new here) ∙ ap (λ ys. set ys place new) same;
      few = omega (arith, grown_len, few);
    }

-- the fields have these credits
pub record HoldsCredits (c : Inside) (credits : Credits) : Type 0 where
  pub kept : AreStored c
  pub shown : credits_in c ≡ credits

abbrev the_credits : ℕ → List (Line ℕ ℕ) → Credits
the_credits assets lines = record { assets = assets; lines = lines }

written_in : (c : Inside) (grown now : Table ℕ ℕ) (place : ℕ) (change : Line ℕ ℕ → Line ℕ ℕ) → AreStored c → place < length (credits_in c).lines
    → grown ≡ record c.stored { lines = c.stored.lines ++ replicate (place + 1 - length c.stored.lines) (no_line c.stored.assets); room = grown.room } → c.stored.room ≤ grown.room
    → now ≡ record grown { lines = set grown.lines place (change (get_or grown.lines place (no_line c.stored.assets))) }
    → HoldsCredits (record { stored = now; count = c.count }) (record (credits_in c) { lines = set (credits_in c).lines place (change (get_or (credits_in c).lines place (no_line c.stored.assets))) })
written_in c grown now place change kept there stored grows written =
    let l = no_line c.stored.assets in
    let is = is_written c grown place kept there (ap (λ (t : Table ℕ ℕ). t.lines) stored) in
    let new = change (get_or grown.lines place l) in
    let assets : now.assets ≡ c.stored.assets = ap (λ (t : Table ℕ ℕ). t.assets) written ∙ ap (λ (t : Table ℕ ℕ). t.assets) stored in
    let lines : now.lines ≡ set grown.lines place new = ap (λ (t : Table ℕ ℕ). t.lines) written in
    let room : now.room ≡ grown.room = ap (λ (t : Table ℕ ℕ). t.room) written in
    record {
      kept = record {
        few = omega (arith, ap length lines, length-set grown.lines place new, is.few);
        room = omega (arith, room, grows, kept.room);
        none = ap (λ (t : Table ℕ ℕ). t.none) written ∙ ap (λ (t : Table ℕ ℕ). t.none) stored ∙ kept.none;
      };
      shown =
          ap (λ (t : Table ℕ ℕ). credits_in (record { stored = t; count = c.count })) written
          ∙ ap (λ a. the_credits a (set grown.lines place new ++ replicate (c.count - length (set grown.lines place new)) (no_line a))) (ap (λ (t : Table ℕ ℕ). t.assets) stored)
          ∙ ap (λ ls. the_credits c.stored.assets ls) (is.written new ∙ ap (λ old. set (credits_in c).lines place (change old)) (is.read l));
    }

-- a line is written, as contracts see it
pub written_credits : (c : Inside) (credits : Credits) (grown now : Table ℕ ℕ) (place : ℕ) (change : Line ℕ ℕ → Line ℕ ℕ) → AreStored c → credits_in c ≡ credits → place < length credits.lines
    → grown ≡ record c.stored { lines = c.stored.lines ++ replicate (place + 1 - length c.stored.lines) (no_line c.stored.assets); room = grown.room } → c.stored.room ≤ grown.room
    → now ≡ record grown { lines = set grown.lines place (change (get_or grown.lines place (no_line c.stored.assets))) }
    → HoldsCredits (record { stored = now; count = c.count }) (record credits { lines = set credits.lines place (change (get_or credits.lines place (no_line credits.assets))) })
written_credits c credits grown now place change kept view_is there stored grows written =
    subst (λ (credits : Credits). HoldsCredits (record { stored = now; count = c.count }) (record credits { lines = set credits.lines place (change (get_or credits.lines place (no_line credits.assets))) })) view_is
    (written_in c grown now place change kept (subst (λ (credits : Credits). place < length credits.lines) (sym view_is) there) stored grows written)

map-replicate : {X Y : Type 0} (f : X → Y) (n : ℕ) (x : X) → map f (replicate n x) ≡ replicate n (f x)
map-replicate f zero x = refl
map-replicate f (suc n) x = ap (λ ys. f x ∷ ys) (map-replicate f n x)

-- a line without credit, when there is one asset more
no_line-more : (assets : ℕ) → with_place 0 (no_line assets) ≡ no_line (assets + 1)
no_line-more assets = ap (λ us. record { money = 0; units = us }) (replicate-append-replicate assets 1 0)

-- an asset is added
pub wider_credits : (c : Inside) (credits : Credits) (now : Table ℕ ℕ) → AreStored c → credits_in c ≡ credits → now ≡ record c.stored { assets = c.stored.assets + 1; lines = map (with_place c.stored.none) c.stored.lines; room = now.room }
    → credits_in (record { stored = now; count = c.count }) ≡ record credits { assets = credits.assets + 1; lines = map (with_place 0) credits.lines }
wider_credits c credits now kept view_is added =
    let xs = c.stored.lines in
    let l = no_line c.stored.assets in
    let rest = c.count - length xs in
    ap (λ (t : Table ℕ ℕ). credits_in (record { stored = t; count = c.count })) added
    ∙ ap (λ n. the_credits (c.stored.assets + 1) (map (with_place n) xs ++ replicate (c.count - length (map (with_place n) xs)) (no_line (c.stored.assets + 1)))) kept.none
    ∙ ap (λ k. the_credits (c.stored.assets + 1) (map (with_place 0) xs ++ replicate (c.count - k) (no_line (c.stored.assets + 1)))) (length-map xs (with_place 0))
    ∙ ap (λ l. the_credits (c.stored.assets + 1) (map (with_place 0) xs ++ replicate rest l)) (sym (no_line-more c.stored.assets))
    ∙ ap (λ ls. the_credits (c.stored.assets + 1) (map (with_place 0) xs ++ ls)) (sym (map-replicate (with_place 0) rest l))
    ∙ ap (λ ls. the_credits (c.stored.assets + 1) ls) (sym (map-append (with_place 0) xs (replicate rest l)))
    ∙ ap (λ (credits : Credits). record credits { assets = credits.assets + 1; lines = map (with_place 0) credits.lines }) view_is

-- where nothing is stored, no credit may be set by storing nothing
pub unwritten_credits : (c : Inside) (credits : Credits) (place : ℕ) (change : Line ℕ ℕ → Line ℕ ℕ) → credits_in c ≡ credits → length c.stored.lines ≤ place → change (no_line c.stored.assets) ≡ no_line c.stored.assets
    → credits ≡ record credits { lines = set credits.lines place (change (get_or credits.lines place (no_line credits.assets))) }
unwritten_credits c credits place change view_is past same =
    let l = no_line c.stored.assets in
    let none : get_or (credits_in c).lines place l ≡ l = behind c.stored.lines (c.count - length c.stored.lines) place l past in
    subst (λ (credits : Credits). credits ≡ record credits { lines = set credits.lines place (change (get_or credits.lines place (no_line credits.assets))) }) view_is
    (ap (λ ls. the_credits c.stored.assets ls) (sym (ap (λ old. set (credits_in c).lines place (change old)) none ∙ ap (λ new. set (credits_in c).lines place new) (same ∙ sym none) ∙ set-get_or (credits_in c).lines place l)))

-- no units are none after none are set
pub no_units_set : (n k : ℕ) → set {A = ℕ} (replicate n 0) k 0 ≡ replicate n 0
no_units_set n k = let none : List ℕ = replicate n 0 in ap (λ (u : ℕ). set none k u) (sym (any_of_one n k 0)) ∙ set-get_or none k 0
