-- Laws of the statements that begin in a market.
use Rattle.std.proofs.Common.{◌≡◌, ◌⊎◌, inl, inr, ℕ, zero, suc, pos, Bool, true, false, if◌then◌else◌, List, [], ◌∷◌, ◌++◌, refl, sym, ap, subst, ◌∙◌, arith}
use Rattle.std.specs.Prelude.{nat_lt}
use Rattle.std.proofs.lemmas.Bool.{cases_Bool, le-ltb, and_right, false_from_ne_true}
use Rattle.std.proofs.lemmas.List.{append_assoc}
use Rattle.wire_records.specs.Records.{Record}
use Rattle.wire_records.specs.Commands.{Pair}
use Rattle.wire_records.specs.declared.version.Version.{Version}
use Rattle.flow_accounts.specs.Balances.{IsAccount}
use Rattle.flow_orders.specs.Outcomes.{Outcome}
use Rattle.market_rules.specs.Market.{Market, IsConsistent, empty_market}
use Rattle.statement_rules.specs.Views.{Event, Sees, is_there}
use Rattle.statement_rules.specs.Holdings.{Holding, nothing, after_all, held_in, IsHeld}
use Rattle.statement_rules.specs.Statements.{lines_from, end_lines, view_text, carried_lines, text_from, statement_from}
use Rattle.statement_rules.specs.Laws.{JournalsCarryNothing, OneStatementFrom, EqualStartsEqualStatements, StatementsJoin}
use Rattle.statement_rules.proofs.Told.{there_is, is_account}
use Rattle.statement_rules.proofs.Alike.{holdings_tell_alike}
use Rattle.statement_rules.proofs.ViewLaws.{after_both, one_view, views_tell_holdings, consistent_after}
use Rattle.statement_rules.proofs.Texts.{lines_both, all_stay, no_text}

-- `held_in` is what the account has in a market
pub held_there : (account : ℕ) (m : Market) → IsHeld account m (held_in account m)
held_there account m = record { tickers = refl; opened = refl; money = λ some. refl; units = λ some asset is. refl; orders = refl }

-- the last lines of an account that is there are carried forward
pub carried_there : (account : ℕ) (m : Market) → IsAccount m.balances account → carried_lines account m ≡ end_lines (held_in account m)
carried_there account m there = ap (λ (b : Bool). if b then end_lines (held_in account m) else []) (there_is m account there)

pub carried_not : (account : ℕ) (m : Market) → is_there m account ≡ false → carried_lines account m ≡ []
carried_not account m absent = ap (λ (b : Bool). if b then end_lines (held_in account m) else []) absent

-- the market after valid entries is consistent
consistent_after_all : (account : ℕ) (old : Market) (pairs : List (Pair Record Outcome)) (view : List Event) (new : Market) → IsConsistent old → Sees account old pairs view new → IsConsistent new
consistent_after_all account old [] view new consistent sees = subst IsConsistent (sym sees.1) consistent
consistent_after_all account old (pair ∷ pairs) view new consistent (next, read, rest, reads, serves, more, is) =
    consistent_after_all account next pairs rest new (consistent_after old pair.asked pair.answer next read consistent reads serves) more

-- ---- an empty market

none_there : (account : ℕ) (version : Version) → is_there (empty_market version) account ≡ false
none_there zero version = refl
none_there (suc k) version = and_right (nat_lt 0 (suc k)) (nat_lt (suc k) 1) (le-ltb (suc k) 1 (omega arith))

nothing_held : (account : ℕ) (version : Version) → held_in account (empty_market version) ≡ nothing
nothing_held account version = ap (λ (b : Bool). record { tickers = []; is_open = b; money = pos 0; units = λ asset. pos 0; orders = [] }) (none_there account version)

nothing_carried : (account : ℕ) (version : Version) → carried_lines account (empty_market version) ≡ []
nothing_carried account version = carried_not account (empty_market version) (none_there account version)

text_is : (account : ℕ) (version : Version) (view : List Event) → text_from account (empty_market version) view ≡ view_text view
text_is account version view =
    ap (λ l. l ++ lines_from (held_in account (empty_market version)) view) (nothing_carried account version) ∙ ap (λ (h : Holding). lines_from h view) (nothing_held account version)

pub journals_carry_nothing : JournalsCarryNothing
journals_carry_nothing = record {
  text = text_is;
  whole = λ account version view.
      ap (λ l. l ++ end_lines (after_all (held_in account (empty_market version)) view)) (text_is account version view)
      ∙ ap (λ (h : Holding). view_text view ++ end_lines (after_all h view)) (nothing_held account version);
}

-- ---- one statement

pub one_statement_from : OneStatementFrom
one_statement_from = record {
  some = λ account start pairs m follows there.
      let seen_so = one_view.some account start pairs m follows in
      (statement_from account start seen_so.0, record { view = seen_so.0; market = m; sees = seen_so.1; there = there; text_is = refl });
  one = λ account start pairs x y first other.
      first.text_is ∙ ap (statement_from account start) (one_view.one account start pairs first.view other.view first.market other.market first.sees other.sees) ∙ sym other.text_is;
}

-- ---- what the account has in a market is all that counts

same_carried : (account : ℕ) (one other : Market) → IsConsistent other → IsHeld account other (held_in account one) → carried_lines account one ≡ carried_lines account other
same_carried account one other consistent held = by (cases_Bool (is_there other account))
  where
    by : (is_there other account ≡ true) ⊎ (is_there other account ≡ false) → carried_lines account one ≡ carried_lines account other
    by (inl there) =
        let here = is_account other account there in
        let also = is_account one account (held.opened ∙ there) in
        carried_there account one also ∙ holdings_tell_alike.last account other (held_in account one) (held_in account other) consistent here held (held_there account other) ∙ sym (carried_there account other here)
    by (inr absent) = carried_not account one (held.opened ∙ absent) ∙ sym (carried_not account other absent)

same_text : (account : ℕ) (one other : Market) (v w : List Event) → IsConsistent other → IsHeld account other (held_in account one) → v ≡ w → text_from account one v ≡ text_from account other w
same_text account one other v w consistent held same =
    ap (λ l. l ++ lines_from (held_in account one) v) (same_carried account one other consistent held)
    ∙ ap (λ l. carried_lines account other ++ l) (holdings_tell_alike.lines account other (held_in account one) (held_in account other) v held (held_there account other))
    ∙ ap (text_from account other) same

pub equal_starts_equal_statements : EqualStartsEqualStatements
equal_starts_equal_statements = record {
  carried = same_carried;
  text = same_text;
  whole = λ account one other pairs more v w m n consistent held first second same there.
      let seen_so : Sees account other more v n = subst (λ (x : List Event). Sees account other more x n) (sym same) second in
      let last = holdings_tell_alike.last account n (after_all (held_in account one) v) (after_all (held_in account other) v) (consistent_after_all account other more v n consistent seen_so) there
      (views_tell_holdings.steps account other more v n (held_in account one) consistent held seen_so) (views_tell_holdings.steps account other more v n (held_in account other) consistent (held_there account other) seen_so) in
      ap (λ l. l ++ end_lines (after_all (held_in account one) v)) (same_text account one other v w consistent held same)
      ∙ ap (λ l. text_from account other w ++ l) (last ∙ ap (λ (x : List Event). end_lines (after_all (held_in account other) x)) same);
}

-- ---- entries that are cut in two

module _ (account : ℕ) (old mid : Market) (pairs : List (Pair Record Outcome)) (v : List Event) (consistent : IsConsistent old) (sees : Sees account old pairs v mid) where
  consistent_there : IsConsistent mid
  consistent_there = consistent_after_all account old pairs v mid consistent sees

  -- what the account has at the cut
  held_then : IsHeld account mid (after_all (held_in account old) v)
  held_then = views_tell_holdings.steps account old pairs v mid (held_in account old) consistent (held_there account old) sees

  carried : IsAccount mid.balances account → end_lines (after_all (held_in account old) v) ≡ carried_lines account mid
  carried there =
      holdings_tell_alike.last account mid (after_all (held_in account old) v) (held_in account mid) consistent_there there held_then (held_there account mid) ∙ sym (carried_there account mid there)

  lines_on : (w : List Event) → lines_from (held_in account old) (v ++ w) ≡ lines_from (held_in account old) v ++ lines_from (held_in account mid) w
  lines_on w =
      lines_both v (held_in account old) w
      ∙ ap (λ l. lines_from (held_in account old) v ++ l) (holdings_tell_alike.lines account mid (after_all (held_in account old) v) (held_in account mid) w held_then (held_there account mid))

  text_on : (w : List Event) → text_from account old (v ++ w) ≡ text_from account old v ++ lines_from (held_in account mid) w
  text_on w = ap (λ l. carried_lines account old ++ l) (lines_on w) ∙ sym (append_assoc (carried_lines account old) (lines_from (held_in account old) v) (lines_from (held_in account mid) w))

  -- the last lines of all entries are those of the second part
  last_on : (new : Market) (more : List (Pair Record Outcome)) (w : List Event) → Sees account mid more w new → IsAccount new.balances account
      → end_lines (after_all (held_in account old) (v ++ w)) ≡ end_lines (after_all (held_in account mid) w)
  last_on new more w second there =
      ap end_lines (after_both v (held_in account old) w)
      ∙ holdings_tell_alike.last account new (after_all (after_all (held_in account old) v) w) (after_all (held_in account mid) w) (consistent_after_all account mid more w new consistent_there second) there
      (views_tell_holdings.steps account mid more w new (after_all (held_in account old) v) consistent_there held_then second) (views_tell_holdings.steps account mid more w new (held_in account mid) consistent_there (held_there account mid) second)

  whole_on : (new : Market) (more : List (Pair Record Outcome)) (w : List Event) → Sees account mid more w new → IsAccount new.balances account
      → (second : List ℕ) × (statement_from account mid w ≡ carried_lines account mid ++ second) × (statement_from account old (v ++ w) ≡ text_from account old v ++ second)
  whole_on new more w second there =
      let lines = lines_from (held_in account mid) w in
      let last = end_lines (after_all (held_in account mid) w) in (
        lines ++ last,
        append_assoc (carried_lines account mid) lines last,
        ap (λ l. l ++ end_lines (after_all (held_in account old) (v ++ w))) (text_on w) ∙ ap (λ l. (text_from account old v ++ lines) ++ l) (last_on new more w second there) ∙ append_assoc (text_from account old v) lines last,
      )

  -- an account that isn't there at the cut wasn't there before
  none_before : ¬ IsAccount mid.balances account → (text_from account old v ≡ []) × (carried_lines account mid ≡ [])
  none_before absent =
      let not_there : is_there mid account ≡ false = false_from_ne_true (is_there mid account) (λ there. absent (is_account mid account there)) in
      let closed : (after_all (held_in account old) v).is_open ≡ false = held_then.opened ∙ not_there in (
        ap (λ l. l ++ lines_from (held_in account old) v) (carried_not account old (all_stay v (held_in account old) closed)) ∙ no_text account old pairs v mid (held_in account old) consistent (held_there account old) sees closed,
        carried_not account mid not_there,
      )

pub statements_join : StatementsJoin
statements_join = record {
  carried = carried;
  text = λ account old mid pairs v w consistent sees. text_on account old mid pairs v consistent sees w;
  whole = λ account old mid new pairs more v w consistent first second there. whole_on account old mid pairs v consistent first new more w second there;
  absent = none_before;
}
