-- The laws of views and statements.
use Rattle.std.proofs.Common.{◌≡◌, ℕ, pos, ◌+ℤ◌, List, [], ◌∷◌, ◌++◌, zero, suc, false, Result, refl, sym, ap, subst, ◌∙◌, arith}
use Rattle.std.specs.List.{sum_by}
use Rattle.std.proofs.lemmas.List.{append_assoc}
use Rattle.std.proofs.lemmas.List.Sums.{sum_by-cons}
use Rattle.list_sums.specs.Sums.{int_sum_by}
use Rattle.wire_records.specs.Records.{Record}
use Rattle.wire_records.specs.Commands.{Command, Answer, Pair}
use Rattle.wire_records.specs.Versions.{IsReadAs}
use Rattle.wire_records.specs.declared.command.BodyFault.{BodyFault}
use Rattle.wire_records.specs.declared.version.Version.{Version}
use Rattle.wire_records.proofs.Readings.{reading_unique, read_own}
use Rattle.flow_orders.specs.Orders.{Order, money_need, unit_need}
use Rattle.flow_orders.specs.Outcomes.{Outcome, IsAdmissibleOutcome}
use Rattle.market_rules.specs.Market.{Market, IsConsistent, empty_market}
use Rattle.market_rules.specs.Step.{ServesRead}
use Rattle.market_rules.specs.Journal.{Step}
use Rattle.market_rules.specs.Laws.{Leads}
use Rattle.market_rules.proofs.LawProofs.{market_is_determined}
use Rattle.market_rules.proofs.Consistency.{consistent_step, consistent-empty}
use Rattle.statement_rules.specs.Views.{Sees, Event, seen, is_there}
use Rattle.statement_rules.specs.Holdings.{Holding, nothing, IsHeld, after, after_all}
use Rattle.statement_rules.specs.Statements.{statement}
use Rattle.statement_rules.specs.Laws.{OneView, ViewsCompose, EqualViewsEqualStatements, ViewsTellHoldings, StatementsEndWithBalances, OneStatement}
use Rattle.statement_rules.proofs.Lists.{own_sum_is}
use Rattle.std.proofs.lemmas.Bool.{le-ltb, and_right}
use Rattle.std.specs.Prelude.{nat_lt}
use Rattle.flow_accounts.specs.Balances.{no_balances}
use Rattle.statement_rules.proofs.OwnParts.{no_money}
use Rattle.statement_rules.proofs.Told.{told, there_is, is_account}

step_of : (old : Market) (asked : Record) (a : Answer Outcome) (next : Market) (read : Result Command BodyFault) → IsReadAs old.version asked read → ServesRead IsAdmissibleOutcome old read a next → Step IsReadAs IsAdmissibleOutcome old asked a next
step_of old asked a next read reads serves = record { read = read; encoded = reads; served = serves }

leads : (account : ℕ) (old : Market) (pairs : List (Pair Record Outcome)) (view : List Event) (new : Market) → Sees account old pairs view new → Leads old pairs new
leads account old [] view new sees = sees.1
leads account old (pair ∷ pairs) view new (next, read, rest, reads, serves, more, is) =
    (next, step_of old pair.asked pair.answer next read reads serves, leads account next pairs rest new more)

some : (account : ℕ) (old : Market) (pairs : List (Pair Record Outcome)) (new : Market) → Leads old pairs new → (view : List Event) × Sees account old pairs view new
some account old [] new follows = ([], (refl, follows))
some account old (pair ∷ pairs) new (next, step, follows) =
    let rest = some account next pairs new follows in
    (seen account old step.read pair.answer ++ rest.0, (next, step.read, rest.0, step.encoded, step.served, rest.1, refl))

one : (account : ℕ) (old : Market) (pairs : List (Pair Record Outcome)) (v w : List Event) (m n : Market) → Sees account old pairs v m → Sees account old pairs w n → v ≡ w
one account old [] v w m n first other = first.0 ∙ sym other.0
one account old (pair ∷ pairs) v w m n (next, read, rest, reads, serves, more, is) (next', read', rest', reads', serves', more', is') =
    let same_read = reading_unique old.version pair.asked read read' reads reads' in
    let same_next = market_is_determined old pair.asked pair.answer next next' (step_of old pair.asked pair.answer next read reads serves) (step_of old pair.asked pair.answer next' read' reads' serves') in
    let same_rest = one account next pairs rest rest' m n more (subst (λ x. Sees account x pairs rest' n) (sym same_next) more') in
    is ∙ ap (λ r. seen account old r pair.answer ++ rest) same_read ∙ ap (λ l. seen account old read' pair.answer ++ l) same_rest ∙ sym is'

pub one_view : OneView
one_view = record { leads = leads; some = some; one = one }

pub views_compose : ViewsCompose
views_compose account old mid new [] more v w first second =
    subst (λ l. Sees account old more (l ++ w) new) (sym first.0) (subst (λ x. Sees account x more w new) first.1 second)
views_compose account old mid new (pair ∷ pairs) more v w (next, read, rest, reads, serves, following, is) second = (
  next,
  read,
  rest ++ w,
  reads,
  serves,
  views_compose account next mid new pairs more rest w following second,
  ap (λ l. l ++ w) is ∙ append_assoc (seen account old read pair.answer) rest w,
)

pub equal_views_equal_statements : EqualViewsEqualStatements
equal_views_equal_statements account one other pairs more v w m n first second same = ap statement same

-- the market after a step is consistent too
pub consistent_after : (old : Market) (asked : Record) (a : Answer Outcome) (next : Market) (read : Result Command BodyFault) → IsConsistent old → IsReadAs old.version asked read → ServesRead IsAdmissibleOutcome old read a next → IsConsistent next
consistent_after old asked a next read consistent reads serves = consistent_step IsReadAs read_own old asked a next consistent (step_of old asked a next read reads serves)

-- events one after the other
pub after_both : (v : List Event) (h : Holding) (w : List Event) → after_all h (v ++ w) ≡ after_all (after_all h v) w
after_both [] h w = refl
after_both (event ∷ v) h w = after_both v (after h event) w

steps : (account : ℕ) (old : Market) (pairs : List (Pair Record Outcome)) (view : List Event) (new : Market) (h : Holding) → IsConsistent old → IsHeld account old h → Sees account old pairs view new → IsHeld account new (after_all h view)
steps account old [] view new h consistent held sees =
    subst (λ x. IsHeld account x (after_all h view)) (sym sees.1) (subst (λ l. IsHeld account old (after_all h l)) (sym sees.0) held)
steps account old (pair ∷ pairs) view new h consistent held (next, read, rest, reads, serves, more, is) =
    let here = told account old h consistent held read pair.answer next serves in
    let consistent_next = consistent_step IsReadAs read_own old pair.asked pair.answer next consistent (step_of old pair.asked pair.answer next read reads serves) in
    let all = steps account next pairs rest new (after_all h (seen account old read pair.answer)) consistent_next here more in
    subst (IsHeld account new) (sym (ap (after_all h) is ∙ after_both (seen account old read pair.answer) h rest)) all

pub empty_held : (account : ℕ) (version : Version) → IsHeld account (empty_market version) nothing
empty_held account version = record {
  tickers = refl;
  opened = closed account;
  money = λ some. sym (no_money no_balances account some (λ there. omega (arith, there.0, there.1)));
  units = λ some asset is. absurd (omega (arith, is));
  orders = refl;
}
  where
    closed : (number : ℕ) → false ≡ is_there (empty_market version) number
    closed zero = refl
    closed (suc k) = sym (and_right (nat_lt 0 (suc k)) (nat_lt (suc k) 1) (le-ltb (suc k) 1 (omega arith)))

pub told_all : (account : ℕ) (version : Version) (pairs : List (Pair Record Outcome)) (view : List Event) (m : Market) → Sees account (empty_market version) pairs view m → IsHeld account m (after_all nothing view)
told_all account version pairs view m sees = steps account (empty_market version) pairs view m nothing (consistent-empty version) (empty_held account version) sees

pub views_tell_holdings : ViewsTellHoldings
views_tell_holdings = record {
  steps = steps;
  journal = λ account version pairs view m sees. steps account (empty_market version) pairs view m nothing (consistent-empty version) (empty_held account version) sees;
}

-- a sum in ℕ is the same in ℤ
sum_is : {X : Type 0} (f : X → ℕ) (xs : List X) → pos (sum_by f xs) ≡ int_sum_by (λ x. pos (f x)) xs
sum_is f [] = refl
sum_is f (x ∷ xs) = ap pos (sum_by-cons f x xs) ∙ ap (λ z. pos (f x) +ℤ z) (sum_is f xs)

pub statements_end_with_balances : StatementsEndWithBalances
statements_end_with_balances = record {
  opened = λ account m h held. (λ is. is_account m account (sym held.opened ∙ is), λ there. held.opened ∙ there_is m account there);
  money = λ account m h there held. held.money there.0;
  units = λ account m h asset there is_asset held. held.units there.0 asset is_asset;
  money_needed = λ account m h held. sum_is money_need h.orders ∙ ap (int_sum_by (λ (o : Order). pos (money_need o))) held.orders ∙ sym (own_sum_is (λ (o : Order). o.account) account (λ (o : Order). pos (money_need o)) m.orders);
  units_needed = λ account m h asset held. sum_is (unit_need asset) h.orders ∙ ap (int_sum_by (λ (o : Order). pos (unit_need asset o))) held.orders ∙ sym (own_sum_is (λ (o : Order). o.account) account (λ (o : Order). pos (unit_need asset o)) m.orders);
}

pub one_statement : OneStatement
one_statement = record {
  some = λ account version pairs m follows there.
      let seen_so = some account (empty_market version) pairs m follows in
      (statement seen_so.0, record { view = seen_so.0; market = m; sees = seen_so.1; there = there; text_is = refl });
  one = λ account version pairs x y first other.
      first.text_is ∙ ap statement (one account (empty_market version) pairs first.view other.view first.market other.market first.sees other.sees) ∙ sym other.text_is;
}
