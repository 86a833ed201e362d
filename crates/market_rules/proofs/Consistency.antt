-- Every step keeps a market consistent.
use Rattle.std.proofs.Common.{ℕ, ◌*◌, ◌^◌, ℤ, pos, ◌+ℤ◌, ◌-ℤ◌, ◌≤ℤ◌, List, [], ◌∷◌, length, inl, inr, Option, Some, None, Result, Ok, Err, refl, sym, subst, arith}
use Rattle.std.specs.Prelude.{◌<◌, neg_ℤ, IfSome}
use Rattle.std.proofs.lemmas.Int.{ints}
use Rattle.std.proofs.lemmas.List.Elements.{All-nil}
use Rattle.ticker_table.specs.Tickers.{IsTicker}
use Rattle.flow_accounts.specs.Balances.{grains, money_of, units_of, money_credit_of, money_with_credit, total_of, no_balances}
use Rattle.flow_accounts.specs.Lawful.{most_credit}
use Rattle.market_rules.proofs.ByKind.{holds_totals, within_limits}
use Rattle.flow_orders.specs.Orders.{needed_money, needed_units}
use Rattle.flow_orders.specs.Outcomes.{IsAdmissibleOutcome, Outcome}
use Rattle.wire_records.specs.Commands.{Request, Command, AddAsset, OpenAccount, Deposit, Withdraw, Place, CancelOrder, RunBatch, SetCredit, Answer, Pair}
use Rattle.wire_records.specs.declared.reply.Refusal.{Refusal}
use Rattle.market_rules.specs.Market.{Market, IsConsistent, IsInTime, empty_market}
use Rattle.market_rules.specs.Step.{FirstRefusal, Accepts, Serves, placed, ServesRead}
use Rattle.market_rules.proofs.ByFirst.{Answers}
use Rattle.wire_records.specs.declared.command.BodyFault.{BodyFault}
use Rattle.wire_records.specs.declared.version.Version.{Version}
use Rattle.wire_records.specs.Versions.{IsOfVersion}
use Rattle.wire_records.specs.Limits.{limits_of}
use Rattle.market_rules.specs.Journal.{Step, Follows}
use Rattle.market_rules.proofs.Accepted.{past_when, past_unless, not_below, not_least, not_above}
use Rattle.market_rules.proofs.ConsistentBalances.{consistent-money, consistent-units, consistent-money_credit, consistent-unit_credit, consistent-opened}
use Rattle.market_rules.proofs.Versions.{not_one}
use Rattle.market_rules.proofs.ConsistentOrders.{consistent-ticker, consistent-order, consistent-without, placed_is_order}
use Rattle.market_rules.proofs.ConsistentBatch.{consistent-batch}

-- the last batch of an order is still to come
in_time : (m : Market) (last : Option ℕ) (r : Request) → IsOfVersion m.version (Place last r) → IfSome last (λ batch. m.batches < batch) → IsInTime m (placed m last r)
in_time m None r of later = inl refl
in_time m (Some last) r of later = inr (not_one m.version of.1, later)

-- an accepted command keeps a market consistent
consistent-accepted : (m : Market) (c : Command) (a : Answer Outcome) (n : Market) → IsOfVersion m.version c → IsConsistent m → FirstRefusal m c None → Accepts IsAdmissibleOutcome m c a n → IsConsistent n
consistent-accepted m (AddAsset ticker) a n of consistent none accepts =
    let one = past_unless none in
    let two = past_when one.1 in
    let three = past_when two.1 in
    subst IsConsistent (sym accepts.1) (consistent-ticker m ticker consistent one.0 two.0 (not_least (limits_of m.version).assets (length m.tickers) three.0))
consistent-accepted m OpenAccount a n of consistent none accepts =
    let one = past_when none in
    subst IsConsistent (sym accepts.1) (consistent-opened m consistent (not_least 65536 (length m.balances.accounts) one.0))
consistent-accepted m (Deposit account None ticks) a n of consistent none accepts =
    let one = past_unless none in
    let two = past_when (past_unless one.1).1 in
    let three = past_when two.1 in
    subst IsConsistent (sym accepts.1) (consistent-money m account (grains ticks) consistent one.0 (more (needed_money m.orders account) (money_with_credit m.balances account) (2 ^ 32 * ticks) (consistent.covered account None one.0 tt)) (not_below _ _ three.0))
  where
    more : (x y : ℤ) (n : ℕ) → x ≤ℤ y → x ≤ℤ (y +ℤ pos n)
    more x y n below = omega (arith, ints, below)
consistent-accepted m (Deposit account (Some asset) units) a n of consistent none accepts =
    let one = past_unless none in
    let two = past_unless one.1 in
    let three = past_when two.1 in
    let four = past_when three.1 in
    subst IsConsistent (sym accepts.1) (consistent-units m account asset (pos units) consistent one.0 two.0 (omega (arith, ints, consistent.covered account (Some asset) one.0 two.0)) (not_below _ _ four.0))
consistent-accepted m (Withdraw account None ticks) a n of consistent none accepts =
    let one = past_unless none in
    let two = past_when (past_unless one.1).1 in
    let three = past_when two.1 in
    subst IsConsistent (sym accepts.1) (consistent-money m account (neg_ℤ (grains ticks)) consistent one.0
    (less (needed_money m.orders account) (money_of m.balances account) (2 ^ 32 * ticks) (money_credit_of m.balances account) (not_below _ _ three.0))
    (fewer (total_of m.balances None) (2 ^ 32 * ticks) _ (consistent.widths.totals None tt)))
  where
    less : (x y : ℤ) (n credit : ℕ) → pos n ≤ℤ (y -ℤ x) → x ≤ℤ (y +ℤ grains credit +ℤ neg_ℤ (pos n))
    less x y n credit free = omega (arith, ints, free)

    fewer : (x : ℤ) (n : ℕ) (most : ℤ) → x ≤ℤ most → (x +ℤ neg_ℤ (pos n)) ≤ℤ most
    fewer x n most below = omega (arith, ints, below)
consistent-accepted m (Withdraw account (Some asset) units) a n of consistent none accepts =
    let one = past_unless none in
    let two = past_unless one.1 in
    let three = past_when two.1 in
    let four = past_when three.1 in
    let free : pos units ≤ℤ (units_of m.balances account asset -ℤ needed_units m.orders account asset) = not_below _ _ four.0 in
    let limit = consistent.widths.totals (Some asset) two.0 in
    subst IsConsistent (sym accepts.1) (consistent-units m account asset (neg_ℤ (pos units)) consistent one.0 two.0 (omega (arith, ints, free)) (omega (arith, ints, limit)))
consistent-accepted m (CancelOrder account number) a n of consistent none accepts = subst IsConsistent (sym accepts.1) (consistent-without m number consistent)
consistent-accepted m (RunBatch budget) a n of consistent none accepts =
    let one = past_unless none in
    let two = past_when one.1 in
    subst IsConsistent (sym accepts.2.1) (consistent-batch m accepts.0 budget consistent (not_least (limits_of m.version).batches m.batches two.0) accepts.1)
consistent-accepted m (Place last r) a n of consistent none accepts =
    let one = past_unless none in
    let two = past_unless one.1 in
    let three = past_unless two.1 in
    let four = past_unless three.1 in
    let time = past_unless four.1 in
    let five = past_unless time.1 in
    let six = past_unless five.1 in
    let seven = past_when six.1 in
    let eight = past_unless seven.1 in
    subst IsConsistent (sym accepts.1) (consistent-order m (placed m last r) consistent (placed_is_order m last r two.0 three.0 four.0 five.0.0) refl one.0 five.0.1 six.0 (not_least (limits_of m.version).orders (length m.orders) seven.0) eight.0
    (in_time m last r of time.0))
consistent-accepted m (SetCredit account None ticks) a n of consistent none accepts =
    let one = past_unless none in
    let two = past_when (past_unless one.1).1 in
    let three = past_when two.1 in
    let version = not_one m.version (omega (arith, of.1)) in
    let covers : pos 0 ≤ℤ (money_of m.balances account -ℤ needed_money m.orders account +ℤ grains ticks) = not_below _ _ three.0 in
    subst IsConsistent (sym accepts.1) (consistent-money_credit m account ticks consistent version one.0 (not_above most_credit ticks two.0) (omega (arith, ints, covers)))
consistent-accepted m (SetCredit account (Some asset) units) a n of consistent none accepts =
    let one = past_unless none in
    let two = past_unless one.1 in
    let three = past_when two.1 in
    let four = past_when three.1 in
    let version = not_one m.version (omega (arith, of.1)) in
    let covers : pos 0 ≤ℤ (units_of m.balances account asset -ℤ needed_units m.orders account asset +ℤ pos units) = not_below _ _ four.0 in
    subst IsConsistent (sym accepts.1) (consistent-unit_credit m account asset units consistent version one.0 two.0 (not_above most_credit units three.0) (omega (arith, ints, covers)))

-- a command of the market's version, served with an admissible outcome, keeps the market consistent
pub consistent_served : (m : Market) (c : Command) (a : Answer Outcome) (n : Market) → IsOfVersion m.version c → IsConsistent m → Serves IsAdmissibleOutcome m c a n → IsConsistent n
consistent_served m c a n of consistent serves = by_first serves.first serves.refused serves.answered
  where
    by_first : (first : Option Refusal) → FirstRefusal m c first → Answers IsAdmissibleOutcome m c first a n → IsConsistent n
    by_first (Some r) refused answered = subst IsConsistent (sym answered.1) consistent
    by_first None refused answered = consistent-accepted m c a n of consistent refused answered

-- the empty market is consistent
pub consistent-empty : (version : Version) → IsConsistent (empty_market version)
consistent-empty version = record {
  one_each = record { tickers = refl; prices = refl; accounts = λ k d inside. absurd (omega (arith, inside)); exchange = refl; credits = refl };
  tickers = record { valid = All-nil IsTicker; distinct = λ i j d below inside. absurd (omega (arith, inside)); few = omega arith };
  live = λ k d inside. absurd (omega (arith, inside));
  ascending = λ i j d below inside. absurd (omega (arith, inside));
  covered = λ account kind there is_kind. absurd (omega (arith, there.0, there.1));
  credit = record { lawful = λ k d inside. absurd (omega (arith, inside)); none = λ one k d inside. absurd (omega (arith, inside)) };
  totals = holds_totals (empty_market version) refl (λ asset is_asset. absurd (omega (arith, is_asset)));
  widths = record { totals = within_limits no_balances (omega (arith, ints)) (λ asset is_asset. absurd (omega (arith, is_asset))); exchange_money = omega arith; exchange_units = λ k d inside. absurd (omega (arith, inside)) };
  prices = λ k d inside. absurd (omega (arith, inside));
  few_assets = omega arith;
  few_accounts = omega arith;
  few_orders = omega arith;
  few_batches = omega arith;
  next = omega arith;
}

-- what is read in a version is a command of it
abbrev pub ReadsOwn : {R : Type 0} → (Version → R → Result Command BodyFault → Type 0) → Type 0
ReadsOwn {R} Reads = (version : Version) (r : R) (c : Command) → Reads version r (Ok c) → IsOfVersion version c

module _ {R : Type 0} (Reads : Version → R → Result Command BodyFault → Type 0) (own : ReadsOwn Reads) where
  consistent-read : (m : Market) (asked : R) (read : Result Command BodyFault) (a : Answer Outcome) (n : Market) → IsConsistent m → Reads m.version asked read → ServesRead IsAdmissibleOutcome m read a n → IsConsistent n
  consistent-read m asked (Ok c) a n consistent encoded serves = consistent_served m c a n (own m.version asked c encoded) consistent serves
  consistent-read m asked (Err r) a n consistent encoded serves = subst IsConsistent (sym serves.1) consistent

  -- every step of records, and every sequence of them, keeps a market consistent
  pub consistent_step : (m : Market) (asked : R) (a : Answer Outcome) (n : Market) → IsConsistent m → Step Reads IsAdmissibleOutcome m asked a n → IsConsistent n
  consistent_step m asked a n consistent step = consistent-read m asked step.read a n consistent step.encoded step.served

  pub consistent_follows : (m : Market) (pairs : List (Pair R Outcome)) (n : Market) → IsConsistent m → Follows Reads IsAdmissibleOutcome m pairs n → IsConsistent n
  consistent_follows m [] n consistent follows = subst IsConsistent (sym follows) consistent
  consistent_follows m (pair ∷ pairs) n consistent follows = consistent_follows follows.0 pairs n (consistent_step m pair.asked pair.answer follows.0 consistent follows.1) follows.2
