-- The market's reply to a new asset and to a new account.
use Rattle.std.proofs.Common.{◌≡◌, ℕ, ◌+◌, ◌≤◌, ◌<◌, inl, inr, List, [], ◌∷◌, ◌++◌, length, Some, None, Result, Ok, Err, OnOk, OnErr, refl, ap, sym, subst, ◌∙◌, arith}
use Rattle.std.specs.Prelude.{Contains, pos, ℤ}
use Rattle.std.proofs.lemmas.Option.{slice_get_within, get_or_from_slice_get}
use Rattle.wire_records.specs.Limits.{limits_of}
use Rattle.ticker_table.specs.Tickers.{IsTicker, HasNumber}
use Rattle.ticker_table.specs.Adding.{IsAddable}
use Rattle.ticker_table.specs.declared.table.TickerFault.{TickerFault}
use Rattle.ticker_table.specs.declared.table.TickerFault.TheVariants as tickers
use Rattle.wire_records.specs.Commands.{AddAsset, OpenAccount, Plain}
use Rattle.wire_records.specs.declared.reply.Reply.TheVariants.{Asset, Account, Refused}
use Rattle.wire_records.specs.declared.reply.Refusal.TheVariants.{BadTicker, TickerTaken, AssetLimit, AccountLimit}
use Rattle.flow_accounts.specs.Balances.{Account as AccountOf, Balances, account_count, add_asset, with_asset, open_account}
use Rattle.flow_accounts.specs.Lawful.{most_accounts}
use Rattle.flow_accounts.specs.Answers.{RefusesAccount}
use Rattle.flow_accounts.specs.declared.fault.AccountFault.{AccountFault}
use Rattle.flow_accounts.specs.declared.fault.AccountFault.TheVariants as fault
use Rattle.flow_orders.specs.Outcomes.{BatchRule}
use Rattle.market_rules.specs.Market.{Market, IsConsistent}
use Rattle.market_rules.specs.Step.{FirstRefusal, Serves, NoOutcome}
use Rattle.market_core.specs.Private.{IsAnswered, refusal_for, ticker_refusal}
use Rattle.market_core.proofs.Fitting.{consistent-served, of_each}

-- a ticker that can be added is refused by nothing
pub addable_is_accepted : (m : Market) (ticker : List ℕ) → IsAddable (limits_of m.version).assets m.tickers ticker → FirstRefusal m (AddAsset ticker) None
addable_is_accepted m ticker addable = inr (addable.valid, inr (addable.absent, inr (λ full. let place = addable.place in omega (arith, full, place), refl)))

module _ (Rule : BatchRule) where
  -- the asset is added
  pub serves-add_asset : (m : Market) (now : Balances) (exchange : AccountOf) (prices : List ℤ) (ticker : List ℕ) → IsAddable (limits_of m.version).assets m.tickers ticker
      → now ≡ add_asset m.balances → exchange ≡ with_asset m.exchange → prices ≡ m.last_prices ++ pos 0 ∷ []
      → Serves Rule m (AddAsset ticker) (Plain (Asset (length m.tickers))) (record m { tickers = m.tickers ++ ticker ∷ []; balances = now; exchange = exchange; last_prices = prices })
  serves-add_asset m now exchange prices ticker addable balances_are exchange_is prices_are =
      let longer = m.tickers ++ ticker ∷ [] in
      record {
        first = None;
        refused = addable_is_accepted m ticker addable;
        answered = (
          refl,
          ap (λ b. record m { tickers = longer; balances = b; exchange = exchange; last_prices = prices }) balances_are
              ∙ ap (λ e. record m { tickers = longer; balances = add_asset m.balances; exchange = e; last_prices = prices }) exchange_is
              ∙ ap (λ l. record m { tickers = longer; balances = add_asset m.balances; exchange = with_asset m.exchange; last_prices = l }) prices_are,
        );
      }

  module _ (old new : Market) (ticker : List ℕ) (same : new ≡ old) where
    -- the ticker isn't valid
    pub refuses-bad_ticker : (IsTicker ticker → ⊥) → Serves Rule old (AddAsset ticker) (Plain (Refused BadTicker)) new
    refuses-bad_ticker bad = record { first = Some BadTicker; refused = inl (bad, refl); answered = (refl, same) }

    -- the ticker is taken
    pub refuses-taken : (number : ℕ) → IsTicker ticker → HasNumber old.tickers number ticker → Serves Rule old (AddAsset ticker) (Plain (Refused TickerTaken)) new
    refuses-taken number valid has =
        let there : Contains old.tickers ticker = (number, slice_get_within old.tickers number ticker has, get_or_from_slice_get old.tickers number ticker ticker has) in
        record { first = Some TickerTaken; refused = inr (valid, inl (there, refl)); answered = (refl, same) }

    -- there are too many assets
    pub refuses-full : IsTicker ticker → (Contains old.tickers ticker → ⊥) → (limits_of old.version).assets ≤ length old.tickers → Serves Rule old (AddAsset ticker) (Plain (Refused AssetLimit)) new
    refuses-full valid absent many = record { first = Some AssetLimit; refused = inr (valid, inr (absent, inl (many, refl))); answered = (refl, same) }

  -- the asset isn't added, for another cause than running out of memory
  pub refuses-ticker_fault : (old new : Market) (ticker : List ℕ) (why : TickerFault) → new ≡ old
      → (why ≡ tickers.BadTicker → IsTicker ticker → ⊥)
      → ((number : ℕ) → why ≡ tickers.Taken number → IsTicker ticker × HasNumber old.tickers number ticker)
      → (why ≡ tickers.Full → IsTicker ticker × (Contains old.tickers ticker → ⊥) × ((limits_of old.version).assets ≤ length old.tickers))
      → (why ≡ tickers.Memory → ⊥) → Serves Rule old (AddAsset ticker) (Plain (Refused (ticker_refusal why))) new
  refuses-ticker_fault old new ticker tickers.BadTicker same bad taken full answered = refuses-bad_ticker old new ticker same (bad refl)
  refuses-ticker_fault old new ticker (tickers.Taken number) same bad taken full answered =
      let there = taken number refl in
      refuses-taken old new ticker same number there.0 there.1
  refuses-ticker_fault old new ticker tickers.Full same bad taken full answered =
      let there = full refl in
      refuses-full old new ticker same there.0 there.1 there.2
  refuses-ticker_fault old new ticker tickers.Memory same bad taken full answered = absurd (answered refl)

  -- an account is opened
  pub serves-open_account : (m : Market) (now : Balances) → account_count m.balances < most_accounts → now ≡ open_account m.balances
      → Serves Rule m OpenAccount (Plain (Account (account_count m.balances + 1))) (record m { balances = now })
  serves-open_account m now few opened =
      record { first = None; refused = inr (λ full. omega (arith, few, full), refl); answered = (refl, ap (λ b. record m { balances = b }) opened) }

  -- there are too many accounts
  pub refuses-account : (m new : Market) → account_count m.balances ≡ most_accounts → new ≡ m → Serves Rule m OpenAccount (Plain (Refused AccountLimit)) new
  refuses-account m new full same = record { first = Some AccountLimit; refused = inl (omega (arith, full), refl); answered = (refl, same) }

  -- the account isn't opened, for another cause than running out of memory
  pub refuses-account_fault : (m new : Market) (why : AccountFault) → RefusesAccount m.balances why → IsAnswered why → new ≡ m → Serves Rule m OpenAccount (Plain (Refused (refusal_for why))) new
  refuses-account_fault m new fault.Full full answered same = refuses-account m new full same
  refuses-account_fault m new fault.NoAccount refused answered same = absurd refused
  refuses-account_fault m new fault.NoAsset refused answered same = absurd refused
  refuses-account_fault m new fault.Zero refused answered same = absurd refused
  refuses-account_fault m new fault.TotalLimit refused answered same = absurd refused
  refuses-account_fault m new (fault.NotFree free) refused answered same = absurd refused
  refuses-account_fault m new fault.CreditLimit refused answered same = absurd refused
  refuses-account_fault m new (fault.InUse used) refused answered same = absurd refused
  refuses-account_fault m new fault.Memory refused answered same = absurd answered

-- whether an account was opened or not, a consistent market stays consistent
pub consistent-opened : (m : Market) (now : Balances) (outcome : Result ℕ AccountFault) → IsConsistent m → OnOk outcome (account_count m.balances < most_accounts)
    → OnOk outcome (now ≡ open_account m.balances) → OnErr outcome (now ≡ m.balances) → IsConsistent (record m { balances = now })
consistent-opened m now (Ok number) consistent few opened same = consistent-served m OpenAccount _ (record m { balances = now }) (of_each m.version OpenAccount (omega arith) (omega arith)) consistent (serves-open_account NoOutcome m now few opened)
consistent-opened m now (Err why) consistent few opened same = subst (λ b. IsConsistent (record m { balances = b })) (sym same) consistent
