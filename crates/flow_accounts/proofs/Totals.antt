-- The balances that the fields of an `Accounts` represent when the total of an asset is written.
use Rattle.std.proofs.Common.{◌≡◌, ◌≢◌, ℕ, ◌<◌, ℤ, set, refl, sym, subst, ◌∙◌, arith}
use Rattle.std.proofs.Math.Seq.{take-set-lt}
use Rattle.std.proofs.lemmas.List.{get_or-set_other, length-set}
use Rattle.std.proofs.lemmas.List.Elements.{All-set}
use Rattle.flow_accounts.specs.declared.Accounts.TheInside.{Inside}
use Rattle.flow_accounts.specs.Balances.{Balances, IsAsset}
use Rattle.flow_accounts.specs.Lawful.{AreLawful, IsUnitTotal}
use Rattle.flow_accounts.specs.Places.{balances_in, AreKept}
use Rattle.flow_accounts.proofs.Standing.{StandsFor, asset_count-in}

-- lawful balances with the total of an asset replaced
lawful-total : (b : Balances) (asset : ℕ) (z : ℤ) → AreLawful b → IsUnitTotal z → AreLawful (record b { totals = record (b.totals) { units = set b.totals.units asset z } })
lawful-total b asset z lawful total = record {
  few_accounts = lawful.few_accounts;
  few_assets = rw length-set lawful.few_assets;
  accounts = rw length-set lawful.accounts;
  one_credit_each = lawful.one_credit_each;
  credits = rw length-set lawful.credits;
  within_credit = record { money = lawful.within_credit.money; units = λ k s there is_asset. lawful.within_credit.units k s there (rw length-set at is_asset) };
  total_money = lawful.total_money;
  total_units = All-set IsUnitTotal b.totals.units asset z total lawful.total_units;
}

total_shown : (a : Inside) (asset : ℕ) (z : ℤ) → AreKept a → IsAsset (balances_in a) asset → IsUnitTotal z → StandsFor (record a { total_units = set a.total_units asset z }) (record (balances_in a) { totals = record ((balances_in a).totals) { units = set (balances_in a).totals.units asset z } })
total_shown a asset z kept is_asset total =
    let in_use : asset < a.holdings.assets = subst (λ n. asset < n) (asset_count-in a kept) is_asset in
    let shown : balances_in (record a { total_units = set a.total_units asset z }) ≡ record (balances_in a) { totals = record ((balances_in a).totals) { units = set (balances_in a).totals.units asset z } } = rw take-set-lt refl in
    record {
      kept = record {
        lawful = subst AreLawful (sym shown) (lawful-total (balances_in a) asset z kept.lawful total);
        few_assets = kept.few_assets;
        totals = record {
          places_made = length-set a.total_units asset z ∙ kept.totals.places_made;
          zero_beyond = λ k beyond. let other : k ≢ asset = omega arith in rw get_or-set_other (kept.totals.zero_beyond k beyond);
        };
        none = kept.none;
        credits = kept.credits;
      };
      shown = shown;
    }

-- the total of an asset is written, and the code computes z
pub total_written : (a : Inside) (b : Balances) (asset : ℕ) (total z : ℤ) → AreKept a → balances_in a ≡ b → IsAsset b asset → IsUnitTotal total → z ≡ total → StandsFor (record a { total_units = set a.total_units asset z }) (record b { totals = record (b.totals) { units = set b.totals.units asset total } })
total_written a b asset total z kept view_is is_asset fits is =
    let P : Balances → ℤ → Type 0 = λ b z. IsAsset b asset → StandsFor (record a { total_units = set a.total_units asset z }) (record b { totals = record (b.totals) { units = set b.totals.units asset total } }) in
    subst (λ z. P b z) (sym is) (subst (λ b. P b total) view_is (λ is_asset. total_shown a asset total kept is_asset fits)) is_asset
