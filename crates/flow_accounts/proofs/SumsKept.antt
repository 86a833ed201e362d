-- The totals stay the sums over all accounts.
use Rattle.std.proofs.Common.{◌≡◌, refl, sym, subst, ◌∙◌, ⊎_elim, arith, Some}
use Rattle.std.proofs.lemmas.Bool.{cases_eq}
use Rattle.std.proofs.lemmas.Int.{ints}
use Rattle.flow_accounts.specs.Balances.{total_units_of, change_balance}
use Rattle.flow_accounts.specs.Laws.{TotalsStaySums}
use Rattle.flow_accounts.specs.Sums.{units_of_all}
use Rattle.flow_accounts.proofs.Moves.{opened_kept, asset_kept, money_changes, units_change}
use Rattle.flow_accounts.proofs.ListLemmas.{zero_pushed}

pub totals_stay_sums : TotalsStaySums
totals_stay_sums = record {
  none = record { money = refl; units = λ asset. refl };
  opened = λ b sums.
      let kept = opened_kept b in
      record { money = sums.money ∙ sym kept.money_sum; units = λ asset. sums.units asset ∙ sym (kept.unit_sums asset) };
  asset = λ b sums.
      let kept = asset_kept b in
      record { money = sums.money ∙ sym kept.money_sum; units = λ asset. zero_pushed b.totals.units asset ∙ sums.units asset ∙ sym (kept.unit_sums asset) };
  money = λ b account amount there sums.
      let changes = money_changes b account amount there in
      record { money = omega (arith, ints, sums.money, changes.money_sum); units = λ asset. sums.units asset ∙ sym (changes.unit_sums asset) };
  units = λ b account asset amount lawful there is_asset sums.
      let changes = (units_change b account asset amount lawful there is_asset).0 in
      let totals = (units_change b account asset amount lawful there is_asset).1 in
      record {
        money = sums.money ∙ sym changes.money_sum;
        units = λ s. ⊎_elim
            (λ same. subst (λ s. total_units_of (change_balance b account (Some asset) amount) s ≡ units_of_all (change_balance b account (Some asset) amount) s) (sym same) (omega (arith, ints, sums.units asset, totals.total, changes.unit_sum)))
            (λ differs. totals.others s differs ∙ sums.units s ∙ sym (changes.other_sums s differs))
            (cases_eq s asset);
      };
}
