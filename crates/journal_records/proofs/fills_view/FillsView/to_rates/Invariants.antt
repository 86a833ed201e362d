use Rattle.std.proofs.Common.{◌≡◌, ◌-◌, ◌≤◌, length, map, take, vec_len, vec_capacity}
use Rattle.flow_orders.specs.Outcomes.{Fill}
use Rattle.journal_records.proofs.fills_view.FillsView.to_rates.Given as goal

abbrev pub invariant-loop-rate : goal.invariant-loop-rate
invariant-loop-rate l = record { read : l.rates.items ≡ take (vec_len l.rates) (map (λ (f : Fill). f.rate) l.self); room : length l.self ≤ vec_capacity l.rates }

abbrev pub decreases-loop-rate : goal.decreases-loop-rate
decreases-loop-rate l = length l.self - vec_len l.rates
