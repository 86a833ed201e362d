use Rattle.std.proofs.Common.{◌≡◌, ◌++◌, ◌∷◌, [], Some, map, vec_len, take, sym, ap, ◌∙◌, arith}
use Rattle.std.specs.Prelude.{slice_get}
use Rattle.std.proofs.lemmas.List.{take_all}
use Rattle.flow_orders.specs.Outcomes.{Fill}
use Rattle.journal_records.proofs.Values.{ended, read_more}
use Rattle.journal_records.proofs.fills_view.FillsView.to_rates.Goals as goal

pub loop-rate-preserved : goal.loop-rate-preserved
loop-rate-preserved c =
    let all = map (λ (f : Fill). f.rate) c.args.self.now in
    let rates = c.loop-rate.rates in
    let x = c.in-Some.rate in
    let read : Some x ≡ slice_get all (vec_len rates) = c.in-Some.ensures ∙ ap (slice_get all) c.len-in-loop-rate.ensures in
    record {
      read =
          c.push_reserved.ensures.items ∙ ap (λ xs. xs ++ x ∷ []) c.loop-rate.invariant.read
          ∙ sym (read_more all (vec_len rates) x read) ∙ ap (λ n. take n all) (sym c.push_reserved.ensures.len);
      room = omega (arith, c.push_reserved.ensures.capacity, c.loop-rate.invariant.room);
    }

pub returns : goal.returns
returns c =
    let all = map (λ (f : Fill). f.rate) c.args.self.now in
    let rates = c.loop-rate.rates in
    let past = ended all (vec_len rates) (c.in_default.ensures ∙ ap (slice_get all) c.len-in-loop-rate.ensures) in
    c.loop-rate.invariant.read ∙ take_all (vec_len rates) all past
