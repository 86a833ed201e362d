use Rattle.market_rules.specs.Step.{NoOutcome}
use Rattle.std.proofs.Common.{ap}
use Rattle.market_core.specs.Kept.{market_in}
use Rattle.market_core.proofs.Adding.{serves-open_account, refuses-account_fault, consistent-opened}
use Rattle.market_core.proofs.market.Market.open_account.Goals as goal
use Rattle.market_core.proofs.market.Market.open_account.Goals.{in-Ok, in-Err-Memory, in-Err}

pub invariant_of-self : goal.invariant_of-self
invariant_of-self c =
    let opened = c.add_account.ensures in
    consistent-opened (market_in c.self.inside) c.add_account.new.self c.add_account.result c.self.invariant opened.not_full opened.ok opened.err

pub returns-clause-served : goal.returns-clause-served
returns-clause-served c =
    let m = market_in c.self.inside in
    let now = c.add_account.new.self in
    elim c.match-add_account.branch [
      | in-Ok w ↦
          let opened = w.in-Ok.ensures in
          rw (w.result-is, opened.number, ← c.self.view_is) (serves-open_account NoOutcome m now opened.not_full opened.ok)
      | in-Err-Memory w ↦ rw w.result-is tt
      | in-Err w ↦
          let kept = w.in-Err.ensures in
          rw (w.result-is, w.refusal_of.ensures.value, ← c.self.view_is)
          (refuses-account_fault NoOutcome m (record m { balances = now }) w.in-Err.fault kept.refused w.refusal_of.ensures.answered (ap (λ b. record m { balances = b }) kept.err))
    ]
