use Rattle.std.proofs.Common.{ap, sym, ◌∙◌, arith}
use Rattle.market_rules.specs.Market.{Market}
use Rattle.sample_summary.specs.Private.{State}
use Rattle.sample_summary.specs.declared.counting.Counts.{Counts}
use Rattle.sample_summary.proofs.sampling.Sampling.new.Goals as goal

-- nothing was counted
nothing : Counts
nothing = record { cleared = 0; skipped = 0; units = 0 }

pub returns : goal.returns
unfolding nothing
returns c = record {
  ready = record {
    same = c.new-2.ensures ∙ sym c.new.ensures;
    next = omega (arith, ap (λ (m : Market). m.next_order) c.new.ensures);
    counts = record { cleared = omega arith; skipped = omega arith; units = omega arith };
  };
  none = ap state_at c.new.ensures;
}
  where
    state_at : Market → State
    state_at market = record { market = market; counts = nothing }
