use Rattle.std.proofs.Common.{ap, arith}
use Rattle.wire_records.specs.declared.limits.Limits.{Limits}
use Rattle.market_rules.proofs.VersionLimits.{batches_within}
use Rattle.market_parts.proofs.Below.{refuted}
use Rattle.market_parts.proofs.Consistency.{lawful_balances}
use Rattle.market_parts.proofs.numbers.are_consistent_numbers.Goals as goal

pub has_consistent_sums-requires-clause-lawful : goal.has_consistent_sums-requires-clause-lawful
has_consistent_sums-requires-clause-lawful g c = lawful_balances c.most_credit_of.result (g.P.AccountParts.balances c.args.parts.now) c.most_credit_of.ensures.most (c.are_consistent_balances.ensures.0 c.if-not-are_consistent_balances.false)

pub has_consistent_sums-requires-clause-few_batches : goal.has_consistent_sums-requires-clause-few_batches
has_consistent_sums-requires-clause-few_batches g c =
    omega (arith, (c.has_consistent_counts.ensures.0 c.if-not-has_consistent_counts.false).few_batches, ap (λ (l : Limits). l.batches) c.limits.ensures, batches_within c.args.version)

pub returns-then-not-has_consistent_counts : goal.returns-then-not-has_consistent_counts
returns-then-not-has_consistent_counts g c = refuted c.has_consistent_counts.ensures c.if-not-has_consistent_counts.true (λ s. rw c.limits.ensures s.counts)

pub returns-then-not-are_consistent_balances : goal.returns-then-not-are_consistent_balances
returns-then-not-are_consistent_balances g c = refuted c.are_consistent_balances.ensures c.if-not-are_consistent_balances.true (λ s. rw c.most_credit_of.ensures.value s.balances)

pub returns : goal.returns
returns g c = (
  λ t. record {
    counts = rw c.limits.ensures at (c.has_consistent_counts.ensures.0 c.if-not-has_consistent_counts.false);
    balances = rw c.most_credit_of.ensures.value at (c.are_consistent_balances.ensures.0 c.if-not-are_consistent_balances.false);
    sums = c.has_consistent_sums.ensures.0 t;
  },
  λ s. c.has_consistent_sums.ensures.1 s.sums,
)
