use Rattle.market_parts.proofs.Below.{refuted}
use Rattle.market_parts.proofs.orders.has_consistent_numbers.Goals as goal

pub returns-then-not-has_consistent_terms : goal.returns-then-not-has_consistent_terms
returns-then-not-has_consistent_terms g c = refuted c.has_consistent_terms.ensures c.if-not-has_consistent_terms.true (λ s. s.terms)

pub returns-then-not-is_account : goal.returns-then-not-is_account
returns-then-not-is_account g c = refuted c.is_account.ensures c.if-not-is_account.true (λ s. s.account)
