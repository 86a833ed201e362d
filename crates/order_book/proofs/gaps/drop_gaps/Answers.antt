use Rattle.std.proofs.Common.{rules}
use Rattle.std.proofs.lemmas.Fn.{filter_same}
use Rattle.order_book.proofs.gaps.drop_gaps.Goals as goal

pub returns-clause-orders : goal.returns-clause-orders
returns-clause-orders c = filter_same _ _ _ (λ x b f' k. search rules) _ _ c.retain.ensures.filtered
