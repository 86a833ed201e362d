use Rattle.pair_text.proofs.Joining.{joined, on_ok}
use Rattle.batch_report.proofs.plain.put_order.Goals as goal

pub returns-clause-put : goal.returns-clause-put
returns-clause-put c =
    on_ok c.put_entries.result
    (λ last. joined c.args.out.now.text _ _ _ _ c.in_ok-put_numbers.ensures.put (joined c.put_numbers.new.out.text _ _ _ _ c.in_ok-put_last.ensures.put last)) (rw c.row.ensures at c.put_entries.ensures.put)
