use Rattle.pair_text.proofs.Joining.{joined, on_ok}
use Rattle.desk_messages.proofs.Telling.{tells_one}
use Rattle.desk_messages.proofs.counts.Desks.tell_all.Goals as goal

pub returns-in_ok-put_cleared_batch-in-Cleared-clause-told : goal.returns-in_ok-put_cleared_batch-in-Cleared-clause-told
returns-in_ok-put_cleared_batch-in-Cleared-clause-told c =
    on_ok c.put_end.result
    (λ last. rw c.in-Cleared.is (tells_one _ _ _ _ _ _ c.address.ensures.counted c.in_ok-address-in-Cleared.ensures.put
    (joined c.address.new.out.text _ _ _ _ c.in_ok-put_cleared_batch-in-Cleared.ensures.put last))) c.put_end.ensures.put

pub returns-in_ok-put_skipped_batch-in-Skipped-clause-told : goal.returns-in_ok-put_skipped_batch-in-Skipped-clause-told
returns-in_ok-put_skipped_batch-in-Skipped-clause-told c =
    on_ok c.put_end-in-Skipped.result
    (λ last. rw c.in-Skipped.is (tells_one _ _ _ _ _ _ c.address-in-Skipped.ensures.counted c.in_ok-address-in-Skipped.ensures.put
    (joined c.address-in-Skipped.new.out.text _ _ _ _ c.in_ok-put_skipped_batch-in-Skipped.ensures.put last))) c.put_end-in-Skipped.ensures.put
