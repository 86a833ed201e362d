use Rattle.pair_text.proofs.Joining.{joined, on_ok}
use Rattle.desk_messages.proofs.Telling.{tells_one}
use Rattle.desk_messages.proofs.counts.Desks.tell_expected.Goals as goal

pub returns-clause-told : goal.returns-clause-told
returns-clause-told c =
    on_ok c.put_end.result
    (λ last. tells_one _ _ _ _ _ _ c.address.ensures.counted c.in_ok-address.ensures.put
    (joined c.address.new.out.text _ _ _ _ (rw c.lines_of-number.ensures.value at c.in_ok-put_number.ensures.put) last)) c.put_end.ensures.put
