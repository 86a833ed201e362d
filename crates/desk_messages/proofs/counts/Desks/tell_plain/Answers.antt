use Rattle.pair_text.proofs.Joining.{joined, on_ok}
use Rattle.desk_messages.proofs.Telling.{tells_one}
use Rattle.desk_messages.proofs.counts.Desks.tell_plain.Goals as goal

pub returns-in_ok-put_command-in-Asset-clause-told : goal.returns-in_ok-put_command-in-Asset-clause-told
returns-in_ok-put_command-in-Asset-clause-told c =
    on_ok c.put_end.result
    (λ last. rw c.in-Asset.is (tells_one _ _ _ _ _ _ c.address.ensures.counted c.in_ok-address-in-Asset.ensures.put
    (joined c.address.new.out.text _ _ _ _ c.in_ok-put_command-in-Asset.ensures.put last))) c.put_end.ensures.put
