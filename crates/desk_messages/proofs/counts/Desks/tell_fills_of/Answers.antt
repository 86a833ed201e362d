use Rattle.std.proofs.Common.{◌≡◌, ◌+◌, length, arith}
use Rattle.std.proofs.lemmas.Bool.Decides.{nat_tests}
use Rattle.pair_text.proofs.Joining.{joined, on_ok}
use Rattle.desk_messages.proofs.Telling.{tells_one, fills_told}
use Rattle.desk_messages.proofs.counts.Desks.tell_fills_of.Goals as goal

pub returns-clause-told : goal.returns-clause-told
returns-clause-told c =
    let some : length c.args.own.now ≡ 0 → ⊥ = λ none. absurd (grind (arith, nat_tests, none, c.is_empty.ensures, c.if-is_empty.false)) in
    on_ok c.put_end.result
    (λ last. rw (fills_told c.args.batch (c.args.account + 1) c.args.own.now some) (tells_one _ _ _ _ _ _ c.address.ensures.counted c.in_ok-address.ensures.put
    (joined c.address.new.out.text _ _ _ _ c.in_ok-put_fills.ensures.put last))) c.put_end.ensures.put
