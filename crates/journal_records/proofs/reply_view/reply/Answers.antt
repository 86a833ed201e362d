use Rattle.std.proofs.Common.{arith}
use Rattle.journal_records.specs.Private.{EncodesReply, EncodesNoReply, EncodesCleared, EncodesNoCleared, EncodesSkipped, EncodesNoSkipped}
use Rattle.journal_records.proofs.Reading.{none_cleared, none_skipped, none_plain, cleared_answer, skipped_answer, plain_answer}
use Rattle.journal_records.proofs.reply_view.reply.Goals as goal

pub returns-in_err-cleared_in-in-133 : goal.returns-in_err-cleared_in-in-133
returns-in_err-cleared_in-in-133 c =
    let none : EncodesNoCleared c.args.answered.now.body = rw c.body-body.ensures.value at c.in_err-cleared_in-in-133.ensures.none in
    rw c.from_residual.ensures (none_cleared c.args.answered.now (omega arith) none)

pub returns-in_err-skipped_in-in-134 : goal.returns-in_err-skipped_in-in-134
returns-in_err-skipped_in-in-134 c =
    let none : EncodesNoSkipped c.args.answered.now.body = rw c.body-body.ensures.value at c.in_err-skipped_in-in-134.ensures.none in
    rw c.from_residual-in_err-skipped_in-in-134.ensures (none_skipped c.args.answered.now (omega arith) none)

pub returns-in_err-plain_in-in_default : goal.returns-in_err-plain_in-in_default
returns-in_err-plain_in-in_default c =
    let none : EncodesNoReply c.args.answered.now.tag c.args.answered.now.body = rw (c.body-body.ensures.value, c.tag.ensures) at c.in_err-plain_in-in_default.ensures.none in
    rw c.from_residual-in_err-plain_in-in_default.ensures (none_plain c.args.answered.now (omega arith) (omega arith) none)

pub returns-in_ok-cleared_in-in-133 : goal.returns-in_ok-cleared_in-in-133
returns-in_ok-cleared_in-in-133 c =
    let found : EncodesCleared c.args.answered.now.body c.in_ok-cleared_in-in-133.field-0 = rw c.body-body.ensures.value at c.in_ok-cleared_in-in-133.ensures.found in
    cleared_answer c.args.answered.now c.in_ok-cleared_in-in-133.field-0 (omega arith) found

pub returns-in_ok-skipped_in-in-134 : goal.returns-in_ok-skipped_in-in-134
returns-in_ok-skipped_in-in-134 c =
    let found : EncodesSkipped c.args.answered.now.body c.in_ok-skipped_in-in-134.field-0 = rw c.body-body.ensures.value at c.in_ok-skipped_in-in-134.ensures.found in
    skipped_answer c.args.answered.now c.in_ok-skipped_in-in-134.field-0 (omega arith) found

pub returns-in_ok-plain_in-in_default : goal.returns-in_ok-plain_in-in_default
returns-in_ok-plain_in-in_default c =
    let found : EncodesReply c.args.answered.now.tag c.args.answered.now.body c.in_ok-plain_in-in_default.field-0 = rw (c.body-body.ensures.value, c.tag.ensures) at c.in_ok-plain_in-in_default.ensures.found in
    plain_answer c.args.answered.now c.in_ok-plain_in-in_default.field-0 found
