use Rattle.std.proofs.Common.{◌≡◌, sym, ◌∙◌, arith}
use Rattle.journal_records.specs.Replies.{answer_record, EncodesAnswer}
use Rattle.journal_records.specs.Views.{answer_of}
use Rattle.journal_records.proofs.Encoded.{answer_unique}
use Rattle.journal_records.proofs.reply_view.ReplyView.of.Goals as goal

pub returns : goal.returns
returns c = λ answer is.
    let same : c.of.result ≡ answer_record answer = c.of.ensures (answer_record answer) (record { tag = is.short.tag; body = omega (arith, is.short.body); encoded = is.encoded }) in
    let seen : EncodesAnswer c.of.result (answer_of c.unwrap.result) = rw c.unwrap.ensures at c.reply.ensures in
    answer_unique (answer_of c.unwrap.result) answer seen.fits is.fits (sym seen.encoded ∙ same)
