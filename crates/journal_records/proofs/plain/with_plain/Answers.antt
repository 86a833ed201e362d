use Rattle.std.proofs.Common.{◌≡◌, ◌++◌, ap, ◌∙◌, append_assoc}
use Rattle.wire_records.specs.Records.{encoding}
use Rattle.wire_records.specs.Commands.{Plain}
use Rattle.journal_records.specs.Replies.{answer_record}
use Rattle.journal_records.specs.Pairs.{pair_encoding}
use Rattle.journal_records.proofs.plain.with_plain.Goals as goal

pub returns-clause-written : goal.returns-clause-written
unfolding pair_encoding
returns-clause-written c =
    let asked = encoding c.args.pair.0.now in
    let answered = encoding (answer_record (Plain c.args.pair.1.now)) in
    let written : c.put_bytes.new.out.items ≡ c.args.out.items ++ asked = c.put_bytes.ensures.written ∙ ap (λ xs. c.args.out.items ++ xs) c.bytes.ensures in
    c.put_reply.ensures.written ∙ ap (λ xs. xs ++ answered) written ∙ append_assoc c.args.out.items asked answered
