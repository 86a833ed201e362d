use Rattle.std.proofs.Common.{◌≡◌, ◌++◌, ap, ◌∙◌, append_assoc}
use Rattle.wire_records.specs.Records.{encoding}
use Rattle.wire_records.specs.Commands.{Batch}
use Rattle.flow_orders.specs.Outcomes.{Cleared}
use Rattle.batch_outcome.specs.Published.{clearing_of}
use Rattle.journal_records.specs.Replies.{answer_record}
use Rattle.journal_records.specs.Pairs.{pair_encoding}
use Rattle.journal_records.proofs.cleared.write_cleared.Goals as goal

pub returns-clause-written : goal.returns-clause-written
unfolding pair_encoding
returns-clause-written c =
    let asked = encoding c.args.asked.now in
    let answered = encoding (answer_record (Batch c.args.batch (Cleared (clearing_of c.args.orders.now c.args.cleared.now)))) in
    let written : c.put_bytes.new.out.items ≡ c.args.out.now.items ++ asked = c.put_bytes.ensures.written ∙ ap (λ xs. xs ++ c.bytes-2.result.now) c.reserve.ensures.items ∙ ap (λ xs. c.args.out.now.items ++ xs) c.bytes-2.ensures in
    c.put_cleared.ensures.written ∙ ap (λ xs. xs ++ answered) written ∙ append_assoc c.args.out.now.items asked answered
