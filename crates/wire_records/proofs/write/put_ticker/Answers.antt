use Rattle.std.proofs.Common.{◌++◌, ap, ◌∙◌, arith}
use Rattle.wire_records.proofs.Encoded.{head_and_body}
use Rattle.wire_records.proofs.write.put_ticker.Goals as goal

pub returns-clause-written : goal.returns-clause-written
returns-clause-written c =
    c.put_bytes.ensures.written ∙ ap (λ xs. xs ++ c.args.ticker) c.put_head.ensures.written ∙ head_and_body c.args.out.now.items c.args.ticker c.args.tag 8 (omega arith)
