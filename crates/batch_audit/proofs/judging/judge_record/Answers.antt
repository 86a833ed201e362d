use Rattle.std.proofs.Common.{refl, sym, subst, Ok, Err}
use Rattle.wire_records.specs.Commands.{RunBatch}
use Rattle.wire_records.specs.Views.{command_of}
use Rattle.journal_records.specs.Views.{answer_of}
use Rattle.batch_audit.specs.Private.{IsReadWeighed}
use Rattle.batch_audit.proofs.Served.{record_weighed, fault_weighed}
use Rattle.batch_audit.proofs.judging.judge_record.Goals as goal

pub returns-in_ok-judge_batch-in-Ok-RunBatch-clause-weighed : goal.returns-in_ok-judge_batch-in-Ok-RunBatch-clause-weighed
returns-in_ok-judge_batch-in-Ok-RunBatch-clause-weighed c =
    record_weighed _ c.args.market.now c.args.asked.now (Ok (RunBatch c.in-Ok-RunBatch.budget)) (answer_of c.args.seen.now)
    (rw c.in-Ok-RunBatch.field-0-is at c.in-Ok-RunBatch.ensures.command) c.in_ok-judge_batch-in-Ok-RunBatch.ensures.weighed

pub returns-in-Ok : goal.returns-in-Ok
returns-in-Ok c = record {
  weighed = record_weighed _ c.args.market.now c.args.asked.now (Ok (command_of c.in-Ok.command)) (answer_of c.args.seen.now) c.in-Ok.ensures.command c.judge_plain.ensures;
  stays = refl;
  wanted = tt;
}

pub returns-in-Err-clause-weighed : goal.returns-in-Err-clause-weighed
returns-in-Err-clause-weighed c =
    let old = c.args.market.now in
    let answer = answer_of c.args.seen.now in
    let fault = c.in-Err.ensures.fault in
    record_weighed c.nothing_where.result old c.args.asked.now (Err fault.0) answer fault.1
    (subst (IsReadWeighed old (Err fault.0) answer) (sym c.nothing_where.ensures) (fault_weighed c.is_plain.result old fault.0 answer c.in-Err.refusal fault.2 c.is_plain.ensures))
