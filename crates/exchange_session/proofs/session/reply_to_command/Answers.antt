use Rattle.std.proofs.Common.{refl, Some, Ok}
use Rattle.wire_records.specs.Commands.{RunBatch}
use Rattle.wire_records.specs.Views.{command_of}
use Rattle.canonical_rule.specs.Canonical.{IsCanonicalOutcome}
use Rattle.market_rules.proofs.LawProofs.{plain_by_any}
use Rattle.exchange_session.proofs.session.reply_to_command.Goals as goal

pub returns-in-Err-clause-step : goal.returns-in-Err-clause-step
returns-in-Err-clause-step c =
    rw c.in-RunBatch.is
    (record {
      read = Ok (RunBatch c.in-RunBatch.budget);
      encoded = rw c.in-RunBatch.is at c.requires.read;
      served = record { first = Some c.in-Err.refusal; refused = c.in-Err.ensures.first; answered = (refl, refl) };
    })

pub returns-in_ok-apply-in_default : goal.returns-in_ok-apply-in_default
returns-in_ok-apply-in_default c = record {
  step = record { read = Ok (command_of c.args.command.now); encoded = c.requires.read; served = plain_by_any IsCanonicalOutcome _ (command_of c.args.command.now) _ _ c.in_ok-apply-in_default.ensures.served };
  stays = tt;
  wanted = tt;
}
