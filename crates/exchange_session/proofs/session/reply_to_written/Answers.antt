use Rattle.std.proofs.Common.{refl, ap, Err, arith}
use Rattle.wire_records.specs.Versions.{most_tag}
use Rattle.wire_records.specs.Views.{command_in}
use Rattle.wire_records.specs.declared.command.BodyFault.TheVariants.{UnknownTag}
use Rattle.exchange_session.proofs.Written.{written_unread}
use Rattle.exchange_session.proofs.session.reply_to_written.Goals as goal

pub returns-then-tag-most_tag-clause-step : goal.returns-then-tag-most_tag-clause-step
returns-then-tag-most_tag-clause-step c = record {
  read = Err UnknownTag;
  encoded = written_unread c.args.market.now.version (command_in c.args.command.now) (omega (arith, c.if-tag-most_tag.true, c.tag.ensures, c.most_tag.ensures, ap most_tag c.version.ensures.value));
  served = (refl, refl);
}
