use Rattle.std.proofs.Common.{◌≡◌, ◌++◌, codes, decimal, refl, sym, ap, subst, ◌∙◌, Err}
use Rattle.wire_records.specs.Commands.{Answer, Plain}
use Rattle.wire_records.specs.CommandRecords.{Encodes}
use Rattle.wire_records.specs.Refusals.{code_of}
use Rattle.wire_records.specs.Versions.{IsReadAs}
use Rattle.wire_records.specs.Views.{command_of}
use Rattle.wire_records.specs.declared.reply.Reply.TheVariants.{Refused}
use Rattle.flow_orders.specs.Outcomes.{Outcome}
use Rattle.journal_records.specs.Replies.{EncodesAnswer}
use Rattle.journal_records.specs.Views.{answer_of}
use Rattle.pair_text.proofs.Joining.{on_ok}
use Rattle.batch_report.specs.Private.{told_text}
use Rattle.batch_report.proofs.Answered.{told_tells, refused_is, answered, reported}
use Rattle.batch_report.proofs.report.put_pair.Goals as goal

pub returns-in-Some-clause-put : goal.returns-in-Some-clause-put
returns-in-Some-clause-put c =
    let market = c.args.market.now in
    let pair = c.args.pair.now in
    let command = command_of c.in-Ok.command in
    let answer = answer_of c.in-Some.answer in
    let is = answered pair c.answered.result answer market c.answered.ensures c.in-Some.ensures c.requires in
    let encodes : Encodes command pair.0 = subst (Encodes command) c.asked.ensures c.in-Ok.ensures.command.1 in
    let encoded : EncodesAnswer pair.1 answer = subst (λ r. EncodesAnswer r answer) c.answered.ensures c.in-Some.ensures in
    on_ok c.put_told.result
    (λ put. reported market c.args.number pair answer (told_text market.tickers command answer) c.args.out.now.text c.put_number.new.self.text c.put.new.self.text c.put_told.new.out.text
    encoded (told_tells is.0 market pair.0 answer command encodes is.1) c.in_ok-put_number.ensures.put c.in_ok-put.ensures.put put)
    (rw c.tickers.ensures.value at c.put_told.ensures.put)

pub returns-in-Err-clause-put : goal.returns-in-Err-clause-put
returns-in-Err-clause-put c =
    let market = c.args.market.now in
    let pair = c.args.pair.now in
    let legal = c.requires.1 in
    let why = c.in-Err.ensures.fault in
    let answer : Answer Outcome = Plain (Refused c.in-Err.refusal) in
    let unread : IsReadAs market.version pair.0 (Err why.0) = subst (λ r. IsReadAs market.version r (Err why.0)) c.asked.ensures why.1 in
    let same : ◌≡◌ {A = Answer Outcome} legal.answer answer = refused_is c.requires.0 market pair.0 legal.answer why.0 legal.step unread ∙ ap (λ refusal. Plain (Refused refusal)) (sym why.2) in
    on_ok c.put_refused.result
    (λ put. reported market c.args.number pair answer (codes "refused " ++ (decimal (code_of c.in-Err.refusal) ++ codes "\n")) c.args.out.now.text c.put_number.new.self.text c.put.new.self.text c.put_refused.new.out.text
    (subst (EncodesAnswer pair.1) same legal.encoded) refl c.in_ok-put_number.ensures.put c.in_ok-put.ensures.put put)
    c.put_refused.ensures.put
