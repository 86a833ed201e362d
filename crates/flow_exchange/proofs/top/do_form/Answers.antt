use Rattle.flow_exchange.proofs.top.do_form.Goals as goal

pub returns-in-Run-clause-does : goal.returns-in-Run-clause-does
returns-in-Run-clause-does g c = rw c.in-Run.is c.run.ensures.does

pub returns-in-Run-clause-paced : goal.returns-in-Run-clause-paced
returns-in-Run-clause-paced g c = λ same. c.run.ensures.paced

pub returns-in-Run-clause-pieces : goal.returns-in-Run-clause-pieces
returns-in-Run-clause-pieces g c = λ same. c.run.ensures.pieces

pub returns-in-Audit-clause-does : goal.returns-in-Audit-clause-does
returns-in-Audit-clause-does g c = rw c.in-Audit.is c.audit.ensures.does

pub returns-in-Explain-clause-does : goal.returns-in-Explain-clause-does
returns-in-Explain-clause-does g c = rw c.in-Explain.is c.explain.ensures.does

pub returns-in-Report-clause-does : goal.returns-in-Report-clause-does
returns-in-Report-clause-does g c = rw c.in-Report.is c.report.ensures.does

pub returns-in-Encode-clause-does : goal.returns-in-Encode-clause-does
returns-in-Encode-clause-does g c = rw c.in-Encode.is c.encode.ensures.does

pub sample-requires-clause-some : goal.sample-requires-clause-some
sample-requires-clause-some g c = (rw c.in-Sample.is at c.requires.form.1).some

pub sample-requires-clause-few : goal.sample-requires-clause-few
sample-requires-clause-few g c = (rw c.in-Sample.is at c.requires.form.1).few

pub returns-in-Sample-clause-does : goal.returns-in-Sample-clause-does
returns-in-Sample-clause-does g c = rw c.in-Sample.is (c.sample.ensures.does c.args.limit (g.S.Source.rest c.args.source.now) (g.S.Source.faults c.args.source.now))

pub returns-in-Statement-clause-does : goal.returns-in-Statement-clause-does
returns-in-Statement-clause-does g c = rw c.in-Statement.is c.statement.ensures.does

pub returns-in-Checkpoint-clause-does : goal.returns-in-Checkpoint-clause-does
returns-in-Checkpoint-clause-does g c = rw c.in-Checkpoint.is c.checkpoint.ensures.does

pub returns-in-Resume-clause-does : goal.returns-in-Resume-clause-does
returns-in-Resume-clause-does g c = rw c.in-Resume.is c.resume.ensures.does
