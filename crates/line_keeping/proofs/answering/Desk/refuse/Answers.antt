use Rattle.std.proofs.Common.{◌≡◌, ◌++◌, ℕ, List, ap, ◌∙◌}
use Rattle.journal_keeping.specs.Outputs.{output}
use Rattle.line_keeping.specs.Answers.{no_command_text}
use Rattle.line_keeping.proofs.Gaining.{refuses_as}
use Rattle.line_keeping.proofs.answering.Desk.refuse.Goals as goal

pub returns-clause-refuses : goal.returns-clause-refuses
returns-clause-refuses g c =
    let same : c.deref.result.now ≡ no_command_text c.args.self.now.lines = c.deref.ensures.value ∙ c.put_number.ensures.put ∙ ap (λ (l : List ℕ). l ++ no_command_text c.args.self.now.lines) c.clear.ensures.items in
    refuses_as c.args.self.now.lines c.write.result (output g.K.Sink.held g.K.Sink.calls g.K.Sink.faults c.args.out.now) (output g.K.Sink.held g.K.Sink.calls g.K.Sink.faults c.write.new.self) c.deref.result.now same c.write.ensures.called c.write.ensures.written c.write.ensures.cut
