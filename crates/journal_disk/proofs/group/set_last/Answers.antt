use Rattle.std.proofs.Common.{◌∙◌, sym}
use Rattle.wire_fields.specs.Numbers.{unsigned}
use Rattle.journal_disk.proofs.Grouping.{last_set, none_set}
use Rattle.journal_disk.proofs.group.set_last.Goals as goal

pub returns-in-Some-clause-set : goal.returns-in-Some-clause-set
unfolding unsigned
returns-in-Some-clause-set c =
    last_set c.args.buffer.now.items c.pop.new.self.items c.put_u8.new.out.items c.in-Some.field-0 c.in-Some.ensures.items c.put_u8.ensures.written

pub returns-in-None-clause-set : goal.returns-in-None-clause-set
returns-in-None-clause-set c =
    let none = c.in-None.ensures.cases in
    none_set c.args.buffer.now.items c.pop.new.self.items (sym c.args.buffer.now.ok.0 ∙ none.0) (sym c.pop.new.self.ok.0 ∙ none.1)
