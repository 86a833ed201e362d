use Rattle.std.proofs.Common.{◌∙◌, [], get_or, length, ap, arith}
use Rattle.desk_session.specs.Talks.{Talk}
use Rattle.desk_session.proofs.Parts.{parts_count}
use Rattle.desk_session.proofs.talk.Talk.text_at.Goals as goal

pub part_at-requires : goal.part_at-requires
part_at-requires c = record {
  there = omega (arith, c.requires, ap (λ (t : Talk). length t.texts) c.self.view_is, parts_count 0 c.self.inside.ends.items c.self.inside.text.items, ap length c.deref-2.ensures.value);
  ascend = rw (c.deref-2.ensures.value, c.deref.ensures.value) c.self.invariant;
}

pub returns : goal.returns
returns c = (rw (c.deref-2.ensures.value, c.deref.ensures.value) at c.part_at.ensures) ∙ ap (λ (t : Talk). get_or t.texts c.args.place []) c.self.view_is
