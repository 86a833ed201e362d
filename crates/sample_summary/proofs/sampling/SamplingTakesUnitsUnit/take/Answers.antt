use Rattle.std.proofs.Common.{◌∙◌, ap, subst, arith}
use Rattle.wire_records.specs.Commands.{Answer}
use Rattle.flow_orders.specs.Outcomes.{Outcome}
use Rattle.market_rules.specs.Market.{Market}
use Rattle.sample_summary.specs.Private.{AddsAnswer}
use Rattle.sample_summary.proofs.Counted.{room_more, room_fewer}
use Rattle.sample_summary.proofs.Written.{served_here}
use Rattle.sample_summary.proofs.sampling.SamplingTakesUnitsUnit.take.Goals as goal

pub take_pair-requires : goal.take_pair-requires
take_pair-requires c =
    let self = c.args.self.now in
    let one = rw c.in-Taken.is at c.in_ok-taken.ensures.taken in
    let ready = c.requires.ready.2 in
    let here = served_here self.audit self.session c.serve_next.new.self c.args.bytes.now c.serve_next.new.out.items c.deref.result.now c.in-Taken.taken c.requires.ready.0 one
    ready.same c.deref.ensures.value c.market-consistent.ensures.consistent ready.next c.requires.ready.1
    in
    record {
      written = here.written;
      next = omega (arith, ap (λ (m : Market). m.next_order) ready.same, ready.next, here.within, here.some, c.requires.ready.1);
      room = room_fewer self.counts c.requires.ready.0 5 ready.counts (omega (arith, here.within, here.some, c.requires.ready.1));
    }

pub returns-in_ok-take_pair-in-Taken-clause-taken : goal.returns-in_ok-take_pair-in-Taken-clause-taken
returns-in_ok-take_pair-in-Taken-clause-taken c =
    let self = c.args.self.now in
    let one = rw c.in-Taken.is at c.in_ok-taken.ensures.taken in
    let ready = c.requires.ready.2 in
    let here = served_here self.audit self.session c.serve_next.new.self c.args.bytes.now c.serve_next.new.out.items c.deref.result.now c.in-Taken.taken c.requires.ready.0 one
    ready.same c.deref.ensures.value c.market-consistent.ensures.consistent ready.next c.requires.ready.1
    in
    record {
      unit = one.unit;
      lawful = one.lawful;
      size = one.size;
      some = one.some;
      prefix = one.prefix;
      step = record {
        text = c.serve_next.new.out.items;
        answers = one.step;
        fits = one.step.fits here.next;
        counts = subst (λ (a : Answer Outcome). AddsAnswer a self.counts c.take_pair.new.counts) here.answered (c.in_ok-take_pair-in-Taken.ensures.taken here.written).1;
      };
    }

pub returns-in_ok-take_pair-in-Taken-clause-stays : goal.returns-in_ok-take_pair-in-Taken-clause-stays
returns-in_ok-take_pair-in-Taken-clause-stays c = λ left inside ready.
    let self = c.args.self.now in
    let one = rw c.in-Taken.is at c.in_ok-taken.ensures.taken in
    let here = served_here self.audit self.session c.serve_next.new.self c.args.bytes.now c.serve_next.new.out.items c.deref.result.now c.in-Taken.taken left one
    ready.same c.deref.ensures.value c.market-consistent.ensures.consistent ready.next inside
    in
    let made = c.in_ok-take_pair-in-Taken.ensures.taken here.written in
    let counts = subst (λ (a : Answer Outcome). AddsAnswer a self.counts c.take_pair.new.counts) here.answered made.1 in
    record {
      same = made.0 ∙ here.same;
      next = (rw c.in-Taken.is at c.in_ok-taken.ensures.stays) left inside ready.next;
      counts = room_more self.counts c.take_pair.new.counts (record { asked = one.unit; answer = one.step.answer }) left c.in-Taken.taken ready.counts counts (one.step.fits here.next) (omega (arith, here.within, inside)) here.some;
    }
