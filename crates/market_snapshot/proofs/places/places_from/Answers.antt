use Rattle.std.proofs.Common.{◌<◌, ◌+◌, ◌∙◌, length, ap, sym, subst, arith, rules}
use Rattle.std.proofs.lemmas.List.{length_push}
use Rattle.std.proofs.lemmas.List.Elements.{All-from_get_or}
use Rattle.market_snapshot.specs.Layout.{AreOrders}
use Rattle.market_snapshot.proofs.Walking.{StandAhead, none_yet, one_more, none_passed, one_passed, stopped}
use Rattle.market_snapshot.proofs.places.places_from.Goals as goal

pub loop-starts-init : goal.loop-starts-init
loop-starts-init c =
    let bytes = c.args.bytes.now in
    let empty = c.in_ok-starts.ensures.items in
    record {
      so_far = subst (AreOrders bytes c.args.first c.args.first) (sym empty) (none_yet bytes c.args.first c.requires);
      few = omega (arith, c.in_ok-starts.ensures.len);
      room = c.in_ok-starts.ensures.capacity;
      ahead = subst (λ n. StandAhead bytes c.args.first c.args.first n c.args.count) (sym (ap length empty)) (none_passed bytes c.args.first c.args.count);
    }

pub returns-in-None-clause-none : goal.returns-in-None-clause-none
returns-in-None-clause-none c =
    let i = c.loop-starts.invariant in
    stopped c.args.bytes.now c.args.first c.loop-starts.end (length c.loop-starts.starts.items) c.args.count i.ahead (omega (arith, c.len.ensures, c.loop-starts-test.true)) c.in-None.ensures.none

pub loop-starts-preserved : goal.loop-starts-preserved
loop-starts-preserved c =
    let bytes = c.args.bytes.now in
    let i = c.loop-starts.invariant in
    let end = c.loop-starts.end in
    let size = c.in-Some.size in
    let starts = c.loop-starts.starts.items in
    let small = All-from_get_or (λ b. b < 256) bytes 0 (λ k there. omega (arith, c.type_inv.bytes k)) in
    let pushed = c.push_reserved.ensures.items in
    let below : length starts < c.args.count = omega (arith, c.len.ensures, c.loop-starts-test.true) in
    record {
      so_far = subst (AreOrders bytes c.args.first (end + size)) (sym pushed) (one_more bytes small c.args.first end size starts i.so_far c.in-Some.ensures.size c.in-Some.ensures.there);
      few = omega (arith, c.push_reserved.ensures.len, below);
      room = search rules;
      ahead = subst (λ n. StandAhead bytes c.args.first (end + size) n c.args.count) (sym (ap length pushed ∙ length_push starts end)) (one_passed bytes c.args.first end (length starts) c.args.count size i.ahead below c.in-Some.ensures.size);
    }
