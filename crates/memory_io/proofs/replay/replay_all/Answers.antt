use Rattle.std.proofs.Common.{◌≡◌, length, ap, ◌∙◌, arith, length-take, length-drop}
use Rattle.memory_io.proofs.LogLemmas.{data_of-at, replay_at}
use Rattle.memory_io.proofs.replay.replay_all.Goals as goal

pub loop-call-preserved : goal.loop-call-preserved
loop-call-preserved c =
    let i = c.loop-call.invariant in
    let e = c.replay_one.ensures in
    let size = c.size_of-size.ensures in
    let parts = data_of-at c.loop-call.call-index c.args.calls.now _ c.loop-call-test.true c.size_of-size.result size in
    let fits : length c.prefix.result.now ≡ c.size_of-size.result = omega (arith, ap length c.prefix.ensures, length-take c.size_of-size.result c.loop-call.rest.now, size, parts, i.enough) in
    let following = ap length c.following-rest.ensures ∙ length-drop c.size_of-size.result c.loop-call.rest.now in
    record {
      image = replay_at c.loop-call.call-index c.args.calls.now _ c.loop-call-test.true c.args.part c.args.fill c.size_of-size.result c.loop-call.rest.now c.prefix.result.now c.following-rest.result.now _ _ _ _ size c.prefix.ensures c.following-rest.ensures e.held e.image ∙ i.image;
      enough = omega (arith, following, size, parts, i.enough);
      held = omega (arith, following, fits, e.held_len, e.held_room, i.held, size, parts, i.enough);
      same = omega (arith, e.held_room, e.image_room, i.same);
      long = omega (arith, following, fits, e.image_len, e.held_room, i.long, i.held, size, parts, i.enough);
      torn = omega (arith, following, e.torn_room, i.torn);
    }
