use Rattle.std.proofs.Common.{◌≡◌, ◌≤◌, length, take, ap, arith, rules}
use Rattle.memory_io.specs.Disk.{MemoryState, IsStopped, crash_after}
use Rattle.memory_io.specs.MemoryLaws.{stop_left}
use Rattle.memory_io.proofs.memory_disk.MemoryDisk.crashed.Goals as goal

pub returns-clause-stop : goal.returns-clause-stop
returns-clause-stop c =
    let stopped : IsStopped c.args.self.now.made c.args.call (take c.made_at-count.result c.args.self.now.made) = search rules in
    let is : c.replay.new.replay.image.items ≡ crash_after c.args.part c.args.fill (take c.made_at-count.result c.args.self.now.made) c.args.self.now.first c.args.self.now.first = search rules in
    record { made = take c.made_at-count.result c.args.self.now.made; stopped = stopped; left = is }

pub returns-clause-left : goal.returns-clause-left
returns-clause-left c =
    let i = c.self.invariant in
    let calls = ap (λ (d : MemoryState). d.calls) c.self.view_is in
    let most = ap (λ (d : MemoryState). d.most) c.self.view_is in
    let made = ap (λ (d : MemoryState). length d.made) c.self.view_is in
    let within : c.made_at-count.result ≤ length c.args.self.now.made = omega (arith, c.made_at-count.ensures.most, c.requires.1, i.count, i.each, calls, most, made) in
    let is : c.replay.new.replay.image.items ≡ crash_after c.args.part c.args.fill (take c.made_at-count.result c.args.self.now.made) c.args.self.now.first c.args.self.now.first = search rules in
    stop_left c.args.self.now c.args.call c.made_at-count.result c.args.part c.args.fill c.replay.new.replay.image.items c.made_at-count.ensures.least within is
