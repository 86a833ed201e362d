use Rattle.std.proofs.Common.{◌≡◌, refl, subst}
use Rattle.journal_keeping.specs.Outputs.{output}
use Rattle.desk_keeping.specs.Private.{HostState, KeepsGroup, KeepsWaiting, WritesFirst}
use Rattle.desk_keeping.proofs.Writing.{waiting_kept, group_kept}
use Rattle.desk_keeping.proofs.host.Host.keep_group.Goals as goal

pub returns-in-Ok-write_texts-clause-keeps : goal.returns-in-Ok-write_texts-clause-keeps
returns-in-Ok-write_texts-clause-keeps g c =
    let inside = c.self.inside in
    let old : HostState = record { session = inside.session; book = inside.book; group = inside.group; fresh = inside.fresh; told = inside.told; written = inside.written } in
    let mid : HostState = record old { book = c.keep.new.self; group = c.clear.new.self } in
    let new = c.write_texts.new.self in
    let disk = g.D.Disk.state c.args.disk.now in
    let now = g.D.Disk.state c.keep.new.disk in
    let out = output g.K.Sink.held g.K.Sink.calls g.K.Sink.faults c.args.out.now in
    let later = output g.K.Sink.held g.K.Sink.calls g.K.Sink.faults c.write_texts.new.out in
    let k = c.in-Ok.ensures in
    let w = c.in-Ok-write_texts.ensures in
    subst (λ (h : HostState). KeepsGroup h new disk now out later (c.keep.new.disk ≡ c.args.disk.now)) c.self.view_is
    (group_kept old mid new disk now out later (c.keep.new.disk ≡ c.args.disk.now) refl refl refl c.clear.ensures refl
    (waiting_kept old new c.keep.new.self disk now (c.keep.new.disk ≡ c.args.disk.now) w.aside.0 (λ none. let s = k.still none in (s.1, s.2)) k.kept k.moments) w.writes w.aside.1 w.aside.2)

pub returns-in-Err-write_texts-clause-broken : goal.returns-in-Err-write_texts-clause-broken
returns-in-Err-write_texts-clause-broken g c =
    let inside = c.self.inside in
    let old : HostState = record { session = inside.session; book = inside.book; group = inside.group; fresh = inside.fresh; told = inside.told; written = inside.written } in
    let new = c.write_texts.new.self in
    let disk = g.D.Disk.state c.args.disk.now in
    let now = g.D.Disk.state c.keep.new.disk in
    let out = output g.K.Sink.held g.K.Sink.calls g.K.Sink.faults c.args.out.now in
    let later = output g.K.Sink.held g.K.Sink.calls g.K.Sink.faults c.write_texts.new.out in
    let k = c.in-Ok.ensures in
    let w = c.in-Err-write_texts.ensures in
    subst (λ (h : HostState). KeepsWaiting h new disk now (c.keep.new.disk ≡ c.args.disk.now) × WritesFirst h out later) c.self.view_is
    (waiting_kept old new c.keep.new.self disk now (c.keep.new.disk ≡ c.args.disk.now) w.aside.0 (λ none. let s = k.still none in (s.1, s.2)) k.kept k.moments, w.broken)
