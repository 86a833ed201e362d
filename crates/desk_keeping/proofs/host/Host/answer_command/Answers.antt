use Rattle.std.proofs.Common.{◌≡◌, [], ◌∷◌, Bool, Ok, sym, subst, ap, ◌∙◌}
use Rattle.wire_records.specs.Views.{command_in}
use Rattle.desk_session.specs.Bounds.{IsWithin}
use Rattle.desk_keeping.specs.Private.{HostState, Replays, ServesOne}
use Rattle.desk_keeping.proofs.Files.{reads_next}
use Rattle.desk_keeping.proofs.Taking.{answers_served, breaks_served}
use Rattle.desk_keeping.proofs.host.Host.answer_command.Goals as goal

pub returns-in-Ok-true-clause-room : goal.returns-in-Ok-true-clause-room
returns-in-Ok-true-clause-room g c = c.in-Ok-true.ensures.room (ap (λ (b : Bool). Ok b) c.in-Ok-true.field-0-test)

pub returns-in-Ok-true-clause-next : goal.returns-in-Ok-true-clause-next
returns-in-Ok-true-clause-next g c =
    let disk = g.D.Disk.state c.args.disk.now in
    let now = g.D.Disk.state c.replay.new.disk in
    let same = c.replay.new.disk ≡ c.args.disk.now in
    let r = subst (λ (b : Bool). Replays b c.args.sender c.args.line (command_in c.args.command.now) c.args.self.now c.replay.new.self disk now same) c.in-Ok-true.field-0-test c.in-Ok-true.ensures.replays in
    reads_next c.args.self.now.book c.replay.new.self.book disk now same c.args.self.now.session.market c.replay.new.self.session.market (r.0 ∷ []) [] (g.met.D.Disk.is_disk c.replay.new.disk) c.requires.reads r.2

pub returns-in-Err-serve-clause-broken : goal.returns-in-Err-serve-clause-broken
returns-in-Err-serve-clause-broken g c =
    let disk = g.D.Disk.state c.args.disk.now in
    let now = g.D.Disk.state c.replay.new.disk in
    let same = c.replay.new.disk ≡ c.args.disk.now in
    let r = subst (λ (b : Bool). Replays b c.args.sender c.args.line (command_in c.args.command.now) c.args.self.now c.replay.new.self disk now same) c.in-Ok-false.field-0-test c.in-Ok-false.ensures.replays in
    breaks_served c.args.sender c.args.line (command_in c.args.command.now) c.args.self.now c.replay.new.self c.serve.new.self disk now same c.in-Err-serve.fault r c.in-Err-serve.ensures.memory

pub returns-clause-answers : goal.returns-clause-answers
returns-clause-answers g c =
    let disk = g.D.Disk.state c.args.disk.now in
    let now = g.D.Disk.state c.replay.new.disk in
    let same = c.replay.new.disk ≡ c.args.disk.now in
    let r = subst (λ (b : Bool). Replays b c.args.sender c.args.line (command_in c.args.command.now) c.args.self.now c.replay.new.self disk now same) c.in-Ok-false.field-0-test c.in-Ok-false.ensures.replays in
    let served = subst (λ (h : HostState). ServesOne c.args.sender c.args.line (command_in c.args.command.now) h c.serve.new.self) c.self.view_is c.in-Ok.ensures.served in
    answers_served c.args.sender c.args.line (command_in c.args.command.now) c.args.self.now c.replay.new.self c.serve.new.self disk now same (g.met.D.Disk.is_disk c.replay.new.disk) r served (c.in-Ok.ensures.book ∙ ap (λ (h : HostState). h.book) c.self.view_is)

pub returns-clause-room : goal.returns-clause-room
returns-clause-room g c =
    let disk = g.D.Disk.state c.args.disk.now in
    let now = g.D.Disk.state c.replay.new.disk in
    let same = c.replay.new.disk ≡ c.args.disk.now in
    let r = subst (λ (b : Bool). Replays b c.args.sender c.args.line (command_in c.args.command.now) c.args.self.now c.replay.new.self disk now same) c.in-Ok-false.field-0-test c.in-Ok-false.ensures.replays in
    λ used within. c.in-Ok.ensures.room used (subst (IsWithin used) (sym (ap (λ (h : HostState). h.session) c.self.view_is ∙ r.0)) within)
