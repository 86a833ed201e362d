use Rattle.std.proofs.Common.{◌≡◌, inl, ℕ, ◌+◌, ◌∷◌, [], ◌++◌, List, length, take, drop, map, refl, sym, ap, subst, ◌∙◌, arith}
use Rattle.std.proofs.lemmas.List.{map-append}
use Rattle.wire_records.specs.Commands.{Command}
use Rattle.wire_records.specs.Views.{command_in}
use Rattle.wire_records.specs.declared.command.Command as owned
use Rattle.desk_session.specs.Bounds.{IsWithin}
use Rattle.desk_session.specs.Said.{IsPlacement}
use Rattle.desk_keeping.specs.Private.{AnswersAll, BreaksAll}
use Rattle.desk_keeping.proofs.Commands.{parted_at, all_none, all_more, breaks_more, near_more}
use Rattle.desk_keeping.proofs.host.Host.answer_commands.Goals as goal

pub loop-command-init : goal.loop-command-init
loop-command-init g c = (
  all_none c.args.sender c.args.line c.args.self.now (g.D.Disk.state c.args.disk.now) (c.args.disk.now ≡ c.args.disk.now) refl,
  c.requires.counted,
  c.requires.there,
  λ used within. (let same : used ≡ used + 0 = omega arith in subst (λ (n : ℕ). IsWithin n c.args.self.now.session) same within),
  c.requires.reads,
  omega arith,
  inl refl,
  refl,
)

pub answer_command-requires-clause-room : goal.answer_command-requires-clause-room
answer_command-requires-clause-room g c = (c.requires.room.0 + c.loop-command.command-index, c.loop-command.invariant.3 c.requires.room.0 c.requires.room.1, omega (arith, c.requires.room.2, c.loop-command-test.true))

pub loop-command-preserved : goal.loop-command-preserved
loop-command-preserved g c =
    let i = c.loop-command.invariant in
    let e = c.in-Ok.ensures in
    let k = c.loop-command.command-index in
    let parted = parted_at c.args.commands.now k c.command-item.result c.loop-command-test.true c.command-item.is in
    let done : map command_in (take (k + 1) c.args.commands.now) ≡ map command_in (take k c.args.commands.now) ++ command_in c.command-item.result ∷ [] =
    ap (λ (l : List owned.Command). map command_in l) parted.0 ∙ map-append command_in (take k c.args.commands.now) (c.command-item.result ∷ []) in
    let disk = g.D.Disk.state c.args.disk.now in
    let mid = g.D.Disk.state c.loop-command.disk in
    let now = g.D.Disk.state c.answer_command.new.disk in
    let plain = subst (λ (x : owned.Command). IsPlacement (command_in x)) (sym c.command-item.is) (c.requires.plain k c.command-item.result c.loop-command-test.true) in (
      subst (λ (l : List Command). AnswersAll c.args.sender c.args.line l c.args.self.now c.answer_command.new.self disk now (c.answer_command.new.disk ≡ c.args.disk.now)) (sym done)
          (all_more c.args.sender c.args.line (map command_in (take k c.args.commands.now)) c.args.self.now c.loop-command.self disk mid (c.loop-command.disk ≡ c.args.disk.now) i.0 (command_in c.command-item.result) c.answer_command.new.self now
          (c.answer_command.new.disk ≡ c.loop-command.disk) (c.answer_command.new.disk ≡ c.args.disk.now) (g.met.D.Disk.is_disk c.loop-command.disk) (λ one two. two ∙ one) (λ two P is. subst (λ d. P (g.D.Disk.state d)) (sym two) is) e.answers),
      e.counted,
      e.there,
      λ used within. (let more = e.room (used + k) (i.3 used within) in let same : (used + k) + 1 ≡ used + (k + 1) = omega arith in subst (λ (n : ℕ). IsWithin n c.answer_command.new.self.session) same more),
      e.next,
      (let more = e.plain plain in omega (arith, i.5, more)),
      near_more c.args.self.now.book c.loop-command.self.book c.answer_command.new.self.book i.6 e.near,
      e.disk_cause.quiet (λ is. cc is) ∙ i.7,
    )

pub returns-in-Err-clause-broken : goal.returns-in-Err-clause-broken
returns-in-Err-clause-broken g c =
    let i = c.loop-command.invariant in
    let k = c.loop-command.command-index in
    let parted = parted_at c.args.commands.now k c.command-item.result c.loop-command-test.true c.command-item.is in
    let parts : map command_in c.args.commands.now ≡ map command_in (take k c.args.commands.now) ++ command_in c.command-item.result ∷ map command_in (drop (k + 1) c.args.commands.now) =
    ap (λ (l : List owned.Command). map command_in l) parted.1 ∙ map-append command_in (take k c.args.commands.now) (c.command-item.result ∷ drop (k + 1) c.args.commands.now) in
    let disk = g.D.Disk.state c.args.disk.now in
    let mid = g.D.Disk.state c.loop-command.disk in
    let now = g.D.Disk.state c.answer_command.new.disk in
    subst (λ (l : List Command). BreaksAll c.in-Err.fault c.args.sender c.args.line l c.args.self.now c.answer_command.new.self disk now (c.answer_command.new.disk ≡ c.args.disk.now)) (sym parts)
    (breaks_more c.args.sender c.args.line (map command_in (take k c.args.commands.now)) c.args.self.now c.loop-command.self disk mid (c.loop-command.disk ≡ c.args.disk.now) i.0 c.answer_command.new.self now
    (c.answer_command.new.disk ≡ c.loop-command.disk) (c.answer_command.new.disk ≡ c.args.disk.now) (command_in c.command-item.result) (map command_in (drop (k + 1) c.args.commands.now)) c.in-Err.fault (g.met.D.Disk.is_disk c.loop-command.disk)
    (λ one two. two ∙ one) (λ two P is. subst (λ d. P (g.D.Disk.state d)) (sym two) is) c.requires.reads c.in-Err.ensures.broken)

pub returns-clause-room : goal.returns-clause-room
returns-clause-room g c =
    let same : c.loop-command.command-index ≡ length c.args.commands.now = omega (arith, c.loop-command-test.false, c.loop-command.auto.command-index-end) in
    λ used within. subst (λ (n : ℕ). IsWithin (used + n) c.loop-command.self.session) same (c.loop-command.invariant.3 used within)
