use Rattle.std.proofs.Common.{◌≡◌, ℕ, ◌+◌, [], List, length, map, refl, sym, ap, subst, ◌∙◌, arith}
use Rattle.std.proofs.lemmas.List.{length-map}
use Rattle.wire_records.specs.Views.{command_in}
use Rattle.wire_records.specs.declared.command.Command as owned
use Rattle.market_rules.specs.Market.{Market}
use Rattle.order_text.specs.Lines.{Alone, OfLadder}
use Rattle.desk_session.specs.Said.{IsSaid, IsPlacement}
use Rattle.desk_session.specs.Bounds.{IsWithin}
use Rattle.desk_session.specs.declared.lines.Said.{Said}
use Rattle.desk_session.proofs.Bounds.{said_within, asks_within}
use Rattle.desk_session.proofs.Answered.{asks_places}
use Rattle.std.specs.Prelude.{All}
use Rattle.wire_records.specs.Commands.{Command}
use Rattle.desk_keeping.specs.Private.{HostState, CanRead, AnswersAll, BreaksAll, HearsLine, BreaksLine}
use Rattle.desk_keeping.proofs.NextLine.{within_more}
use Rattle.desk_keeping.proofs.Hearing.{hears_none, hears_all, breaks_line, all_one, breaks_one, all_under, ladder_few}
use Rattle.desk_keeping.proofs.host.Host.hear.Goals as goal

pub answer_command-requires-clause-room : goal.answer_command-requires-clause-room
answer_command-requires-clause-room g c =
    let i = c.self.inside in
    let h : HostState = record { session = i.session; book = i.book; group = i.group; fresh = i.fresh; told = i.told; written = i.written } in
    let same = ap (λ (x : HostState). x.session) c.self.view_is in
    let s = c.hear_line.new.self in
    let asks = (subst (λ (x : Said). IsSaid x i.session c.args.line.now s) c.in-Ok-Serve.field-0-is c.in-Ok-Serve.ensures.said).0 in
    (c.requires.room.0 + 1, asks_within c.requires.room.0 i.session s c.args.line.now c.in-Ok-Serve.sender c.in-Ok-Serve.number (Alone (command_in c.in-Ok-Serve.command)) asks (subst (IsWithin c.requires.room.0) (sym same) c.requires.room.1), omega (arith, c.requires.room.2))

pub returns-in-Err-answer_command-clause-broken : goal.returns-in-Err-answer_command-clause-broken
returns-in-Err-answer_command-clause-broken g c =
    let i = c.self.inside in
    let h : HostState = record { session = i.session; book = i.book; group = i.group; fresh = i.fresh; told = i.told; written = i.written } in
    let same = ap (λ (x : HostState). x.session) c.self.view_is in
    let s = c.hear_line.new.self in
    let asks = (subst (λ (x : Said). IsSaid x i.session c.args.line.now s) c.in-Ok-Serve.field-0-is c.in-Ok-Serve.ensures.said).0 in
    let disk = g.D.Disk.state c.args.disk.now in
    let now = g.D.Disk.state c.answer_command.new.disk in
    let still = c.answer_command.new.disk ≡ c.args.disk.now in
    let empty : i.fresh ≡ [] = ap (λ (x : HostState). x.fresh) c.self.view_is ∙ c.requires.fresh in
    let can : CanRead i.book disk s.market = subst (λ (m : Market). CanRead i.book disk m) (sym asks.market) (subst (λ (x : HostState). CanRead x.book disk x.session.market) (sym c.self.view_is) c.requires.reads) in
    subst (λ (x : HostState). BreaksLine c.in-Err-answer_command.fault c.args.line.now x c.answer_command.new.self disk now still) c.self.view_is
    (breaks_line c.args.line.now h s c.in-Ok-Serve.sender c.in-Ok-Serve.number (Alone (command_in c.in-Ok-Serve.command)) asks c.answer_command.new.self disk now still empty c.in-Err-answer_command.fault
    (breaks_one c.in-Ok-Serve.sender c.in-Ok-Serve.number (command_in c.in-Ok-Serve.command) (record h { session = s }) c.answer_command.new.self disk now still (g.met.D.Disk.is_disk c.args.disk.now)
    (λ one P is. subst (λ d. P (g.D.Disk.state d)) (sym one) is) c.in-Err-answer_command.fault can c.in-Err-answer_command.ensures.broken))

pub answer_commands-requires-clause-plain : goal.answer_commands-requires-clause-plain
answer_commands-requires-clause-plain g c =
    let i = c.self.inside in
    let h : HostState = record { session = i.session; book = i.book; group = i.group; fresh = i.fresh; told = i.told; written = i.written } in
    let same = ap (λ (x : HostState). x.session) c.self.view_is in
    let s = c.hear_line.new.self in
    let asks = (subst (λ (x : Said). IsSaid x i.session c.args.line.now s) c.in-Ok-ServeAll.field-0-is c.in-Ok-ServeAll.ensures.said).0 in
    let few = ladder_few i.session s c.args.line.now c.in-Ok-ServeAll.sender c.in-Ok-ServeAll.number (map command_in c.in-Ok-ServeAll.commands) asks in
    let count = length-map c.in-Ok-ServeAll.commands command_in in
    subst (λ (l : List owned.Command). All (λ x. IsPlacement (command_in x)) l) (sym c.as_slice.ensures)
    (all_under IsPlacement command_in c.in-Ok-ServeAll.commands (asks_places i.session s c.args.line.now c.in-Ok-ServeAll.sender c.in-Ok-ServeAll.number (map command_in c.in-Ok-ServeAll.commands) asks))

pub answer_commands-requires-clause-room : goal.answer_commands-requires-clause-room
answer_commands-requires-clause-room g c =
    let i = c.self.inside in
    let h : HostState = record { session = i.session; book = i.book; group = i.group; fresh = i.fresh; told = i.told; written = i.written } in
    let same = ap (λ (x : HostState). x.session) c.self.view_is in
    let s = c.hear_line.new.self in
    let asks = (subst (λ (x : Said). IsSaid x i.session c.args.line.now s) c.in-Ok-ServeAll.field-0-is c.in-Ok-ServeAll.ensures.said).0 in
    let few = ladder_few i.session s c.args.line.now c.in-Ok-ServeAll.sender c.in-Ok-ServeAll.number (map command_in c.in-Ok-ServeAll.commands) asks in
    let count = length-map c.in-Ok-ServeAll.commands command_in in (
      c.requires.room.0 + 1,
      asks_within c.requires.room.0 i.session s c.args.line.now c.in-Ok-ServeAll.sender c.in-Ok-ServeAll.number (OfLadder (map command_in c.in-Ok-ServeAll.commands)) asks (subst (IsWithin c.requires.room.0) (sym same) c.requires.room.1),
      omega (arith, c.requires.room.2, few, count, ap (λ (l : List owned.Command). length l) c.as_slice.ensures),
    )

pub returns-in-Err-answer_commands-clause-broken : goal.returns-in-Err-answer_commands-clause-broken
returns-in-Err-answer_commands-clause-broken g c =
    let i = c.self.inside in
    let h : HostState = record { session = i.session; book = i.book; group = i.group; fresh = i.fresh; told = i.told; written = i.written } in
    let same = ap (λ (x : HostState). x.session) c.self.view_is in
    let s = c.hear_line.new.self in
    let asks = (subst (λ (x : Said). IsSaid x i.session c.args.line.now s) c.in-Ok-ServeAll.field-0-is c.in-Ok-ServeAll.ensures.said).0 in
    let few = ladder_few i.session s c.args.line.now c.in-Ok-ServeAll.sender c.in-Ok-ServeAll.number (map command_in c.in-Ok-ServeAll.commands) asks in
    let count = length-map c.in-Ok-ServeAll.commands command_in in
    let disk = g.D.Disk.state c.args.disk.now in
    let now = g.D.Disk.state c.answer_commands.new.disk in
    let still = c.answer_commands.new.disk ≡ c.args.disk.now in
    let empty : i.fresh ≡ [] = ap (λ (x : HostState). x.fresh) c.self.view_is ∙ c.requires.fresh in
    let slice : map command_in c.as_slice.result.now ≡ map command_in c.in-Ok-ServeAll.commands = ap (λ (l : List owned.Command). map command_in l) c.as_slice.ensures in
    subst (λ (x : HostState). BreaksLine c.in-Err-answer_commands.fault c.args.line.now x c.answer_commands.new.self disk now still) c.self.view_is
    (breaks_line c.args.line.now h s c.in-Ok-ServeAll.sender c.in-Ok-ServeAll.number (OfLadder (map command_in c.in-Ok-ServeAll.commands)) asks c.answer_commands.new.self disk now still empty c.in-Err-answer_commands.fault
    (subst (λ (l : List Command). BreaksAll c.in-Err-answer_commands.fault c.in-Ok-ServeAll.sender c.in-Ok-ServeAll.number l (record h { session = s }) c.answer_commands.new.self disk now still) slice c.in-Err-answer_commands.ensures.broken))

pub returns-in-Ok-Done-clause-hears : goal.returns-in-Ok-Done-clause-hears
returns-in-Ok-Done-clause-hears g c =
    let i = c.self.inside in
    let h : HostState = record { session = i.session; book = i.book; group = i.group; fresh = i.fresh; told = i.told; written = i.written } in
    let same = ap (λ (x : HostState). x.session) c.self.view_is in
    let s = c.hear_line.new.self in
    let disk = g.D.Disk.state c.args.disk.now in
    let answered = subst (λ (x : Said). IsSaid x i.session c.args.line.now s) c.in-Ok-Done.field-0-is c.in-Ok-Done.ensures.said in
    let empty : i.fresh ≡ [] = ap (λ (x : HostState). x.fresh) c.self.view_is ∙ c.requires.fresh in
    subst (λ (x : HostState). HearsLine c.args.line.now x (record h { session = s }) disk disk (c.args.disk.now ≡ c.args.disk.now)) c.self.view_is (hears_none c.args.line.now h s disk (c.args.disk.now ≡ c.args.disk.now) refl empty answered)

pub returns-in-Ok-Done-clause-room : goal.returns-in-Ok-Done-clause-room
returns-in-Ok-Done-clause-room g c =
    let i = c.self.inside in
    let h : HostState = record { session = i.session; book = i.book; group = i.group; fresh = i.fresh; told = i.told; written = i.written } in
    let same = ap (λ (x : HostState). x.session) c.self.view_is in
    let s = c.hear_line.new.self in
    let answered = subst (λ (x : Said). IsSaid x i.session c.args.line.now s) c.in-Ok-Done.field-0-is c.in-Ok-Done.ensures.said in
    λ used within. within_more (used + 1) (used + 33) s (omega arith) (said_within used i.session s c.args.line.now answered (subst (IsWithin used) (sym same) within))

pub returns-in-Ok-clause-hears : goal.returns-in-Ok-clause-hears
returns-in-Ok-clause-hears g c =
    let i = c.self.inside in
    let h : HostState = record { session = i.session; book = i.book; group = i.group; fresh = i.fresh; told = i.told; written = i.written } in
    let same = ap (λ (x : HostState). x.session) c.self.view_is in
    let s = c.hear_line.new.self in
    let asks = (subst (λ (x : Said). IsSaid x i.session c.args.line.now s) c.in-Ok-Serve.field-0-is c.in-Ok-Serve.ensures.said).0 in
    let disk = g.D.Disk.state c.args.disk.now in
    let now = g.D.Disk.state c.answer_command.new.disk in
    let still = c.answer_command.new.disk ≡ c.args.disk.now in
    let empty : i.fresh ≡ [] = ap (λ (x : HostState). x.fresh) c.self.view_is ∙ c.requires.fresh in
    subst (λ (x : HostState). HearsLine c.args.line.now x c.answer_command.new.self disk now still) c.self.view_is
    (hears_all c.args.line.now h s c.in-Ok-Serve.sender c.in-Ok-Serve.number (Alone (command_in c.in-Ok-Serve.command)) asks c.answer_command.new.self disk now still empty
    (all_one c.in-Ok-Serve.sender c.in-Ok-Serve.number (command_in c.in-Ok-Serve.command) (record h { session = s }) c.answer_command.new.self disk now still (g.met.D.Disk.is_disk c.args.disk.now)
    (λ one P is. subst (λ d. P (g.D.Disk.state d)) (sym one) is) c.in-Ok.ensures.answers))

pub returns-in-Ok-clause-room : goal.returns-in-Ok-clause-room
returns-in-Ok-clause-room g c =
    let i = c.self.inside in
    let h : HostState = record { session = i.session; book = i.book; group = i.group; fresh = i.fresh; told = i.told; written = i.written } in
    let same = ap (λ (x : HostState). x.session) c.self.view_is in
    let s = c.hear_line.new.self in
    let asks = (subst (λ (x : Said). IsSaid x i.session c.args.line.now s) c.in-Ok-Serve.field-0-is c.in-Ok-Serve.ensures.said).0 in
    λ used within. within_more ((used + 1) + 1) (used + 33) c.answer_command.new.self.session (omega arith)
    (c.in-Ok.ensures.room (used + 1) (asks_within used i.session s c.args.line.now c.in-Ok-Serve.sender c.in-Ok-Serve.number (Alone (command_in c.in-Ok-Serve.command)) asks (subst (IsWithin used) (sym same) within)))

pub returns-in-Ok-answer_commands-clause-hears : goal.returns-in-Ok-answer_commands-clause-hears
returns-in-Ok-answer_commands-clause-hears g c =
    let i = c.self.inside in
    let h : HostState = record { session = i.session; book = i.book; group = i.group; fresh = i.fresh; told = i.told; written = i.written } in
    let same = ap (λ (x : HostState). x.session) c.self.view_is in
    let s = c.hear_line.new.self in
    let asks = (subst (λ (x : Said). IsSaid x i.session c.args.line.now s) c.in-Ok-ServeAll.field-0-is c.in-Ok-ServeAll.ensures.said).0 in
    let few = ladder_few i.session s c.args.line.now c.in-Ok-ServeAll.sender c.in-Ok-ServeAll.number (map command_in c.in-Ok-ServeAll.commands) asks in
    let count = length-map c.in-Ok-ServeAll.commands command_in in
    let disk = g.D.Disk.state c.args.disk.now in
    let now = g.D.Disk.state c.answer_commands.new.disk in
    let still = c.answer_commands.new.disk ≡ c.args.disk.now in
    let empty : i.fresh ≡ [] = ap (λ (x : HostState). x.fresh) c.self.view_is ∙ c.requires.fresh in
    let slice : map command_in c.as_slice.result.now ≡ map command_in c.in-Ok-ServeAll.commands = ap (λ (l : List owned.Command). map command_in l) c.as_slice.ensures in
    subst (λ (x : HostState). HearsLine c.args.line.now x c.answer_commands.new.self disk now still) c.self.view_is
    (hears_all c.args.line.now h s c.in-Ok-ServeAll.sender c.in-Ok-ServeAll.number (OfLadder (map command_in c.in-Ok-ServeAll.commands)) asks c.answer_commands.new.self disk now still empty
    (subst (λ (l : List Command). AnswersAll c.in-Ok-ServeAll.sender c.in-Ok-ServeAll.number l (record h { session = s }) c.answer_commands.new.self disk now still) slice c.in-Ok-answer_commands.ensures.answers))

pub returns-in-Ok-answer_commands-clause-room : goal.returns-in-Ok-answer_commands-clause-room
returns-in-Ok-answer_commands-clause-room g c =
    let i = c.self.inside in
    let h : HostState = record { session = i.session; book = i.book; group = i.group; fresh = i.fresh; told = i.told; written = i.written } in
    let same = ap (λ (x : HostState). x.session) c.self.view_is in
    let s = c.hear_line.new.self in
    let asks = (subst (λ (x : Said). IsSaid x i.session c.args.line.now s) c.in-Ok-ServeAll.field-0-is c.in-Ok-ServeAll.ensures.said).0 in
    let few = ladder_few i.session s c.args.line.now c.in-Ok-ServeAll.sender c.in-Ok-ServeAll.number (map command_in c.in-Ok-ServeAll.commands) asks in
    let count = length-map c.in-Ok-ServeAll.commands command_in in
    λ used within. within_more ((used + 1) + length c.as_slice.result.now) (used + 33) c.answer_commands.new.self.session (omega (arith, few, count, ap (λ (l : List owned.Command). length l) c.as_slice.ensures))
    (c.in-Ok-answer_commands.ensures.room (used + 1) (asks_within used i.session s c.args.line.now c.in-Ok-ServeAll.sender c.in-Ok-ServeAll.number (OfLadder (map command_in c.in-Ok-ServeAll.commands)) asks (subst (IsWithin used) (sym same) within)))

pub returns-in-Ok-answer_commands-clause-short : goal.returns-in-Ok-answer_commands-clause-short
returns-in-Ok-answer_commands-clause-short g c =
    let i = c.self.inside in
    let h : HostState = record { session = i.session; book = i.book; group = i.group; fresh = i.fresh; told = i.told; written = i.written } in
    let same = ap (λ (x : HostState). x.session) c.self.view_is in
    let s = c.hear_line.new.self in
    let asks = (subst (λ (x : Said). IsSaid x i.session c.args.line.now s) c.in-Ok-ServeAll.field-0-is c.in-Ok-ServeAll.ensures.said).0 in
    let few = ladder_few i.session s c.args.line.now c.in-Ok-ServeAll.sender c.in-Ok-ServeAll.number (map command_in c.in-Ok-ServeAll.commands) asks in
    let count = length-map c.in-Ok-ServeAll.commands command_in in
    let empty : i.fresh ≡ [] = ap (λ (x : HostState). x.fresh) c.self.view_is ∙ c.requires.fresh in
    let most = c.in-Ok-answer_commands.ensures.short in
    omega (arith, most, few, count, ap (λ (l : List owned.Command). length l) c.as_slice.ensures, ap (λ (l : List ℕ). length l) empty)
