use Rattle.std.proofs.Common.{◌≡◌, ℕ, Option, Some, true, false, sym, subst, ap, refl}
use Rattle.wire_records.specs.Views.{command_in}
use Rattle.desk_opening.specs.declared.book.Book.{Book}
use Rattle.desk_opening.specs.declared.book.Book.TheVariants.{Kept}
use Rattle.desk_session.specs.Bounds.{IsWithin}
use Rattle.desk_opening.specs.Books.{IsFoundBy}
use Rattle.desk_keeping.specs.declared.fault.HostFault.{HostFault}
use Rattle.desk_keeping.specs.Faults.{of_disk}
use Rattle.desk_keeping.specs.Private.{HostState, Replays, BreaksOne}
use Rattle.desk_keeping.proofs.Taking.{none_goes, breaks_found, takes_found, takes_none, breaks_taken}
use Rattle.desk_keeping.proofs.host.Host.replay.Goals as goal

pub returns-in-Ok-None-clause-replays : goal.returns-in-Ok-None-clause-replays
returns-in-Ok-None-clause-replays g c =
    let i = c.self.inside in
    let h : HostState = record { session = i.session; book = i.book; group = i.group; fresh = i.fresh; told = i.told; written = i.written } in
    let disk = g.D.Disk.state c.args.disk.now in
    let now = g.D.Disk.state c.find.new.disk in
    let found = subst (λ (o : Option ℕ). IsFoundBy i.book c.find.new.self disk now o) c.in-Ok-None.field-0-is c.in-Ok-None.ensures.found in
    let goes = none_goes i.book c.find.new.self disk now (c.find.new.disk ≡ c.args.disk.now) i.session.market (g.met.D.Disk.is_disk c.args.disk.now) c.find.ensures.still found in
    subst (λ (x : HostState). Replays false c.args.sender c.args.line (command_in c.args.command.now) x (record h { book = c.find.new.self }) disk now (c.find.new.disk ≡ c.args.disk.now)) c.self.view_is
    (refl, goes.0, goes.1, refl, record { group = refl; told = refl; written = refl })

pub returns-in-Err-clause-broken : goal.returns-in-Err-clause-broken
returns-in-Err-clause-broken g c =
    let i = c.self.inside in
    let h : HostState = record { session = i.session; book = i.book; group = i.group; fresh = i.fresh; told = i.told; written = i.written } in
    let disk = g.D.Disk.state c.args.disk.now in
    let now = g.D.Disk.state c.find.new.disk in
    let command = command_in c.args.command.now in
    let same = c.find.new.disk ≡ c.args.disk.now in
    subst (λ (f : HostFault). BreaksOne f command c.args.self.now (record h { book = c.find.new.self }) disk now same) (sym c.from.ensures)
    (subst (λ (x : HostState). BreaksOne (of_disk c.in-Err.fault) command x (record h { book = c.find.new.self }) disk now same) c.self.view_is
    (breaks_found h (record h { book = c.find.new.self }) command disk now same c.in-Err.fault c.in-Err.ensures.fails refl refl (record { group = refl; told = refl; written = refl })))

pub returns-clause-replays : goal.returns-clause-replays
returns-clause-replays g c =
    let i = c.self.inside in
    let h : HostState = record { session = i.session; book = i.book; group = i.group; fresh = i.fresh; told = i.told; written = i.written } in
    let n : HostState = record h { session = c.take_entry.new.session; book = Kept c.take_entry.new.journal c.in-Kept.ahead } in
    let disk = g.D.Disk.state c.args.disk.now in
    let now = g.D.Disk.state c.find.new.disk in
    let same = c.find.new.disk ≡ c.args.disk.now in
    let found : IsFoundBy i.book (Kept c.in-Kept.journal c.in-Kept.ahead) disk now (Some c.in-Ok-Some.count) =
    subst (λ (b : Book). IsFoundBy i.book b disk now (Some c.in-Ok-Some.count)) c.in-Kept.is (subst (λ (o : Option ℕ). IsFoundBy i.book c.find.new.self disk now o) c.in-Ok-Some.field-0-is c.in-Ok-Some.ensures.found) in
    subst (λ (x : HostState). Replays true c.args.sender c.args.line (command_in c.args.command.now) x n disk now same) c.self.view_is
    (c.in-Ok.ensures.takes.pair, c.in-Ok.ensures.takes.answers, takes_found i.book c.in-Kept.journal c.take_entry.new.journal c.in-Ok-Some.count c.in-Kept.ahead disk now same i.session c.take_entry.new.session c.args.sender c.args.line (command_in c.args.command.now) found c.in-Ok.ensures.takes, refl, record { group = refl; told = refl; written = refl }, takes_none i.book c.take_entry.new.journal c.in-Kept.ahead)

pub returns-clause-room : goal.returns-clause-room
returns-clause-room g c =
    let same = ap (λ (h : HostState). h.session) c.self.view_is in
    λ is used within. c.in-Ok.ensures.room used (subst (IsWithin used) (sym same) within)

pub returns-in-Err-take_entry-clause-broken : goal.returns-in-Err-take_entry-clause-broken
returns-in-Err-take_entry-clause-broken g c =
    let i = c.self.inside in
    let h : HostState = record { session = i.session; book = i.book; group = i.group; fresh = i.fresh; told = i.told; written = i.written } in
    let n : HostState = record h { session = c.take_entry.new.session; book = Kept c.take_entry.new.journal c.in-Kept.ahead } in
    let disk = g.D.Disk.state c.args.disk.now in
    let now = g.D.Disk.state c.find.new.disk in
    let same = c.find.new.disk ≡ c.args.disk.now in
    let found : IsFoundBy i.book (Kept c.in-Kept.journal c.in-Kept.ahead) disk now (Some c.in-Ok-Some.count) =
    subst (λ (b : Book). IsFoundBy i.book b disk now (Some c.in-Ok-Some.count)) c.in-Kept.is (subst (λ (o : Option ℕ). IsFoundBy i.book c.find.new.self disk now o) c.in-Ok-Some.field-0-is c.in-Ok-Some.ensures.found) in
    subst (λ (x : HostState). BreaksOne c.in-Err-take_entry.fault (command_in c.args.command.now) x n disk now same) c.self.view_is
    (breaks_taken h n (command_in c.args.command.now) disk now same c.in-Kept.journal c.in-Ok-Some.count c.in-Kept.ahead found c.take_entry.new.session refl refl (record { group = refl; told = refl; written = refl }) c.in-Err-take_entry.fault c.in-Err-take_entry.ensures.broken)
