use Rattle.std.proofs.Common.{◌≡◌, List, ℕ, [], IfSome, Err, refl, sym, ap, subst, ◌∙◌}
use Rattle.journal_keeping.specs.Outputs.{output}
use Rattle.desk_session.specs.States.{State, CountsAccounts}
use Rattle.desk_opening.specs.Openings.{IsNoBook}
use Rattle.desk_keeping.specs.Hosting.{ComesTo, IsOfFile}
use Rattle.desk_keeping.specs.Private.{HostState, IsHosting}
use Rattle.desk_keeping.specs.declared.fault.HostFault.{HostFault}
use Rattle.desk_keeping.proofs.Steps.{first_host}
use Rattle.desk_keeping.proofs.Unopened.{hosts_not_opened, hosts_opened, alone_not_opened, alone_opened, made_begun, made_not_opened, made_opened, comes_not_opened, shown_before, refused_unopened, refused_opened}
use Rattle.desk_keeping.proofs.Loop.{hosting_begins, always, blames_from, neither}
use Rattle.desk_keeping.proofs.hosting.host_lines.Goals as goal

pub returns-in-Err-clause-keeps : goal.returns-in-Err-clause-keeps
returns-in-Err-clause-keeps g c =
    λ was old m holds. hosts_not_opened c.args.limit (g.S.Source.rest c.args.source.now) was (g.D.Disk.state c.args.disk.now) old m holds (g.D.Disk.state c.open_desk.new.disk) (g.met.D.Disk.is_disk c.open_desk.new.disk)
    (output g.K.Sink.held g.K.Sink.calls g.K.Sink.faults c.args.out.now) _ (g.S.Source.rest c.open_desk.new.source) c.in-Err.fault c.in-Err.ensures.fails

pub returns-in-Err-clause-comes : goal.returns-in-Err-clause-comes
returns-in-Err-clause-comes g c =
    always (g.D.Disk.state c.args.disk.now).content _
    (λ held told. subst (λ (f : HostFault). ComesTo c.args.limit held (g.S.Source.rest c.args.source.now) (g.S.Source.rest c.open_desk.new.source) (g.D.Disk.state c.args.disk.now) (g.D.Disk.state c.open_desk.new.disk) (output g.K.Sink.held g.K.Sink.calls g.K.Sink.faults c.args.out.now)
    (output g.K.Sink.held g.K.Sink.calls g.K.Sink.faults c.args.out.now) (Err f)) (sym c.from.ensures)
    (comes_not_opened c.args.limit (g.S.Source.rest c.args.source.now) (g.S.Source.rest c.open_desk.new.source) (g.D.Disk.state c.args.disk.now) (g.D.Disk.state c.open_desk.new.disk) held told (output g.K.Sink.held g.K.Sink.calls g.K.Sink.faults c.args.out.now) c.in-Err.fault (λ same. shown_before _ c.in-Err.fault (g.S.Source.rest c.args.source.now) (g.S.Source.rest c.open_desk.new.source) _ _ (λ still. ap g.S.Source.rest still) c.in-Err.ensures.shown same) c.in-Err.ensures.fails))

pub returns-in-Err-over-clause-keeps : goal.returns-in-Err-over-clause-keeps
returns-in-Err-over-clause-keeps g c =
    λ was old m holds. hosts_opened c.args.limit (g.S.Source.rest c.args.source.now) was (g.D.Disk.state c.args.disk.now) old m holds (g.D.Disk.state c.open_desk.new.disk) (g.met.D.Disk.is_disk c.open_desk.new.disk)
    (output g.K.Sink.held g.K.Sink.calls g.K.Sink.faults c.args.out.now) _ 262144 c.in-Ok.opened.market c.in-Ok.opened.book c.in-Ok.opened.window (g.S.Source.rest c.open_desk.new.source) c.in-Ok.ensures.begun

pub host_on-requires-clause-hosting : goal.host_on-requires-clause-hosting
host_on-requires-clause-hosting g c =
    let same : c.new-host.result ≡ first_host c.in-Ok.opened.market c.in-Ok.opened.book =
    c.new-host.ensures ∙ ap (λ (s : State). record { session = s; book = c.in-Ok.opened.book; group = []; fresh = []; told = 0; written = 0 }) c.in-Ok-over.ensures.value in
    let counted : CountsAccounts (first_host c.in-Ok.opened.market c.in-Ok.opened.book).session = subst CountsAccounts c.in-Ok-over.ensures.value c.in-Ok-over.ensures.counted in
    let x = hosting_begins c.args.limit (g.S.Source.rest c.args.source.now) (g.D.Disk.state c.args.disk.now) (output g.K.Sink.held g.K.Sink.calls g.K.Sink.faults c.args.out.now) (g.D.Disk.state c.open_desk.new.disk) c.in-Ok.opened.market c.in-Ok.opened.book
    c.in-Ok.opened.window (g.S.Source.rest c.open_desk.new.source) c.in-Ok.ensures.begun counted in (
      c.args.disk.now,
      g.S.Source.rest c.args.source.now,
      c.args.out.now,
      subst (λ (h : HostState). IsHosting c.args.limit (g.S.Source.rest c.args.source.now) (g.S.Source.rest c.open_desk.new.source) (g.D.Disk.state c.args.disk.now) (g.D.Disk.state c.open_desk.new.disk)
          (output g.K.Sink.held g.K.Sink.calls g.K.Sink.faults c.args.out.now) (output g.K.Sink.held g.K.Sink.calls g.K.Sink.faults c.args.out.now) c.in-Ok.opened.window h) (sym same) x,
    )

pub returns-clause-keeps : goal.returns-clause-keeps
returns-clause-keeps g c =
    let same : c.new-host.result ≡ first_host c.in-Ok.opened.market c.in-Ok.opened.book =
    c.new-host.ensures ∙ ap (λ (s : State). record { session = s; book = c.in-Ok.opened.book; group = []; fresh = []; told = 0; written = 0 }) c.in-Ok-over.ensures.value in
    let counted : CountsAccounts (first_host c.in-Ok.opened.market c.in-Ok.opened.book).session = subst CountsAccounts c.in-Ok-over.ensures.value c.in-Ok-over.ensures.counted in
    let x = hosting_begins c.args.limit (g.S.Source.rest c.args.source.now) (g.D.Disk.state c.args.disk.now) (output g.K.Sink.held g.K.Sink.calls g.K.Sink.faults c.args.out.now) (g.D.Disk.state c.open_desk.new.disk) c.in-Ok.opened.market c.in-Ok.opened.book
    c.in-Ok.opened.window (g.S.Source.rest c.open_desk.new.source) c.in-Ok.ensures.begun counted in
    c.host_on.ensures.keeps c.args.disk.now (g.S.Source.rest c.args.source.now) c.args.out.now (subst (λ (h : HostState). IsHosting c.args.limit (g.S.Source.rest c.args.source.now) (g.S.Source.rest c.open_desk.new.source) (g.D.Disk.state c.args.disk.now) (g.D.Disk.state c.open_desk.new.disk)
    (output g.K.Sink.held g.K.Sink.calls g.K.Sink.faults c.args.out.now) (output g.K.Sink.held g.K.Sink.calls g.K.Sink.faults c.args.out.now) c.in-Ok.opened.window h) (sym same) x)

pub returns-clause-comes : goal.returns-clause-comes
returns-clause-comes g c =
    let same : c.new-host.result ≡ first_host c.in-Ok.opened.market c.in-Ok.opened.book =
    c.new-host.ensures ∙ ap (λ (s : State). record { session = s; book = c.in-Ok.opened.book; group = []; fresh = []; told = 0; written = 0 }) c.in-Ok-over.ensures.value in
    let counted : CountsAccounts (first_host c.in-Ok.opened.market c.in-Ok.opened.book).session = subst CountsAccounts c.in-Ok-over.ensures.value c.in-Ok-over.ensures.counted in
    let x = hosting_begins c.args.limit (g.S.Source.rest c.args.source.now) (g.D.Disk.state c.args.disk.now) (output g.K.Sink.held g.K.Sink.calls g.K.Sink.faults c.args.out.now) (g.D.Disk.state c.open_desk.new.disk) c.in-Ok.opened.market c.in-Ok.opened.book
    c.in-Ok.opened.window (g.S.Source.rest c.open_desk.new.source) c.in-Ok.ensures.begun counted in
    c.host_on.ensures.comes c.args.disk.now (g.S.Source.rest c.args.source.now) c.args.out.now (subst (λ (h : HostState). IsHosting c.args.limit (g.S.Source.rest c.args.source.now) (g.S.Source.rest c.open_desk.new.source) (g.D.Disk.state c.args.disk.now) (g.D.Disk.state c.open_desk.new.disk)
    (output g.K.Sink.held g.K.Sink.calls g.K.Sink.faults c.args.out.now) (output g.K.Sink.held g.K.Sink.calls g.K.Sink.faults c.args.out.now) c.in-Ok.opened.window h) (sym same) x)

pub returns-clause-taken : goal.returns-clause-taken
returns-clause-taken g c =
    let same : c.new-host.result ≡ first_host c.in-Ok.opened.market c.in-Ok.opened.book =
    c.new-host.ensures ∙ ap (λ (s : State). record { session = s; book = c.in-Ok.opened.book; group = []; fresh = []; told = 0; written = 0 }) c.in-Ok-over.ensures.value in
    let counted : CountsAccounts (first_host c.in-Ok.opened.market c.in-Ok.opened.book).session = subst CountsAccounts c.in-Ok-over.ensures.value c.in-Ok-over.ensures.counted in
    let x = hosting_begins c.args.limit (g.S.Source.rest c.args.source.now) (g.D.Disk.state c.args.disk.now) (output g.K.Sink.held g.K.Sink.calls g.K.Sink.faults c.args.out.now) (g.D.Disk.state c.open_desk.new.disk) c.in-Ok.opened.market c.in-Ok.opened.book
    c.in-Ok.opened.window (g.S.Source.rest c.open_desk.new.source) c.in-Ok.ensures.begun counted in
    (c.host_on.ensures.taken c.args.disk.now (g.S.Source.rest c.args.source.now) c.args.out.now (subst (λ (h : HostState). IsHosting c.args.limit (g.S.Source.rest c.args.source.now) (g.S.Source.rest c.open_desk.new.source) (g.D.Disk.state c.args.disk.now) (g.D.Disk.state c.open_desk.new.disk)
    (output g.K.Sink.held g.K.Sink.calls g.K.Sink.faults c.args.out.now) (output g.K.Sink.held g.K.Sink.calls g.K.Sink.faults c.args.out.now) c.in-Ok.opened.window h) (sym same) x)).0

pub returns-clause-made : goal.returns-clause-made
returns-clause-made g c =
    let same : c.new-host.result ≡ first_host c.in-Ok.opened.market c.in-Ok.opened.book =
    c.new-host.ensures ∙ ap (λ (s : State). record { session = s; book = c.in-Ok.opened.book; group = []; fresh = []; told = 0; written = 0 }) c.in-Ok-over.ensures.value in
    let counted : CountsAccounts (first_host c.in-Ok.opened.market c.in-Ok.opened.book).session = subst CountsAccounts c.in-Ok-over.ensures.value c.in-Ok-over.ensures.counted in
    let x = hosting_begins c.args.limit (g.S.Source.rest c.args.source.now) (g.D.Disk.state c.args.disk.now) (output g.K.Sink.held g.K.Sink.calls g.K.Sink.faults c.args.out.now) (g.D.Disk.state c.open_desk.new.disk) c.in-Ok.opened.market c.in-Ok.opened.book
    c.in-Ok.opened.window (g.S.Source.rest c.open_desk.new.source) c.in-Ok.ensures.begun counted in
    made_begun c.args.limit (g.D.Disk.state c.args.disk.now) (g.D.Disk.state c.host_on.new.disk) (g.S.Source.rest c.args.source.now) (g.S.Source.rest c.host_on.new.source)
    (c.host_on.ensures.taken c.args.disk.now (g.S.Source.rest c.args.source.now) c.args.out.now (subst (λ (h : HostState). IsHosting c.args.limit (g.S.Source.rest c.args.source.now) (g.S.Source.rest c.open_desk.new.source) (g.D.Disk.state c.args.disk.now) (g.D.Disk.state c.open_desk.new.disk)
    (output g.K.Sink.held g.K.Sink.calls g.K.Sink.faults c.args.out.now) (output g.K.Sink.held g.K.Sink.calls g.K.Sink.faults c.args.out.now) c.in-Ok.opened.window h) (sym same) x)).1

pub returns-clause-disk_cause : goal.returns-clause-disk_cause
returns-clause-disk_cause g c =
    blames_from _ _ (g.D.Disk.state c.args.disk.now).faults (g.D.Disk.state c.open_desk.new.disk).faults (g.D.Disk.state c.host_on.new.disk).faults (c.in-Ok.ensures.disk_cause.quiet (neither _ _ (λ is. cc is) (λ is. cc is))) (λ e. e) (λ e. e) c.host_on.ensures.disk_cause

pub returns-in-Err-clause-taken : goal.returns-in-Err-clause-taken
returns-in-Err-clause-taken g c = c.in-Err.ensures.taken

pub returns-in-Err-over-clause-taken : goal.returns-in-Err-over-clause-taken
returns-in-Err-over-clause-taken g c = c.in-Ok.ensures.taken

pub returns-in-Err-clause-refuses : goal.returns-in-Err-clause-refuses
returns-in-Err-clause-refuses g c =
    subst (λ (f : HostFault). IfSome (g.D.Disk.state c.args.disk.now).content (λ (held : List ℕ). IsNoBook held → IsOfFile (Err f) × (c.open_desk.new.source ≡ c.args.source.now) × (c.args.out.now ≡ c.args.out.now))) (sym c.from.ensures)
    (refused_unopened _ c.args.limit (g.D.Disk.state c.args.disk.now) (g.D.Disk.state c.open_desk.new.disk) (g.S.Source.rest c.args.source.now) (g.S.Source.rest c.open_desk.new.source) c.in-Err.fault
    (c.open_desk.new.source ≡ c.args.source.now) (c.args.out.now ≡ c.args.out.now) c.in-Err.ensures.fails refl c.in-Err.ensures.refuses)

pub returns-in-Err-over-clause-refuses : goal.returns-in-Err-over-clause-refuses
returns-in-Err-over-clause-refuses g c = refused_opened _ (g.D.Disk.state c.args.disk.now).content c.in-Ok.opened (c.open_desk.new.source ≡ c.args.source.now) _ c.in-Ok.ensures.refuses

pub returns-clause-refuses : goal.returns-clause-refuses
returns-clause-refuses g c = refused_opened _ (g.D.Disk.state c.args.disk.now).content c.in-Ok.opened (c.open_desk.new.source ≡ c.args.source.now) _ c.in-Ok.ensures.refuses

pub returns-in-Err-clause-untouched : goal.returns-in-Err-clause-untouched
returns-in-Err-clause-untouched g c =
    alone_not_opened c.args.limit (g.D.Disk.state c.args.disk.now) (g.D.Disk.state c.open_desk.new.disk) (g.S.Source.rest c.args.source.now) (g.S.Source.rest c.open_desk.new.source) c.in-Err.fault c.in-Err.ensures.fails

pub returns-in-Err-over-clause-untouched : goal.returns-in-Err-over-clause-untouched
returns-in-Err-over-clause-untouched g c =
    alone_opened 262144 c.args.limit (g.D.Disk.state c.args.disk.now) (g.D.Disk.state c.open_desk.new.disk) c.in-Ok.opened.market c.in-Ok.opened.book c.in-Ok.opened.window (g.S.Source.rest c.args.source.now) (g.S.Source.rest c.open_desk.new.source) c.in-Ok.ensures.begun

pub returns-clause-untouched : goal.returns-clause-untouched
returns-clause-untouched g c =
    let same : c.new-host.result ≡ first_host c.in-Ok.opened.market c.in-Ok.opened.book =
    c.new-host.ensures ∙ ap (λ (s : State). record { session = s; book = c.in-Ok.opened.book; group = []; fresh = []; told = 0; written = 0 }) c.in-Ok-over.ensures.value in
    let counted : CountsAccounts (first_host c.in-Ok.opened.market c.in-Ok.opened.book).session = subst CountsAccounts c.in-Ok-over.ensures.value c.in-Ok-over.ensures.counted in
    let x = hosting_begins c.args.limit (g.S.Source.rest c.args.source.now) (g.D.Disk.state c.args.disk.now) (output g.K.Sink.held g.K.Sink.calls g.K.Sink.faults c.args.out.now) (g.D.Disk.state c.open_desk.new.disk) c.in-Ok.opened.market c.in-Ok.opened.book
    c.in-Ok.opened.window (g.S.Source.rest c.open_desk.new.source) c.in-Ok.ensures.begun counted in
    c.host_on.ensures.untouched c.args.disk.now (g.S.Source.rest c.args.source.now) c.args.out.now (subst (λ (h : HostState). IsHosting c.args.limit (g.S.Source.rest c.args.source.now) (g.S.Source.rest c.open_desk.new.source) (g.D.Disk.state c.args.disk.now) (g.D.Disk.state c.open_desk.new.disk)
    (output g.K.Sink.held g.K.Sink.calls g.K.Sink.faults c.args.out.now) (output g.K.Sink.held g.K.Sink.calls g.K.Sink.faults c.args.out.now) c.in-Ok.opened.window h) (sym same) x)

pub returns-in-Err-clause-made : goal.returns-in-Err-clause-made
returns-in-Err-clause-made g c =
    made_not_opened c.args.limit (g.D.Disk.state c.args.disk.now) (g.D.Disk.state c.open_desk.new.disk) (g.S.Source.rest c.args.source.now) (g.S.Source.rest c.open_desk.new.source) c.in-Err.fault c.in-Err.ensures.fails

pub returns-in-Err-over-clause-made : goal.returns-in-Err-over-clause-made
returns-in-Err-over-clause-made g c =
    made_opened 262144 c.args.limit (g.D.Disk.state c.args.disk.now) (g.D.Disk.state c.open_desk.new.disk) c.in-Ok.opened.market c.in-Ok.opened.book c.in-Ok.opened.window (g.S.Source.rest c.args.source.now) (g.S.Source.rest c.open_desk.new.source) c.in-Ok.ensures.begun
