use Rattle.std.proofs.Common.{ap, sym, ◌∙◌, arith}
use Rattle.memory_io.specs.Logs.{LogState}
use Rattle.memory_io.proofs.LogLemmas.{stopped_looking, stopped_writing, stopped_cutting, stopped_syncing}
use Rattle.memory_io.proofs.call_log.CallLog.made_at.Goals as goal

pub returns-in-Sync-clause-stopped : goal.returns-in-Sync-clause-stopped
returns-in-Sync-clause-stopped c =
    let made = ap (λ (log : LogState). log.made) (sym c.self.view_is) in
    let count = ap (λ (log : LogState). log.count) c.self.view_is in
    stopped_syncing c.args.self.now.made c.self.inside.calls.items c.self.inside.bytes.items c.args.number c.index.result.now made c.requires.0 (omega (arith, c.requires.1, count)) (sym c.index.ensures ∙ c.in-Sync.is)

pub returns-in-Look-clause-stopped : goal.returns-in-Look-clause-stopped
returns-in-Look-clause-stopped c =
    let made = ap (λ (log : LogState). log.made) (sym c.self.view_is) in
    let count = ap (λ (log : LogState). log.count) c.self.view_is in
    stopped_looking c.args.self.now.made c.self.inside.calls.items c.self.inside.bytes.items c.args.number c.index.result.now made c.requires.0 (omega (arith, c.requires.1, count)) (sym c.index.ensures ∙ c.in-Look.is)

pub returns-in-Cut-clause-stopped : goal.returns-in-Cut-clause-stopped
returns-in-Cut-clause-stopped c =
    let made = ap (λ (log : LogState). log.made) (sym c.self.view_is) in
    let count = ap (λ (log : LogState). log.count) c.self.view_is in
    stopped_cutting c.args.self.now.made c.self.inside.calls.items c.self.inside.bytes.items c.args.number c.index.result.now made c.requires.0 (omega (arith, c.requires.1, count)) _ _ (sym c.index.ensures ∙ c.in-Cut.is)

pub returns-in-Write-clause-stopped : goal.returns-in-Write-clause-stopped
returns-in-Write-clause-stopped c =
    let made = ap (λ (log : LogState). log.made) (sym c.self.view_is) in
    let count = ap (λ (log : LogState). log.count) c.self.view_is in
    stopped_writing c.args.self.now.made c.self.inside.calls.items c.self.inside.bytes.items c.args.number c.index.result.now made c.requires.0 (omega (arith, c.requires.1, count)) _ _ _ (sym c.index.ensures ∙ c.in-Write.is)
