use Rattle.std.proofs.Common.{sym, ◌∙◌}
use Rattle.journal_keeping.proofs.Begun.{found_looked, first_known, read_known, stops_known}
use Rattle.journal_keeping.proofs.opening.read_up.Goals as goal

pub returns-in-Err-first_market-clause-refused : goal.returns-in-Err-first_market-clause-refused
returns-in-Err-first_market-clause-refused g c =
    first_known c.args.version (g.D.Disk.state c.args.disk.now).content (g.D.Disk.state c.new.new.disk) (g.D.Disk.state c.first_market.new.disk) c.in-Err-first_market.fault (sym c.in-Ok.ensures.looks.content) c.in-Err-first_market.ensures.looks.content
    (found_looked c.args.version (g.D.Disk.state c.args.disk.now).content (g.D.Disk.state c.args.disk.now) (g.D.Disk.state c.new.new.disk) c.in-Ok.ensures.looks c.requires.found) c.in-Err-first_market.ensures.stops

pub returns-in-Ok-audit_kept-clause-read : goal.returns-in-Ok-audit_kept-clause-read
returns-in-Ok-audit_kept-clause-read g c =
    read_known c.args.version (g.D.Disk.state c.args.disk.now).content (g.D.Disk.state c.new.new.disk) (g.D.Disk.state c.first_market.new.disk) (g.D.Disk.state c.audit_kept.new.disk) c.in-Ok-first_market.market c.audit_kept.new.audit c.first_market.new.journal c.audit_kept.new.journal c.in-Ok-audit_kept.entries
    c.in-Ok-first_market.ensures.looks.content c.in-Ok-audit_kept.ensures.looks.content (sym c.in-Ok.ensures.looks.content) (found_looked c.args.version (g.D.Disk.state c.args.disk.now).content (g.D.Disk.state c.args.disk.now) (g.D.Disk.state c.new.new.disk) c.in-Ok.ensures.looks c.requires.found) c.in-Ok-first_market.ensures.begins
    (λ begin rest starts is holds. c.in-Ok-audit_kept.ensures.ends begin rest starts (c.over-audit.ensures ∙ is) holds)

pub returns-clause-refused : goal.returns-clause-refused
returns-clause-refused g c =
    stops_known c.args.version (g.D.Disk.state c.args.disk.now).content (g.D.Disk.state c.new.new.disk) (g.D.Disk.state c.first_market.new.disk) (g.D.Disk.state c.audit_kept.new.disk) c.in-Ok-first_market.market c.first_market.new.journal c.in-Err-audit_kept.fault (sym c.in-Ok.ensures.looks.content)
    c.in-Ok-first_market.ensures.looks.content c.in-Err-audit_kept.ensures.looks.content (found_looked c.args.version (g.D.Disk.state c.args.disk.now).content (g.D.Disk.state c.args.disk.now) (g.D.Disk.state c.new.new.disk) c.in-Ok.ensures.looks c.requires.found) c.in-Ok-first_market.ensures.begins
    (λ begin rest bytes starts is holds told. c.in-Err-audit_kept.ensures.stops begin rest bytes starts (c.over-audit.ensures ∙ is) holds told)
