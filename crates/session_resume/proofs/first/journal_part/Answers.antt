use Rattle.std.proofs.Common.{arith}
use Rattle.file_units.specs.declared.units.Ending.TheVariants as ending
use Rattle.session_resume.proofs.Firsts.{place_is, legal_first, all_is, within, illegal_first, numbers_fit}
use Rattle.session_resume.proofs.first.journal_part.Goals as goal

pub returns-in-End-clause-first : goal.returns-in-End-clause-first
returns-in-End-clause-first c =
    let found = c.in-Ok.ensures.legal in
    let on = rw c.in-End.is at found.audits in
    legal_first c.args.version c.args.bytes.now c.requires.begins _ found.legal _ c.in-Ok.found.market on _ (all_is c.args.version c.args.bytes.now c.requires.begins _ found.legal _ c.in-Ok.found.market on on.reads.ends.2)

pub returns-in-End-clause-numbers : goal.returns-in-End-clause-numbers
returns-in-End-clause-numbers c =
    let found = c.in-Ok.ensures.legal in
    numbers_fit c.args.version found.legal c.in-Ok.found.market found.audits.judged.journal (omega (arith, within c.args.version c.args.bytes.now c.requires.begins _ found.legal _ c.in-Ok.found.market found.audits))

pub returns-in-Torn-clause-first : goal.returns-in-Torn-clause-first
returns-in-Torn-clause-first c =
    let found = c.in-Ok.ensures.legal in
    let on = rw c.in-Torn.is at found.audits in
    legal_first c.args.version c.args.bytes.now c.requires.begins _ found.legal _ c.in-Ok.found.market on _ (omega (arith, on.reads.ends.0, place_is c.args.version c.args.bytes.now c.requires.begins _ found.legal _ c.in-Ok.found.market on))

pub returns-in-Torn-clause-inside : goal.returns-in-Torn-clause-inside
returns-in-Torn-clause-inside c =
    let found = c.in-Ok.ensures.legal in
    let on = rw c.in-Torn.is at found.audits in
    omega (arith, on.reads.ends.0, place_is c.args.version c.args.bytes.now c.requires.begins _ found.legal _ c.in-Ok.found.market on, within c.args.version c.args.bytes.now c.requires.begins _ found.legal _ c.in-Ok.found.market on)

pub returns-in-Torn-clause-numbers : goal.returns-in-Torn-clause-numbers
returns-in-Torn-clause-numbers c =
    let found = c.in-Ok.ensures.legal in
    numbers_fit c.args.version found.legal c.in-Ok.found.market found.audits.judged.journal (omega (arith, within c.args.version c.args.bytes.now c.requires.begins _ found.legal _ c.in-Ok.found.market found.audits))

pub returns-in-Err-Illegal-clause-fault : goal.returns-in-Err-Illegal-clause-fault
returns-in-Err-Illegal-clause-fault c =
    let found = rw c.in-Err-Illegal.field-0-is at c.in-Err-Illegal.ensures.fault in
    illegal_first c.args.version c.args.bytes.now c.requires.begins _ found.legal found.ending found.market found.bad found.more _ found.audits found.counted
