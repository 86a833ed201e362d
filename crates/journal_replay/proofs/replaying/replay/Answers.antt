use Rattle.std.proofs.Common.{[]}
use Rattle.journal_replay.proofs.Replayed.{after_magic, begins_with_eight, audits_all}
use Rattle.journal_replay.proofs.replaying.replay.Goals as goal

pub audit_pairs-requires : goal.audit_pairs-requires
audit_pairs-requires c = record { inside = begins_with_eight c.in-Some.version c.args.bytes.now ((c.journal_version.ensures.exact c.in-Some.version).0 c.in-Some.is) }

pub returns-in-End : goal.returns-in-End
returns-in-End c =
    let begins = (c.journal_version.ensures.exact c.in-Some.version).0 c.in-Some.is in
    let found = c.in-Ok.ensures.legal in
    (found.legal, rw c.in-End.is at (audits_all c.in-Some.version c.args.bytes.now found.legal [] _ _ begins found.audits))

pub returns-in-Torn : goal.returns-in-Torn
returns-in-Torn c =
    let begins = (c.journal_version.ensures.exact c.in-Some.version).0 c.in-Some.is in
    let found = c.in-Ok.ensures.legal in
    (found.legal, c.in-Ok.found.market, rw c.in-Torn.is at (audits_all c.in-Some.version c.args.bytes.now found.legal [] _ _ begins found.audits))

pub returns-in-Err-Illegal : goal.returns-in-Err-Illegal
returns-in-Err-Illegal c =
    let begins = (c.journal_version.ensures.exact c.in-Some.version).0 c.in-Some.is in
    let found = rw c.in-Err-Illegal.field-0-is at c.in-Err-Illegal.ensures.fault in
    record { legal = found.legal; bad = found.bad; more = found.more; ending = found.ending; market = found.market; audits = audits_all c.in-Some.version c.args.bytes.now found.legal _ _ _ begins found.audits; counted = found.counted }

pub returns-in-Err-Memory : goal.returns-in-Err-Memory
returns-in-Err-Memory c =
    let begins = (c.journal_version.ensures.exact c.in-Some.version).0 c.in-Some.is in
    record {
      version = c.in-Some.version;
      following = begins.0;
      begins = begins.1;
      finds = rw (after_magic c.in-Some.version c.args.bytes.now begins.0 begins.1) (rw c.in-Err-Memory.field-0-is at c.in-Err-Memory.ensures.fault);
    }
