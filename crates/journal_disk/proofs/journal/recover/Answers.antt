use Rattle.std.proofs.Common.{◌≡◌, IfSome, Option, List, ℕ, get_or, subst, arith}
use Rattle.wire_records.specs.Grammars.{BeginsWith}
use Rattle.wire_records.specs.declared.version.Version.{Version}
use Rattle.journal_disk.specs.Entries.{disk_magics}
use Rattle.journal_disk.specs.Recovering.{IsMagicOf}
use Rattle.journal_disk.proofs.Opening.{found_closed, found_old}
use Rattle.journal_disk.proofs.journal.recover.Goals as goal

pub returns-else-prefix-ne-OPEN-clause-found : goal.returns-else-prefix-ne-OPEN-clause-found
returns-else-prefix-ne-OPEN-clause-found g c =
    let start = g.D.Disk.state c.args.disk.now in
    let mid = g.D.Disk.state c.synced_length.new.disk in
    found_old mid (g.D.Disk.state c.prefix_of.new.disk) c.in_ok-length.length c.in_ok-prefix.prefix.commit c.in-Some.version start.content c.in_ok-length.ensures.length (omega (arith, c.if-length-le-MOST_NEW.false)) (omega (arith, c.if-length-gt-MOST_BYTES.false))
    c.synced_length.ensures.looks.content c.in_ok-length.ensures.kept
    (subst (λ (o : Option (List ℕ)). IfSome o (λ bytes. (body : List ℕ) × BeginsWith disk_magics bytes c.in-Some.version body)) c.synced_length.ensures.looks.content (subst (λ (f : Option Version). IfSome mid.content (IsMagicOf f)) c.in-Some.is c.in_ok-prefix.ensures.magic))
    (subst (λ (o : Option (List ℕ)). IfSome o (λ bytes. c.in_ok-prefix.prefix.commit ≡ get_or bytes 8 0)) c.synced_length.ensures.looks.content c.in_ok-prefix.ensures.commit)
    c.if-prefix-ne-OPEN.false c.prefix_of.ensures.looks

pub returns-then-prefix-ne-OPEN-clause-found : goal.returns-then-prefix-ne-OPEN-clause-found
returns-then-prefix-ne-OPEN-clause-found g c =
    let start = g.D.Disk.state c.args.disk.now in
    let mid = g.D.Disk.state c.synced_length.new.disk in
    found_closed mid (g.D.Disk.state c.prefix_of.new.disk) c.in_ok-length.length c.in_ok-prefix.prefix.commit c.in-Some.version start.content c.in_ok-length.ensures.length (omega (arith, c.if-length-le-MOST_NEW.false)) (omega (arith, c.if-length-gt-MOST_BYTES.false))
    c.synced_length.ensures.looks.content c.in_ok-length.ensures.kept
    (subst (λ (o : Option (List ℕ)). IfSome o (λ bytes. (body : List ℕ) × BeginsWith disk_magics bytes c.in-Some.version body)) c.synced_length.ensures.looks.content (subst (λ (f : Option Version). IfSome mid.content (IsMagicOf f)) c.in-Some.is c.in_ok-prefix.ensures.magic))
    (subst (λ (o : Option (List ℕ)). IfSome o (λ bytes. c.in_ok-prefix.prefix.commit ≡ get_or bytes 8 0)) c.synced_length.ensures.looks.content c.in_ok-prefix.ensures.commit)
    c.if-prefix-ne-OPEN.true c.prefix_of.ensures.looks
