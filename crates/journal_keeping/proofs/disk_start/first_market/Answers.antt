use Rattle.std.proofs.Common.{◌≡◌, ◌+◌, ℕ, List, Option, Some, None, IfSome, take, drop, sym, subst, arith}
use Rattle.market_rules.specs.Market.{Market}
use Rattle.market_snapshot.specs.Checkpoints.{checkpoint_magic, IsCheckpoint}
use Rattle.journal_disk.specs.Ahead.{HoldsPart}
use Rattle.journal_disk.specs.Stepping.{FindsFirst}
use Rattle.journal_disk.proofs.Pieces.{part_read}
use Rattle.journal_keeping.specs.Beginning.{BeginsAt}
use Rattle.journal_keeping.proofs.Counts.{if_some}
use Rattle.journal_keeping.proofs.FirstMarkets.{begins_empty, begins_kept, stops_unfit, finds_told}
use Rattle.journal_keeping.proofs.disk_start.first_market.Goals as goal

pub returns-in-Ok-clause-begins : goal.returns-in-Ok-clause-begins
returns-in-Ok-clause-begins g c = λ rest bytes told holds.
    let found = (subst (λ (n : ℕ). FindsFirst (Some c.in-Ok-Some.count) checkpoint_magic n bytes) c.requires.first (finds_told (g.D.Disk.state c.args.disk.now).content bytes _ told (subst (λ (o : Option ℕ). IfSome (g.D.Disk.state c.args.disk.now).content (FindsFirst o checkpoint_magic c.args.journal.now)) c.in-Ok-Some.field-0-is c.in-Ok-Some.ensures.found))) in
    let there : c.first.result.now ≡ (take c.in-Ok-Some.count (drop (8 + 5) bytes)) =
    finds_told (g.D.Disk.state c.args.disk.now).content bytes (λ (b : List ℕ). c.first.result.now ≡ take c.in-Ok-Some.count (drop (8 + 5) b)) told
    (subst (λ (n : ℕ). IfSome (g.D.Disk.state c.args.disk.now).content (λ b. c.first.result.now ≡ take c.in-Ok-Some.count (drop (n + 5) b))) c.requires.first
    (part_read c.find_first.new.ahead (g.D.Disk.state c.args.disk.now).content (g.D.Disk.state c.find_first.new.disk).content (c.args.journal.now + 5) c.in-Ok-Some.count c.first.result.now c.find_first.ensures.looks.content c.find_first.ensures.piece
    (subst (λ (o : Option ℕ). IfSome o (λ count. HoldsPart (c.args.journal.now + 5) count c.find_first.new.ahead)) c.in-Ok-Some.field-0-is c.in-Ok-Some.ensures.held) c.first.ensures)) in
    let one = c.in-Ok.ensures.one in
    begins_kept c.args.version rest bytes (g.D.Disk.state c.args.disk.now) (g.D.Disk.state c.find_first.new.disk) told holds c.find_first.ensures.looks (take c.in-Ok-Some.count (drop (8 + 5) bytes)) found.0 (found.2, found.3) c.in-Ok.market c.pass.new.self
    (subst (λ (l : List ℕ). IsCheckpoint c.in-Ok.market l) there one.0) one.1 (omega (arith, c.pass.ensures, c.requires.first, found.1))

pub returns-in-Err-checkpoint_market-clause-stops : goal.returns-in-Err-checkpoint_market-clause-stops
returns-in-Err-checkpoint_market-clause-stops g c = λ rest bytes told holds.
    let found = (subst (λ (n : ℕ). FindsFirst (Some c.in-Ok-Some.count) checkpoint_magic n bytes) c.requires.first (finds_told (g.D.Disk.state c.args.disk.now).content bytes _ told (subst (λ (o : Option ℕ). IfSome (g.D.Disk.state c.args.disk.now).content (FindsFirst o checkpoint_magic c.args.journal.now)) c.in-Ok-Some.field-0-is c.in-Ok-Some.ensures.found))) in
    let there : c.first.result.now ≡ (take c.in-Ok-Some.count (drop (8 + 5) bytes)) =
    finds_told (g.D.Disk.state c.args.disk.now).content bytes (λ (b : List ℕ). c.first.result.now ≡ take c.in-Ok-Some.count (drop (8 + 5) b)) told
    (subst (λ (n : ℕ). IfSome (g.D.Disk.state c.args.disk.now).content (λ b. c.first.result.now ≡ take c.in-Ok-Some.count (drop (n + 5) b))) c.requires.first
    (part_read c.find_first.new.ahead (g.D.Disk.state c.args.disk.now).content (g.D.Disk.state c.find_first.new.disk).content (c.args.journal.now + 5) c.in-Ok-Some.count c.first.result.now c.find_first.ensures.looks.content c.find_first.ensures.piece
    (subst (λ (o : Option ℕ). IfSome o (λ count. HoldsPart (c.args.journal.now + 5) count c.find_first.new.ahead)) c.in-Ok-Some.field-0-is c.in-Ok-Some.ensures.held) c.first.ensures)) in
    let e = c.in-Err-checkpoint_market.ensures in
    stops_unfit c.args.version rest bytes (g.D.Disk.state c.args.disk.now) (g.D.Disk.state c.find_first.new.disk) told holds c.find_first.ensures.looks (take c.in-Ok-Some.count (drop (8 + 5) bytes)) found.0 (found.2, found.3) c.in-Err-checkpoint_market.fault e.refused
    (λ is market one of. e.none is market (subst (λ (l : List ℕ). IsCheckpoint market l) (sym there) one) of)

pub returns-in-Ok-None-clause-begins : goal.returns-in-Ok-None-clause-begins
returns-in-Ok-None-clause-begins g c = λ rest bytes told holds.
    let found = subst (λ (n : ℕ). FindsFirst None checkpoint_magic n bytes) c.requires.first (finds_told (g.D.Disk.state c.args.disk.now).content bytes _ told (subst (λ (o : Option ℕ). IfSome (g.D.Disk.state c.args.disk.now).content (FindsFirst o checkpoint_magic c.args.journal.now)) c.in-Ok-None.field-0-is c.in-Ok-None.ensures.found)) in
    subst (λ (n : ℕ). BeginsAt c.args.version bytes c.new_in.result n (g.D.Disk.state c.find_first.new.disk)) (sym c.requires.first)
    (subst (λ (m : Market). BeginsAt c.args.version bytes m 8 (g.D.Disk.state c.find_first.new.disk)) (sym c.new_in.ensures)
    (begins_empty c.args.version rest bytes (g.D.Disk.state c.args.disk.now) (g.D.Disk.state c.find_first.new.disk) told holds c.find_first.ensures.looks found))

pub returns-in-Ok-clause-piece : goal.returns-in-Ok-clause-piece
returns-in-Ok-clause-piece g c =
    if_some (g.D.Disk.state c.find_first.new.disk).content _ _ c.forget.ensures.piece c.find_first.ensures.piece
