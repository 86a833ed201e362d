use Rattle.std.proofs.Common.{◌≡◌, length, rules}
use Rattle.order_text.proofs.Named.{keys_told}
use Rattle.order_text.proofs.fields.has_keys.Goals as goal

pub returns-in-Some : goal.returns-in-Some
returns-in-Some c =
    let len : c.len.result ≡ length c.in-Some.members.now.entries = search rules in
    rw len (keys_told _ c.in-Some.members.now.entries c.args.count c.in-Some.ensures)
