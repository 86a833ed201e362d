use Rattle.std.proofs.Common.{◌∙◌, rules}
use Rattle.exchange_session.proofs.Opening.{opens_at}
use Rattle.exchange_session.proofs.run.RunServesWord.open.Goals as goal

pub returns-in-Some-clause-opened : goal.returns-in-Some-clause-opened
returns-in-Some-clause-opened c =
    let begins = (c.command_version.ensures.exact c.in-Some.version).0 c.in-Some.is in
    opens_at c.in-Some.version c.args.bytes.now begins.0 c.over.result c.extend_from_slice.new.self.items begins.1 (c.over.ensures ∙ c.new_in.ensures)
    (search rules)
