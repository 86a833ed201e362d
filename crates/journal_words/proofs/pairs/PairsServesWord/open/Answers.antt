use Rattle.std.proofs.Common.{◌∙◌, refl}
use Rattle.journal_words.proofs.JournalLaws.{opens}
use Rattle.journal_words.proofs.pairs.PairsServesWord.open.Goals as goal

pub returns-in-Some-clause-opened : goal.returns-in-Some-clause-opened
returns-in-Some-clause-opened g c =
    let begins = (c.in-Some.ensures.exact c.in-Some.version).0 refl in
    opens g.P.OnPair.watch c.in-Some.version c.args.bytes.now begins.0 c.over.result c.args.self.now.pairs (g.P.OnPair.seen c.args.self.now.on) c.args._text.now.items
    begins.1.1 (c.over.ensures ∙ c.new_in.ensures) c.requires.new.0 c.requires.empty
