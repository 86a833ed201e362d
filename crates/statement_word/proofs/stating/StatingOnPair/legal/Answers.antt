use Rattle.std.proofs.Common.{refl}
use Rattle.wire_records.specs.declared.version.Version.TheVariants.{One}
use Rattle.market_rules.specs.Market.{empty_market}
use Rattle.statement_word.proofs.Telling.{carried, change_at, pair_done}
use Rattle.statement_word.proofs.stating.StatingOnPair.legal.Goals as goal

pub tell-requires-clause-is_of : goal.tell-requires-clause-is_of
tell-requires-clause-is_of c =
    let own = c.args.self.now.own in
    carried own.number own.number c.args.audit.now c.market.result.now own.statement own.statement refl c.market.ensures.value refl c.requires.within

pub tell-requires-clause-change : goal.tell-requires-clause-change
tell-requires-clause-change c = change_at c.args.audit.now c.market.result.now c.args.pair.now c.args.change c.market.ensures.value c.requires.change

pub returns-in-Err-clause-stays : goal.returns-in-Err-clause-stays
returns-in-Err-clause-stays c =
    let own = c.args.self.now.own in
    carried own.number c.tell.new.self.number c.args.audit.now c.args.audit.now own.statement c.tell.new.self.statement c.tell.ensures.number refl c.in-Err.ensures.stays c.requires.within

pub returns-in-Ok-make-clause-seen : goal.returns-in-Ok-make-clause-seen
returns-in-Ok-make-clause-seen c =
    (pair_done c.args.self.now.own.number c.tell.new.self.number c.args.audit.now c.market.result.now c.make.new.self c.args.pair.now c.tell.new.self.statement c.tell.new.text.items c.args._pairs c.tell.ensures.number c.market.ensures.value c.in-Ok.ensures.told c.in-Ok-make.ensures.legal).1

pub returns-in-Ok-make-clause-within : goal.returns-in-Ok-make-clause-within
returns-in-Ok-make-clause-within c =
    (pair_done c.args.self.now.own.number c.tell.new.self.number c.args.audit.now c.market.result.now c.make.new.self c.args.pair.now c.tell.new.self.statement c.tell.new.text.items c.args._pairs c.tell.ensures.number c.market.ensures.value c.in-Ok.ensures.told c.in-Ok-make.ensures.legal).0

pub returns-in-Err-make-clause-stays : goal.returns-in-Err-make-clause-stays
returns-in-Err-make-clause-stays c =
    let own = c.new-in-Err-make.result in
    carried own.number own.number (empty_market One) c.new.result own.statement own.statement refl c.new.ensures refl (c.new-in-Err-make.ensures.is_of One)
