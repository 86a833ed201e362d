use Rattle.std.proofs.Common.{◌≡◌, ℕ, List, Option, Some, None, IfSome, sym, ap, subst, ◌∙◌}
use Rattle.wire_records.specs.Versions.{number_of}
use Rattle.journal_disk.specs.Stepping.{FindsFirst}
use Rattle.journal_keeping.specs.Beginning.{IsStored}
use Rattle.desk_opening.proofs.FirstEntries.{if_told, tells_first, tells_some, tells_none}
use Rattle.desk_opening.proofs.disk.begins_so.Goals as goal

pub returns-in-None-clause-tells : goal.returns-in-None-clause-tells
returns-in-None-clause-tells g c = λ bytes begin told is market at.
    let none = c.in-None.ensures begin (subst (λ (l : List ℕ). IsStored begin l) (sym c.deref.ensures.value) is.stored_is) in
    let number : number_of c.args.version ≡ number_of c.args.beginning.now.market.version = sym c.number.ensures ∙ c.if-number.false ∙ c.number-2.ensures ∙ ap number_of c.version.ensures.value in
    let tells = tells_first c.args.version bytes market c.args.journal.now (g.D.Disk.state c.args.disk.now) told at begin c.args.beginning.now.market is.market_is none number in
    ((λ first. tells.0 (c.is_first.ensures.0 first)), (λ same. c.is_first.ensures.1 (tells.1 same)))

pub returns-in-Ok-Some-clause-tells : goal.returns-in-Ok-Some-clause-tells
returns-in-Ok-Some-clause-tells g c = λ bytes begin told is market at.
    let some = c.in-Some.ensures begin (subst (λ (l : List ℕ). IsStored begin l) (sym c.deref.ensures.value) is.stored_is) in
    let number : number_of c.args.version ≡ number_of c.args.beginning.now.market.version = sym c.number.ensures ∙ c.if-number.false ∙ c.number-2.ensures ∙ ap number_of c.version.ensures.value in
    let found = subst (λ (n : ℕ). FindsFirst (Some c.in-Ok-Some.count) c.in-Some.checkpoint.now n bytes) c.after_magic.ensures
    (if_told (g.D.Disk.state c.args.disk.now).content bytes _ told (subst (λ (o : Option ℕ). IfSome (g.D.Disk.state c.args.disk.now).content (FindsFirst o c.in-Some.checkpoint.now c.after_magic.result)) c.in-Ok-Some.field-0-is c.in-Ok-Some.ensures.found)) in
    let tells = tells_some c.args.version bytes market c.args.journal.now (g.D.Disk.state c.args.disk.now) told at begin c.args.beginning.now.market c.in-Some.checkpoint.now c.in-Ok-Some.count is.market_is is.starts some number found in
    ((λ just. tells.0 (c.is_just.ensures.0 just)), (λ same. c.is_just.ensures.1 (tells.1 same)))

pub returns-in-Ok-None-clause-tells : goal.returns-in-Ok-None-clause-tells
returns-in-Ok-None-clause-tells g c = λ bytes begin told is market at.
    let some = c.in-Some.ensures begin (subst (λ (l : List ℕ). IsStored begin l) (sym c.deref.ensures.value) is.stored_is) in
    let found = subst (λ (n : ℕ). FindsFirst None c.in-Some.checkpoint.now n bytes) c.after_magic.ensures
    (if_told (g.D.Disk.state c.args.disk.now).content bytes _ told (subst (λ (o : Option ℕ). IfSome (g.D.Disk.state c.args.disk.now).content (FindsFirst o c.in-Some.checkpoint.now c.after_magic.result)) c.in-Ok-None.field-0-is c.in-Ok-None.ensures.found)) in
    ((λ is_true. absurd cc), (λ same. absurd (tells_none c.args.version bytes market c.args.journal.now (g.D.Disk.state c.args.disk.now) told at begin c.in-Some.checkpoint.now some found same)))
