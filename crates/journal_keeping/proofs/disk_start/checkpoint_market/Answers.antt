use Rattle.std.proofs.Common.{[], ap, sym, ◌∙◌, append-nil, arith}
use Rattle.std.proofs.lemmas.Bool.{false≢true}
use Rattle.market_rules.specs.Market.{Market}
use Rattle.journal_keeping.proofs.FirstMarkets.{whole_one}
use Rattle.journal_keeping.proofs.disk_start.checkpoint_market.Goals as goal

pub returns-then-taken-bytes-clause-none : goal.returns-then-taken-bytes-clause-none
returns-then-taken-bytes-clause-none c = λ _ m is of.
    let one = whole_one c.args.bytes.now m c.in-Ok.market c.in-Ok.taken is c.in-Ok.ensures.0 in
    omega (arith, one.1, c.if-taken-bytes.true)

pub returns-then-not-is_same-clause-none : goal.returns-then-not-is_same-clause-none
returns-then-not-is_same-clause-none c = λ _ m is of.
    let one = whole_one c.args.bytes.now m c.in-Ok.market c.in-Ok.taken is c.in-Ok.ensures.0 in
    false≢true (sym c.if-not-is_same.true ∙ c.is_same.ensures.1 (c.version.ensures.value ∙ ap (λ (x : Market). x.version) one.0 ∙ of))

pub returns-in-Err-NotSound-clause-none : goal.returns-in-Err-NotSound-clause-none
returns-in-Err-NotSound-clause-none c = λ _ m is of.
    (rw c.in-Err-NotSound.field-0-is at c.in-Err-NotSound.ensures) m c.args.bytes.now [] is (sym (append-nil c.args.bytes.now))
