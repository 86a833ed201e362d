use Rattle.std.proofs.Common.{◌∙◌, arith}
use Rattle.market_rules.specs.Market.{empty_market}
use Rattle.statement_word.proofs.Telling.{made_of, far_of}
use Rattle.statement_word.proofs.own.Own.new.Goals as goal
use Rattle.statement_word.proofs.own.Own.new.Goals.{in-Ok, in-Err}

pub returns-clause-is_of : goal.returns-clause-is_of
returns-clause-is_of c = λ version. elim c.match-try_from.branch [
  | in-Ok w ↦ rw w.statement-is (made_of c.args.number (empty_market version) w.new.result (w.new.ensures.account ∙ w.in-Ok.ensures.1) (w.new.ensures.agrees version))
  | in-Err w ↦ rw w.statement-is (far_of c.args.number (empty_market version) (omega (arith, w.in-Err.ensures)))
]
