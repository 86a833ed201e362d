use Rattle.std.proofs.Common.{ap, ◌∙◌, sym, subst}
use Rattle.serde_json.specs.View.{view}
use Rattle.order_text.specs.Private.{FindsQuestion}
use Rattle.order_text.proofs.Questions.{none_asked, other_asked, found_asked, none_found}
use Rattle.order_text.proofs.question.question_in.Goals as goal

pub returns-in_err-text_at-clause-none : goal.returns-in_err-text_at-clause-none
returns-in_err-text_at-clause-none c = none_asked (view c.args.value.now) c.from_residual.result c.in_err-text_at.ensures

pub returns-in-market-clause-some : goal.returns-in-market-clause-some
returns-in-market-clause-some c = found_asked (view c.args.value.now) c.in_ok-text_at.field-0.now c.about_market.result c.in_ok-text_at.ensures (subst (λ t. FindsQuestion t (view c.args.value.now) c.about_market.result) (sym c.in-market.is) c.about_market.ensures)

pub returns-in-market-clause-none : goal.returns-in-market-clause-none
returns-in-market-clause-none c = none_found (view c.args.value.now) c.in_ok-text_at.field-0.now c.about_market.result c.in_ok-text_at.ensures (subst (λ t. FindsQuestion t (view c.args.value.now) c.about_market.result) (sym c.in-market.is) c.about_market.ensures)

pub returns-in-account-clause-some : goal.returns-in-account-clause-some
returns-in-account-clause-some c = found_asked (view c.args.value.now) c.in_ok-text_at.field-0.now c.about_account.result c.in_ok-text_at.ensures (subst (λ t. FindsQuestion t (view c.args.value.now) c.about_account.result) (sym c.in-account.is) c.about_account.ensures)

pub returns-in-account-clause-none : goal.returns-in-account-clause-none
returns-in-account-clause-none c = none_found (view c.args.value.now) c.in_ok-text_at.field-0.now c.about_account.result c.in_ok-text_at.ensures (subst (λ t. FindsQuestion t (view c.args.value.now) c.about_account.result) (sym c.in-account.is) c.about_account.ensures)

pub returns-in-exchange-clause-some : goal.returns-in-exchange-clause-some
returns-in-exchange-clause-some c = found_asked (view c.args.value.now) c.in_ok-text_at.field-0.now c.about_exchange.result c.in_ok-text_at.ensures (subst (λ t. FindsQuestion t (view c.args.value.now) c.about_exchange.result) (sym c.in-exchange.is) c.about_exchange.ensures)

pub returns-in-exchange-clause-none : goal.returns-in-exchange-clause-none
returns-in-exchange-clause-none c = none_found (view c.args.value.now) c.in_ok-text_at.field-0.now c.about_exchange.result c.in_ok-text_at.ensures (subst (λ t. FindsQuestion t (view c.args.value.now) c.about_exchange.result) (sym c.in-exchange.is) c.about_exchange.ensures)

pub returns-in_default-clause-none : goal.returns-in_default-clause-none
returns-in_default-clause-none c = other_asked (view c.args.value.now) c.in_ok-text_at.field-0.now c.in_ok-text_at.ensures c.in_default.not-market c.in_default.not-account c.in_default.not-exchange
