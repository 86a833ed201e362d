use Rattle.std.proofs.Common.{true≢false, sym, ◌∙◌}
use Rattle.serde_json.specs.View.{view}
use Rattle.order_text.proofs.Questions.{no_account}
use Rattle.order_text.proofs.question.about_account.Goals as goal

pub returns-in_err-account : goal.returns-in_err-account
returns-in_err-account c =
    no_account (view c.args.value.now) c.from_residual.result c.from_residual.ensures (λ one. true≢false (sym (c.has_keys.ensures.1 one) ∙ c.if-has_keys.false)) c.in_err-account.ensures.none
