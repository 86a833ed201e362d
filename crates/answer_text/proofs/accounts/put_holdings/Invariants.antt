use Rattle.std.proofs.Common.{◌≡◌, ◌++◌}
use Rattle.answer_text.specs.Texts.{listed}
use Rattle.answer_text.specs.Accounts.{holding_member}
use Rattle.answer_text.proofs.accounts.put_holdings.Given as goal

abbrev pub invariant-loop-asset : goal.invariant-loop-asset
invariant-loop-asset l = (l.out.before ≡ l.fn.out.before) × (l.out.text ≡ l.fn.out.text ++ listed (holding_member l.tickers l.accounts l.book.orders l.account) l.asset)
