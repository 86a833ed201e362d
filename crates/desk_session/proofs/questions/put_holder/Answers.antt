use Rattle.desk_session.proofs.questions.put_holder.Goals as goal

pub returns-clause-put : goal.returns-clause-put
returns-clause-put c = rw (c.tickers.ensures.value, c.accounts.ensures.value, c.book.ensures.orders) at c.put_account.ensures.put
