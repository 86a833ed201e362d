use Rattle.answer_text.proofs.commands.put_command.Goals as goal

pub returns-in-DepositMoney-clause-put : goal.returns-in-DepositMoney-clause-put
returns-in-DepositMoney-clause-put c = rw c.in-DepositMoney.is c.put_money.ensures.put

pub returns-in-DepositAsset-clause-put : goal.returns-in-DepositAsset-clause-put
returns-in-DepositAsset-clause-put c = rw c.in-DepositAsset.is c.put_units.ensures.put

pub returns-in-PlaceUntil-clause-put : goal.returns-in-PlaceUntil-clause-put
returns-in-PlaceUntil-clause-put c = rw c.in-PlaceUntil.is c.put_place-in-PlaceUntil.ensures.put

pub returns-in-RunBatch-clause-put : goal.returns-in-RunBatch-clause-put
returns-in-RunBatch-clause-put c = rw c.in-RunBatch.is c.put_number.ensures.put

pub returns-in-SetMoneyCredit-clause-put : goal.returns-in-SetMoneyCredit-clause-put
returns-in-SetMoneyCredit-clause-put c = rw c.in-SetMoneyCredit.is c.put_money-in-SetMoneyCredit.ensures.put

pub returns-in-SetUnitCredit-clause-put : goal.returns-in-SetUnitCredit-clause-put
returns-in-SetUnitCredit-clause-put c = rw c.in-SetUnitCredit.is c.put_units-in-SetUnitCredit.ensures.put
