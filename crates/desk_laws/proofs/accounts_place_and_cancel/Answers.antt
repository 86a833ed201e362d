use Rattle.desk_laws.proofs.Owned.{accounts_place_and_cancel}
use Rattle.desk_laws.proofs.accounts_place_and_cancel.Goals as goal

pub returns : goal.returns
returns c = accounts_place_and_cancel
