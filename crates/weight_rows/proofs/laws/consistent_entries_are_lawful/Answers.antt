use Rattle.weight_rows.proofs.FaultLemmas.{consistent_entries_are_lawful}
use Rattle.weight_rows.proofs.laws.consistent_entries_are_lawful.Goals as goal

pub returns : goal.returns
returns c = consistent_entries_are_lawful
