use Rattle.std.proofs.Common.{refl, arith}
use Rattle.std.proofs.lemmas.List.{get_or_default}
use Rattle.journal_records.proofs.numbers_view.as_bytes.Goals as goal

pub returns-clause-value : goal.returns-clause-value
returns-clause-value c = refl

pub returns-clause-bytes : goal.returns-clause-bytes
returns-clause-bytes c = λ k d inside. omega (arith, get_or_default c.args.bytes.now k d 0 inside, c.type_inv.bytes k)
