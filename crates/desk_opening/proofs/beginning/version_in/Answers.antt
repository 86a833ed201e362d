use Rattle.std.proofs.Common.{Some, codes, arith}
use Rattle.std.proofs.lemmas.Bool.Decides.{Decides-eqb}
use Rattle.std.proofs.lemmas.Slice.Eq.{starts_is, strip_prefix_is}
use Rattle.desk_opening.proofs.FirstBytes.{line_found}
use Rattle.desk_opening.proofs.beginning.version_in.Goals as goal

pub returns-clause-some : goal.returns-clause-some
returns-clause-some c =
    line_found c.args.bytes.now c.in_ok-rest.rest.now c.in_ok-digit.rest.now c.in_ok-digit.digit.now c.in_ok-checked_sub.field-0 c.of_number.result
    (strip_prefix_is Decides-eqb c.args.bytes.now (codes "{\"version\":") (Some c.in_ok-rest.rest) c.in_ok-rest.ensures.cases)
    c.in_ok-digit.ensures.cases.0
    ((starts_is Decides-eqb c.in_ok-digit.rest.now (codes "}\n") c.starts_with.result c.starts_with.ensures.value).0 c.if-not-starts_with.false)
    (omega (arith, c.in_ok-checked_sub.ensures.0, c.in_ok-checked_sub.ensures.1))
    c.of_number.ensures
