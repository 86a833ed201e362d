use Rattle.std.proofs.Common.{◌∙◌, sym, refl, inl, inr}
use Rattle.std.proofs.lemmas.Bool.{false≢true}
use Rattle.wire_records.specs.Reading as reading
use Rattle.session_resume.proofs.resume.no_pair.Goals as goal

pub returns-then-is_overlong-clause-ends : goal.returns-then-is_overlong-clause-ends
returns-then-is_overlong-clause-ends c = (reading.Torn c.args.place, (refl, inl (c.is_overlong.ensures.0 c.if-is_overlong.true)), refl)

pub returns-then-more-clause-ends : goal.returns-then-more-clause-ends
returns-then-more-clause-ends c = (reading.TooLong, (λ over. false≢true (sym c.if-is_overlong.false ∙ c.is_overlong.ensures.1 over), c.if-more.true), refl)

pub returns-clause-ends : goal.returns-clause-ends
returns-clause-ends c = (reading.Torn c.args.place, (refl, inr (λ m. false≢true (sym c.if-more.false ∙ m), c.requires.some)), refl)
