use Rattle.exchange_session.specs.Serving.{IsToldOf}
use Rattle.exchange_session.specs.declared.session.Served.TheVariants as variants
use Rattle.exchange_session.proofs.Written.{answer_there, place_within}
use Rattle.exchange_session.proofs.session.Served.reply.Goals as goal

pub slice_bounds-of-count : goal.slice_bounds-of-count
slice_bounds-of-count c =
    let told : IsToldOf c.requires.0 (variants.Batch c.in-Batch.place) = rw c.in-Batch.is at c.requires.3 in
    place_within c.requires.0 c.args.entry.now c.in-Batch.place c.requires.2 told.3

pub slice_bounds-of-start : goal.slice_bounds-of-start
slice_bounds-of-start c =
    let told : IsToldOf c.requires.0 (variants.Batch c.in-Batch.place) = rw c.in-Batch.is at c.requires.3 in
    place_within c.requires.0 c.args.entry.now c.in-Batch.place c.requires.2 told.3

pub of-requires : goal.of-requires
of-requires c =
    let told : IsToldOf c.requires.0 (variants.Batch c.in-Batch.place) = rw c.in-Batch.is at c.requires.3 in
    (c.requires.0.answer, answer_there c.requires.0 c.args.entry.now c.in-Batch.place c.requires.1 c.requires.2 told.3)

pub returns-in-Batch : goal.returns-in-Batch
returns-in-Batch c = λ pair fits is told_of.
    let told : IsToldOf pair (variants.Batch c.in-Batch.place) = rw c.in-Batch.is at told_of in
    c.of.ensures pair.answer (answer_there pair c.args.entry.now c.in-Batch.place fits is told.3)
