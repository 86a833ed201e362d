use Rattle.std.proofs.Common.{◌≡◌, List, ℕ, inl, inr, refl, sym, subst, drop, arith}
use Rattle.canonical_journals.proofs.LawProofs.{steps_number_one}
use Rattle.exchange_session.specs.Serving.{AnswersOne}
use Rattle.exchange_session.proofs.Frames.{few_room, record_within, no_prefix-from_none, not_overlong-from_none, no_prefix-from_large, not_overlong-from_stated}
use Rattle.exchange_session.proofs.session.Session.serve_next.Goals as goal

pub serve-requires : goal.serve-requires
serve-requires c =
    let within = record_within c.args.bytes.now c.in-Whole.asked c.in-Whole.taken c.in-Whole.ensures.1 c.in-Whole.ensures.2 in
    record { short = c.in-Whole.ensures.0; next = omega (arith, within.0, within.1, c.requires.ready.1, c.requires.ready.2) }

pub returns-in-Ok-clause-taken : goal.returns-in-Ok-clause-taken
returns-in-Ok-clause-taken c =
    let served = c.in-Ok.ensures.served in
    let text : c.serve.new.out.items ≡ served.0 = rw c.requires.empty at served.2 in
    record {
      unit = c.in-Whole.asked;
      lawful = c.in-Whole.ensures.0;
      size = c.in-Whole.ensures.1;
      some = omega (arith, (record_within c.args.bytes.now c.in-Whole.asked c.in-Whole.taken c.in-Whole.ensures.1 c.in-Whole.ensures.2).1);
      prefix = c.in-Whole.ensures.2;
      step = subst (λ (x : List ℕ). AnswersOne c.args.self.now c.in-Whole.asked c.serve.new.self x) (sym text) served.1;
    }

pub returns-in-Ok-clause-stays : goal.returns-in-Ok-clause-stays
returns-in-Ok-clause-stays c = λ left inside ready.
    let within = record_within c.args.bytes.now c.in-Whole.asked c.in-Whole.taken c.in-Whole.ensures.1 c.in-Whole.ensures.2 in
    let step = c.in-Ok.ensures.served.1 in
    omega (arith, within.0, within.1, inside, ready, steps_number_one c.args.self.now c.in-Whole.asked step.answer c.serve.new.self step.step)

pub returns-in-Err-clause-wanted : goal.returns-in-Err-clause-wanted
returns-in-Err-clause-wanted c = record {
  asked = c.in-Whole.asked;
  rest = drop c.in-Whole.taken c.args.bytes.now;
  lawful = c.in-Whole.ensures.0;
  prefix = c.in-Whole.ensures.2;
  allocates = elim c.in-Err.ensures.wanted [ inl short ↦ inl (few_room c.in-Whole.asked _ _ c.in-Whole.ensures.0 short) | inr allocates ↦ inr allocates ];
}

pub returns-in-End-clause-taken : goal.returns-in-End-clause-taken
returns-in-End-clause-taken c =
    let none = c.in-End.ensures in
    (record { none = no_prefix-from_none c.args.bytes.now none; state = refl; output = c.requires.empty }, none, not_overlong-from_none c.args.bytes.now none)

pub returns-in-TooLarge-clause-taken : goal.returns-in-TooLarge-clause-taken
returns-in-TooLarge-clause-taken c =
    let large = c.in-TooLarge.ensures in
    (record { none = no_prefix-from_large c.in-TooLarge.field-0 c.args.bytes.now large.0 large.1; state = refl; output = c.requires.empty }, (c.in-TooLarge.field-0, large.0, large.1))

pub returns-in-Short-clause-taken : goal.returns-in-Short-clause-taken
returns-in-Short-clause-taken c =
    let short = c.in-Short.ensures in
    (record { none = short.1; state = refl; output = c.requires.empty }, short.0, not_overlong-from_stated c.args.bytes.now short.2)
