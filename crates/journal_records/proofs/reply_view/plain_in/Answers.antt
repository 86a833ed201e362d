use Rattle.std.proofs.Common.{◌≡◌, length, ap, sym, ◌∙◌, subst, arith}
use Rattle.std.proofs.lemmas.List.{nil_from_length}
use Rattle.std.proofs.lemmas.Bool.Decides.{nat_tests}
use Rattle.wire_fields.specs.Numbers.{unsigned}
use Rattle.journal_records.specs.Bodies.{reply_body}
use Rattle.journal_records.specs.Private.{EncodesNoReply}
use Rattle.journal_records.proofs.Reading.{size_of, no_reply_of_size, no_reply_of_code}
use Rattle.journal_records.proofs.reply_view.plain_in.Goals as goal

pub returns-in_err-u16_in-in-129-clause-none : goal.returns-in_err-u16_in-in-129-clause-none
returns-in_err-u16_in-in-129-clause-none c =
    let tag : c.args.tag ≡ 129 = omega arith in
    rw c.from_residual.ensures (no_reply_of_size c.args.tag c.args.body.now (λ e. c.in_err-u16_in-in-129.ensures.other (e ∙ ap size_of tag)))

pub returns-in_err-u32_in-in-130-clause-none : goal.returns-in_err-u32_in-in-130-clause-none
returns-in_err-u32_in-in-130-clause-none c =
    let tag : c.args.tag ≡ 130 = omega arith in
    rw c.from_residual-in_err-u32_in-in-130.ensures (no_reply_of_size c.args.tag c.args.body.now (λ e. c.in_err-u32_in-in-130.ensures.other (e ∙ ap size_of tag)))

pub returns-in_err-u64_in-in-131-clause-none : goal.returns-in_err-u64_in-in-131-clause-none
returns-in_err-u64_in-in-131-clause-none c =
    let tag : c.args.tag ≡ 131 = omega arith in
    rw c.from_residual-in_err-u64_in-in-131.ensures (no_reply_of_size c.args.tag c.args.body.now (λ e. c.in_err-u64_in-in-131.ensures.other (e ∙ ap size_of tag)))

pub returns-in_err-u8_in-in-132-clause-none : goal.returns-in_err-u8_in-in-132-clause-none
returns-in_err-u8_in-in-132-clause-none c =
    let tag : c.args.tag ≡ 132 = omega arith in
    rw c.from_residual-in_err-u8_in-in-132.ensures (no_reply_of_size c.args.tag c.args.body.now (λ e. c.in_err-u8_in-in-132.ensures.other (e ∙ ap size_of tag)))

pub returns-in_err-of_code-in-132-clause-none : goal.returns-in_err-of_code-in-132-clause-none
returns-in_err-of_code-in-132-clause-none c =
    let tag : c.args.tag ≡ 132 = omega arith in
    let code = c.in_ok-u8_in-in-132 in
    rw c.from_residual-in_err-of_code-in-132.ensures
    (subst (λ t. EncodesNoReply t c.args.body.now) (sym tag) (no_reply_of_code c.args.body.now code.field-0 code.ensures.fits code.ensures.encoded c.in_err-of_code-in-132.ensures.none))

pub returns-in-128-clause-found : goal.returns-in-128-clause-found
unfolding reply_body
returns-in-128-clause-found c =
    let empty : length c.args.body.now ≡ 0 = grind (arith, nat_tests) in
    record { fits = tt; tag_is = omega arith; encoded = nil_from_length c.args.body.now empty }

pub returns-in-128-2-clause-none : goal.returns-in-128-2-clause-none
returns-in-128-2-clause-none c =
    let tag : c.args.tag ≡ 128 = omega arith in
    no_reply_of_size c.args.tag c.args.body.now (λ e. let empty : length c.args.body.now ≡ 0 = e ∙ ap size_of tag in absurd (grind (arith, nat_tests)))

pub returns-in_ok-u16_in-in-129-clause-found : goal.returns-in_ok-u16_in-in-129-clause-found
unfolding reply_body
returns-in_ok-u16_in-in-129-clause-found c =
    let found = c.in_ok-u16_in-in-129.ensures in
    record { fits = found.fits; tag_is = omega arith; encoded = found.encoded }

pub returns-in_ok-u32_in-in-130-clause-found : goal.returns-in_ok-u32_in-in-130-clause-found
unfolding reply_body
returns-in_ok-u32_in-in-130-clause-found c =
    let found = c.in_ok-u32_in-in-130.ensures in
    record { fits = found.fits; tag_is = omega arith; encoded = found.encoded }

pub returns-in_ok-u64_in-in-131-clause-found : goal.returns-in_ok-u64_in-in-131-clause-found
unfolding reply_body
returns-in_ok-u64_in-in-131-clause-found c =
    let found = c.in_ok-u64_in-in-131.ensures in
    record { fits = found.fits; tag_is = omega arith; encoded = found.encoded }

pub returns-in_ok-of_code-in-132-clause-found : goal.returns-in_ok-of_code-in-132-clause-found
unfolding reply_body
returns-in_ok-of_code-in-132-clause-found c =
    record {
      fits = tt;
      tag_is = omega arith;
      encoded = c.in_ok-u8_in-in-132.ensures.encoded ∙ ap (unsigned 1) (sym c.in_ok-of_code-in-132.ensures.found);
    }
