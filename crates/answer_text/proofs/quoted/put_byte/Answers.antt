use Rattle.std.proofs.Common.{◌++◌, ap, sym, ◌∙◌}
use Rattle.pair_text.proofs.Joining.{joined, on_ok}
use Rattle.answer_text.proofs.Escaping.{quote_escaped, backslash_escaped, low_escaped, plain_escaped}
use Rattle.answer_text.proofs.quoted.put_byte.Goals as goal

pub returns-then-byte-eq34-clause-put : goal.returns-then-byte-eq34-clause-put
returns-then-byte-eq34-clause-put c = on_ok c.put.result (λ is. is ∙ ap (λ t. c.args.out.now.text ++ t) (sym (quote_escaped c.args.byte c.if-byte-eq34.true))) c.put.ensures.put

pub returns-then-byte-eq92-clause-put : goal.returns-then-byte-eq92-clause-put
returns-then-byte-eq92-clause-put c = on_ok c.put-then-byte-eq92.result (λ is. is ∙ ap (λ t. c.args.out.now.text ++ t) (sym (backslash_escaped c.args.byte c.if-byte-eq92.true))) c.put-then-byte-eq92.ensures.put

pub returns-then-byte-lt32-clause-put : goal.returns-then-byte-lt32-clause-put
returns-then-byte-lt32-clause-put c =
    on_ok c.put-then-byte-lt32-2.result
    (λ is. joined c.args.out.now.text _ _ _ _ c.in_ok-put.ensures.put (rw (c.hex_digit.ensures, c.hex_digit-then-byte-lt32.ensures) at is)
    ∙ ap (λ t. c.args.out.now.text ++ t) (sym (low_escaped c.args.byte c.if-byte-eq34.false c.if-byte-eq92.false c.if-byte-lt32.true))) c.put-then-byte-lt32-2.ensures.put

pub returns-clause-put : goal.returns-clause-put
returns-clause-put c =
    on_ok c.put-2.result (λ is. is ∙ ap (λ t. c.args.out.now.text ++ t) (sym (plain_escaped c.args.byte c.if-byte-eq34.false c.if-byte-eq92.false c.if-byte-lt32.false))) c.put-2.ensures.put
