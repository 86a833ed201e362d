use Rattle.std.proofs.Common.{◌≡◌, ℕ, List, [], ◌++◌, sym, ap, ◌∙◌, refl}
use Rattle.std.proofs.lemmas.List.{append-nil}
use Rattle.wire_fields.specs.Numbers.{unsigned}
use Rattle.wire_fields.proofs.Encoding.{length-unsigned}
use Rattle.wire_records.specs.Refusals.{code_of}
use Rattle.wire_records.proofs.Encoded.{head_and_body}
use Rattle.wire_records.specs.declared.reply.Reply.{Reply}
use Rattle.wire_records.specs.declared.reply.Reply.TheVariants.{Done, Asset, Account, Order, Refused}
use Rattle.wire_records.specs.Records.{encoding}
use Rattle.wire_records.specs.Commands.{Plain}
use Rattle.journal_records.specs.Replies.{answer_record}
use Rattle.journal_records.specs.Bodies.{reply_tag, reply_body}
use Rattle.journal_records.proofs.FieldForms.{tag_of_reply, body_of_reply}
use Rattle.journal_records.proofs.plain.put_reply.Goals as goal

-- the record of a reply part by part is that of its fields
whole : (old : List ℕ) (r : Reply) → old ++ encoding (record { tag = reply_tag r; body = reply_body r }) ≡ old ++ encoding (answer_record (Plain r))
whole old r = ap (λ tag. old ++ encoding (record { tag = tag; body = reply_body r })) (sym (tag_of_reply r)) ∙ ap (λ body. old ++ encoding (record { tag = (answer_record (Plain r)).tag; body = body })) (sym (body_of_reply r))

pub returns-in-Done-clause-written : goal.returns-in-Done-clause-written
unfolding reply_body
returns-in-Done-clause-written c =
    rw c.in-Done.is
    (c.put_head.ensures.written ∙ sym (append-nil _) ∙ head_and_body c.args.out.now.items [] 128 0 refl ∙ whole c.args.out.now.items Done)

pub returns-in-Asset-clause-written : goal.returns-in-Asset-clause-written
unfolding reply_body
returns-in-Asset-clause-written c =
    let body = unsigned 2 c.in-Asset.asset in
    rw c.in-Asset.is
    (c.put_u16.ensures.written ∙ ap (λ xs. xs ++ body) c.put_head-in-Asset.ensures.written ∙ head_and_body c.args.out.now.items body 129 2 (sym (length-unsigned 2 _)) ∙ whole c.args.out.now.items (Asset c.in-Asset.asset))

pub returns-in-Account-clause-written : goal.returns-in-Account-clause-written
unfolding reply_body
returns-in-Account-clause-written c =
    let body = unsigned 4 c.in-Account.account in
    rw c.in-Account.is
    (c.put_u32.ensures.written ∙ ap (λ xs. xs ++ body) c.put_head-in-Account.ensures.written ∙ head_and_body c.args.out.now.items body 130 4 (sym (length-unsigned 4 _)) ∙ whole c.args.out.now.items (Account c.in-Account.account))

pub returns-in-Order-clause-written : goal.returns-in-Order-clause-written
unfolding reply_body
returns-in-Order-clause-written c =
    let body = unsigned 8 c.in-Order.order in
    rw c.in-Order.is
    (c.put_u64.ensures.written ∙ ap (λ xs. xs ++ body) c.put_head-in-Order.ensures.written ∙ head_and_body c.args.out.now.items body 131 8 (sym (length-unsigned 8 _)) ∙ whole c.args.out.now.items (Order c.in-Order.order))

pub returns-in-Refused-clause-written : goal.returns-in-Refused-clause-written
unfolding reply_body
returns-in-Refused-clause-written c =
    let body = unsigned 1 (code_of c.in-Refused.refusal) in
    rw c.in-Refused.is
    (c.put_u8.ensures.written ∙ ap (λ n. c.put_head-in-Refused.new.out.items ++ unsigned 1 n) c.code.ensures ∙ ap (λ xs. xs ++ body) c.put_head-in-Refused.ensures.written ∙ head_and_body c.args.out.now.items body 132 1 (sym (length-unsigned 1 _)) ∙ whole c.args.out.now.items (Refused c.in-Refused.refusal))
