use Rattle.std.proofs.Common.{◌≡◌, ℕ, List, length, sym, subst, ap, ◌∙◌, arith, refl}
use Rattle.std.specs.Prelude.{Result}
use Rattle.std.proofs.lemmas.List.{nil_from_length}
use Rattle.std.proofs.lemmas.Bool.Decides.{nat_tests}
use Rattle.wire_records.specs.Bodies.{body_encoding}
use Rattle.wire_records.specs.Commands.{Command, AddAsset, OpenAccount}
use Rattle.wire_records.specs.CommandRecords.{IsRead}
use Rattle.wire_records.specs.Records.{Record}
use Rattle.wire_records.specs.declared.command.BodyFault.{BodyFault}
use Rattle.wire_records.proofs.Readings.{bad_body, from_body}
use Rattle.wire_records.proofs.record.RecordView.command.Goals as goal
use Rattle.wire_records.proofs.record.RecordView.command.Goals.{in-1+else-body-eq8, in-2+else-is_empty}

-- a record is read as what its tag and its body are read as
read_at : (r : Record) (tag : ℕ) (body : List ℕ) (read : Result Command BodyFault) → r.tag ≡ tag → r.body ≡ body → IsRead (record { tag = tag; body = body }) read → IsRead r read
read_at r tag body read tagged is_body found =
    subst (λ t. IsRead (record { tag = t; body = r.body }) read) (sym tagged) (subst (λ b. IsRead (record { tag = tag; body = b }) read) (sym is_body) found)

pub returns-in-1 : goal.returns-in-1
unfolding body_encoding
returns-in-1 c = from_body (AddAsset c.body-body.result.now) c.args.self.now (c.if-body-eq8.true, rw c.body-body.ensures.value c.body-body.ensures.bytes) (omega arith) (sym c.body-body.ensures.value)

pub returns-in-2 : goal.returns-in-2
unfolding body_encoding
returns-in-2 c =
    let empty : length c.body-body.result.now ≡ 0 = grind (arith, nat_tests) in
    from_body OpenAccount c.args.self.now tt (omega arith) (sym c.body-body.ensures.value ∙ nil_from_length c.body-body.result.now empty)

pub returns-in-7 : goal.returns-in-7
returns-in-7 c = read_at c.args.self.now 7 _ _ (omega arith) (sym c.body-body.ensures.value) c.order_command.ensures

pub returns-in-9 : goal.returns-in-9
returns-in-9 c = read_at c.args.self.now 9 _ _ (omega arith) (sym c.body-body.ensures.value) c.batch_command.ensures

pub returns-in-10 : goal.returns-in-10
returns-in-10 c = read_at c.args.self.now 10 _ _ (omega arith) (sym c.body-body.ensures.value) c.until_command.ensures

pub returns-in-3 : goal.returns-in-3
returns-in-3 c = read_at c.args.self.now c.tag.result _ _ (omega arith) (sym c.body-body.ensures.value) c.account_command.ensures

pub returns-in-4 : goal.returns-in-4
returns-in-4 c = read_at c.args.self.now c.tag.result _ _ (omega arith) (sym c.body-body.ensures.value) c.asset_command.ensures

pub returns-in-1-2 : goal.returns-in-1-2
returns-in-1-2 c =
    elim c.in-1-2-1.branch [
      | in-1+else-body-eq8 w ↦
          bad_body c.args.self.now 1 8 (omega arith) (omega arith, omega arith) (omega arith) (omega arith) refl (λ e. w.if-body-eq8.false (ap length c.body-body.ensures.value ∙ e))
      | in-2+else-is_empty w ↦
          bad_body c.args.self.now 2 0 (omega arith) (omega arith, omega arith) (omega arith) (omega arith) refl (λ e. let empty : length c.body-body.result.now ≡ 0 = ap length c.body-body.ensures.value ∙ e in absurd (grind (arith, nat_tests, w.is_empty.ensures)))
    ]
