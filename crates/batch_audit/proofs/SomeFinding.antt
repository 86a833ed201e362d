-- In a consistent market there is a finding on each entry.
use Rattle.std.proofs.Common.{⊎_elim, ◌≡◌, ℕ, zero, suc, ◌+◌, ◌≤◌, ℤ, pos, length, take, Result, Ok, Err, Option, Some, None, refl, sym, ap, subst, ◌∙◌, arith}
use Rattle.std.proofs.lemmas.List.{take_all}
use Rattle.std.specs.Prelude.{All}
use Rattle.wire_records.specs.Records.{Record}
use Rattle.wire_records.specs.Commands.{Command, Answer, Plain, Batch}
use Rattle.wire_records.specs.Versions.{IsReadAs}
use Rattle.wire_records.specs.declared.version.Version.{Version}
use Rattle.wire_records.specs.declared.command.BodyFault.{BodyFault}
use Rattle.wire_records.specs.declared.command.BodyFault.TheVariants.{UnknownTag, BadBody}
use Rattle.wire_records.specs.declared.reply.Reply.{Reply}
use Rattle.wire_records.specs.declared.reply.Reply.TheVariants.{Refused}
use Rattle.wire_records.specs.declared.reply.Refusal.{Refusal}
use Rattle.flow_orders.specs.Orders.{IsOrder}
use Rattle.flow_orders.specs.Outcomes.{Clearing, Skipping, Outcome, Cleared, Skipped, IsAdmissibleOutcome, IsLegalFrom, dual_of, end_of}
use Rattle.batch_certificate.specs.Verdicts.{IsVerdict}
use Rattle.batch_certificate.proofs.OneVerdict.{right_is_for_admissible_clearings}
use Rattle.batch_certificate.proofs.Judging.{each_has_a_verdict}
use Rattle.journal_records.specs.Replies.{EncodesAnswer}
use Rattle.market_rules.specs.Market.{Market, IsConsistent, parts_of, start_prices}
use Rattle.market_rules.specs.Step.{FirstRefusal, Serves, refusal_of}
use Rattle.market_rules.proofs.ByFirst.{Answers}
use Rattle.market_rules.proofs.LawProofs.{plain_by_any, batch_of}
use Rattle.market_rules.proofs.Exists.{plain_or_due}
use Rattle.batch_audit.specs.declared.finding.Finding.{Finding}
use Rattle.batch_audit.specs.declared.finding.Finding.TheVariants as finding
use Rattle.batch_audit.specs.Findings.{GetsReply, IsDue, HasWholeTrace, HasLegalTrace, EndsUnsettled, IsFinding}
use Rattle.batch_audit.specs.Laws.{EachHasAFinding}
use Rattle.batch_audit.proofs.Found.{gets_fault, reply_found, other_batch, right_batch, clearing_found, skip_found, plain_is_none}

-- each record has a reading
not_unread : (version : Version) (r : Record) → ((read : Result Command BodyFault) → ¬ IsReadAs version r read) → ⊥
not_unread version r none = none (Err UnknownTag) (λ tag. none (Err BadBody) (tag, λ c encodes. none (Ok c) (tag, encodes)))

module _ (m : Market) (pair : Record × Record) (consistent : IsConsistent m) (none : (f : Finding) → ¬ IsFinding m pair f) (a : Answer Outcome) (encoded : EncodesAnswer pair.1 a) where
  -- if a plain reply is got, the entry has it or another one
  no_reply : (r : Reply) → GetsReply m pair.0 r → ⊥
  no_reply r gets =
      none (finding.OtherReply r)
      (reply_found m pair a encoded r (finding.OtherReply r) gets (refl, λ same. none finding.Legal (reply_found m pair a encoded r finding.Legal gets same)))

  module _ (budget : ℕ) (due : IsDue m pair.0 budget) where
    -- a clearing is admissible, or has a part that isn't
    no_clearing : (c : Clearing) → EncodesAnswer pair.1 (Batch (m.batches + 1) (Cleared c)) → ⊥
    no_clearing c told =
        let orders : All IsOrder m.orders = λ k d inside. (consistent.live k d inside).order in
        let v = each_has_a_verdict m.orders (start_prices m) c orders in
        none (finding.Part v.0)
        (clearing_found m pair budget due c (finding.Part v.0) told
        (v.1, λ is. none finding.Legal (right_batch m pair budget due (Cleared c) told ((right_is_for_admissible_clearings m.orders (start_prices m) c).0 (subst (IsVerdict m.orders (start_prices m) c) is v.1)))))

    module _ (s : Skipping) (told : EncodesAnswer pair.1 (Batch (m.batches + 1) (Skipped s))) where
      -- a skip whose first moves are admissible, one by one
      legal_to : HasWholeTrace m.orders budget s → (k : ℕ) → k ≤ length s.trace → ¬ ¬ IsLegalFrom (parts_of m.version) m.orders (start_prices m) (take k s.trace)
      legal_to whole zero inside not = not tt
      legal_to whole (suc k) inside not =
          let one : suc k ≡ k + 1 = omega arith in
          legal_to whole k (omega (arith, inside))
          (λ before. none (finding.TraceStep k) (skip_found m pair budget due s (finding.TraceStep k) told
          (whole, record { inside = omega (arith, inside); before = before; refused = λ legal. not (subst (λ n. IsLegalFrom (parts_of m.version) m.orders (start_prices m) (take n s.trace)) (sym one) legal) })))

      -- a skip whose moves are all admissible has a finding
      no_walk : HasLegalTrace (parts_of m.version) m.orders (start_prices m) budget s → ⊥
      no_walk walked =
          let ends : EndsUnsettled (parts_of m.version) m.orders (start_prices m) budget s =
          record { walked = walked; unsettled = λ settled. none finding.AllSettled (skip_found m pair budget due s finding.AllSettled told (walked, settled)) } in
          let at_start = pos (dual_of m.orders (start_prices m)) in
          let at_end = pos (dual_of m.orders (end_of (parts_of m.version) m.orders (start_prices m) s.trace)) in
          none (finding.StartDual at_start) (skip_found m pair budget due s (finding.StartDual at_start) told (
            ends,
            record {
              right_is = refl;
              other = λ first. none (finding.EndDual at_end) (skip_found m pair budget due s (finding.EndDual at_end) told (
                record { ends = ends; start_dual = first },
                record {
                  right_is = refl;
                  other = λ last. none finding.Legal (right_batch m pair budget due (Skipped s) told (record {
                    wide = walked.whole.wide;
                    legal = walked.legal;
                    whole = walked.whole.whole;
                    unsettled = ends.unsettled;
                    duals = duals first last;
                  }));
                },
              ));
            },
          ))
        where
          duals : s.start_dual ≡ pos (dual_of m.orders (start_prices m)) → s.end_dual ≡ pos (dual_of m.orders (end_of (parts_of m.version) m.orders (start_prices m) s.trace))
              → s ≡ record { trace = s.trace; start_dual = pos (dual_of m.orders (start_prices m)); end_dual = pos (dual_of m.orders (end_of (parts_of m.version) m.orders (start_prices m) s.trace)) }
          duals first last =
              let skip : ℤ → ℤ → Skipping = λ x y. record { trace = s.trace; start_dual = x; end_dual = y } in
              ap (λ x. skip x s.end_dual) first ∙ ap (skip (pos (dual_of m.orders (start_prices m)))) last

      no_skip : ⊥
      no_skip =
          none finding.SingleBook (skip_found m pair budget due s finding.SingleBook told (λ wide.
          none finding.TraceLength (skip_found m pair budget due s finding.TraceLength told (
            wide,
            λ whole.
                let start : HasWholeTrace m.orders budget s = record { wide = wide; whole = whole } in
                legal_to start (length s.trace) (omega arith)
                (λ legal. no_walk (record { whole = start; legal = subst (IsLegalFrom (parts_of m.version) m.orders (start_prices m)) (take_all (length s.trace) s.trace (omega arith)) legal })),
          ))))

    no_outcome : (o : Outcome) → a ≡ Batch (m.batches + 1) o → ⊥
    no_outcome (Cleared c) is = no_clearing c (subst (EncodesAnswer pair.1) is encoded)
    no_outcome (Skipped s) is = no_skip s (subst (EncodesAnswer pair.1) is encoded)

    -- if a batch is due, the reply has an outcome or none
    no_batch : ⊥
    no_batch = none (finding.Batch (m.batches + 1)) (other_batch m pair budget due a (m.batches + 1) encoded refl no_outcome)

  -- a command gets a plain reply, or a batch is due
  no_command : (c : Command) → IsReadAs m.version pair.0 (Ok c) → (b : Answer Outcome) (n : Market) → Serves IsAdmissibleOutcome m c b n → ⊥
  no_command c read (Plain r) n serves = no_reply r (n, record { read = Ok c; encoded = read; served = serves })
  no_command c read (Batch k o) n serves =
      let held = batch_of IsAdmissibleOutcome m c k o n serves in
      no_batch held.budget (record {
        asks = subst (λ d. IsReadAs m.version pair.0 (Ok d)) held.command_is read;
        allowed = subst (λ d. FirstRefusal m d None) held.command_is (allowed serves.first serves.refused serves.answered);
      })
    where
      allowed : (first : Option Refusal) → FirstRefusal m c first → Answers IsAdmissibleOutcome m c first (Batch k o) n → FirstRefusal m c None
      allowed (Some r) refused answers = absurd (plain_is_none (Refused r) k o (sym answers.0))
      allowed None refused answers = refused

  no_read : (read : Result Command BodyFault) → IsReadAs m.version pair.0 read → ⊥
  no_read (Err why) read = no_reply (Refused (refusal_of why)) (gets_fault m pair.0 why (refusal_of why) read refl)
  no_read (Ok c) read =
      ⊎_elim
      (λ plain. no_command c read plain.0 plain.1 (plain_by_any IsAdmissibleOutcome m c plain.0 plain.1 plain.2))
      (λ due. no_batch due.0 (record {
        asks = subst (λ d. IsReadAs m.version pair.0 (Ok d)) due.1 read;
        allowed = subst (λ d. FirstRefusal m d None) due.1 due.2;
      }))
      (plain_or_due m c)

pub each_has_a_finding : EachHasAFinding
each_has_a_finding m pair consistent none =
    none finding.NoReply (λ a encoded. not_unread m.version pair.0 (no_read m pair consistent none a encoded))
