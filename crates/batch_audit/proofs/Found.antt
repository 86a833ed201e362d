-- The finding on an entry, by what its records encode.
use Rattle.std.proofs.Common.{◌≡◌, ◌↔◌, ℕ, ◌+◌, ◌<◌, ℤ, pos, false, List, length, Some, None, Ok, Err, refl, sym, ap, subst, ◌∙◌}
use Rattle.std.specs.Prelude.{◌≢◌}
use Rattle.wire_records.specs.Records.{Record}
use Rattle.wire_records.specs.Commands.{Command, RunBatch, Answer, Plain, Batch}
use Rattle.wire_records.specs.Versions.{IsReadAs}
use Rattle.wire_records.specs.declared.command.BodyFault.{BodyFault}
use Rattle.wire_records.specs.declared.reply.Reply.{Reply}
use Rattle.wire_records.specs.declared.reply.Reply.TheVariants.{Refused}
use Rattle.wire_records.specs.declared.reply.Refusal.{Refusal}
use Rattle.flow_orders.specs.Orders.{Order}
use Rattle.flow_orders.specs.Excess.{is_unsettled}
use Rattle.flow_orders.specs.Walks.{AreSettled}
use Rattle.flow_orders.specs.Outcomes.{Clearing, Skipping, Outcome, Cleared, Skipped, IsAdmissibleOutcome, IsAdmissibleSkip, dual_of, end_of, IsLegalFrom, EndsSettled}
use Rattle.flow_orders.proofs.Moving.{has_walked}
use Rattle.price_moves.proofs.MadeAgain.{illegal_whole}
use Rattle.journal_records.specs.Replies.{EncodesAnswer}
use Rattle.market_rules.specs.Market.{Market, parts_of, search_of, start_prices}
use Rattle.market_rules.specs.Step.{FirstRefusal, refusal_of, after_batch}
use Rattle.market_rules.proofs.LawProofs.{plain_by_any}
use Rattle.market_core.specs.Expected.{IsExpected}
use Rattle.batch_audit.specs.declared.finding.Finding.{Finding}
use Rattle.batch_audit.specs.declared.finding.Finding.TheVariants as finding
use Rattle.batch_audit.specs.Findings.{GetsReply, IsDue, TellsSkip, HasWholeTrace, HasLegalTrace, EndsUnsettled, IsOtherDual, IsFinding}
use Rattle.batch_audit.specs.Private.{IsReplyFound, IsClearingFound, IsSkipFound, IsFoundWhere}

-- ---- the reply that a record gets

-- a record that can't be served gets its refusal
pub gets_fault : (m : Market) (asked : Record) (why : BodyFault) (refusal : Refusal) → IsReadAs m.version asked (Err why) → refusal ≡ refusal_of why → GetsReply m asked (Refused refusal)
gets_fault m asked why refusal read is = (m, record { read = Err why; encoded = read; served = (ap (λ r. Plain (Refused r)) is, refl) })

-- a batch that is refused gets its refusal
pub gets_refusal : (m : Market) (asked : Record) (budget : ℕ) (refusal : Refusal) → IsReadAs m.version asked (Ok (RunBatch budget)) → FirstRefusal m (RunBatch budget) (Some refusal)
    → GetsReply m asked (Refused refusal)
gets_refusal m asked budget refusal read first =
    (m, record { read = Ok (RunBatch budget); encoded = read; served = record { first = Some refusal; refused = first; answered = (refl, refl) } })

-- a command that holds no batch gets the expected reply
pub gets_expected : (m : Market) (asked : Record) (c : Command) (reply : Reply) → ((budget : ℕ) → ¬ (c ≡ RunBatch budget)) → IsReadAs m.version asked (Ok c) → IsExpected m c reply
    → GetsReply m asked reply
gets_expected m asked c reply none read expected =
    (expected.0, record { read = Ok c; encoded = read; served = plain_by_any IsAdmissibleOutcome m c (Plain reply) expected.0 expected.1 })

-- ---- findings on an entry

-- the finding on an entry whose record gets a plain reply
pub reply_found : (m : Market) (pair : Record × Record) (answer : Answer Outcome) → EncodesAnswer pair.1 answer → (reply : Reply) (found : Finding) → GetsReply m pair.0 reply
    → IsReplyFound answer reply found → IsFinding m pair found
reply_found m pair answer encoded reply finding.NoReply gets is = absurd is
reply_found m pair answer encoded reply (finding.OtherReply right) gets is =
    record { answer = answer; encoded = encoded; gets = subst (GetsReply m pair.0) (sym is.0) gets; other = λ same. is.1 (same ∙ ap Plain is.0) }
reply_found m pair answer encoded reply (finding.Batch number) gets is = absurd is
reply_found m pair answer encoded reply (finding.Part verdict) gets is = absurd is
reply_found m pair answer encoded reply finding.SingleBook gets is = absurd is
reply_found m pair answer encoded reply finding.TraceLength gets is = absurd is
reply_found m pair answer encoded reply (finding.TraceStep place) gets is = absurd is
reply_found m pair answer encoded reply finding.AllSettled gets is = absurd is
reply_found m pair answer encoded reply (finding.StartDual right) gets is = absurd is
reply_found m pair answer encoded reply (finding.EndDual right) gets is = absurd is
reply_found m pair answer encoded reply finding.Legal gets is = (gets.0, record { answer = Plain reply; encoded = subst (EncodesAnswer pair.1) is encoded; step = gets.1 })

module _ (m : Market) (pair : Record × Record) (budget : ℕ) (due : IsDue m pair.0 budget) where
  -- a batch is due, and the reply has another answer
  pub other_batch : (answer : Answer Outcome) (number : ℕ) → EncodesAnswer pair.1 answer → number ≡ m.batches + 1 → ((outcome : Outcome) → answer ≢ Batch number outcome)
      → IsFinding m pair (finding.Batch number)
  other_batch answer number encoded next other = record { answer = answer; encoded = encoded; budget = budget; due = due; next = next; other = other }

  -- an admissible outcome makes a valid entry
  pub right_batch : (outcome : Outcome) → EncodesAnswer pair.1 (Batch (m.batches + 1) outcome) → IsAdmissibleOutcome (search_of m.version) m.orders (start_prices m) budget outcome → IsFinding m pair finding.Legal
  right_batch outcome encoded right = (
    after_batch m outcome,
    record {
      answer = Batch (m.batches + 1) outcome;
      encoded = encoded;
      step = record { read = Ok (RunBatch budget); encoded = due.asks; served = record { first = None; refused = due.allowed; answered = (outcome, right, (refl, refl)) } };
    },
  )

  -- a clearing
  pub clearing_found : (c : Clearing) (found : Finding) → EncodesAnswer pair.1 (Batch (m.batches + 1) (Cleared c)) → IsClearingFound m.orders (start_prices m) c found → IsFinding m pair found
  clearing_found c finding.NoReply encoded is = absurd is
  clearing_found c (finding.OtherReply right) encoded is = absurd is
  clearing_found c (finding.Batch number) encoded is = absurd is
  clearing_found c (finding.Part verdict) encoded is = (record { clearing = c; encoded = encoded; budget = budget; due = due }, is.0, is.1)
  clearing_found c finding.SingleBook encoded is = absurd is
  clearing_found c finding.TraceLength encoded is = absurd is
  clearing_found c (finding.TraceStep place) encoded is = absurd is
  clearing_found c finding.AllSettled encoded is = absurd is
  clearing_found c (finding.StartDual right) encoded is = absurd is
  clearing_found c (finding.EndDual right) encoded is = absurd is
  clearing_found c finding.Legal encoded is = right_batch (Cleared c) encoded is

  -- a skip
  abbrev tells : (s : Skipping) → EncodesAnswer pair.1 (Batch (m.batches + 1) (Skipped s)) → TellsSkip m pair
  tells s encoded = record { skipping = s; encoded = encoded; budget = budget; due = due }

  pub skip_found : (s : Skipping) (found : Finding) → EncodesAnswer pair.1 (Batch (m.batches + 1) (Skipped s)) → IsSkipFound (parts_of m.version) m.orders (start_prices m) budget s found → IsFinding m pair found
  skip_found s finding.NoReply encoded is = absurd is
  skip_found s (finding.OtherReply right) encoded is = absurd is
  skip_found s (finding.Batch number) encoded is = absurd is
  skip_found s (finding.Part verdict) encoded is = absurd is
  skip_found s finding.SingleBook encoded is = (tells s encoded, is)
  skip_found s finding.TraceLength encoded is = (tells s encoded, is.0, is.1)
  skip_found s (finding.TraceStep place) encoded is = (tells s encoded, is.0, is.1)
  skip_found s finding.AllSettled encoded is = (tells s encoded, is.0, is.1)
  skip_found s (finding.StartDual right) encoded is = (tells s encoded, is.0, is.1)
  skip_found s (finding.EndDual right) encoded is = (tells s encoded, is.0, is.1)
  skip_found s finding.Legal encoded is = right_batch (Skipped s) encoded is

-- the finding on a clearing is that of every entry that has it
pub clearing_where : (m : Market) (budget number : ℕ) (c : Clearing) (found : Finding) → number ≡ m.batches + 1 → IsClearingFound m.orders (start_prices m) c found
    → IsFoundWhere m (λ asked. IsDue m asked budget) (Batch number (Cleared c)) found
clearing_where m budget number c found next holds pair due encoded =
    clearing_found m pair budget due c found (subst (λ n. EncodesAnswer pair.1 (Batch n (Cleared c))) next encoded) holds

pub skip_where : (m : Market) (budget number : ℕ) (s : Skipping) (found : Finding) → number ≡ m.batches + 1 → IsSkipFound (parts_of m.version) m.orders (start_prices m) budget s found
    → IsFoundWhere m (λ asked. IsDue m asked budget) (Batch number (Skipped s)) found
skip_where m budget number s found next holds pair due encoded =
    skip_found m pair budget due s found (subst (λ n. EncodesAnswer pair.1 (Batch n (Skipped s))) next encoded) holds

-- no plain reply is an outcome
pub plain_is_none : (reply : Reply) (k : ℕ) (outcome : Outcome) → Plain reply ≢ Batch k outcome
plain_is_none reply k outcome same = cc

-- ---- findings on a skip

module _ (parts : ℕ) (orders : List Order) (start : List ℤ) (budget : ℕ) (s : Skipping) where
  -- a skip is admissible exactly if the finding on it is `Legal`
  pub right_where : (found : Finding) → IsSkipFound parts orders start budget s found → (found ≡ finding.Legal) ↔ IsAdmissibleSkip parts orders start budget s
  right_where finding.NoReply is = absurd is
  right_where (finding.OtherReply right) is = absurd is
  right_where (finding.Batch number) is = absurd is
  right_where (finding.Part verdict) is = absurd is
  right_where finding.SingleBook is = ((λ same. absurd cc), (λ right. absurd (is right.wide)))
  right_where finding.TraceLength is = ((λ same. absurd cc), (λ right. absurd (is.1 right.whole)))
  right_where (finding.TraceStep place) is = ((λ same. absurd cc), (λ right. absurd (illegal_whole parts orders start s.trace place is.1 right.legal)))
  right_where finding.AllSettled is = ((λ same. absurd cc), (λ right. absurd (right.unsettled is.1)))
  right_where (finding.StartDual right) is = ((λ same. absurd cc), (λ all. absurd (is.1.other (ap (λ (t : Skipping). t.start_dual) all.duals ∙ sym is.1.right_is))))
  right_where (finding.EndDual right) is = ((λ same. absurd cc), (λ all. absurd (is.1.other (ap (λ (t : Skipping). t.end_dual) all.duals ∙ sym is.1.right_is))))
  right_where finding.Legal is = ((λ same. is), (λ right. refl))

  -- the walk of a skip was made again
  module _ (whole : HasWholeTrace orders budget s) (legal : IsLegalFrom parts orders start s.trace) (end : List ℤ) (ends : end ≡ end_of parts orders start s.trace) where
    -- there are as many prices at the end
    count : length end ≡ length start
    count = ap length ends ∙ (has_walked parts orders (length start) start s.trace refl legal).count

    -- all assets are settled at the end
    settles : AreSettled (length end) (is_unsettled orders) end → EndsSettled parts orders start s.trace
    settles all asset inside = subst (λ p. is_unsettled orders p asset ≡ false) ends (all asset (subst (λ n. asset < n) (sym count) inside))

    settled : EndsSettled parts orders start s.trace → AreSettled (length end) (is_unsettled orders) end
    settled all asset inside = subst (λ p. is_unsettled orders p asset ≡ false) (sym ends) (all asset (subst (λ n. asset < n) count inside))

    walked : HasLegalTrace parts orders start budget s
    walked = record { whole = whole; legal = legal }

    -- all assets are settled
    pub settled_found : AreSettled (length end) (is_unsettled orders) end → IsSkipFound parts orders start budget s finding.AllSettled
    settled_found all = (walked, settles all)

    module _ (unsettled : ¬ AreSettled (length end) (is_unsettled orders) end) where
      ends_unsettled : EndsUnsettled parts orders start budget s
      ends_unsettled = record { walked = walked; unsettled = λ all. unsettled (settled all) }

      -- the dual value at the start is another one
      pub start_found : (right : ℤ) → IsOtherDual orders start s.start_dual right → IsSkipFound parts orders start budget s (finding.StartDual right)
      start_found right other = (ends_unsettled, other)

      module _ (first : s.start_dual ≡ pos (dual_of orders start)) where
        -- the dual value at the end is another one
        pub end_found : (right : ℤ) → IsOtherDual orders end s.end_dual right → IsSkipFound parts orders start budget s (finding.EndDual right)
        end_found right other = (record { ends = ends_unsettled; start_dual = first }, subst (λ p. IsOtherDual orders p s.end_dual right) ends other)

        -- neither dual value is another one
        pub right_found : s.end_dual ≡ pos (dual_of orders end) → IsSkipFound parts orders start budget s finding.Legal
        right_found last =
            let told : ℤ → ℤ → Skipping = λ a b. record { trace = s.trace; start_dual = a; end_dual = b } in
            record {
              wide = whole.wide;
              legal = legal;
              whole = whole.whole;
              unsettled = λ all. unsettled (settled all);
              duals = ap (λ d. told d s.end_dual) first ∙ ap (told (pos (dual_of orders start))) (last ∙ ap (λ p. pos (dual_of orders p)) ends);
            }
