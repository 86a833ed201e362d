-- There is at most one finding on an entry.
use Rattle.std.proofs.Common.{◌≡◌, ℕ, zero, suc, ◌+◌, ◌<◌, ◌≤◌, ℤ, pos, List, [], ◌∷◌, length, take, ◌⊎◌, inl, inr, ⊎_elim, Option, Some, None, Result, Ok, Err, refl, sym, ap, subst, ◌∙◌, arith}
use Rattle.std.specs.Prelude.{◌≢◌}
use Rattle.std.proofs.lemmas.Bool.{cases_lt}
use Rattle.wire_records.specs.Records.{Record}
use Rattle.wire_records.specs.Commands.{Command, RunBatch, Answer, Plain, Batch}
use Rattle.wire_records.specs.Versions.{IsReadAs}
use Rattle.wire_records.specs.declared.command.BodyFault.{BodyFault}
use Rattle.wire_records.specs.declared.reply.Reply.{Reply}
use Rattle.wire_records.specs.declared.reply.Reply.TheVariants.{Refused}
use Rattle.wire_records.specs.declared.reply.Refusal.{Refusal}
use Rattle.wire_records.proofs.Readings.{reading_unique}
use Rattle.flow_orders.specs.Orders.{Order}
use Rattle.flow_orders.specs.Excess.{is_unsettled}
use Rattle.flow_orders.specs.Walks.{IsLegal}
use Rattle.flow_orders.specs.Outcomes.{Clearing, Skipping, Outcome, Cleared, Skipped, IsAdmissibleOutcome, IsWide, IsLegalFrom, EndsSettled, step_of, dual_of, end_of}
use Rattle.price_moves.specs.Retracing.{IsFirstIllegal}
use Rattle.price_moves.proofs.MadeAgain.{illegal_whole}
use Rattle.batch_certificate.specs.declared.verdict.Verdict.{Verdict}
use Rattle.batch_certificate.specs.declared.verdict.Verdict.TheVariants.{Right}
use Rattle.batch_certificate.specs.Verdicts.{IsVerdict}
use Rattle.batch_certificate.proofs.OneVerdict.{one_verdict}
use Rattle.batch_certificate.proofs.Verdicts.{right_parts}
use Rattle.journal_records.specs.Replies.{EncodesAnswer}
use Rattle.journal_records.proofs.Encoded.{answer_unique}
use Rattle.market_rules.specs.Market.{Market, parts_of, search_of, start_prices}
use Rattle.market_rules.specs.Step.{FirstRefusal, Accepts, Serves, ServesRead, holds_batch}
use Rattle.market_rules.proofs.ByFirst.{Answers}
use Rattle.market_rules.specs.Journal.{Step}
use Rattle.market_rules.proofs.LawProofs.{plain_commands_have_one_answer, batch_of}
use Rattle.market_rules.proofs.OneStep.{one_first}
use Rattle.batch_audit.proofs.Served.{same_plain}
use Rattle.batch_audit.specs.declared.finding.Finding.{Finding}
use Rattle.batch_audit.specs.declared.finding.Finding.TheVariants as finding
use Rattle.batch_audit.specs.Findings.{GetsReply, IsDue, TellsClearing, TellsSkip, HasWholeTrace, HasLegalTrace, EndsUnsettled, IsOtherDual, IsFinding}
use Rattle.batch_audit.specs.Private.{IsReplyFound, IsClearingFound, IsSkipFound}
use Rattle.batch_audit.proofs.Found.{plain_is_none}
use Rattle.batch_audit.specs.Laws.{OneFinding, FindingsTellLegality}

-- ---- findings in order

-- at most one finding has the property
abbrev IsOne : (Finding → Type 0) → Type 0
IsOne V = (f g : Finding) → V f → V g → f ≡ g

-- what is found first, or what is found later if something else holds that the first excludes
one_of_two : (B : Type 0) (First Later : Finding → Type 0) → IsOne First → ((f : Finding) → First f → ¬ B) → IsOne Later → IsOne (λ f. First f ⊎ (B × Later f))
one_of_two B First Later one apart rest f g a b =
    elim a [
      | inl here ↦ elim b [ inl also ↦ one f g here also | inr there ↦ absurd (apart f here there.0) ]
      | inr there ↦ elim b [ inl here ↦ absurd (apart g here there.0) | inr also ↦ rest f g there.1 also.1 ]
    ]

-- a finding by its name
one_named : (A : Type 0) (named : Finding) → IsOne (λ f. A × (f ≡ named))
one_named A named f g a b = a.1 ∙ sym b.1

-- ---- a skip

-- a first part of an admissible walk is admissible
legal_less : (parts : ℕ) (orders : List Order) (n : ℕ) (p : List ℤ) (walk : List ℕ) (j k : ℕ) → j ≤ k → IsLegal n (is_unsettled orders) (step_of parts orders) p (take k walk)
    → IsLegal n (is_unsettled orders) (step_of parts orders) p (take j walk)
legal_less parts orders n p walk zero k within legal = tt
legal_less parts orders n p [] (suc j) k within legal = tt
legal_less parts orders n p (a ∷ walk) (suc j) zero within legal = absurd (omega (arith, within))
legal_less parts orders n p (a ∷ walk) (suc j) (suc k) within legal = (legal.0, legal.1, legal_less parts orders n (step_of parts orders p a) walk j k (omega (arith, within)) legal.2)

module _ (parts : ℕ) (orders : List Order) (start : List ℤ) (budget : ℕ) (s : Skipping) where
  -- the first place of a walk that isn't admissible isn't later than another such place
  not_later : (j k : ℕ) → IsFirstIllegal parts orders start s.trace j → IsFirstIllegal parts orders start s.trace k → j < k → ⊥
  not_later j k a b below = a.refused (legal_less parts orders (length start) start s.trace (j + 1) k (omega (arith, below)) b.before)

  one_place : (j k : ℕ) → IsFirstIllegal parts orders start s.trace j → IsFirstIllegal parts orders start s.trace k → j ≡ k
  one_place j k a b =
      ⊎_elim
      (λ below. absurd (not_later j k a b below))
      (λ not_below. ⊎_elim (λ above. absurd (not_later k j b a above)) (λ not_above. omega (arith, not_below, not_above)) (cases_lt k j))
      (cases_lt j k)

  -- the findings on a skip, in order
  abbrev Last : Finding → Type 0
  Last f = ((right : ℤ) × IsOtherDual orders (end_of parts orders start s.trace) s.end_dual right × (f ≡ finding.EndDual right)) ⊎ ((s.end_dual ≡ pos (dual_of orders (end_of parts orders start s.trace))) × (f ≡ finding.Legal))

  abbrev FromStartDual : Finding → Type 0
  FromStartDual f = ((right : ℤ) × IsOtherDual orders start s.start_dual right × (f ≡ finding.StartDual right)) ⊎ ((s.start_dual ≡ pos (dual_of orders start)) × Last f)

  abbrev FromEnd : Finding → Type 0
  FromEnd f = (EndsSettled parts orders start s.trace × (f ≡ finding.AllSettled)) ⊎ ((¬ EndsSettled parts orders start s.trace) × FromStartDual f)

  abbrev FromTrace : Finding → Type 0
  FromTrace f = ((place : ℕ) × IsFirstIllegal parts orders start s.trace place × (f ≡ finding.TraceStep place)) ⊎ (IsLegalFrom parts orders start s.trace × FromEnd f)

  abbrev FromLength : Finding → Type 0
  FromLength f = ((length s.trace ≢ budget) × (f ≡ finding.TraceLength)) ⊎ ((length s.trace ≡ budget) × FromTrace f)

  abbrev InLine : Finding → Type 0
  InLine f = ((¬ IsWide orders) × (f ≡ finding.SingleBook)) ⊎ (IsWide orders × FromLength f)

  one_dual : (prices : List ℤ) (told : ℤ) (named : ℤ → Finding) → IsOne (λ f. (right : ℤ) × IsOtherDual orders prices told right × (f ≡ named right))
  one_dual prices told named f g a b = a.2 ∙ ap named (a.1.right_is ∙ sym b.1.right_is) ∙ sym b.2

  other_dual : (prices : List ℤ) (told : ℤ) (named : ℤ → Finding) (f : Finding) → (right : ℤ) × IsOtherDual orders prices told right × (f ≡ named right) → ¬ (told ≡ pos (dual_of orders prices))
  other_dual prices told named f a same = a.1.other (same ∙ sym a.1.right_is)

  one_in_line : IsOne InLine
  one_in_line =
      one_of_two (IsWide orders) (λ f. (¬ IsWide orders) × (f ≡ finding.SingleBook)) FromLength (one_named (¬ IsWide orders) finding.SingleBook) (λ f a. a.0)
      (one_of_two (length s.trace ≡ budget) (λ f. (length s.trace ≢ budget) × (f ≡ finding.TraceLength)) FromTrace (one_named (length s.trace ≢ budget) finding.TraceLength) (λ f a. a.0)
      (one_of_two (IsLegalFrom parts orders start s.trace) (λ f. (place : ℕ) × IsFirstIllegal parts orders start s.trace place × (f ≡ finding.TraceStep place)) FromEnd
      (λ f g a b. a.2 ∙ ap finding.TraceStep (one_place a.0 b.0 a.1 b.1) ∙ sym b.2) (λ f a. illegal_whole parts orders start s.trace a.0 a.1)
      (one_of_two (¬ EndsSettled parts orders start s.trace) (λ f. EndsSettled parts orders start s.trace × (f ≡ finding.AllSettled)) FromStartDual (one_named (EndsSettled parts orders start s.trace) finding.AllSettled)
      (λ f a unsettled. unsettled a.0)
      (one_of_two (s.start_dual ≡ pos (dual_of orders start)) (λ f. (right : ℤ) × IsOtherDual orders start s.start_dual right × (f ≡ finding.StartDual right)) Last
      (one_dual start s.start_dual finding.StartDual) (other_dual start s.start_dual finding.StartDual)
      (one_of_two (s.end_dual ≡ pos (dual_of orders (end_of parts orders start s.trace)))
      (λ f. (right : ℤ) × IsOtherDual orders (end_of parts orders start s.trace) s.end_dual right × (f ≡ finding.EndDual right)) (λ f. f ≡ finding.Legal)
      (one_dual (end_of parts orders start s.trace) s.end_dual finding.EndDual) (other_dual (end_of parts orders start s.trace) s.end_dual finding.EndDual)
      (λ f g a b. a ∙ sym b))))))

  from_trace : (f : Finding) → HasWholeTrace orders budget s → FromTrace f → InLine f
  from_trace f whole later = inr (whole.wide, inr (whole.whole, later))

  from_end : (f : Finding) → HasLegalTrace parts orders start budget s → FromEnd f → InLine f
  from_end f walked later = from_trace f walked.whole (inr (walked.legal, later))

  from_start_dual : (f : Finding) → EndsUnsettled parts orders start budget s → FromStartDual f → InLine f
  from_start_dual f ends later = from_end f ends.walked (inr (ends.unsettled, later))

  in_line : (f : Finding) → IsSkipFound parts orders start budget s f → InLine f
  in_line finding.NoReply is = absurd is
  in_line (finding.OtherReply right) is = absurd is
  in_line (finding.Batch number) is = absurd is
  in_line (finding.Part verdict) is = absurd is
  in_line finding.SingleBook is = inl (is, refl)
  in_line finding.TraceLength is = inr (is.0, inl (is.1, refl))
  in_line (finding.TraceStep place) is = from_trace _ is.0 (inl (place, is.1, refl))
  in_line finding.AllSettled is = from_end _ is.0 (inl (is.1, refl))
  in_line (finding.StartDual right) is = from_start_dual _ is.0 (inl (right, is.1, refl))
  in_line (finding.EndDual right) is = from_start_dual _ is.0.ends (inr (is.0.start_dual, inl (right, is.1, refl)))
  in_line finding.Legal is =
      from_end _ (record { whole = record { wide = is.wide; whole = is.whole }; legal = is.legal })
      (inr (is.unsettled, inr (ap (λ (t : Skipping). t.start_dual) is.duals, inr (ap (λ (t : Skipping). t.end_dual) is.duals, refl))))

  one_skip : IsOne (IsSkipFound parts orders start budget s)
  one_skip f g a b = one_in_line f g (in_line f a) (in_line g b)

-- ---- a clearing

-- the finding by a verdict
abbrev found_by : Verdict → Finding → Type 0
found_by v f = ((v ≡ Right) × (f ≡ finding.Legal)) ⊎ ((v ≢ Right) × (f ≡ finding.Part v))

module _ (orders : List Order) (start : List ℤ) (c : Clearing) where
  by_verdict : (f : Finding) → IsClearingFound orders start c f → (v : Verdict) × IsVerdict orders start c v × found_by v f
  by_verdict finding.NoReply is = absurd is
  by_verdict (finding.OtherReply right) is = absurd is
  by_verdict (finding.Batch number) is = absurd is
  by_verdict (finding.Part verdict) is = (verdict, is.0, inr (is.1, refl))
  by_verdict finding.SingleBook is = absurd is
  by_verdict finding.TraceLength is = absurd is
  by_verdict (finding.TraceStep place) is = absurd is
  by_verdict finding.AllSettled is = absurd is
  by_verdict (finding.StartDual right) is = absurd is
  by_verdict (finding.EndDual right) is = absurd is
  by_verdict finding.Legal is = (Right, right_parts orders start c is, inl (refl, refl))

  one_clearing : IsOne (IsClearingFound orders start c)
  one_clearing f g a b =
      let x = by_verdict f a in
      let y = by_verdict g b in
      let same : x.0 ≡ y.0 = one_verdict orders start c x.0 y.0 x.1 y.1 in
      same_finding x.0 f g x.2 (subst (λ v. found_by v g) (sym same) y.2)
    where
      same_finding : (v : Verdict) → IsOne (found_by v)
      same_finding v f g a b =
          elim a [
            | inl here ↦ elim b [ inl also ↦ here.1 ∙ sym also.1 | inr there ↦ absurd (there.0 here.0) ]
            | inr there ↦ elim b [ inl here ↦ absurd (there.0 here.0) | inr also ↦ there.1 ∙ sym also.1 ]
          ]

-- ---- a reply

module _ (answer : Answer Outcome) (reply : Reply) where
  abbrev ByReply : Finding → Type 0
  ByReply f = ((answer ≡ Plain reply) × (f ≡ finding.Legal)) ⊎ ((answer ≢ Plain reply) × (f ≡ finding.OtherReply reply))

  by_reply : (f : Finding) → IsReplyFound answer reply f → ByReply f
  by_reply finding.NoReply is = absurd is
  by_reply (finding.OtherReply right) is = inr (is.1, ap finding.OtherReply is.0)
  by_reply (finding.Batch number) is = absurd is
  by_reply (finding.Part verdict) is = absurd is
  by_reply finding.SingleBook is = absurd is
  by_reply finding.TraceLength is = absurd is
  by_reply (finding.TraceStep place) is = absurd is
  by_reply finding.AllSettled is = absurd is
  by_reply (finding.StartDual right) is = absurd is
  by_reply (finding.EndDual right) is = absurd is
  by_reply finding.Legal is = inl (is, refl)

  one_by_reply : IsOne ByReply
  one_by_reply f g a b =
      elim a [
        | inl here ↦ elim b [ inl also ↦ here.1 ∙ sym also.1 | inr there ↦ absurd (there.0 here.0) ]
        | inr there ↦ elim b [ inl here ↦ absurd (there.0 here.0) | inr also ↦ there.1 ∙ sym also.1 ]
      ]

  one_reply_finding : IsOne (IsReplyFound answer reply)
  one_reply_finding f g a b = one_by_reply f g (by_reply f a) (by_reply g b)

-- ---- which plain reply is got, or which batch is due

-- a command holds a batch or doesn't
batch_or_not : (c : Command) → ((budget : ℕ) × (c ≡ RunBatch budget)) ⊎ ((budget : ℕ) → ¬ (c ≡ RunBatch budget))
batch_or_not (RunBatch budget) = inl (budget, refl)
batch_or_not command = inr (λ budget e. cc)

same_budget : (b c : ℕ) → ◌≡◌ {A = Result Command BodyFault} (Ok (RunBatch b)) (Ok (RunBatch c)) → b ≡ c
same_budget b c e = cc

same_outcome : (n : ℕ) (o p : Outcome) → Batch n o ≡ Batch n p → o ≡ p
same_outcome n o p e = cc

-- a held batch answers no plain reply
never_plain : (m : Market) (budget : ℕ) (r : Reply) (n : Market) → holds_batch IsAdmissibleOutcome m budget (Plain r) n → ⊥
never_plain m budget r n held = plain_is_none r (m.batches + 1) held.0 held.2.0

-- plain answers of one command are the same
plain_answers : (m : Market) (c : Command) (r q : Reply) (x y : Market) → Serves IsAdmissibleOutcome m c (Plain r) x → Serves IsAdmissibleOutcome m c (Plain q) y → ◌≡◌ {A = Answer Outcome} (Plain r) (Plain q)
plain_answers m c r q x y a b =
    ⊎_elim
    (λ batch. by_first a.first a.answered (subst (λ f. Answers IsAdmissibleOutcome m c f (Plain q) y) (one_first m c b.first a.first b.refused a.refused) b.answered) batch.0 batch.1)
    (λ none. (plain_commands_have_one_answer m c (Plain r) (Plain q) x y none a b).0)
    (batch_or_not c)
  where
    by_first : (first : Option Refusal) → Answers IsAdmissibleOutcome m c first (Plain r) x → Answers IsAdmissibleOutcome m c first (Plain q) y → (budget : ℕ) → c ≡ RunBatch budget
        → ◌≡◌ {A = Answer Outcome} (Plain r) (Plain q)
    by_first (Some f) one other budget is = one.0 ∙ sym other.0
    by_first None one other budget is = absurd (never_plain m budget r x (subst (λ d. Accepts IsAdmissibleOutcome m d (Plain r) x) is one))

-- a record gets one plain reply
one_reply : (m : Market) (asked : Record) (r q : Reply) → GetsReply m asked r → GetsReply m asked q → r ≡ q
one_reply m asked r q a b =
    same_plain r q
    (by_read a.1.read a.1.served (subst (λ read. ServesRead IsAdmissibleOutcome m read (Plain q) b.0) (reading_unique m.version asked b.1.read a.1.read b.1.encoded a.1.encoded) b.1.served))
  where
    by_read : (read : Result Command BodyFault) → ServesRead IsAdmissibleOutcome m read (Plain r) a.0 → ServesRead IsAdmissibleOutcome m read (Plain q) b.0 → ◌≡◌ {A = Answer Outcome} (Plain r) (Plain q)
    by_read (Err why) one other = one.0 ∙ sym other.0
    by_read (Ok c) one other = plain_answers m c r q a.0 b.0 one other

-- a record gets no plain reply if a batch is due
not_both : (m : Market) (asked : Record) (r : Reply) (budget : ℕ) → GetsReply m asked r → IsDue m asked budget → ⊥
not_both m asked r budget gets due =
    let read = reading_unique m.version asked gets.1.read (Ok (RunBatch budget)) gets.1.encoded due.asks in
    let serves : Serves IsAdmissibleOutcome m (RunBatch budget) (Plain r) gets.0 = subst (λ x. ServesRead IsAdmissibleOutcome m x (Plain r) gets.0) read gets.1.served in
    never_plain m budget r gets.0 (subst (λ f. Answers IsAdmissibleOutcome m (RunBatch budget) f (Plain r) gets.0) (one_first m (RunBatch budget) serves.first None serves.refused due.allowed) serves.answered)

-- one batch is due at most
one_due : (m : Market) (asked : Record) (b c : ℕ) → IsDue m asked b → IsDue m asked c → b ≡ c
one_due m asked b c due other = same_budget b c (reading_unique m.version asked (Ok (RunBatch b)) (Ok (RunBatch c)) due.asks other.asks)

-- ---- an entry

-- the finding on an outcome of a batch that is due
abbrev OutcomeFound : Market → ℕ → Outcome → Finding → Type 0
OutcomeFound m budget (Cleared c) f = IsClearingFound m.orders (start_prices m) c f
OutcomeFound m budget (Skipped s) f = IsSkipFound (parts_of m.version) m.orders (start_prices m) budget s f

one_outcome : (m : Market) (budget : ℕ) (o : Outcome) → IsOne (OutcomeFound m budget o)
one_outcome m budget (Cleared c) = one_clearing m.orders (start_prices m) c
one_outcome m budget (Skipped s) = one_skip (parts_of m.version) m.orders (start_prices m) budget s

admissible_outcome : (m : Market) (budget : ℕ) (o : Outcome) → IsAdmissibleOutcome (search_of m.version) m.orders (start_prices m) budget o → OutcomeFound m budget o finding.Legal
admissible_outcome m budget (Cleared c) right = right
admissible_outcome m budget (Skipped s) right = right

-- the finding on an answer while a batch is due
abbrev DueFound : Market → ℕ → Answer Outcome → Finding → Type 0
DueFound m budget a f =
    (((o : Outcome) → a ≢ Batch (m.batches + 1) o) × (f ≡ finding.Batch (m.batches + 1)))
    ⊎ ((o : Outcome) × (a ≡ Batch (m.batches + 1) o) × OutcomeFound m budget o f)

one_due_found : (m : Market) (budget : ℕ) (a : Answer Outcome) → IsOne (DueFound m budget a)
one_due_found m budget a f g x y =
    elim x [
      | inl here ↦ elim y [ inl also ↦ here.1 ∙ sym also.1 | inr there ↦ absurd (here.0 there.0 there.1) ]
      | inr there ↦ elim y [
        | inl here ↦ absurd (here.0 there.0 there.1)
        | inr also ↦ one_outcome m budget there.0 f g there.2 (subst (λ o. OutcomeFound m budget o g) (same_outcome (m.batches + 1) also.0 there.0 (sym also.1 ∙ there.1)) also.2)
      ]
    ]

-- the finding on an answer
abbrev AnswerFound : Market → Record → Answer Outcome → Finding → Type 0
AnswerFound m asked a f = ((r : Reply) × GetsReply m asked r × IsReplyFound a r f) ⊎ ((budget : ℕ) × IsDue m asked budget × DueFound m budget a f)

one_answer_found : (m : Market) (asked : Record) (a : Answer Outcome) → IsOne (AnswerFound m asked a)
one_answer_found m asked a f g x y =
    elim x [
      | inl gets ↦ elim y [
        | inl also ↦ one_reply_finding a gets.0 f g gets.2 (subst (λ r. IsReplyFound a r g) (one_reply m asked also.0 gets.0 also.1 gets.1) also.2)
        | inr due ↦ absurd (not_both m asked gets.0 due.0 gets.1 due.1)
      ]
      | inr due ↦ elim y [
        | inl gets ↦ absurd (not_both m asked gets.0 due.0 gets.1 due.1)
        | inr also ↦ one_due_found m due.0 a f g due.2 (subst (λ b. DueFound m b a g) (one_due m asked also.0 due.0 also.1 due.1) also.2)
      ]
    ]

module _ (m : Market) (pair : Record × Record) where
  abbrev PairFound : Finding → Type 0
  PairFound f = (((a : Answer Outcome) → ¬ EncodesAnswer pair.1 a) × (f ≡ finding.NoReply)) ⊎ ((a : Answer Outcome) × EncodesAnswer pair.1 a × AnswerFound m pair.0 a f)

  one_pair_found : IsOne PairFound
  one_pair_found f g x y =
      elim x [
        | inl here ↦ elim y [ inl also ↦ here.1 ∙ sym also.1 | inr there ↦ absurd (here.0 there.0 there.1) ]
        | inr there ↦ elim y [
          | inl here ↦ absurd (here.0 there.0 there.1)
          | inr also ↦ one_answer_found m pair.0 there.0 f g there.2
              (subst (λ a. AnswerFound m pair.0 a g) (answer_unique also.0 there.0 also.1.fits there.1.fits (sym also.1.encoded ∙ there.1.encoded)) also.2)
        ]
      ]

  of_clearing : (t : TellsClearing m pair) (f : Finding) → IsClearingFound m.orders (start_prices m) t.clearing f → PairFound f
  of_clearing t f found = inr (Batch (m.batches + 1) (Cleared t.clearing), t.encoded, inr (t.budget, t.due, inr (Cleared t.clearing, refl, found)))

  of_skip : (t : TellsSkip m pair) (f : Finding) → IsSkipFound (parts_of m.version) m.orders (start_prices m) t.budget t.skipping f → PairFound f
  of_skip t f found = inr (Batch (m.batches + 1) (Skipped t.skipping), t.encoded, inr (t.budget, t.due, inr (Skipped t.skipping, refl, found)))

  -- the answer of a valid entry is the plain reply, or an admissible outcome of a batch that is due
  of_legal : (new : Market) (a : Answer Outcome) → Step IsReadAs IsAdmissibleOutcome m pair.0 a new → AnswerFound m pair.0 a finding.Legal
  of_legal new (Plain r) step = inl (r, (new, step), refl)
  of_legal new (Batch k o) step = by_read step.read step.encoded step.served
    where
      allowed : (c : Command) (first : Option Refusal) → FirstRefusal m c first → Answers IsAdmissibleOutcome m c first (Batch k o) new → FirstRefusal m c None
      allowed c (Some r) refused answers = absurd (plain_is_none (Refused r) k o (sym answers.0))
      allowed c None refused answers = refused

      by_read : (read : Result Command BodyFault) → IsReadAs m.version pair.0 read → ServesRead IsAdmissibleOutcome m read (Batch k o) new → AnswerFound m pair.0 (Batch k o) finding.Legal
      by_read (Err why) encoded gives = absurd (plain_is_none _ k o (sym gives.0))
      by_read (Ok c) encoded serves =
          let held = batch_of IsAdmissibleOutcome m c k o new serves in
          inr (
            held.budget,
            record {
              asks = subst (λ d. IsReadAs m.version pair.0 (Ok d)) held.command_is encoded;
              allowed = subst (λ d. FirstRefusal m d None) held.command_is (allowed c serves.first serves.refused serves.answered);
            },
            inr (o, ap (λ n. Batch n o) held.number_is, admissible_outcome m held.budget o held.ruled),
          )

  -- each finding on an entry is one on its answer, or `NoReply`
  found : (f : Finding) → IsFinding m pair f → PairFound f
  found finding.NoReply is = inl (is, refl)
  found (finding.OtherReply right) is = inr (is.answer, is.encoded, inl (right, is.gets, (refl, is.other)))
  found (finding.Batch number) is =
      inr (is.answer, is.encoded, inr (is.budget, is.due, inl (subst (λ n. (o : Outcome) → is.answer ≢ Batch n o) is.next is.other, ap finding.Batch is.next)))
  found (finding.Part verdict) is = of_clearing is.0 (finding.Part verdict) (is.1, is.2)
  found finding.SingleBook is = of_skip is.0 finding.SingleBook is.1
  found finding.TraceLength is = of_skip is.0 finding.TraceLength (is.1, is.2)
  found (finding.TraceStep place) is = of_skip is.0 (finding.TraceStep place) (is.1, is.2)
  found finding.AllSettled is = of_skip is.0 finding.AllSettled (is.1, is.2)
  found (finding.StartDual right) is = of_skip is.0 (finding.StartDual right) (is.1, is.2)
  found (finding.EndDual right) is = of_skip is.0 (finding.EndDual right) (is.1, is.2)
  found finding.Legal is = inr (is.1.answer, is.1.encoded, of_legal is.0 is.1.answer is.1.step)

pub one_finding : OneFinding
one_finding m pair f g a b = one_pair_found m pair f g (found m pair f a) (found m pair g b)

pub findings_tell_legality : FindingsTellLegality
findings_tell_legality = record {
  legal = λ m pair. ((λ is. is), (λ is. is));
  illegal = λ m pair f other is new legal. other (one_finding m pair f finding.Legal is (new, legal));
}
