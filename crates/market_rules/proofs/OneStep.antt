-- A step is determined: by old market, command and answer the new market, and of a command that is no batch the answer too.
use Rattle.std.proofs.Common.{◌≡◌, ◌+◌, ℕ, Option, Some, None, inl, inr, sym, ap, ◌∙◌}
use Rattle.flow_orders.specs.Outcomes.{Outcome, BatchRule}
use Rattle.wire_records.specs.Commands.{Command, AddAsset, OpenAccount, Place, CancelOrder, RunBatch, Answer, Batch}
use Rattle.wire_records.specs.declared.reply.Refusal.{Refusal}
use Rattle.market_rules.specs.Market.{Market, search_of, start_prices}
use Rattle.market_rules.specs.Step.{◌when◌else◌, ◌unless◌else◌, accept, FirstRefusal, Accepts, Serves, after_batch}
use Rattle.market_rules.proofs.ByFirst.{Answers}

-- there is at most one first refusal
abbrev pub IsOne : (Option Refusal → Type 0) → Type 0
IsOne V = (x y : Option Refusal) → V x → V y → x ≡ y

one_accept : IsOne accept
one_accept x y first other = first ∙ sym other

one_when : (r : Refusal) (C : Type 0) (others : Option Refusal → Type 0) → IsOne others → IsOne (r when C else others)
one_when r C others rest x y first other =
    elim first [
      | inl here ↦ elim other [ inl also ↦ here.1 ∙ sym also.1 | inr there ↦ absurd (there.0 here.0) ]
      | inr there ↦ elim other [ inl here ↦ absurd (there.0 here.0) | inr also ↦ rest x y there.1 also.1 ]
    ]

one_unless : (r : Refusal) (C : Type 0) (others : Option Refusal → Type 0) → IsOne others → IsOne (r unless C else others)
one_unless r C others rest x y first other =
    elim first [
      | inl here ↦ elim other [ inl also ↦ here.1 ∙ sym also.1 | inr there ↦ absurd (here.0 there.0) ]
      | inr there ↦ elim other [ inl here ↦ absurd (here.0 there.0) | inr also ↦ rest x y there.1 also.1 ]
    ]

pub one_first : (m : Market) (c : Command) → IsOne (FirstRefusal m c)
one_first m OpenAccount = one_when _ _ _ one_accept
one_first m (AddAsset ticker) = one_unless _ _ _ (one_when _ _ _ (one_when _ _ _ one_accept))
one_first m (CancelOrder account number) = one_unless _ _ _ (one_unless _ _ _ one_accept)
one_first m (RunBatch budget) = one_unless _ _ _ (one_when _ _ _ one_accept)
one_first m (Place last r) = one_unless _ _ _ (one_unless _ _ _ (one_unless _ _ _ (one_unless _ _ _ (one_unless _ _ _ (one_unless _ _ _ (one_unless _ _ _ (one_when _ _ _ (one_unless _ _ _ one_accept))))))))
one_first m command = one_unless _ _ _ (one_unless _ _ _ (one_when _ _ _ (one_when _ _ _ one_accept)))

-- for any rule of the outcomes of a batch
module _ (Rule : BatchRule) where
  -- an accepted command that got the same answer made the same market
  accepted_market : (m : Market) (c : Command) (a : Answer Outcome) (x y : Market) → Accepts Rule m c a x → Accepts Rule m c a y → x ≡ y
  accepted_market m (RunBatch budget) a x y first other =
      first.2.1 ∙ ap (after_batch m) (outcome_of (m.batches + 1) first.0 other.0 (sym first.2.0 ∙ other.2.0)) ∙ sym other.2.1
    where
      outcome_of : (n : ℕ) (o p : Outcome) → Batch n o ≡ Batch n p → o ≡ p
      outcome_of n o p e = cc
  accepted_market m command a x y first other = first.1 ∙ sym other.1

  answered_market : (m : Market) (c : Command) (f : Option Refusal) (a : Answer Outcome) (x y : Market) → Answers Rule m c f a x → Answers Rule m c f a y → x ≡ y
  answered_market m c (Some r) a x y first other = first.1 ∙ sym other.1
  answered_market m c None a x y first other = accepted_market m c a x y first other

  -- the old market, the command and the answer determine the new market
  pub one_market : (old : Market) (c : Command) (a : Answer Outcome) (x y : Market) → Serves Rule old c a x → Serves Rule old c a y → x ≡ y
  one_market old c a x y first other =
      answered_market old c first.first a x y first.answered (rw (one_first old c first.first other.first first.refused other.refused) other.answered)

  -- the rule allows at most one outcome of a batch
  abbrev pub HasOneOutcome : Market → Command → Type 0
  HasOneOutcome m (RunBatch budget) = (o p : Outcome) → Rule (search_of m.version) m.orders (start_prices m) budget o → Rule (search_of m.version) m.orders (start_prices m) budget p → o ≡ p
  HasOneOutcome m _ = Unit {0}

  accepted_once : (m : Market) (c : Command) (a b : Answer Outcome) (x y : Market) → HasOneOutcome m c → Accepts Rule m c a x → Accepts Rule m c b y → (a ≡ b) × (x ≡ y)
  accepted_once m (RunBatch budget) a b x y one first other =
      let same = one first.0 other.0 first.1 other.1 in
      (first.2.0 ∙ ap (Batch (m.batches + 1)) same ∙ sym other.2.0, first.2.1 ∙ ap (after_batch m) same ∙ sym other.2.1)
  accepted_once m command a b x y one first other = (first.0 ∙ sym other.0, first.1 ∙ sym other.1)

  answered_once : (m : Market) (c : Command) (f : Option Refusal) (a b : Answer Outcome) (x y : Market) → HasOneOutcome m c → Answers Rule m c f a x → Answers Rule m c f b y → (a ≡ b) × (x ≡ y)
  answered_once m c (Some r) a b x y one first other = (first.0 ∙ sym other.0, first.1 ∙ sym other.1)
  answered_once m c None a b x y one first other = accepted_once m c a b x y one first other

  -- a command that is no batch gets one answer and makes one market; so does a batch whose rule allows one outcome
  pub one_service : (old : Market) (c : Command) (a b : Answer Outcome) (x y : Market) → HasOneOutcome old c → Serves Rule old c a x → Serves Rule old c b y → (a ≡ b) × (x ≡ y)
  one_service old c a b x y one first other =
      answered_once old c first.first a b x y one first.answered (rw (one_first old c first.first other.first first.refused other.refused) other.answered)
