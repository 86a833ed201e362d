-- Every command has a first refusal or none, and is served without a batch if no batch is due.
use Rattle.std.proofs.Common.{ℕ, ◌<◌, ◌⊎◌, ◌≡◌, inl, inr, Option, Some, None, refl, ⊎_elim}
use Rattle.std.specs.Prelude.{IfSome}
use Rattle.flow_orders.specs.Orders.{most_cap}
use Rattle.flow_orders.specs.Outcomes.{Outcome, most_budget}
use Rattle.wire_records.specs.Commands.{Command, AddAsset, OpenAccount, Deposit, Withdraw, Place, CancelOrder, RunBatch, SetCredit, Answer, Plain}
use Rattle.wire_records.specs.declared.reply.Refusal.{Refusal}
use Rattle.wire_records.specs.declared.reply.Reply.TheVariants.{Refused}
use Rattle.market_rules.specs.Market.{Market}
use Rattle.market_rules.specs.Step.{NoOutcome, ServesPlain, ◌when◌else◌, ◌unless◌else◌, accept, FirstRefusal, Accepts, placed}
use Rattle.demand_curve.specs.Demand.{most_rate}
use Rattle.market_rules.proofs.Decided.{Either, either_both, either_le, either_eq, either_lt_z, either_account, either_kind, either_from_1, either_limits, either_row, either_assets, either_affordable, either_order, either_taken, either_ticker}

-- ---- the first refusal

-- some answer is the first
abbrev Has : (Option Refusal → Type 0) → Type 0
Has V = (first : Option Refusal) × V first

has_accept : Has accept
has_accept = (None, refl)

has_when : (r : Refusal) (C : Type 0) (others : Option Refusal → Type 0) → Either C → Has others → Has (r when C else others)
has_when r C others either rest = ⊎_elim (λ it. (Some r, inl (it, refl))) (λ not. (rest.0, inr (not, rest.1))) either

has_unless : (r : Refusal) (C : Type 0) (others : Option Refusal → Type 0) → Either C → Has others → Has (r unless C else others)
has_unless r C others either rest = ⊎_elim (λ it. (rest.0, inr (it, rest.1))) (λ not. (Some r, inl (not, refl))) either

-- a last batch is still to come, or not
either_later : (m : Market) (last : Option ℕ) → Either (IfSome last (λ batch. m.batches < batch))
either_later m None = inl tt
either_later m (Some last) = either_le _ _

pub first_is_there : (m : Market) (c : Command) → Has (FirstRefusal m c)
first_is_there m (AddAsset ticker) = has_unless _ _ _ (either_ticker ticker) (has_when _ _ _ (either_taken m.tickers ticker) (has_when _ _ _ (either_le _ _) has_accept))
first_is_there m OpenAccount = has_when _ _ _ (either_le _ _) has_accept
first_is_there m (Deposit account kind count) =
    has_unless _ _ _ (either_account m.balances account) (has_unless _ _ _ (either_kind m.balances kind) (has_when _ _ _ (either_eq count 0) (has_when _ _ _ (either_lt_z _ _) has_accept)))
first_is_there m (Withdraw account kind count) =
    has_unless _ _ _ (either_account m.balances account) (has_unless _ _ _ (either_kind m.balances kind) (has_when _ _ _ (either_eq count 0) (has_when _ _ _ (either_lt_z _ _) has_accept)))
first_is_there m (CancelOrder account number) = has_unless _ _ _ (either_account m.balances account) (has_unless _ _ _ (either_order m account number) has_accept)
first_is_there m (RunBatch budget) = has_unless _ _ _ (either_from_1 most_budget budget) (has_when _ _ _ (either_le _ _) has_accept)
first_is_there m (Place last r) =
    has_unless _ _ _ (either_account m.balances r.account) (has_unless _ _ _ (either_limits r.low r.high) (has_unless _ _ _ (either_from_1 most_rate r.rate)
    (has_unless _ _ _ (either_from_1 most_cap r.cap) (has_unless _ _ _ (either_later m last) (has_unless _ _ _ (either_both (either_row r.row) (either_le _ _)) (has_unless _ _ _ (either_assets m.balances r.row)
    (has_when _ _ _ (either_le _ _) (has_unless _ _ _ (either_affordable m (placed m last r)) has_accept))))))))
first_is_there m (SetCredit account kind count) =
    has_unless _ _ _ (either_account m.balances account) (has_unless _ _ _ (either_kind m.balances kind) (has_when _ _ _ (either_le _ _) (has_when _ _ _ (either_lt_z _ _) has_accept)))

-- ---- steps

accepted_or_batch : (m : Market) (c : Command) → ((a : Answer Outcome) × (n : Market) × Accepts NoOutcome m c a n) ⊎ ((budget : ℕ) × (c ≡ RunBatch budget))
accepted_or_batch m (RunBatch budget) = inr (budget, refl)
accepted_or_batch m command = inl (_, _, (refl, refl))

-- every command is served without a batch, or it is a batch that is due
pub plain_or_due : (m : Market) (c : Command) → ((a : Answer Outcome) × (n : Market) × ServesPlain m c a n) ⊎ ((budget : ℕ) × (c ≡ RunBatch budget) × FirstRefusal m c None)
plain_or_due m c = by_first (first_is_there m c).0 (first_is_there m c).1
  where
    by_first : (first : Option Refusal) → FirstRefusal m c first → ((a : Answer Outcome) × (n : Market) × ServesPlain m c a n) ⊎ ((budget : ℕ) × (c ≡ RunBatch budget) × FirstRefusal m c None)
    by_first (Some r) refused = inl (Plain (Refused r), m, record { first = Some r; refused = refused; answered = (refl, refl) })
    by_first None refused =
        ⊎_elim
        (λ accepted. inl (accepted.0, accepted.1, record { first = None; refused = refused; answered = accepted.2 }))
        (λ batch. inr (batch.0, batch.1, refused))
        (accepted_or_batch m c)
