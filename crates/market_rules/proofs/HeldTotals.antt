-- What is held over a journal: deposits less withdrawals; a batch changes no held total.
use Rattle.std.proofs.Common.{◌≡◌, ℕ, cond, eqb, ℤ, pos, ◌+ℤ◌, List, [], ◌∷◌, Option, Some, None, Result, Ok, Err, refl, ap, sym, subst, ◌∙◌, ⊎_elim, arith}
use Rattle.std.specs.Prelude.{neg_ℤ, ◌-ℤ◌, slice_index_or}
use Rattle.std.proofs.lemmas.Int.{ints}
use Rattle.std.proofs.lemmas.Bool.{cases_lt}
use Rattle.std.proofs.lemmas.Bool.Decides.{eqb_tells}
use Rattle.std.proofs.lemmas.List.{get_or_past}
use Rattle.list_sums.proofs.SumLemmas.{int_sum_by-zeros}
use Rattle.flow_accounts.specs.Balances.{Account, IsAccount, IsAsset, asset_count, grains, units_in, total_of, change_balance}
use Rattle.flow_accounts.proofs.Moves.{units_change, assets_start_at_zero}
use Rattle.flow_orders.specs.Outcomes.{Outcome, BatchRule, Cleared, Skipped, IsAdmissibleOutcome}
use Rattle.wire_records.specs.Commands.{Command, AddAsset, Deposit, Withdraw, RunBatch, Answer, Pair}
use Rattle.wire_records.specs.declared.reply.Refusal.{Refusal}
use Rattle.market_rules.specs.Market.{Market, IsConsistent, empty_market, held_balance}
use Rattle.market_rules.specs.Step.{FirstRefusal, Accepts, after_batch, ServesRead}
use Rattle.market_rules.proofs.ByFirst.{Answers}
use Rattle.wire_records.specs.declared.command.BodyFault.{BodyFault}
use Rattle.wire_records.specs.declared.version.Version.{Version}
use Rattle.market_rules.specs.Journal.{Follows}
use Rattle.market_rules.specs.Deposits.{added_by, added_by_read, AddTogether}
use Rattle.market_rules.proofs.Accepted.{past_unless}
use Rattle.market_rules.proofs.Lawful.{consistent_is_lawful}
use Rattle.market_rules.proofs.Consistency.{ReadsOwn, consistent_step, consistent_follows, consistent-empty}
use Rattle.market_rules.proofs.Versions.{step_version}

-- what is held of a kind is its total; both are 0 of an asset that isn't there
held_is_total : (m : Market) → IsConsistent m → (kind : Option ℕ) → held_balance m kind ≡ total_of m.balances kind
held_is_total m consistent None = consistent.totals None tt
held_is_total m consistent (Some asset) =
    ⊎_elim
    (λ there. consistent.totals (Some asset) there)
    (λ past.
    let none = int_sum_by-zeros (λ (a : Account). units_in a asset) m.balances.accounts
    (λ k d inside. let count = consistent.one_each.accounts k d inside in get_or_past (slice_index_or m.balances.accounts k d).units asset (pos 0) (omega (arith, past, count))) in
    let exchange = get_or_past m.exchange.units asset (pos 0) (omega (arith, past, consistent.one_each.exchange)) in
    let total = get_or_past m.balances.totals.units asset (pos 0) past in
    omega (arith, ints, none, exchange, total))
    (cases_lt asset (asset_count m.balances))

-- a total that nothing was added to
same : (x y z : ℤ) → y ≡ x → z ≡ pos 0 → y ≡ x +ℤ z
same x y z e none = omega (arith, ints, e, none)

-- a total that one part alone was added to
one_part : (x z : ℤ) → (x +ℤ z) ≡ x +ℤ (z +ℤ pos 0)
one_part x z = omega (arith, ints)

-- a batch changes no total
batch_total : (kind : Option ℕ) (m : Market) (o : Outcome) → total_of (after_batch m o).balances kind ≡ total_of m.balances kind
batch_total None m (Cleared c) = refl
batch_total None m (Skipped s) = refl
batch_total (Some asset) m (Cleared c) = refl
batch_total (Some asset) m (Skipped s) = refl

module _ (Rule : BatchRule) where
  -- an accepted command adds its own amount of money
  accepted_money : (m : Market) (c : Command) (a : Answer Outcome) (n : Market) → Accepts Rule m c a n → total_of n.balances None ≡ total_of m.balances None +ℤ added_by None c a
  accepted_money m (Deposit account None ticks) a n accepts = rw (accepts.0, accepts.1) (one_part (total_of m.balances None) (grains ticks))
  accepted_money m (Withdraw account None ticks) a n accepts = rw (accepts.0, accepts.1) (one_part (total_of m.balances None) (neg_ℤ (grains ticks)))
  accepted_money m (RunBatch budget) a n accepts = rw (accepts.2.0, accepts.2.1) (same _ _ _ (batch_total None m accepts.0) refl)
  accepted_money m command a n accepts = rw (accepts.0, accepts.1) (same _ _ _ refl refl)

  -- a change of units changes one total
  changed_units : (m : Market) (asset account named : ℕ) (amount : ℤ) → IsConsistent m → IsAccount m.balances account → IsAsset m.balances named
      → total_of (change_balance m.balances account (Some named) amount) (Some asset) ≡ total_of m.balances (Some asset) +ℤ (cond (eqb named asset) amount (pos 0) +ℤ pos 0)
  changed_units m asset account named amount consistent there is_asset =
      let totals = (units_change m.balances account named amount (consistent_is_lawful m consistent) there is_asset).1 in
      ⊎_elim
      (λ is. rw (is.0, ← is.1) (totals.total ∙ one_part (total_of m.balances (Some named)) amount))
      (λ other. rw other.0 (omega (arith, ints, totals.others asset (λ e. other.1 (sym e)))))
      (eqb_tells named asset)

  accepted_units : (asset : ℕ) (m : Market) (c : Command) (a : Answer Outcome) (n : Market) → IsConsistent m → FirstRefusal m c None → Accepts Rule m c a n → total_of n.balances (Some asset) ≡ total_of m.balances (Some asset) +ℤ added_by (Some asset) c a
  accepted_units asset m (AddAsset ticker) a n consistent none accepts = rw (accepts.0, accepts.1) (same _ _ _ ((assets_start_at_zero m.balances (consistent_is_lawful m consistent)).totals asset) refl)
  accepted_units asset m (Deposit account (Some named) units) a n consistent none accepts =
      let one = past_unless none in
      let two = past_unless one.1 in
      rw (accepts.0, accepts.1) (changed_units m asset account named (pos units) consistent one.0 two.0)
  accepted_units asset m (Withdraw account (Some named) units) a n consistent none accepts =
      let one = past_unless none in
      let two = past_unless one.1 in
      rw (accepts.0, accepts.1) (changed_units m asset account named (neg_ℤ (pos units)) consistent one.0 two.0)
  accepted_units asset m (RunBatch budget) a n consistent none accepts = rw (accepts.2.0, accepts.2.1) (same _ _ _ (batch_total (Some asset) m accepts.0) refl)
  accepted_units asset m command a n consistent none accepts = rw (accepts.0, accepts.1) (same _ _ _ refl refl)

  accepted_total : (kind : Option ℕ) (m : Market) (c : Command) (a : Answer Outcome) (n : Market) → IsConsistent m → FirstRefusal m c None → Accepts Rule m c a n
      → total_of n.balances kind ≡ total_of m.balances kind +ℤ added_by kind c a
  accepted_total None m c a n consistent none accepts = accepted_money m c a n accepts
  accepted_total (Some asset) m c a n consistent none accepts = accepted_units asset m c a n consistent none accepts

  served_total : (kind : Option ℕ) (m : Market) (c : Command) (first : Option Refusal) (a : Answer Outcome) (n : Market) → IsConsistent m → FirstRefusal m c first → Answers Rule m c first a n
      → total_of n.balances kind ≡ total_of m.balances kind +ℤ added_by kind c a
  served_total kind m c (Some r) a n consistent first answers = rw (answers.0, answers.1) (same _ _ _ refl refl)
  served_total kind m c None a n consistent first answers = accepted_total kind m c a n consistent first answers

  -- what is read adds its own amount
  read_total : (kind : Option ℕ) (m : Market) (read : Result Command BodyFault) (a : Answer Outcome) (n : Market) → IsConsistent m → ServesRead Rule m read a n
      → total_of n.balances kind ≡ total_of m.balances kind +ℤ added_by_read kind read a
  read_total kind m (Ok c) a n consistent serves = served_total kind m c serves.first a n consistent serves.refused serves.answered
  read_total kind m (Err r) a n consistent serves = rw serves.1 (same _ _ _ refl refl)

change_of : (h k t u c : ℤ) → h ≡ t → k ≡ u → u ≡ t +ℤ c → k ≡ h +ℤ c
change_of h k t u c before after change = omega (arith, ints, before, after, change)

more_is : (x y z : ℤ) → x ≡ y +ℤ z → z ≡ x -ℤ y
more_is x y z e = omega (arith, ints, e)

nothing_before : (x y : ℤ) → x ≡ pos 0 +ℤ y → x ≡ y
nothing_before x y e = omega (arith, ints, e)

-- nothing is held at the start of a journal
none_held : (version : Version) (kind : Option ℕ) → held_balance (empty_market version) kind ≡ pos 0
none_held version None = refl
none_held version (Some asset) = refl

module _ {R : Type 0} (Reads : Version → R → Result Command BodyFault → Type 0) (own : ReadsOwn Reads) where
  -- the entries of a journal add up to how a total changed
  totals_change : (kind : Option ℕ) (m : Market) (pairs : List (Pair R Outcome)) (n : Market) → IsConsistent m → Follows Reads IsAdmissibleOutcome m pairs n
      → (change : ℤ) × AddTogether (Reads m.version) kind pairs change × (total_of n.balances kind ≡ total_of m.balances kind +ℤ change)
  totals_change kind m [] n consistent follows = (pos 0, refl, same _ _ (pos 0) (ap (λ (x : Market). total_of x.balances kind) follows) refl)
  totals_change kind m (pair ∷ pairs) n consistent follows =
      let next = follows.0 in
      let step = follows.1 in
      let here = read_total IsAdmissibleOutcome kind m step.read pair.answer next consistent step.served in
      let rest = totals_change kind next pairs n (consistent_step Reads own m pair.asked pair.answer next consistent step) follows.2 in
      let kept = step_version IsAdmissibleOutcome Reads m pair.asked pair.answer next step in
      let first = added_by_read kind step.read pair.answer in
      (first +ℤ rest.0, (step.read, rest.0, step.encoded, subst (λ v. AddTogether (Reads v) kind pairs rest.0) kept rest.1, refl), omega (arith, ints, here, rest.2))

  -- from a consistent market on, what is held changes by the accepted deposits less the accepted withdrawals
  pub held_changes : (old : Market) (pairs : List (Pair R Outcome)) (new : Market) (kind : Option ℕ) → IsConsistent old → Follows Reads IsAdmissibleOutcome old pairs new
      → (added : ℤ) × AddTogether (Reads old.version) kind pairs added × (held_balance new kind ≡ held_balance old kind +ℤ added)
  held_changes old pairs new kind consistent follows =
      let all = totals_change kind old pairs new consistent follows in
      let after = consistent_follows Reads own old pairs new consistent follows in
      (all.0, all.1, change_of (held_balance old kind) (held_balance new kind) (total_of old.balances kind) (total_of new.balances kind) all.0 (held_is_total old consistent kind) (held_is_total new after kind) all.2)

  -- what is held more than at the start is what the entries add
  pub held_more : (start : Market) (pairs : List (Pair R Outcome)) (m : Market) (kind : Option ℕ) → IsConsistent start → Follows Reads IsAdmissibleOutcome start pairs m
      → AddTogether (Reads start.version) kind pairs (held_balance m kind -ℤ held_balance start kind)
  held_more start pairs m kind consistent follows =
      let all = held_changes start pairs m kind consistent follows in
      subst (AddTogether (Reads start.version) kind pairs) (more_is _ _ _ all.2) all.1

  -- over a valid journal what is held is the accepted deposits less the accepted withdrawals
  pub held_is : (version : Version) (pairs : List (Pair R Outcome)) (m : Market) (kind : Option ℕ) → Follows Reads IsAdmissibleOutcome (empty_market version) pairs m
      → AddTogether (Reads version) kind pairs (held_balance m kind)
  held_is version pairs m kind follows =
      let all = held_changes (empty_market version) pairs m kind (consistent-empty version) follows in
      subst (AddTogether (Reads version) kind pairs) (sym (nothing_before _ _ (rw (none_held version kind) at all.2))) all.1

-- a batch changes nothing that is held
pub batch_keeps_held : (m n : Market) (o : Outcome) (kind : Option ℕ) → IsConsistent m → IsConsistent n → n ≡ after_batch m o → held_balance n kind ≡ held_balance m kind
batch_keeps_held m n o kind consistent consistent_after made =
    held_is_total n consistent_after kind ∙ ap (λ (x : Market). total_of x.balances kind) made ∙ batch_total kind m o ∙ sym (held_is_total m consistent kind)
