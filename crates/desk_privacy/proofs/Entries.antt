-- An entry tells an account what follows from what it knows and observes.
use Rattle.std.proofs.Common.{◌≡◌, ◌≢◌, ◌⊎◌, inl, inr, ℕ, ◌+◌, ◌<◌, ◌≤◌, Bool, true, false, ℤ, pos, List, [], ◌∷◌, ◌++◌, length, map, Option, Some, None, refl, sym, ap, subst, ◌∙◌, arith}
use Rattle.std.specs.Prelude.{◌==◌, nat_lt, if◌then◌else◌, Ok}
use Rattle.std.proofs.lemmas.Bool.{cases_lt, eqb-true, eq-eqb, lt-ltb, and_from, true≢false}
use Rattle.std.proofs.lemmas.Bool.Decides.{eqb_tells}
use Rattle.std.proofs.lemmas.List.{append-nil, length_push, map-append}
use Rattle.wire_records.specs.Commands.{Request, Command, AddAsset, OpenAccount, Deposit, Withdraw, Place, CancelOrder, RunBatch, SetCredit, Answer, Plain, Batch}
use Rattle.wire_records.specs.declared.reply.Refusal.{Refusal}
use Rattle.wire_records.specs.declared.reply.Reply.TheVariants as reply
use Rattle.flow_accounts.specs.Balances.{IsAccount, account_count, no_credit, with_asset, with_credit_place, credited, credit_of, add_asset, open_account, change_balance, set_credit}
use Rattle.flow_orders.specs.Outcomes.{Outcome, Cleared, Skipped, Clearing, Skipping, Fill, IsAdmissibleOutcome, trades_of}
use Rattle.market_rules.specs.Market.{Market, IsConsistent, start_prices, cut_price}
use Rattle.market_rules.specs.Step.{FirstRefusal, Accepts, Serves, after_batch}
use Rattle.market_rules.proofs.ByFirst.{Answers}
use Rattle.market_rules.proofs.Accepted.{past_unless}
use Rattle.answer_text.specs.declared.header.Recipient.{Recipient}
use Rattle.answer_text.specs.declared.header.Recipient.TheVariants.{Operator, Desk, All}
use Rattle.answer_text.specs.Answers.{echo_members, batch_members}
use Rattle.statement_rules.specs.Views.{Event, Adds, Opens, Deposits, Withdraws, Credits, Places, Cancels, Refuses, Clears, Skips, is_there, event_if, seen, own_fills}
use Rattle.statement_rules.specs.Holdings.{IsHeld, after_all}
use Rattle.statement_rules.proofs.Told.{told, there_is, is_account, isn't_account}
use Rattle.statement_rules.proofs.OwnParts.{own_again}
use Rattle.desk_messages.specs.Desks.{Desks, nothing}
use Rattle.desk_messages.specs.Messages.{Message, opened_by, with_opened, own_costs, cost_of, fill_message, has_account, notices, notice_to}
use Rattle.desk_lines.specs.Rights.{MayAsk}
use Rattle.desk_session.specs.Lines.{entry_messages}
use Rattle.desk_privacy.specs.Observing.{AssetAdded, BatchCleared, BatchSkipped, ToIt, observed}
use Rattle.desk_privacy.specs.Knowing.{CountsAll}
use Rattle.desk_privacy.proofs.Learning.{Knows, IsLearned, after_event, credit_after, event_messages, news_messages, with_news, told_it, told_line, tell}
use Rattle.desk_privacy.proofs.Numbering.{IsIn, mine}
use Rattle.desk_privacy.proofs.Crediting.{credit_is_set, other_credit_is_set, asset_credit, opened_credit, other_opened_credit}
use Rattle.desk_privacy.proofs.Hearing.{IsToldTo, none_told, event_told, news_told, told_if}
use Rattle.desk_privacy.proofs.Named.{IsTurn, NamesOwn, names_own, line_none, is_seen, seen_there, there_seen, named_messages, named_seen, named_unseen, fills, no_fills, own_fills as own_fill}

no_owner : (x : ℕ) → None ≡ Some x → ⊥
no_owner x e = cc

same_owner : (a x : ℕ) → Some a ≡ Some x → a ≡ x
same_owner a x e = cc

module _ (account : ℕ) (some : 0 < account) (m : Market) (d : Desks) (k : Knows) (consistent : IsConsistent m) (counts : CountsAll m d) (learned : IsLearned account m k.market) (line entry : ℕ) where
  -- what an entry of a sender tells the account
  abbrev pub IsTold : Recipient → Command → Answer Outcome → Market → Type 0
  IsTold s c a n = IsToldTo account k n (observed account c a (seen account m (Ok c) a)) (mine account (entry_messages (with_opened (opened_by a) d) m n s line entry c a))

  told_so : (s : Recipient) (c : Command) (a b : Answer Outcome) (n x : Market) → a ≡ b → n ≡ x → IsTold s c b x → IsTold s c a n
  told_so s c a b n x same made is = subst (λ z. IsTold s c z n) (sym same) (subst (λ z. IsTold s c b z) (sym made) is)

  abbrev IsHeldAfter : Command → Answer Outcome → Market → Type 0
  IsHeldAfter c a n = IsHeld account n (after_all k.market.holding (seen account m (Ok c) a))

  held_so : (c : Command) (a b : Answer Outcome) (n x : Market) → a ≡ b → n ≡ x → IsHeldAfter c a n → IsHeldAfter c b x
  held_so c a b n x same made is = subst (λ z. IsHeldAfter c z x) same (subst (λ z. IsHeldAfter c a z) made is)

  -- ---- what is learned of an event

  -- nothing else of the market changed for the account
  record IsKept (n : Market) : Type 0 where
    version : n.version ≡ m.version
    prices : start_prices n ≡ start_prices m
    batches : n.batches ≡ m.batches

  learned_event : (n : Market) (event : Event) (b : Bool) → IsKept n → IsHeld account n (after_all k.market.holding (event_if b event)) → b ≡ true
      → credit_of n.balances account ≡ credit_after k.market.holding k.market.credit event → IsLearned account n (after_event k.market event)
  learned_event n event b kept held is credit = record {
    version = learned.version ∙ sym kept.version;
    holding = subst (λ z. IsHeld account n (after_all k.market.holding (event_if z event))) is held;
    credit = sym credit;
    prices = learned.prices ∙ sym kept.prices;
    batches = learned.batches ∙ sym kept.batches;
  }

  learned_none : (n : Market) (event : Event) (b : Bool) → IsKept n → IsHeld account n (after_all k.market.holding (event_if b event)) → b ≡ false
      → credit_of n.balances account ≡ credit_of m.balances account → IsLearned account n k.market
  learned_none n event b kept held is credit = record {
    version = learned.version ∙ sym kept.version;
    holding = subst (λ z. IsHeld account n (after_all k.market.holding (event_if z event))) is held;
    credit = learned.credit ∙ sym credit;
    prices = learned.prices ∙ sym kept.prices;
    batches = learned.batches ∙ sym kept.batches;
  }

  -- ---- commands that name an account

  module _ (s : Recipient) (turn : IsTurn account k s line) (there : IsIn (length d.accounts) s) where
    named_told : (n : Market) (named : ℕ) (event : Event) (members : List ℕ) → NamesOwn s named → IsKept n
        → IsHeld account n (after_all k.market.holding (event_if (is_seen account some m d k counts named) event))
        → (named ≡ account → event_messages account k event ≡ told_it account k members)
        → (named ≡ account → credit_of n.balances account ≡ credit_after k.market.holding k.market.credit event)
        → (is_seen account some m d k counts named ≡ false → credit_of n.balances account ≡ credit_of m.balances account)
        → IsToldTo account k n (map ToIt (event_if (is_seen account some m d k counts named) event)) (mine account (named_messages account some m d k counts s line entry named members))
    named_told n named event members own kept held same credit unchanged =
        told_if account (is_seen account some m d k counts named) k n event (mine account (named_messages account some m d k counts s line entry named members))
        (λ is. let here = (seen_there account some m d k counts named is).1 in (
          named_seen account some m d k counts s line entry named members turn own is ∙ sym (same here),
          learned_event n event (is_seen account some m d k counts named) kept held is (credit here),
        ))
        (λ is. let none = named_unseen account some m d k counts s line entry named members turn own there is in
        (none.0, none.1, learned_none n event (is_seen account some m d k counts named) kept held is (unchanged is)))

    -- with the credit as it was
    kept_told : (n : Market) (named : ℕ) (event : Event) (members : List ℕ) → NamesOwn s named → IsKept n
        → IsHeld account n (after_all k.market.holding (event_if (is_seen account some m d k counts named) event))
        → (named ≡ account → event_messages account k event ≡ told_it account k members) → credit_after k.market.holding k.market.credit event ≡ k.market.credit → credit_of n.balances account ≡ credit_of m.balances account
        → IsToldTo account k n (map ToIt (event_if (is_seen account some m d k counts named) event)) (mine account (named_messages account some m d k counts s line entry named members))
    kept_told n named event members own kept held same credit unchanged =
        named_told n named event members own kept held same (λ here. unchanged ∙ sym learned.credit ∙ sym credit) (λ unseen. unchanged)

    tickers : k.market.holding.tickers ≡ m.tickers
    tickers = learned.holding.tickers

    -- ---- refused commands

    named_refused : (named : ℕ) (c : Command) (r : Refusal) → NamesOwn s named
        → IsToldTo account k m (map ToIt (event_if (is_seen account some m d k counts named) (Refuses c r)))
        (mine account (named_messages account some m d k counts s line entry named (echo_members m.tickers c (Plain (reply.Refused r)))))
    named_refused named c r own =
        kept_told m named (Refuses c r) (echo_members m.tickers c (Plain (reply.Refused r))) own (record { version = refl; prices = refl; batches = refl })
        (held_if (is_seen account some m d k counts named)) (λ here. ap (λ (l : List (List ℕ)). told_it account k (echo_members l c (Plain (reply.Refused r)))) tickers) refl refl
      where
        held_if : (b : Bool) → IsHeld account m (after_all k.market.holding (event_if b (Refuses c r)))
        held_if true = learned.holding
        held_if false = learned.holding

    -- ---- accepted commands

    deposit_told : (named : ℕ) (kind : Option ℕ) (count : ℕ) (amount : ℤ) → NamesOwn s named
        → IsHeldAfter (Deposit named kind count) (Plain reply.Done) (record m { balances = change_balance m.balances named kind amount })
        → IsTold s (Deposit named kind count) (Plain reply.Done) (record m { balances = change_balance m.balances named kind amount })
    deposit_told named kind count amount own held =
        kept_told (record m { balances = change_balance m.balances named kind amount }) named (Deposits kind count) (echo_members m.tickers (Deposit named kind count) (Plain reply.Done)) own
        (record { version = refl; prices = refl; batches = refl }) held
        (λ here. ap (λ (l : List (List ℕ)). told_it account k (echo_members l (Deposit account kind count) (Plain reply.Done))) tickers
        ∙ ap (λ a. told_it account k (echo_members m.tickers (Deposit a kind count) (Plain reply.Done))) (sym here)) refl refl

    withdrawal_told : (named : ℕ) (kind : Option ℕ) (count : ℕ) (amount : ℤ) → NamesOwn s named
        → IsHeldAfter (Withdraw named kind count) (Plain reply.Done) (record m { balances = change_balance m.balances named kind amount })
        → IsTold s (Withdraw named kind count) (Plain reply.Done) (record m { balances = change_balance m.balances named kind amount })
    withdrawal_told named kind count amount own held =
        kept_told (record m { balances = change_balance m.balances named kind amount }) named (Withdraws kind count) (echo_members m.tickers (Withdraw named kind count) (Plain reply.Done)) own
        (record { version = refl; prices = refl; batches = refl }) held
        (λ here. ap (λ (l : List (List ℕ)). told_it account k (echo_members l (Withdraw account kind count) (Plain reply.Done))) tickers
        ∙ ap (λ a. told_it account k (echo_members m.tickers (Withdraw a kind count) (Plain reply.Done))) (sym here)) refl refl

    credit_told : (named : ℕ) (kind : Option ℕ) (count : ℕ) → NamesOwn s named → IsAccount m.balances named
        → IsHeldAfter (SetCredit named kind count) (Plain reply.Done) (record m { balances = set_credit m.balances named kind count })
        → IsTold s (SetCredit named kind count) (Plain reply.Done) (record m { balances = set_credit m.balances named kind count })
    credit_told named kind count own is held =
        named_told (record m { balances = set_credit m.balances named kind count }) named (Credits kind count) (echo_members m.tickers (SetCredit named kind count) (Plain reply.Done)) own
        (record { version = refl; prices = refl; batches = refl }) held
        (λ here. ap (λ (l : List (List ℕ)). told_it account k (echo_members l (SetCredit account kind count) (Plain reply.Done))) tickers
        ∙ ap (λ a. told_it account k (echo_members m.tickers (SetCredit a kind count) (Plain reply.Done))) (sym here))
        (λ here. credit_is_set m account some consistent named kind count is here ∙ ap (λ c. credited c kind count) (sym learned.credit))
        (λ unseen. unchanged unseen (eqb_tells named account))
      where
        unchanged : is_seen account some m d k counts named ≡ false → (((named == account) ≡ true) × (named ≡ account)) ⊎ (((named == account) ≡ false) × (named ≢ account))
            → credit_of (set_credit m.balances named kind count) account ≡ credit_of m.balances account
        unchanged unseen (inl same) = absurd (there_seen account some m d k counts named (there_is m account (subst (IsAccount m.balances) same.1 is)) same.1 unseen)
        unchanged unseen (inr other) = other_credit_is_set m account some consistent named kind count is other.1

    placement_told : (last : Option ℕ) (r : Request) (n : Market) → NamesOwn s r.account → IsKept n → n.tickers ≡ m.tickers → n.balances ≡ m.balances
        → IsHeldAfter (Place last r) (Plain (reply.Order m.next_order)) n → IsTold s (Place last r) (Plain (reply.Order m.next_order)) n
    placement_told last r n own kept same_tickers balances held =
        kept_told n r.account (Places m.next_order last r) (echo_members n.tickers (Place last r) (Plain (reply.Order m.next_order))) own kept held
        (λ here. ap (λ (l : List (List ℕ)). told_it account k (echo_members l (Place last r) (Plain (reply.Order m.next_order)))) (tickers ∙ sym same_tickers)) refl (ap (λ b. credit_of b account) balances)

    cancel_told : (named number : ℕ) (n : Market) → NamesOwn s named → IsKept n → n.tickers ≡ m.tickers → n.balances ≡ m.balances
        → IsHeldAfter (CancelOrder named number) (Plain reply.Done) n → IsTold s (CancelOrder named number) (Plain reply.Done) n
    cancel_told named number n own kept same_tickers balances held =
        kept_told n named (Cancels number) (echo_members n.tickers (CancelOrder named number) (Plain reply.Done)) own kept held
        (λ here. ap (λ (l : List (List ℕ)). told_it account k (echo_members l (CancelOrder account number) (Plain reply.Done))) (tickers ∙ sym same_tickers)
        ∙ ap (λ a. told_it account k (echo_members n.tickers (CancelOrder a number) (Plain reply.Done))) (sym here)) refl (ap (λ b. credit_of b account) balances)

  -- ---- commands of the operator alone

  -- an asset is added
  asset_told : (ticker : List ℕ) → k.left ≡ 0
      → IsHeldAfter (AddAsset ticker) (Plain (reply.Asset (length m.tickers))) (record m { tickers = m.tickers ++ ticker ∷ []; balances = add_asset m.balances; exchange = with_asset m.exchange; last_prices = m.last_prices ++ pos 0 ∷ [] })
      → IsTold Operator (AddAsset ticker) (Plain (reply.Asset (length m.tickers))) (record m { tickers = m.tickers ++ ticker ∷ []; balances = add_asset m.balances; exchange = with_asset m.exchange; last_prices = m.last_prices ++ pos 0 ∷ [] })
  asset_told ticker left held =
      news_told account k n (AssetAdded ticker) (ToIt (Adds ticker) ∷ []) _ [] (event_told account j n (Adds ticker) [] (record {
        version = learned.version;
        holding = held;
        credit = ap (λ b. if b then with_credit_place k.market.credit else k.market.credit) learned.holding.opened
            ∙ ap (λ c. if is_there m account then with_credit_place c else c) learned.credit ∙ sym (asset_credit m account some consistent);
        prices = ap (λ (l : List ℤ). l ++ cut_price (pos 0) ∷ []) learned.prices ∙ sym (map-append cut_price m.last_prices (pos 0 ∷ []));
        batches = learned.batches;
      }) refl) refl
    where
      n : Market
      n = record m { tickers = m.tickers ++ ticker ∷ []; balances = add_asset m.balances; exchange = with_asset m.exchange; last_prices = m.last_prices ++ pos 0 ∷ [] }

      j : Knows
      j = tell (with_news account k (AssetAdded ticker)) (news_messages account k (AssetAdded ticker))

  -- an account is opened
  opening_told : k.left ≡ 0 → IsHeldAfter OpenAccount (Plain (reply.Account (account_count m.balances + 1))) (record m { balances = open_account m.balances })
      → IsTold Operator OpenAccount (Plain (reply.Account (account_count m.balances + 1))) (record m { balances = open_account m.balances })
  opening_told left held =
      told_if account (number == account) k n (Opens account) (mine account (entry_messages (with_opened (Some number) d) m n Operator line entry OpenAccount (Plain (reply.Account number)))) yes no
    where
      number : ℕ
      number = account_count m.balances + 1

      n : Market
      n = record m { balances = open_account m.balances }

      kept : IsKept n
      kept = record { version = refl; prices = refl; batches = refl }

      members : List ℕ
      members = echo_members m.tickers OpenAccount (Plain (reply.Account number))

      counted : length (with_opened (Some number) d).accounts ≡ number
      counted = length_push d.accounts nothing ∙ ap (λ x. x + 1) counts

      has : has_account (length (with_opened (Some number) d).accounts) number ≡ true
      has = ap (λ x. has_account x number) counted ∙ and_from (nat_lt 0 number) (nat_lt number (number + 1)) (lt-ltb 0 number (omega arith)) (lt-ltb number (number + 1) (omega arith))

      short : mine account (entry_messages (with_opened (Some number) d) m n Operator line entry OpenAccount (Plain (reply.Account number))) ≡ mine account (notice_to (Desk number) members ∷ [])
      short =
          ap (mine account) (append-nil (notices (length (with_opened (Some number) d).accounts) Operator (Some number) members ++ []) ∙ append-nil (notices (length (with_opened (Some number) d).accounts) Operator (Some number) members))
          ∙ ap (λ (b : Bool). mine account (if b then notice_to (Desk number) members ∷ [] else [])) has

      yes : (number == account) ≡ true → (mine account (entry_messages (with_opened (Some number) d) m n Operator line entry OpenAccount (Plain (reply.Account number))) ≡ event_messages account k (Opens account)) × IsLearned account n (after_event k.market (Opens account))
      yes is =
          let same : number ≡ account = eqb-true number account is in (
            short ∙ rw is (ap (λ a. notice_to (Desk a) members ∷ []) same ∙ ap (λ (l : Option ℕ). told_line account l members) (sym (line_none k.left k.own.lines left))
                ∙ ap (λ (l : List (List ℕ)). told_it account k (echo_members l OpenAccount (Plain (reply.Account number)))) (sym learned.holding.tickers)
                ∙ ap (λ a. told_it account k (echo_members k.market.holding.tickers OpenAccount (Plain (reply.Account a)))) same),
            learned_event n (Opens account) (number == account) kept held is (opened_credit m account some consistent same ∙ ap no_credit (sym (ap length learned.holding.tickers ∙ consistent.one_each.tickers))),
          )

      no : (number == account) ≡ false → (mine account (entry_messages (with_opened (Some number) d) m n Operator line entry OpenAccount (Plain (reply.Account number))) ≡ []) × (k.left ≡ 0) × IsLearned account n k.market
      no is =
          let differs : number ≢ account = λ same. true≢false (sym (eq-eqb number account same) ∙ is) in
          (short ∙ rw is refl, left, learned_none n (Opens account) (number == account) kept held is (other_opened_credit m account some consistent differs))

  -- a batch cleared
  cleared_told : (budget : ℕ) (c : Clearing) → k.left ≡ 0 → IsHeldAfter (RunBatch budget) (Batch (m.batches + 1) (Cleared c)) (after_batch m (Cleared c))
      → IsTold Operator (RunBatch budget) (Batch (m.batches + 1) (Cleared c)) (after_batch m (Cleared c))
  cleared_told budget c left held =
      news_told account k n (BatchCleared number c.prices) (map ToIt (event_if (is_there m account) event)) _ rest (told_if account (is_there m account) j n event rest yes no)
      (ap (λ (l : List (List ℕ)). notice_to All (batch_members l number (Cleared c)) ∷ rest) (sym learned.holding.tickers))
    where
      number : ℕ
      number = m.batches + 1

      n : Market
      n = after_batch m (Cleared c)

      event : Event
      event = Clears number c.prices (own_fills account m c)

      j : Knows
      j = tell (with_news account k (BatchCleared number c.prices)) (news_messages account k (BatchCleared number c.prices))

      rest : List Message
      rest = mine account (fills account number (λ a. own_costs a m.orders c) 1 (length d.accounts))

      rates : List ℕ
      rates = map (λ (f : Fill). f.rate) c.fills

      yes : is_there m account ≡ true → (rest ≡ event_messages account j event) × IsLearned account n (after_event j.market event)
      yes is =
          let there = is_account m account is in (
            own_fill account number (λ a. own_costs a m.orders c) (length d.accounts) 1 (omega (arith, there.0)) (omega (arith, there.1, counts))
                ∙ ap (λ ts. fill_message number account (map (cost_of c.prices) ts)) (sym (own_again account m.orders rates))
                ∙ ap (λ l. fill_message number account (map (cost_of c.prices) (trades_of l (own_fills account m c)))) (sym learned.holding.orders),
            record {
              version = learned.version;
              holding = subst (λ z. IsHeld account n (after_all k.market.holding (event_if z event))) is held;
              credit = learned.credit;
              prices = refl;
              batches = refl;
            },
          )

      no : is_there m account ≡ false → (rest ≡ []) × (j.left ≡ 0) × IsLearned account n j.market
      no is = (
        no_fills account number (λ a. own_costs a m.orders c) (length d.accounts) 1 (inr (above (cases_lt account (1 + length d.accounts)))),
        left,
        record {
          version = learned.version;
          holding = subst (λ z. IsHeld account n (after_all k.market.holding (event_if z event))) is held;
          credit = learned.credit;
          prices = refl;
          batches = refl;
        },
      )
        where
          above : (account < 1 + length d.accounts) ⊎ (1 + length d.accounts ≤ account) → 1 + length d.accounts ≤ account
          above (inl below) = absurd (isn't_account m account is (some, omega (arith, below, counts)))
          above (inr so) = so

  -- a batch was skipped
  skipped_told : (budget : ℕ) (sk : Skipping) → k.left ≡ 0 → IsHeldAfter (RunBatch budget) (Batch (m.batches + 1) (Skipped sk)) (after_batch m (Skipped sk))
      → IsTold Operator (RunBatch budget) (Batch (m.batches + 1) (Skipped sk)) (after_batch m (Skipped sk))
  skipped_told budget sk left held =
      news_told account k n (BatchSkipped number) (map ToIt (event_if (is_there m account) (Skips number))) _ [] (told_if account (is_there m account) j n (Skips number) [] yes no)
      (ap (λ (l : List (List ℕ)). notice_to All (batch_members l number (Skipped sk)) ∷ []) (sym learned.holding.tickers))
    where
      number : ℕ
      number = m.batches + 1

      n : Market
      n = after_batch m (Skipped sk)

      j : Knows
      j = tell (with_news account k (BatchSkipped number)) (news_messages account k (BatchSkipped number))

      yes : is_there m account ≡ true → ([] ≡ event_messages account j (Skips number)) × IsLearned account n (after_event j.market (Skips number))
      yes is = (
        refl,
        record {
          version = learned.version;
          holding = subst (λ z. IsHeld account n (after_all k.market.holding (event_if z (Skips number)))) is held;
          credit = learned.credit;
          prices = learned.prices;
          batches = refl;
        },
      )

      no : is_there m account ≡ false → (◌≡◌ {A = List Message} [] []) × (j.left ≡ 0) × IsLearned account n j.market
      no is = (
        refl,
        left,
        record {
          version = learned.version;
          holding = subst (λ z. IsHeld account n (after_all k.market.holding (event_if z (Skips number)))) is held;
          credit = learned.credit;
          prices = learned.prices;
          batches = refl;
        },
      )

  -- a batch ended
  batch_told : (budget : ℕ) (o : Outcome) → k.left ≡ 0 → IsHeldAfter (RunBatch budget) (Batch (m.batches + 1) o) (after_batch m o) → IsTold Operator (RunBatch budget) (Batch (m.batches + 1) o) (after_batch m o)
  batch_told budget (Cleared c) left held = cleared_told budget c left held
  batch_told budget (Skipped sk) left held = skipped_told budget sk left held

  -- ---- any command

  -- a refusal
  refused_told : (c : Command) (s : Recipient) (r : Refusal) → IsTurn account k s line → IsIn (length d.accounts) s → MayAsk s c → IsTold s c (Plain (reply.Refused r)) m
  refused_told (AddAsset ticker) Operator r turn there may = none_told account k m turn learned
  refused_told (AddAsset ticker) (Desk x) r turn there may = absurd (no_owner x may)
  refused_told (AddAsset ticker) All r turn there may = absurd may
  refused_told OpenAccount Operator r turn there may = none_told account k m turn learned
  refused_told OpenAccount (Desk x) r turn there may = absurd (no_owner x may)
  refused_told OpenAccount All r turn there may = absurd may
  refused_told (Deposit named kind count) s r turn there may = named_refused s turn there named (Deposit named kind count) r (names_own s (Deposit named kind count) named (λ x e. absurd (no_owner x e)) may)
  refused_told (Withdraw named kind count) s r turn there may = named_refused s turn there named (Withdraw named kind count) r (names_own s (Withdraw named kind count) named (λ x e. absurd (no_owner x e)) may)
  refused_told (Place last request) s r turn there may = named_refused s turn there request.account (Place last request) r (names_own s (Place last request) request.account (λ x e. same_owner request.account x e) may)
  refused_told (CancelOrder named number) s r turn there may = named_refused s turn there named (CancelOrder named number) r (names_own s (CancelOrder named number) named (λ x e. same_owner named x e) may)
  refused_told (RunBatch budget) Operator r turn there may = none_told account k m turn learned
  refused_told (RunBatch budget) (Desk x) r turn there may = absurd (no_owner x may)
  refused_told (RunBatch budget) All r turn there may = absurd may
  refused_told (SetCredit named kind count) s r turn there may = named_refused s turn there named (SetCredit named kind count) r (names_own s (SetCredit named kind count) named (λ x e. absurd (no_owner x e)) may)

  -- a command that is accepted
  accepted_told : (c : Command) (s : Recipient) (a : Answer Outcome) (n : Market) → IsTurn account k s line → IsIn (length d.accounts) s → MayAsk s c → FirstRefusal m c None → Accepts IsAdmissibleOutcome m c a n
      → IsHeldAfter c a n → IsTold s c a n
  accepted_told (AddAsset ticker) Operator a n turn there may none accepts held =
      told_so Operator (AddAsset ticker) a _ n _ accepts.0 accepts.1 (asset_told ticker turn (held_so (AddAsset ticker) a _ n _ accepts.0 accepts.1 held))
  accepted_told (AddAsset ticker) (Desk x) a n turn there may none accepts held = absurd (no_owner x may)
  accepted_told (AddAsset ticker) All a n turn there may none accepts held = absurd may
  accepted_told OpenAccount Operator a n turn there may none accepts held = told_so Operator OpenAccount a _ n _ accepts.0 accepts.1 (opening_told turn (held_so OpenAccount a _ n _ accepts.0 accepts.1 held))
  accepted_told OpenAccount (Desk x) a n turn there may none accepts held = absurd (no_owner x may)
  accepted_told OpenAccount All a n turn there may none accepts held = absurd may
  accepted_told (Deposit named kind count) s a n turn there may none accepts held =
      told_so s (Deposit named kind count) a _ n _ accepts.0 accepts.1
      (deposit_told s turn there named kind count _ (names_own s (Deposit named kind count) named (λ x e. absurd (no_owner x e)) may) (held_so (Deposit named kind count) a _ n _ accepts.0 accepts.1 held))
  accepted_told (Withdraw named kind count) s a n turn there may none accepts held =
      told_so s (Withdraw named kind count) a _ n _ accepts.0 accepts.1
      (withdrawal_told s turn there named kind count _ (names_own s (Withdraw named kind count) named (λ x e. absurd (no_owner x e)) may) (held_so (Withdraw named kind count) a _ n _ accepts.0 accepts.1 held))
  accepted_told (Place last r) s a n turn there may none accepts held =
      told_so s (Place last r) a _ n _ accepts.0 accepts.1
      (placement_told s turn there last r _ (names_own s (Place last r) r.account (λ x e. same_owner r.account x e) may) (record { version = refl; prices = refl; batches = refl }) refl refl (held_so (Place last r) a _ n _ accepts.0 accepts.1 held))
  accepted_told (CancelOrder named number) s a n turn there may none accepts held =
      told_so s (CancelOrder named number) a _ n _ accepts.0 accepts.1
      (cancel_told s turn there named number _ (names_own s (CancelOrder named number) named (λ x e. same_owner named x e) may) (record { version = refl; prices = refl; batches = refl }) refl refl (held_so (CancelOrder named number) a _ n _ accepts.0 accepts.1 held))
  accepted_told (RunBatch budget) Operator a n turn there may none accepts held =
      told_so Operator (RunBatch budget) a _ n _ accepts.2.0 accepts.2.1 (batch_told budget accepts.0 turn (held_so (RunBatch budget) a _ n _ accepts.2.0 accepts.2.1 held))
  accepted_told (RunBatch budget) (Desk x) a n turn there may none accepts held = absurd (no_owner x may)
  accepted_told (RunBatch budget) All a n turn there may none accepts held = absurd may
  accepted_told (SetCredit named kind count) s a n turn there may none accepts held =
      told_so s (SetCredit named kind count) a _ n _ accepts.0 accepts.1
      (credit_told s turn there named kind count (names_own s (SetCredit named kind count) named (λ x e. absurd (no_owner x e)) may) (past_unless none).0 (held_so (SetCredit named kind count) a _ n _ accepts.0 accepts.1 held))

  -- a command that is served
  pub entry_told : (c : Command) (s : Recipient) (a : Answer Outcome) (n : Market) → IsTurn account k s line → IsIn (length d.accounts) s → MayAsk s c → Serves IsAdmissibleOutcome m c a n → IsTold s c a n
  entry_told c s a n turn there may served = by served.first served.refused served.answered
    where
      held : IsHeldAfter c a n
      held = told account m k.market.holding consistent learned.holding (Ok c) a n served

      by : (first : Option Refusal) → FirstRefusal m c first → Answers IsAdmissibleOutcome m c first a n → IsTold s c a n
      by (Some r) refused answered = told_so s c a _ n _ answered.0 answered.1 (refused_told c s r turn there may)
      by None refused answered = accepted_told c s a n turn there may refused answered held
