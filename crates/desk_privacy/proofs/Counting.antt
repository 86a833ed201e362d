-- How many accounts there are after a step, and whom messages are to.
use Rattle.std.proofs.Common.{◌≡◌, ℕ, zero, suc, ◌+◌, ◌<◌, ◌≤◌, Bool, true, false, List, [], ◌∷◌, length, Option, Some, None, Result, Ok, Err, refl, arith}
use Rattle.std.specs.Prelude.{nat_lt, if◌then◌else◌}
use Rattle.std.specs.List.{flat_map, range_with_len}
use Rattle.std.proofs.lemmas.Bool.{and_parts, ltb-true}
use Rattle.std.proofs.lemmas.List.{length-map, length-set, length_push}
use Rattle.wire_records.specs.Records.{Record}
use Rattle.wire_records.specs.Commands.{Command, AddAsset, OpenAccount, Deposit, Withdraw, Place, CancelOrder, RunBatch, SetCredit, Answer, Plain, Batch}
use Rattle.wire_records.specs.Versions.{IsReadAs}
use Rattle.wire_records.specs.declared.command.BodyFault.{BodyFault}
use Rattle.wire_records.specs.declared.reply.Refusal.{Refusal}
use Rattle.wire_records.specs.declared.reply.Reply.TheVariants as reply
use Rattle.flow_accounts.specs.Balances.{account_count, with_asset}
use Rattle.flow_orders.specs.Orders as book
use Rattle.flow_orders.specs.Outcomes.{Outcome, Cleared, Skipped, IsAdmissibleOutcome, trades_of}
use Rattle.fill_caps.proofs.SettledBalances.{settles}
use Rattle.market_rules.specs.Market.{Market}
use Rattle.market_rules.specs.Step.{Accepts, ServesRead, after_batch}
use Rattle.market_rules.specs.Journal.{Step}
use Rattle.market_rules.proofs.ByFirst.{Answers}
use Rattle.answer_text.specs.declared.header.Recipient.{Recipient}
use Rattle.answer_text.specs.declared.header.Recipient.TheVariants.{Operator, Desk, All}
use Rattle.answer_text.specs.declared.fills.FillCost.{FillCost}
use Rattle.desk_messages.specs.Desks.{Desks}
use Rattle.desk_messages.specs.Messages.{opened_by, with_opened, has_account, notices, announced, served_messages, notice_to, fill_message}
use Rattle.desk_session.specs.Lines.{entry_messages, told_of_fills}
use Rattle.desk_privacy.proofs.Numbering.{IsIn, AllIn, all_in_both}

-- ---- accounts

-- one account more, if one was opened
abbrev pub with_more : Option ℕ → ℕ → ℕ
with_more None accounts = accounts
with_more (Some account) accounts = accounts + 1

pub opened_accounts : (o : Option ℕ) (d : Desks) → length (with_opened o d).accounts ≡ with_more o (length d.accounts)
opened_accounts None d = refl
opened_accounts (Some account) d = length_push d.accounts _

batch_accounts : (m : Market) (o : Outcome) → account_count (after_batch m o).balances ≡ account_count m.balances
batch_accounts m (Cleared c) = (settles c.prices (trades_of m.orders c.fills) m.balances m.exchange).accounts
batch_accounts m (Skipped s) = refl

accepted_accounts : (m : Market) (c : Command) (a : Answer Outcome) (n : Market) → Accepts IsAdmissibleOutcome m c a n → account_count n.balances ≡ with_more (opened_by a) (account_count m.balances)
accepted_accounts m (AddAsset ticker) a n accepts = rw (accepts.0, accepts.1) (length-map m.balances.accounts with_asset)
accepted_accounts m OpenAccount a n accepts = rw (accepts.0, accepts.1) (length_push m.balances.accounts _)
accepted_accounts m (Deposit account kind count) a n accepts = rw (accepts.0, accepts.1) (length-set m.balances.accounts _ _)
accepted_accounts m (Withdraw account kind count) a n accepts = rw (accepts.0, accepts.1) (length-set m.balances.accounts _ _)
accepted_accounts m (Place last r) a n accepts = rw (accepts.0, accepts.1) refl
accepted_accounts m (CancelOrder account number) a n accepts = rw (accepts.0, accepts.1) refl
accepted_accounts m (RunBatch budget) a n accepts = rw (accepts.2.0, accepts.2.1) (batch_accounts m accepts.0)
accepted_accounts m (SetCredit account kind count) a n accepts = rw (accepts.0, accepts.1) refl

answered_accounts : (m : Market) (c : Command) (first : Option Refusal) (a : Answer Outcome) (n : Market) → Answers IsAdmissibleOutcome m c first a n → account_count n.balances ≡ with_more (opened_by a) (account_count m.balances)
answered_accounts m c (Some refusal) a n answers = rw (answers.0, answers.1) refl
answered_accounts m c None a n answers = accepted_accounts m c a n answers

read_accounts : (m : Market) (read : Result Command BodyFault) (a : Answer Outcome) (n : Market) → ServesRead IsAdmissibleOutcome m read a n → account_count n.balances ≡ with_more (opened_by a) (account_count m.balances)
read_accounts m (Ok c) a n served = answered_accounts m c served.first a n served.answered
read_accounts m (Err why) a n served = rw (served.0, served.1) refl

-- a step opens the account that is answered, and no other
pub step_accounts : (m : Market) (asked : Record) (a : Answer Outcome) (n : Market) → Step IsReadAs IsAdmissibleOutcome m asked a n → account_count n.balances ≡ with_more (opened_by a) (account_count m.balances)
step_accounts m asked a n step = read_accounts m step.read a n step.served

-- ---- recipients

notices_in : (n : ℕ) (s : Recipient) (named : Option ℕ) (members : List ℕ) → AllIn n (notices n s named members)
notices_in n Operator None members = tt
notices_in n Operator (Some account) members = by (has_account n account) refl
  where
    by : (b : Bool) → has_account n account ≡ b → AllIn n (if b then notice_to (Desk account) members ∷ [] else [])
    by true is =
        let parts = and_parts (nat_lt 0 account) (nat_lt account (n + 1)) is in
        let low : 0 < account = ltb-true 0 account parts.0 in
        let high : account < n + 1 = ltb-true account (n + 1) parts.1 in
        ((low, omega (arith, high)), tt)
    by false is = tt
notices_in n (Desk sender) named members = tt
notices_in n All named members = tt

announced_in : (n : ℕ) (tickers : List (List ℕ)) (c : Command) (a : Answer Outcome) → AllIn n (announced tickers c a)
announced_in n tickers c (Plain reply.Done) = tt
announced_in n tickers c (Plain (reply.Asset number)) = (tt, tt)
announced_in n tickers c (Plain (reply.Account number)) = tt
announced_in n tickers c (Plain (reply.Order number)) = tt
announced_in n tickers c (Plain (reply.Refused refusal)) = tt
announced_in n tickers c (Batch batch outcome) = (tt, tt)

fill_in : (n batch account : ℕ) (own : List FillCost) → (0 < account) × (account ≤ n) → AllIn n (fill_message batch account own)
fill_in n batch account [] there = tt
fill_in n batch account (fill ∷ own) there = (there, tt)

fills_in : (n batch : ℕ) (costs : ℕ → List FillCost) (count from : ℕ) → 0 < from → from + count ≤ n + 1 → AllIn n (flat_map (λ account. fill_message batch account (costs account)) (range_with_len from count))
fills_in n batch costs zero from some few = tt
fills_in n batch costs (suc count) from some few =
    all_in_both n (fill_message batch from (costs from)) (flat_map (λ account. fill_message batch account (costs account)) (range_with_len (from + 1) count))
    (fill_in n batch from (costs from) (some, omega (arith, few))) (fills_in n batch costs count (from + 1) (omega (arith, some)) (omega (arith, few)))

told_in : (n : ℕ) (orders : List book.Order) (a : Answer Outcome) → AllIn n (told_of_fills n orders a)
told_in n orders (Plain answer) = tt
told_in n orders (Batch batch (Cleared c)) = fills_in n batch _ n 1 (omega arith) (omega arith)
told_in n orders (Batch batch (Skipped s)) = tt

-- what is told of an entry is to those who are there
pub entry_in : (d : Desks) (old new : Market) (s : Recipient) (line entry : ℕ) (c : Command) (a : Answer Outcome) → IsIn (length d.accounts) s → AllIn (length d.accounts) (entry_messages d old new s line entry c a)
entry_in d old new s line entry c a there =
    all_in_both (length d.accounts) (served_messages (length d.accounts) s line entry new.tickers c a) (told_of_fills (length d.accounts) old.orders a)
    (there, all_in_both (length d.accounts) (notices (length d.accounts) s _ _) (announced new.tickers c a) (notices_in (length d.accounts) s _ _) (announced_in (length d.accounts) new.tickers c a))
    (told_in (length d.accounts) old.orders a)
