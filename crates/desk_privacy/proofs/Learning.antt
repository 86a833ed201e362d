-- What an account knows, what it learns of what it observes, and what it is told of it.
use Rattle.std.proofs.Common.{◌≡◌, ℕ, zero, suc, ◌+◌, ◌-◌, ℤ, pos, List, [], ◌∷◌, ◌++◌, length, map, Option, Some, None, refl, sym, ap, subst, ◌∙◌}
use Rattle.std.specs.Prelude.{codes, decimal, if◌then◌else◌}
use Rattle.std.specs.Fmt.{signed_decimal}
use Rattle.std.proofs.lemmas.List.{append_assoc}
use Rattle.wire_records.specs.Commands.{AddAsset, OpenAccount, Deposit, Withdraw, Place, CancelOrder, SetCredit, Plain}
use Rattle.wire_records.specs.declared.reply.Reply.TheVariants as reply
use Rattle.wire_records.specs.declared.version.Version.{Version}
use Rattle.flow_accounts.specs.Balances.{Credit, no_credit, with_credit_place, credited, credit_in, credit_of}
use Rattle.flow_orders.specs.Outcomes.{Cleared, Skipped, trades_of}
use Rattle.market_rules.specs.Market.{Market, cut_price, start_prices}
use Rattle.order_text.specs.Lines.{commands_of}
use Rattle.order_text.specs.declared.question.Question.{Question}
use Rattle.order_text.specs.declared.question.Question.TheVariants as question
use Rattle.pair_text.specs.Texts.{◌then◌}
use Rattle.answer_text.specs.Texts.{ticker_text, listed, separated}
use Rattle.answer_text.specs.Accounts.{order_text}
use Rattle.answer_text.specs.Answers.{answer_line, command_members, echo_members, batch_members, market_members}
use Rattle.answer_text.specs.declared.header.Recipient.{Recipient}
use Rattle.answer_text.specs.declared.header.Recipient.TheVariants.{Operator, Desk, All}
use Rattle.statement_rules.specs.Views.{Event, Adds, Opens, Deposits, Withdraws, Credits, Places, Cancels, Refuses, Clears, Skips}
use Rattle.statement_rules.specs.Holdings.{Holding, after, IsHeld}
use Rattle.statement_rules.specs.Statements.{reserved_balance}
use Rattle.desk_messages.specs.declared.counts.Tally.{Tally}
use Rattle.desk_messages.specs.Desks.{Desks, tally_of, no_desks}
use Rattle.desk_messages.specs.Messages.{Message, notice_to, cost_of, fill_message, expected, error_to}
use Rattle.desk_lines.specs.Wishes.{Wish, IsWish}
use Rattle.desk_lines.specs.Wishes as wish
use Rattle.desk_lines.specs.Laws.{OneWish}
use Rattle.desk_session.specs.Lines.{fault_word, answer_to}
use Rattle.desk_privacy.specs.Letters.{Letter}
use Rattle.desk_privacy.specs.Observing.{Observation, News, AssetAdded, BatchCleared, BatchSkipped, NextLine, OtherLine, ToAll, ToIt}

-- what an account knows of a market: its version, what the account has there, its credit, the prices at which the next batch starts, and how many there were
pub record Known : Type 0 where
  pub version : Version
  pub holding : Holding
  pub credit : Credit
  pub prices : List ℤ
  pub batches : ℕ

-- what an account knows: of the market, the counts of its own and of what all are told, and how many commands of its last line are to be served yet
pub record Knows : Type 0 where
  pub market : Known
  pub own : Tally
  pub all : Tally
  pub left : ℕ

-- this is what an account knows of a market
pub record IsLearned (account : ℕ) (m : Market) (k : Known) : Type 0 where
  pub version : k.version ≡ m.version
  pub holding : IsHeld account m k.holding
  pub credit : k.credit ≡ credit_of m.balances account
  pub prices : k.prices ≡ start_prices m
  pub batches : k.batches ≡ m.batches

-- and of the counts
pub record IsCounted (account : ℕ) (d : Desks) (k : Knows) : Type 0 where
  pub own : k.own ≡ tally_of d (Desk account)
  pub all : k.all ≡ d.all

-- ---- what it learns

abbrev pub credit_after : Holding → Credit → Event → Credit
credit_after h c (Adds ticker) = if h.is_open then with_credit_place c else c
credit_after h c (Opens account) = no_credit (length h.tickers)
credit_after h c (Deposits kind count) = c
credit_after h c (Withdraws kind count) = c
credit_after h c (Credits kind count) = credited c kind count
credit_after h c (Places number last r) = c
credit_after h c (Cancels number) = c
credit_after h c (Refuses command refusal) = c
credit_after h c (Clears batch prices fills) = c
credit_after h c (Skips batch) = c

abbrev pub after_event : Known → Event → Known
after_event k event = record k { holding = after k.holding event; credit = credit_after k.holding k.credit event }

abbrev pub after_news : Known → News → Known
after_news k (AssetAdded ticker) = record k { prices = k.prices ++ cut_price (pos 0) ∷ [] }
after_news k (BatchCleared batch prices) = record k { prices = map cut_price prices; batches = batch }
after_news k (BatchSkipped batch) = record k { batches = batch }

-- one more message to this recipient
abbrev pub counted : Recipient → Knows → Knows
counted Operator k = k
counted (Desk named) k = record k { own = record (k.own) { messages = k.own.messages + 1 } }
counted All k = record k { all = record (k.all) { messages = k.all.messages + 1 } }

abbrev pub tell : Knows → List Message → Knows
tell k [] = k
tell k (m ∷ more) = tell (counted m.to k) more

abbrev pub count_of : Knows → Recipient → ℕ
count_of k Operator = 0
count_of k (Desk named) = k.own.messages
count_of k All = k.all.messages

abbrev pub line_of : Knows → Message → List ℕ
line_of k m = answer_line (record { to = m.to; number = count_of k m.to + 1; line = m.line; entry = m.entry }) m.members

-- the letter of a message of this number
abbrev pub letter_at : Recipient → (line entry : Option ℕ) → List ℕ → ℕ → Letter
letter_at to line entry members number = record { to = to; line = answer_line (record { to = to; number = number + 1; line = line; entry = entry }) members }

-- the letters of messages to the account and to all
abbrev pub numbered : Knows → List Message → List Letter
numbered k [] = []
numbered k (m ∷ more) = record { to = m.to; line = line_of k m } ∷ numbered (counted m.to k) more

-- with one more line of its own
abbrev pub with_own_line : Knows → Knows
with_own_line k = record k { own = record (k.own) { lines = k.own.lines + 1 } }

-- ---- what it is told

-- the number of its last line, if commands of it are to be served yet
abbrev pub line_if : ℕ → ℕ → Option ℕ
line_if zero line = None
line_if (suc left) line = Some line

-- the members of the answer about an asset
abbrev pub known_member : Known → ℕ → List ℕ
known_member k asset =
    ticker_text k.holding.tickers asset then codes ":[" then signed_decimal (k.holding.units asset) then codes "," then signed_decimal (pos (reserved_balance k.holding (Some asset)))
    then codes "," then decimal (credit_in k.credit (Some asset)) then codes "]"

abbrev pub known_members : ℕ → Known → List ℕ
known_members account k =
    codes "\"ask\":\"account\",\"account\":" then decimal account then codes ",\"money\":\"" then signed_decimal k.holding.money
    then codes "\",\"reserved\":\"" then signed_decimal (pos (reserved_balance k.holding None)) then codes "\",\"credit\":" then decimal (credit_in k.credit None)
    then codes ",\"units\":{" then listed (known_member k) (length k.holding.tickers)
    then codes "},\"orders\":[" then separated (order_text k.holding.tickers) k.holding.orders then codes "]"

module _ (account : ℕ) where
  abbrev pub known_answer : Known → Question → List ℕ
  known_answer k question.Market = market_members k.holding.tickers k.version k.batches k.prices
  known_answer k question.Own = known_members account k
  known_answer k (question.Account named) = []
  known_answer k question.Exchange = []

  abbrev pub wish_messages : Knows → Wish → List Message
  wish_messages k wish.Nothing = []
  wish_messages k (wish.Serve asked) = []
  wish_messages k (wish.Answer q) = answer_to (Desk account) k.own.lines (known_answer k.market q) ∷ []
  wish_messages k (wish.Refuse why) = error_to (Desk account) k.own.lines (fault_word why) ∷ []

  abbrev pub commands_left : Wish → ℕ
  commands_left wish.Nothing = 0
  commands_left (wish.Serve asked) = length (commands_of asked)
  commands_left (wish.Answer q) = 0
  commands_left (wish.Refuse why) = 0

  abbrev pub after_wish : Knows → Wish → Knows
  after_wish k w = record (tell k (wish_messages k w)) { left = commands_left w }

  -- a message to the account about its own, which answers its last line if commands of that are to be served yet
  abbrev pub told_line : Option ℕ → List ℕ → List Message
  told_line line members = record { to = Desk account; line = line; entry = None; members = members } ∷ []

  abbrev pub told_it : Knows → List ℕ → List Message
  told_it k members = told_line (line_if k.left k.own.lines) members

  abbrev pub event_messages : Knows → Event → List Message
  event_messages k (Adds ticker) = []
  event_messages k (Opens number) = told_it k (echo_members k.market.holding.tickers OpenAccount (Plain (reply.Account number)))
  event_messages k (Deposits kind count) = told_it k (echo_members k.market.holding.tickers (Deposit account kind count) (Plain reply.Done))
  event_messages k (Withdraws kind count) = told_it k (echo_members k.market.holding.tickers (Withdraw account kind count) (Plain reply.Done))
  event_messages k (Credits kind count) = told_it k (echo_members k.market.holding.tickers (SetCredit account kind count) (Plain reply.Done))
  event_messages k (Places number last r) = told_it k (echo_members k.market.holding.tickers (Place last r) (Plain (reply.Order number)))
  event_messages k (Cancels number) = told_it k (echo_members k.market.holding.tickers (CancelOrder account number) (Plain reply.Done))
  event_messages k (Refuses command refusal) = told_it k (echo_members k.market.holding.tickers command (Plain (reply.Refused refusal)))
  event_messages k (Clears batch prices fills) = fill_message batch account (map (cost_of prices) (trades_of k.market.holding.orders fills))
  event_messages k (Skips batch) = []

  abbrev pub news_messages : Knows → News → List Message
  news_messages k (AssetAdded ticker) = notice_to All (command_members k.market.holding.tickers (AddAsset ticker)) ∷ []
  news_messages k (BatchCleared batch prices) =
      notice_to All (batch_members k.market.holding.tickers batch (Cleared (record { prices = prices; fills = []; residuals = []; gap = pos 0 }))) ∷ []
  news_messages k (BatchSkipped batch) = notice_to All (batch_members k.market.holding.tickers batch (Skipped (record { trace = []; start_dual = pos 0; end_dual = pos 0 }))) ∷ []

  abbrev pub with_news : Knows → News → Knows
  with_news k news = record k { market = after_news k.market news }

  abbrev pub with_event : Knows → Event → Knows
  with_event k event = record k { market = after_event k.market event; left = k.left - 1 }

  -- What an account that knows this hears while it observes that, and what it knows then.
  abbrev pub Hears : Knows → List Observation → List Letter → Knows → Type 0
  Hears k [] letters new = (letters ≡ []) × (new ≡ k)
  Hears k (NextLine text ∷ rest) letters new =
      (wished : Wish) × (more : List Letter) × IsWish k.market.version k.market.holding.tickers (no_desks 0) (Desk account) text wished
      × Hears (after_wish (with_own_line k) wished) rest more new × (letters ≡ numbered (with_own_line k) (wish_messages (with_own_line k) wished) ++ more)
  Hears k (OtherLine ∷ rest) letters new =
      (more : List Letter) × Hears (tell k (expected (Desk account) (k.own.lines + 1) ∷ [])) rest more new × (letters ≡ numbered k (expected (Desk account) (k.own.lines + 1) ∷ []) ++ more)
  Hears k (ToAll news ∷ rest) letters new =
      (more : List Letter) × Hears (tell (with_news k news) (news_messages k news)) rest more new × (letters ≡ numbered k (news_messages k news) ++ more)
  Hears k (ToIt event ∷ rest) letters new =
      (more : List Letter) × Hears (tell (with_event k event) (event_messages k event)) rest more new × (letters ≡ numbered k (event_messages k event) ++ more)

  -- nothing, and then what is observed after it
  pub hears_more : (first : List Observation) (k mid new : Knows) (rest : List Observation) (one more : List Letter) → Hears k first one mid → Hears mid rest more new → Hears k (first ++ rest) (one ++ more) new
  hears_more [] k mid new rest one more is after = rw is.0 (subst (λ z. Hears z rest more new) is.1 after)
  hears_more (NextLine text ∷ first) k mid new rest one more (wished, own, wish_is, following, one_is) following_it = (
    wished,
    own ++ more,
    wish_is,
    hears_more first (after_wish (with_own_line k) wished) mid new rest own more following following_it,
    ap (λ (l : List Letter). l ++ more) one_is ∙ append_assoc (numbered (with_own_line k) (wish_messages (with_own_line k) wished)) own more,
  )
  hears_more (OtherLine ∷ first) k mid new rest one more (own, following, one_is) following_it = (
    own ++ more,
    hears_more first (tell k (expected (Desk account) (k.own.lines + 1) ∷ [])) mid new rest own more following following_it,
    ap (λ (l : List Letter). l ++ more) one_is ∙ append_assoc (numbered k (expected (Desk account) (k.own.lines + 1) ∷ [])) own more,
  )
  hears_more (ToAll news ∷ first) k mid new rest one more (own, following, one_is) following_it = (
    own ++ more,
    hears_more first (tell (with_news k news) (news_messages k news)) mid new rest own more following following_it,
    ap (λ (l : List Letter). l ++ more) one_is ∙ append_assoc (numbered k (news_messages k news)) own more,
  )
  hears_more (ToIt event ∷ first) k mid new rest one more (own, following, one_is) following_it = (
    own ++ more,
    hears_more first (tell (with_event k event) (event_messages k event)) mid new rest own more following following_it,
    ap (λ (l : List Letter). l ++ more) one_is ∙ append_assoc (numbered k (event_messages k event)) own more,
  )

  -- what is heard is determined
  pub hears_one : OneWish → (noted : List Observation) (k : Knows) (x y : List Letter) (a b : Knows) → Hears k noted x a → Hears k noted y b → (x ≡ y) × (a ≡ b)
  hears_one one_wish [] k x y a b one other = (one.0 ∙ sym other.0, one.1 ∙ sym other.1)
  hears_one one_wish (NextLine text ∷ noted) k x y a b (wished, more, wish_is, rest, x_is) (wished', more', wish_is', rest', y_is) =
      let same = one_wish k.market.version k.market.holding.tickers (no_desks 0) (Desk account) text wished wished' wish_is wish_is' in
      let both = hears_one one_wish noted (after_wish (with_own_line k) wished) more more' a b rest (subst (λ z. Hears (after_wish (with_own_line k) z) noted more' b) (sym same) rest') in (
        x_is ∙ ap (λ (l : List Letter). numbered (with_own_line k) (wish_messages (with_own_line k) wished) ++ l) both.0
            ∙ ap (λ z. numbered (with_own_line k) (wish_messages (with_own_line k) z) ++ more') same ∙ sym y_is,
        both.1,
      )
  hears_one one_wish (OtherLine ∷ noted) k x y a b (more, rest, x_is) (more', rest', y_is) =
      let both = hears_one one_wish noted (tell k (expected (Desk account) (k.own.lines + 1) ∷ [])) more more' a b rest rest' in
      (x_is ∙ ap (λ (l : List Letter). numbered k (expected (Desk account) (k.own.lines + 1) ∷ []) ++ l) both.0 ∙ sym y_is, both.1)
  hears_one one_wish (ToAll news ∷ noted) k x y a b (more, rest, x_is) (more', rest', y_is) =
      let both = hears_one one_wish noted (tell (with_news k news) (news_messages k news)) more more' a b rest rest' in
      (x_is ∙ ap (λ (l : List Letter). numbered k (news_messages k news) ++ l) both.0 ∙ sym y_is, both.1)
  hears_one one_wish (ToIt event ∷ noted) k x y a b (more, rest, x_is) (more', rest', y_is) =
      let both = hears_one one_wish noted (tell (with_event k event) (event_messages k event)) more more' a b rest rest' in
      (x_is ∙ ap (λ (l : List Letter). numbered k (event_messages k event) ++ l) both.0 ∙ sym y_is, both.1)

-- what is told changes no other knowledge
abbrev Keeps : List Message → Knows → Type 0
Keeps messages k = ((tell k messages).market ≡ k.market) × ((tell k messages).left ≡ k.left) × ((tell k messages).own.lines ≡ k.own.lines)

one_keeps : (to : Recipient) (more : List Message) (k : Knows) → ((k : Knows) → Keeps more k)
    → ((tell (counted to k) more).market ≡ k.market) × ((tell (counted to k) more).left ≡ k.left) × ((tell (counted to k) more).own.lines ≡ k.own.lines)
one_keeps Operator more k rest = rest k
one_keeps (Desk named) more k rest = rest (counted (Desk named) k)
one_keeps All more k rest = rest (counted All k)

pub tell_keeps : (messages : List Message) (k : Knows) → ((tell k messages).market ≡ k.market) × ((tell k messages).left ≡ k.left) × ((tell k messages).own.lines ≡ k.own.lines)
tell_keeps [] k = (refl, refl, refl)
tell_keeps (m ∷ more) k = one_keeps m.to more k (tell_keeps more)

-- who is told the same has the same numbers
abbrev HaveSame : Knows → Knows → Type 0
HaveSame k j = (k.own ≡ j.own) × (k.all ≡ j.all)

counted_same : (to : Recipient) (k j : Knows) → (k.own ≡ j.own) × (k.all ≡ j.all) → ((counted to k).own ≡ (counted to j).own) × ((counted to k).all ≡ (counted to j).all)
counted_same Operator k j same = same
counted_same (Desk named) k j same = (ap (λ (t : Tally). record t { messages = t.messages + 1 }) same.0, same.1)
counted_same All k j same = (same.0, ap (λ (t : Tally). record t { messages = t.messages + 1 }) same.1)

pub tell_same : (messages : List Message) (k j : Knows) → (k.own ≡ j.own) × (k.all ≡ j.all) → ((tell k messages).own ≡ (tell j messages).own) × ((tell k messages).all ≡ (tell j messages).all)
tell_same [] k j same = same
tell_same (m ∷ more) k j same = tell_same more (counted m.to k) (counted m.to j) (counted_same m.to k j same)

count_same : (to : Recipient) (k j : Knows) → (k.own ≡ j.own) × (k.all ≡ j.all) → count_of k to ≡ count_of j to
count_same Operator k j same = refl
count_same (Desk named) k j same = ap (λ (t : Tally). t.messages) same.0
count_same All k j same = ap (λ (t : Tally). t.messages) same.1

pub numbered_same : (messages : List Message) (k j : Knows) → (k.own ≡ j.own) × (k.all ≡ j.all) → numbered k messages ≡ numbered j messages
numbered_same [] k j same = refl
numbered_same (m ∷ more) k j same =
    ap (λ n. letter_at m.to m.line m.entry m.members n ∷ numbered (counted m.to k) more) (count_same m.to k j same)
    ∙ ap (λ (l : List Letter). record { to = m.to; line = line_of j m } ∷ l) (numbered_same more (counted m.to k) (counted m.to j) (counted_same m.to k j same))

-- messages, and then others
pub tell_both : (one other : List Message) (k : Knows) → tell k (one ++ other) ≡ tell (tell k one) other
tell_both [] other k = refl
tell_both (m ∷ one) other k = tell_both one other (counted m.to k)

pub numbered_both : (one other : List Message) (k : Knows) → numbered k (one ++ other) ≡ numbered k one ++ numbered (tell k one) other
numbered_both [] other k = refl
numbered_both (m ∷ one) other k = ap (λ (l : List Letter). record { to = m.to; line = line_of k m } ∷ l) (numbered_both one other (counted m.to k))
