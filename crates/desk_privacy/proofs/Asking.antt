-- What an account asks for and is answered follows from what it knows.
use Rattle.std.proofs.Common.{◌≡◌, inl, inr, ℕ, zero, suc, ◌+◌, ◌<◌, ℤ, pos, List, ◌++◌, length, Some, None, refl, sym, ap, ◌∙◌, arith}
use Rattle.std.specs.Prelude.{codes, decimal}
use Rattle.std.specs.Fmt.{signed_decimal}
use Rattle.std.specs.List.{flat_map, range_with_len}
use Rattle.wire_records.specs.declared.version.Version.{Version}
use Rattle.flow_accounts.specs.Balances.{IsAccount, IsAsset, asset_count, credit_in, credit_of, units_of}
use Rattle.flow_orders.specs.Orders.{needed_money, needed_units}
use Rattle.market_rules.specs.Market.{Market, IsConsistent, start_prices}
use Rattle.order_text.specs.declared.question.Question.{Question}
use Rattle.order_text.specs.declared.question.Question.TheVariants as question
use Rattle.pair_text.specs.Texts.{◌then◌}
use Rattle.answer_text.specs.Texts.{ticker_text, listed, separated, comma}
use Rattle.answer_text.specs.Accounts.{holding_member, account_members, order_text}
use Rattle.answer_text.specs.Answers.{market_members}
use Rattle.answer_text.specs.declared.header.Recipient.TheVariants.{Desk}
use Rattle.statement_rules.specs.Holdings.{own_orders}
use Rattle.statement_rules.specs.Statements.{reserved_balance}
use Rattle.statement_rules.proofs.ViewLaws.{statements_end_with_balances}
use Rattle.desk_messages.specs.Desks.{Desks}
use Rattle.desk_lines.specs.declared.wishes.TextFault.TheVariants.{NoCommand, NotYours, NoAccount}
use Rattle.desk_lines.specs.Rights.{MayKnow, IsAboutSome}
use Rattle.desk_lines.specs.Wishes.{Wish, IsWish}
use Rattle.desk_lines.specs.Wishes as wish
use Rattle.desk_session.specs.Lines.{answer_members}
use Rattle.desk_privacy.proofs.Learning.{Known, IsLearned, known_member, known_members, known_answer}

-- ---- what it asks for

no_account : (a : ℕ) → question.Account a ≡ question.Market → ⊥
no_account a e = cc

nor_own : (a : ℕ) → question.Account a ≡ question.Own → ⊥
nor_own a e = cc

no_exchange : question.Exchange ≡ question.Market → ⊥
no_exchange e = cc

nor_own_exchange : question.Exchange ≡ question.Own → ⊥
nor_own_exchange e = cc

-- what an account may know is about what is there, whoever is
about_some : (account : ℕ) (d : Desks) (q : Question) → MayKnow (Desk account) q → IsAboutSome d q
about_some account d question.Market may = tt
about_some account d question.Own may = tt
about_some account d (question.Account a) (inl is) = absurd (no_account a is)
about_some account d (question.Account a) (inr is) = absurd (nor_own a is)
about_some account d question.Exchange may = tt

-- so what its text asks for doesn't depend on who is there
pub wish_alike : (version : Version) (tickers : List (List ℕ)) (d e : Desks) (account : ℕ) (text : List ℕ) (w : Wish) → IsWish version tickers d (Desk account) text w → IsWish version tickers e (Desk account) text w
wish_alike version tickers d e account text wish.Nothing is = is
wish_alike version tickers d e account text (wish.Serve asked) is = is
wish_alike version tickers d e account text (wish.Answer q) is = (is.0, is.1, is.2, about_some account e q is.2)
wish_alike version tickers d e account text (wish.Refuse NoCommand) is = is
wish_alike version tickers d e account text (wish.Refuse NotYours) is = is
wish_alike version tickers d e account text (wish.Refuse NoAccount) is = absurd (is.4 (about_some account d is.1 is.3))

-- ---- what it is answered

-- items that agree at these places
same_items : (f g : ℕ → List ℕ) (start n : ℕ) → ((i : ℕ) → i < start + n → f i ≡ g i) → flat_map (λ place. comma place then f place) (range_with_len start n) ≡ flat_map (λ place. comma place then g place) (range_with_len start n)
same_items f g start zero same = refl
same_items f g start (suc n) same =
    ap (λ (l : List ℕ). (comma start then l) ++ flat_map (λ place. comma place then f place) (range_with_len (start + 1) n)) (same start (omega arith))
    ∙ ap (λ (l : List ℕ). (comma start then g start) ++ l) (same_items f g (start + 1) n (λ i inside. same i (omega (arith, inside))))

module _ (account : ℕ) (m : Market) (k : Known) (consistent : IsConsistent m) (there : IsAccount m.balances account) (learned : IsLearned account m k) where
  member_is : (asset : ℕ) → IsAsset m.balances asset → holding_member m.tickers m.balances m.orders account asset ≡ known_member k asset
  member_is asset is =
      ap (λ (tickers : List (List ℕ)). ticker_text tickers asset then codes ":[" then signed_decimal (units_of m.balances account asset) then codes "," then signed_decimal (needed_units m.orders account asset)
      then codes "," then decimal (credit_in (credit_of m.balances account) (Some asset)) then codes "]") (sym learned.holding.tickers)
      ∙ ap (λ u. ticker_text k.holding.tickers asset then codes ":[" then signed_decimal u then codes "," then signed_decimal (needed_units m.orders account asset)
      then codes "," then decimal (credit_in (credit_of m.balances account) (Some asset)) then codes "]") (sym (learned.holding.units there.0 asset is))
      ∙ ap (λ u. ticker_text k.holding.tickers asset then codes ":[" then signed_decimal (k.holding.units asset) then codes "," then signed_decimal u
      then codes "," then decimal (credit_in (credit_of m.balances account) (Some asset)) then codes "]") (sym (statements_end_with_balances.units_needed account m k.holding asset learned.holding))
      ∙ ap (λ c. ticker_text k.holding.tickers asset then codes ":[" then signed_decimal (k.holding.units asset) then codes "," then signed_decimal (pos (reserved_balance k.holding (Some asset)))
      then codes "," then decimal (credit_in c (Some asset)) then codes "]") (sym learned.credit)

  items_are : listed (holding_member m.tickers m.balances m.orders account) (asset_count m.balances) ≡ listed (known_member k) (length k.holding.tickers)
  items_are =
      same_items (holding_member m.tickers m.balances m.orders account) (known_member k) 0 (asset_count m.balances) (λ i inside. member_is i (omega (arith, inside)))
      ∙ ap (λ n. listed (known_member k) n) (sym (ap length learned.holding.tickers ∙ consistent.one_each.tickers))

  -- the text of what an account has, by its parts
  abbrev whole : ℤ → ℤ → ℕ → List ℕ → List ℕ → List ℕ
  whole money reserved credit units orders =
      codes "\"ask\":\"account\",\"account\":" then decimal account then codes ",\"money\":\"" then signed_decimal money
      then codes "\",\"reserved\":\"" then signed_decimal reserved then codes "\",\"credit\":" then decimal credit
      then codes ",\"units\":{" then units
      then codes "},\"orders\":[" then orders then codes "]"

  pub own_members : account_members m.tickers m.balances m.orders account ≡ known_members account k
  own_members =
      let units = listed (holding_member m.tickers m.balances m.orders account) (asset_count m.balances) in
      let orders = separated (order_text m.tickers) (own_orders account m.orders) in
      ap (λ z. whole z (needed_money m.orders account) (credit_in (credit_of m.balances account) None) units orders) (sym (learned.holding.money there.0))
      ∙ ap (λ z. whole k.holding.money z (credit_in (credit_of m.balances account) None) units orders) (sym (statements_end_with_balances.money_needed account m k.holding learned.holding))
      ∙ ap (λ c. whole k.holding.money (pos (reserved_balance k.holding None)) (credit_in c None) units orders) (sym learned.credit)
      ∙ ap (λ (l : List ℕ). whole k.holding.money (pos (reserved_balance k.holding None)) (credit_in k.credit None) l orders) items_are
      ∙ ap (λ tickers. whole k.holding.money (pos (reserved_balance k.holding None)) (credit_in k.credit None) (listed (known_member k) (length k.holding.tickers)) (separated (order_text tickers) (own_orders account m.orders))) (sym learned.holding.tickers)
      ∙ ap (λ os. whole k.holding.money (pos (reserved_balance k.holding None)) (credit_in k.credit None) (listed (known_member k) (length k.holding.tickers)) (separated (order_text k.holding.tickers) os)) (sym learned.holding.orders)

  market_is : market_members m.tickers m.version m.batches (start_prices m) ≡ market_members k.holding.tickers k.version k.batches k.prices
  market_is =
      ap (λ tickers. market_members tickers m.version m.batches (start_prices m)) (sym learned.holding.tickers)
      ∙ ap (λ version. market_members k.holding.tickers version m.batches (start_prices m)) (sym learned.version)
      ∙ ap (λ batches. market_members k.holding.tickers k.version batches (start_prices m)) (sym learned.batches)
      ∙ ap (λ prices. market_members k.holding.tickers k.version k.batches prices) (sym learned.prices)

  -- the answer to a question that it may ask
  pub answer_is : (q : Question) → MayKnow (Desk account) q → answer_members m (Desk account) q ≡ known_answer account k q
  answer_is question.Market may = market_is
  answer_is question.Own may = own_members
  answer_is (question.Account a) (inl is) = absurd (no_account a is)
  answer_is (question.Account a) (inr is) = absurd (nor_own a is)
  answer_is question.Exchange (inl is) = absurd (no_exchange is)
  answer_is question.Exchange (inr is) = absurd (nor_own_exchange is)
