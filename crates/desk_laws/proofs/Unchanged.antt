-- What lines of accounts leave as it is.
use Rattle.std.proofs.Common.{◌≡◌, ◌≢◌, ℕ, ◌+◌, List, [], ◌∷◌, ◌++◌, length, All, Option, Some, None, refl, sym, ap, subst, ◌∙◌, false}
use Rattle.std.specs.Prelude.{◌==◌}
use Rattle.std.proofs.lemmas.Bool.{ne_eqb}
use Rattle.std.proofs.lemmas.List.{append-nil}
use Rattle.std.proofs.lemmas.List.Elements.{All-head, All-tail, filter-append}
use Rattle.wire_records.specs.Records.{Record}
use Rattle.wire_records.specs.Commands.{Command, AddAsset, OpenAccount, Deposit, Withdraw, Place, CancelOrder, RunBatch, SetCredit, Answer, Pair}
use Rattle.wire_records.specs.CommandRecords.{record_of, IsCommand}
use Rattle.wire_records.specs.Versions.{IsOfVersion, IsReadAs}
use Rattle.wire_records.specs.declared.reply.Refusal.{Refusal}
use Rattle.wire_records.proofs.Readings.{command_read, read_own}
use Rattle.flow_orders.specs.Orders.{Order}
use Rattle.flow_orders.specs.Outcomes.{Outcome, IsAdmissibleOutcome}
use Rattle.market_rules.specs.Market.{Market, IsConsistent}
use Rattle.market_rules.specs.Step.{FirstRefusal, Accepts, Serves, ServesRead, ordered}
use Rattle.market_rules.specs.Journal.{Step, Follows}
use Rattle.market_rules.proofs.Accepted.{past_unless}
use Rattle.market_rules.proofs.ByFirst.{Answers}
use Rattle.market_rules.proofs.Consistency.{consistent_step, consistent_follows}
use Rattle.market_rules.proofs.Versions.{step_version, follows_version}
use Rattle.order_text.specs.Lines.{commands_of}
use Rattle.order_text.proofs.Fitting.{commands_fit}
use Rattle.envelope_text.specs.Envelopes.{Sent}
use Rattle.answer_text.specs.declared.header.Recipient.{Recipient}
use Rattle.answer_text.specs.declared.header.Recipient.TheVariants.{Desk}
use Rattle.statement_rules.specs.Holdings.{own_orders}
use Rattle.statement_rules.proofs.OwnParts.{others_cancel}
use Rattle.desk_messages.specs.Desks.{Desks, recipient_of, tally_of, with_line}
use Rattle.desk_lines.specs.Hearing.{Heard, IsHeard}
use Rattle.desk_lines.specs.Hearing as heard
use Rattle.desk_lines.specs.Rights.{owner_of, MayAsk}
use Rattle.desk_lines.specs.Wishes.{Wish, IsWish}
use Rattle.desk_lines.specs.Wishes as wish
use Rattle.desk_session.specs.Lines.{AreServed, ComesOfWish, ComesOf, IsLineServed, AreLinesServed, IsLineBegun}
use Rattle.desk_session.proofs.Going.{follows_line, follows_lines, follows_into}
use Rattle.desk_laws.specs.Rights.{IsLineOf, IsNotOperators, IsOfOthers}
use Rattle.desk_laws.specs.Laws.{Entries, Texts, LinesKeepConsistency, OthersChangeNoOrders, AccountsChangeOnlyOrders}
use Rattle.desk_laws.proofs.Owned.{AreFit, nobodys, same_account, reads_own, own_sender, begun_may, begun_fit}

-- ---- one command of an account

-- nothing but which orders are live, and the number of the next one
abbrev OnlyOrders : Market → Market → Type 0
OnlyOrders old new = new ≡ record old { orders = new.orders; next_order = new.next_order }

-- one change after another
only_both : (old mid new : Market) → OnlyOrders old mid → OnlyOrders mid new → OnlyOrders old new
only_both old mid new one other = other ∙ ap (λ (m : Market). record m { orders = new.orders; next_order = new.next_order }) one

only_same : (old new : Market) → new ≡ old → OnlyOrders old new
only_same old new same = rw same refl

-- a placement or a cancel that is accepted
only_accepted : (m : Market) (c : Command) (a : Answer Outcome) (n : Market) (account : ℕ) → owner_of c ≡ Some account → Accepts IsAdmissibleOutcome m c a n → OnlyOrders m n
only_accepted m (AddAsset ticker) a n account is accepts = nobodys account is
only_accepted m OpenAccount a n account is accepts = nobodys account is
only_accepted m (Deposit named kind count) a n account is accepts = nobodys account is
only_accepted m (Withdraw named kind count) a n account is accepts = nobodys account is
only_accepted m (Place last request) a n account is accepts = rw accepts.1 refl
only_accepted m (CancelOrder named order) a n account is accepts = rw accepts.1 refl
only_accepted m (RunBatch budget) a n account is accepts = nobodys account is
only_accepted m (SetCredit named kind count) a n account is accepts = nobodys account is

only_served : (m : Market) (c : Command) (a : Answer Outcome) (n : Market) (account : ℕ) → owner_of c ≡ Some account → Serves IsAdmissibleOutcome m c a n → OnlyOrders m n
only_served m c a n account is serves = by serves.first serves.answered
  where
    by : (first : Option Refusal) → Answers IsAdmissibleOutcome m c first a n → OnlyOrders m n
    by (Some refusal) answers = only_same m n answers.1
    by None answers = only_accepted m c a n account is answers

-- the own orders of an account
module _ (account : ℕ) where
  abbrev Keeps : Market → Market → Type 0
  Keeps old new = own_orders account new.orders ≡ own_orders account old.orders

  -- with one more order of another account
  one_more : (orders : List Order) (o : Order) → o.account ≢ account → own_orders account (orders ++ o ∷ []) ≡ own_orders account orders
  one_more orders o differs =
      filter-append (λ (x : Order). x.account == account) orders (o ∷ [])
      ∙ ap (λ l. own_orders account orders ++ l) (none_of_it (ne_eqb o.account account differs)) ∙ append-nil (own_orders account orders)
    where
      none_of_it : (o.account == account) ≡ false → own_orders account (o ∷ []) ≡ []
      none_of_it is = rw is refl

  keeps_accepted : (m : Market) (c : Command) (a : Answer Outcome) (n : Market) (named : ℕ) → IsConsistent m → owner_of c ≡ Some named → named ≢ account → FirstRefusal m c None → Accepts IsAdmissibleOutcome m c a n → Keeps m n
  keeps_accepted m (AddAsset ticker) a n named consistent is differs none accepts = nobodys named is
  keeps_accepted m OpenAccount a n named consistent is differs none accepts = nobodys named is
  keeps_accepted m (Deposit other kind count) a n named consistent is differs none accepts = nobodys named is
  keeps_accepted m (Withdraw other kind count) a n named consistent is differs none accepts = nobodys named is
  keeps_accepted m (Place last request) a n named consistent is differs none accepts =
      ap (λ (x : Market). own_orders account x.orders) accepts.1 ∙ one_more m.orders (ordered m.next_order last request) (λ e. differs (sym (same_account request.account named is) ∙ e))
  keeps_accepted m (CancelOrder other order) a n named consistent is differs none accepts =
      ap (λ (x : Market). own_orders account x.orders) accepts.1
      ∙ others_cancel account other order m.orders consistent.ascending (past_unless (past_unless none).1).0 (λ e. differs (sym (same_account other named is) ∙ e))
  keeps_accepted m (RunBatch budget) a n named consistent is differs none accepts = nobodys named is
  keeps_accepted m (SetCredit other kind count) a n named consistent is differs none accepts = nobodys named is

  keeps_served : (m : Market) (c : Command) (a : Answer Outcome) (n : Market) (named : ℕ) → IsConsistent m → owner_of c ≡ Some named → named ≢ account → Serves IsAdmissibleOutcome m c a n → Keeps m n
  keeps_served m c a n named consistent is differs serves = by serves.first serves.refused serves.answered
    where
      by : (first : Option Refusal) → FirstRefusal m c first → Answers IsAdmissibleOutcome m c first a n → Keeps m n
      by (Some refusal) refused answers = ap (λ (x : Market). own_orders account x.orders) answers.1
      by None refused answers = keeps_accepted m c a n named consistent is differs refused answers

-- a step of a command that fits serves it
step_serves : (m : Market) (c : Command) (pair : Pair Record Outcome) (n : Market) → IsCommand c → IsOfVersion m.version c → pair.asked ≡ record_of c → Step IsReadAs IsAdmissibleOutcome m pair.asked pair.answer n
    → Serves IsAdmissibleOutcome m c pair.answer n
step_serves m c pair n fits of asked step =
    let is = command_read m.version c pair.asked step.read of (reads_own m.version c pair.asked fits of asked).1 step.encoded in
    subst (λ r. ServesRead IsAdmissibleOutcome m r pair.answer n) is step.served

-- ---- lines

-- commands of an account
module _ (named : ℕ) where
  only_commands : (sender : Recipient) (number : ℕ) (commands : List Command) (p : Entries) (t : Texts) (old new : Market) (d later : Desks) (count : ℕ) → All (MayAsk (Desk named)) commands → AreFit old.version commands
      → AreServed IsAdmissibleOutcome old d count sender number commands p t new later → OnlyOrders old new
  only_commands sender number [] p t old new d later count may fit is = only_same old new is.2
  only_commands sender number (command ∷ commands) p t old new d later count may fit (pair, next, ps, ts, asked, step, rest, p_is, t_is) =
      let version : next.version ≡ old.version = step_version IsAdmissibleOutcome IsReadAs old pair.asked pair.answer next step in
      let serves = step_serves old command pair next (All-head IsCommand command commands fit.0) (All-head (IsOfVersion old.version) command commands fit.1) asked step in
      let tail : AreFit old.version commands = (All-tail IsCommand command commands fit.0, All-tail (IsOfVersion old.version) command commands fit.1) in
      only_both old next new (only_served old command pair.answer next named (All-head (MayAsk (Desk named)) command commands may) serves)
      (only_commands sender number commands ps ts next new _ later (count + 1) (All-tail (MayAsk (Desk named)) command commands may) (subst (λ v. AreFit v commands) (sym version) tail) rest)

  keeps_commands : (account : ℕ) → named ≢ account → (sender : Recipient) (number : ℕ) (commands : List Command) (p : Entries) (t : Texts) (old new : Market) (d later : Desks) (count : ℕ) → IsConsistent old
      → All (MayAsk (Desk named)) commands → AreFit old.version commands → AreServed IsAdmissibleOutcome old d count sender number commands p t new later → Keeps account old new
  keeps_commands account differs sender number [] p t old new d later count consistent may fit is = ap (λ (x : Market). own_orders account x.orders) is.2
  keeps_commands account differs sender number (command ∷ commands) p t old new d later count consistent may fit (pair, next, ps, ts, asked, step, rest, p_is, t_is) =
      let version : next.version ≡ old.version = step_version IsAdmissibleOutcome IsReadAs old pair.asked pair.answer next step in
      let serves = step_serves old command pair next (All-head IsCommand command commands fit.0) (All-head (IsOfVersion old.version) command commands fit.1) asked step in
      let tail : AreFit old.version commands = (All-tail IsCommand command commands fit.0, All-tail (IsOfVersion old.version) command commands fit.1) in
      keeps_commands account differs sender number commands ps ts next new _ later (count + 1) (consistent_step IsReadAs read_own old pair.asked pair.answer next consistent step)
      (All-tail (MayAsk (Desk named)) command commands may) (subst (λ v. AreFit v commands) (sym version) tail) rest
      ∙ keeps_served account old command pair.answer next named consistent (All-head (MayAsk (Desk named)) command commands may) differs serves

-- A line that isn't the operator's comes to no commands of others: what holds of each market that is as before and of commands of the line's account holds
-- after it.
module _ (old new : Market) (d later : Desks) (count : ℕ) (line : List ℕ) (p : Entries) (t : Texts) (Holds : Type 0) (same : new ≡ old → Holds) where
  by_sender : (sent : Sent) → sent.from ≢ 0
      → ((text : List ℕ) (w : Wish) → IsWish old.version old.tickers d (Desk sent.from) text w → ComesOfWish IsAdmissibleOutcome old (with_line d (Desk sent.from)) count (Desk sent.from) ((tally_of d (Desk sent.from)).lines + 1) w p t new later → Holds)
      → (sender : Recipient) (text : List ℕ) → sender ≡ recipient_of sent.from → ComesOf IsAdmissibleOutcome old d count (heard.From sender text) p t new later → Holds
  by_sender sent some holds sender text mine comes =
      let (w, wished, is) = subst (λ s. ComesOf IsAdmissibleOutcome old d count (heard.From s text) p t new later) (mine ∙ own_sender sent.from some) comes in
      holds text w wished is

  by_said : (¬ IsLineOf 0 line)
      → ((sent : Sent) → (IsLineOf sent.from line) → sent.from ≢ 0 → (text : List ℕ) (w : Wish) → IsWish old.version old.tickers d (Desk sent.from) text w
      → ComesOfWish IsAdmissibleOutcome old (with_line d (Desk sent.from)) count (Desk sent.from) ((tally_of d (Desk sent.from)).lines + 1) w p t new later → Holds)
      → (said : Heard) → IsHeard d line said → ComesOf IsAdmissibleOutcome old d count said p t new later → Holds
  by_said not_operators holds heard.Nothing is comes = same comes.1
  by_said not_operators holds heard.Noise is comes = same comes.1
  by_said not_operators holds (heard.Other sender) is comes = same comes.1
  by_said not_operators holds (heard.From sender text) (sent, is, sender_is, text_is, next) comes =
      let some : sent.from ≢ 0 = λ none. not_operators (sent, is.envelope, none) in
      by_sender sent some (holds sent (sent, is.envelope, refl) some) sender text sender_is comes

-- the wish of an account
only_wish : (old new : Market) (d later : Desks) (count named number : ℕ) (text : List ℕ) (w : Wish) (p : Entries) (t : Texts) → IsConsistent old → IsWish old.version old.tickers d (Desk named) text w
    → ComesOfWish IsAdmissibleOutcome old (with_line d (Desk named)) count (Desk named) number w p t new later → OnlyOrders old new
only_wish old new d later count named number text wish.Nothing p t consistent wished comes = only_same old new comes.1
only_wish old new d later count named number text (wish.Answer q) p t consistent wished comes = only_same old new comes.1
only_wish old new d later count named number text (wish.Refuse why) p t consistent wished comes = only_same old new comes.1
only_wish old new d later count named number text (wish.Serve asked) p t consistent wished comes =
    only_commands named (Desk named) number (commands_of asked) p t old new (with_line d (Desk named)) later count wished.2 (commands_fit old.version old.tickers text asked consistent.tickers wished.1) comes

keeps_wish : (account : ℕ) (old new : Market) (d later : Desks) (count named number : ℕ) (text : List ℕ) (w : Wish) (p : Entries) (t : Texts) → named ≢ account → IsConsistent old → IsWish old.version old.tickers d (Desk named) text w
    → ComesOfWish IsAdmissibleOutcome old (with_line d (Desk named)) count (Desk named) number w p t new later → Keeps account old new
keeps_wish account old new d later count named number text wish.Nothing p t differs consistent wished comes = ap (λ (x : Market). own_orders account x.orders) comes.1
keeps_wish account old new d later count named number text (wish.Answer q) p t differs consistent wished comes = ap (λ (x : Market). own_orders account x.orders) comes.1
keeps_wish account old new d later count named number text (wish.Refuse why) p t differs consistent wished comes = ap (λ (x : Market). own_orders account x.orders) comes.1
keeps_wish account old new d later count named number text (wish.Serve asked) p t differs consistent wished comes =
    keeps_commands named account differs (Desk named) number (commands_of asked) p t old new (with_line d (Desk named)) later count consistent wished.2
    (commands_fit old.version old.tickers text asked consistent.tickers wished.1) comes

-- a market stays consistent over a line
after_line : (old new : Market) (d later : Desks) (count : ℕ) (line : List ℕ) (p : Entries) (t : Texts) → IsConsistent old → IsLineServed IsAdmissibleOutcome old d count line p t new later → IsConsistent new
after_line old new d later count line p t consistent served =
    consistent_follows IsReadAs read_own old p new consistent (follows_line IsAdmissibleOutcome old new d later count line p t served)

only_line : (old new : Market) (d later : Desks) (count : ℕ) (line : List ℕ) (p : Entries) (t : Texts) → IsConsistent old → IsNotOperators line → IsLineServed IsAdmissibleOutcome old d count line p t new later → OnlyOrders old new
only_line old new d later count line p t consistent not_operators (said, is, comes) =
    by_said old new d later count line p t (OnlyOrders old new) (only_same old new) not_operators
    (λ sent own some text w wished so. only_wish old new d later count sent.from ((tally_of d (Desk sent.from)).lines + 1) text w p t consistent wished so) said is comes

keeps_line : (account : ℕ) (old new : Market) (d later : Desks) (count : ℕ) (line : List ℕ) (p : Entries) (t : Texts) → IsConsistent old → IsOfOthers account line → IsLineServed IsAdmissibleOutcome old d count line p t new later → Keeps account old new
keeps_line account old new d later count line p t consistent others (said, is, comes) =
    by_said old new d later count line p t (Keeps account old new) (λ same. ap (λ (x : Market). own_orders account x.orders) same) others.0
    (λ sent own some text w wished so.
    keeps_wish account old new d later count sent.from ((tally_of d (Desk sent.from)).lines + 1) text w p t (λ mine. others.1 (own.0, own.1, own.2 ∙ mine)) consistent wished so) said is comes

only_lines : (lines : List (List ℕ)) (p : Entries) (t : Texts) (old new : Market) (d later : Desks) (count : ℕ) → IsConsistent old → All IsNotOperators lines → AreLinesServed IsAdmissibleOutcome old d count lines p t new later → OnlyOrders old new
only_lines [] p t old new d later count consistent all is = only_same old new is.2
only_lines (line ∷ lines) p t old new d later count consistent all (first, own, next, between, more, others, served, rest, p_is, t_is) =
    only_both old next new (only_line old next d between count line first own consistent (All-head IsNotOperators line lines all) served)
    (only_lines lines more others next new between later _ (after_line old next d between count line first own consistent served) (All-tail IsNotOperators line lines all) rest)

keeps_lines : (account : ℕ) (lines : List (List ℕ)) (p : Entries) (t : Texts) (old new : Market) (d later : Desks) (count : ℕ) → IsConsistent old → All (IsOfOthers account) lines → AreLinesServed IsAdmissibleOutcome old d count lines p t new later → Keeps account old new
keeps_lines account [] p t old new d later count consistent all is = ap (λ (x : Market). own_orders account x.orders) is.2
keeps_lines account (line ∷ lines) p t old new d later count consistent all (first, own, next, between, more, others, served, rest, p_is, t_is) =
    keeps_lines account lines more others next new between later _ (after_line old next d between count line first own consistent served) (All-tail (IsOfOthers account) line lines all) rest
    ∙ keeps_line account old next d between count line first own consistent (All-head (IsOfOthers account) line lines all) served

-- ---- a line that is begun

-- what holds of commands of each account but the operator holds of the first of such a line
begun_by : (old new : Market) (d later : Desks) (count : ℕ) (line : List ℕ) (sender : Recipient) (next : List Command) (p : Entries) (t : Texts) (Holds : Type 0) → ¬ IsLineOf 0 line
    → ((account : ℕ) → account ≢ 0 → IsLineOf account line → Holds) → IsLineBegun IsAdmissibleOutcome old d count line sender next p t new later → Holds
begun_by old new d later count line sender next p t Holds not_operators holds begun =
    let is = begun.is_heard in
    holds is.0.from (λ none. not_operators (is.0, is.1.envelope, none)) (is.0, is.1.envelope, refl)

only_begun : (old new : Market) (d later : Desks) (count : ℕ) (line : List ℕ) (sender : Recipient) (next : List Command) (p : Entries) (t : Texts) → IsConsistent old → IsNotOperators line
    → IsLineBegun IsAdmissibleOutcome old d count line sender next p t new later → OnlyOrders old new
only_begun old new d later count line sender next p t consistent not_operators begun =
    begun_by old new d later count line sender next p t (OnlyOrders old new) not_operators
    (λ account some own. only_commands account sender ((tally_of d sender).lines + 1) begun.first p t old new (with_line d sender) later count (begun_may old new d later count line sender next p t begun account some own)
    (begun_fit old new d later count line sender next p t begun consistent) begun.served) begun

keeps_begun : (account : ℕ) (old new : Market) (d later : Desks) (count : ℕ) (line : List ℕ) (sender : Recipient) (next : List Command) (p : Entries) (t : Texts) → IsConsistent old → IsOfOthers account line
    → IsLineBegun IsAdmissibleOutcome old d count line sender next p t new later → Keeps account old new
keeps_begun account old new d later count line sender next p t consistent others begun =
    begun_by old new d later count line sender next p t (Keeps account old new) others.0
    (λ named some own. keeps_commands named account (λ mine. others.1 (own.0, own.1, own.2 ∙ mine)) sender ((tally_of d sender).lines + 1) begun.first p t old new (with_line d sender) later count consistent
    (begun_may old new d later count line sender next p t begun named some own) (begun_fit old new d later count line sender next p t begun consistent) begun.served) begun

-- a market stays consistent over lines
after_lines : (lines : List (List ℕ)) (p : Entries) (t : Texts) (old new : Market) (d later : Desks) (count : ℕ) → IsConsistent old → AreLinesServed IsAdmissibleOutcome old d count lines p t new later → IsConsistent new
after_lines lines p t old new d later count consistent served =
    consistent_follows IsReadAs read_own old p new consistent (follows_lines IsAdmissibleOutcome lines p t old new d later count served)

-- ---- laws

pub lines_keep_consistency : LinesKeepConsistency
lines_keep_consistency = record {
  whole = λ old new d later count lines p t consistent served. so old new p consistent (follows_lines IsAdmissibleOutcome lines p t old new d later count served);
  begun = λ old new d later count lines line next p t consistent into. so old new p consistent (follows_into IsAdmissibleOutcome old new d later count lines line next p t into);
}
  where
    so : (old new : Market) (p : Entries) → IsConsistent old → Follows IsReadAs IsAdmissibleOutcome old p new → IsConsistent new × (new.version ≡ old.version)
    so old new p consistent steps = (consistent_follows IsReadAs read_own old p new consistent steps, follows_version IsAdmissibleOutcome IsReadAs old p new steps)

pub others_change_no_orders : OthersChangeNoOrders
others_change_no_orders = record {
  whole = λ old new d later count lines p t account consistent all served. keeps_lines account lines p t old new d later count consistent all served;
  begun = λ old new d later count lines line next p t account consistent all others into.
      keeps_begun account into.mid new into.between later (count + length into.first) line into.sender next into.more into.others
      (after_lines lines into.first into.own old into.mid d into.between count consistent into.whole) others into.begun
      ∙ keeps_lines account lines into.first into.own old into.mid d into.between count consistent all into.whole;
}

pub accounts_change_only_orders : AccountsChangeOnlyOrders
accounts_change_only_orders = record {
  whole = λ old new d later count lines p t consistent all served. only_lines lines p t old new d later count consistent all served;
  begun = λ old new d later count lines line next p t consistent all not_operators into.
      only_both old into.mid new (only_lines lines into.first into.own old into.mid d into.between count consistent all into.whole)
      (only_begun into.mid new into.between later (count + length into.first) line into.sender next into.more into.others
      (after_lines lines into.first into.own old into.mid d into.between count consistent into.whole) not_operators into.begun);
}
