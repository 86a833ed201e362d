-- A line that was heard, and what it leaves to do.
use Rattle.std.proofs.Common.{◌≡◌, ℕ, ◌+◌, ◌-◌, List, [], ◌∷◌, ◌++◌, map, length, Result, Ok, Err, OnOk, refl, sym, ap, subst, ◌∙◌, arith}
use Rattle.std.specs.Prelude.{IfOk}
use Rattle.std.proofs.lemmas.List.{append-nil, length-set, get_or-set_same}
use Rattle.out_of_memory.specs.declared.Memory.{Memory}
use Rattle.wire_records.specs.Records.{Record}
use Rattle.wire_records.specs.Commands.{Command, Pair}
use Rattle.wire_records.specs.Views.{command_in}
use Rattle.flow_accounts.specs.Balances.{account_count}
use Rattle.flow_orders.specs.Outcomes.{Outcome}
use Rattle.market_rules.specs.Market.{Market}
use Rattle.market_rules.specs.Step.{NoOutcome}
use Rattle.order_text.specs.Lines.{Asked, Alone, OfLadder, commands_of}
use Rattle.answer_text.specs.declared.header.Recipient.{Recipient}
use Rattle.answer_text.specs.declared.header.Recipient.TheVariants.{Operator, Desk, All as ToAll}
use Rattle.desk_messages.specs.Desks.{Desks, IsThere, tally_of, with_read, with_line}
use Rattle.desk_messages.specs.declared.counts.Tally.{Tally}
use Rattle.desk_messages.specs.Messages.{Message, texts_of, told, no_envelope, expected, error_to}
use Rattle.desk_messages.proofs.Telling.{told_accounts}
use Rattle.desk_lines.specs.Hearing.{Heard, IsHeard}
use Rattle.desk_lines.specs.Hearing as heard
use Rattle.desk_lines.specs.Wishes.{Wish, IsWish}
use Rattle.desk_lines.specs.Wishes as wish
use Rattle.desk_session.specs.Talks.{Talk, says}
use Rattle.desk_session.specs.Lines.{answer_members, answer_to, fault_word, SaysOnly, AreServed, ComesOfWish, ComesOf}
use Rattle.desk_session.specs.States.{State, CountsAccounts}
use Rattle.desk_session.specs.Said.{AsksFor, IsSaid}
use Rattle.desk_session.specs.Private.{IsLeft}
use Rattle.desk_session.specs.declared.lines.Said.{Said}
use Rattle.desk_session.specs.declared.lines.Said.TheVariants as said

-- ---- the text of a line

module _ (old : State) (sender : Recipient) (line : ℕ) where
  -- a blank text is answered by nothing
  pub left_nothing : IsLeft said.Done old sender line wish.Nothing old
  left_nothing = ([], (refl, refl, refl, refl), sym (append-nil old.talk.texts), refl)

  -- a text is answered by one message
  pub left_one : (m : Message) (t : Talk) → t ≡ says old.talk (m ∷ [])
      → (texts : List (List ℕ)) × SaysOnly old.market old.talk.desks (m ∷ []) [] texts old.market t.desks × (t.texts ≡ old.talk.texts ++ texts) × (old.entries ≡ old.entries)
  left_one m t is = (texts_of old.talk.desks (m ∷ []) ∷ [], (refl, refl, refl, ap (λ (x : Talk). x.desks) is), ap (λ (x : Talk). x.texts) is, refl)

-- ---- lines

module _ (old : State) (line : List ℕ) where
  -- a blank line
  pub line_nothing : (t : Talk) → IsHeard old.talk.desks line heard.Nothing → t ≡ record (old.talk) { desks = with_read old.talk.desks } → IsSaid said.Done old line (record old { talk = t })
  line_nothing t is counted =
      ([], (heard.Nothing, is, (refl, refl, refl, ap (λ (x : Talk). x.desks) counted)), ap (λ (x : Talk). x.texts) counted ∙ sym (append-nil old.talk.texts), refl)

  module _ (mid t : Talk) (counted : mid ≡ record (old.talk) { desks = with_read old.talk.desks }) where
    -- a line that is no envelope
    pub line_noise : IsHeard old.talk.desks line heard.Noise → t ≡ says mid (no_envelope mid.desks.total.lines ∷ []) → IsSaid said.Done old line (record old { talk = t })
    line_noise is told =
        let here : t ≡ says (record (old.talk) { desks = with_read old.talk.desks }) (no_envelope (old.talk.desks.total.lines + 1) ∷ []) = subst (λ (x : Talk). t ≡ says x (no_envelope x.desks.total.lines ∷ [])) counted told in
        (texts_of (with_read old.talk.desks) (no_envelope (old.talk.desks.total.lines + 1) ∷ []) ∷ [], (heard.Noise, is, (refl, refl, refl, ap (λ (x : Talk). x.desks) here)), ap (λ (x : Talk). x.texts) here, refl)

    -- a line with another number
    pub line_other : (sender : Recipient) → IsHeard old.talk.desks line (heard.Other sender) → t ≡ says mid (expected sender ((tally_of mid.desks sender).lines + 1) ∷ [])
        → IsSaid said.Done old line (record old { talk = t })
    line_other sender is told =
        let here : t ≡ says (record (old.talk) { desks = with_read old.talk.desks }) (expected sender ((tally_of (with_read old.talk.desks) sender).lines + 1) ∷ []) = subst (λ (x : Talk). t ≡ says x (expected sender ((tally_of x.desks sender).lines + 1) ∷ [])) counted told in
        let same : (tally_of (with_read old.talk.desks) sender).lines ≡ (tally_of old.talk.desks sender).lines = read_tally old.talk.desks sender in
        let there : t ≡ says (record (old.talk) { desks = with_read old.talk.desks }) (expected sender ((tally_of old.talk.desks sender).lines + 1) ∷ []) = subst (λ n. t ≡ says (record (old.talk) { desks = with_read old.talk.desks }) (expected sender (n + 1) ∷ [])) same here in
        (texts_of (with_read old.talk.desks) (expected sender ((tally_of old.talk.desks sender).lines + 1) ∷ []) ∷ [], (heard.Other sender, is, (refl, refl, refl, ap (λ (x : Talk). x.desks) there)), ap (λ (x : Talk). x.texts) there, refl)
      where
        read_tally : (d : Desks) (sender : Recipient) → (tally_of (with_read d) sender).lines ≡ (tally_of d sender).lines
        read_tally d Operator = refl
        read_tally d (Desk account) = refl
        read_tally d ToAll = refl

  -- a line of a sender
  pub line_from : (found : Said) (t : Talk) (sender : Recipient) (number : ℕ) (text : List ℕ) (w : Wish) (new : State) → IsHeard old.talk.desks line (heard.From sender text)
      → IsWish old.market.version old.market.tickers old.talk.desks sender text w → t ≡ record (old.talk) { desks = with_line old.talk.desks sender }
      → number ≡ (tally_of old.talk.desks sender).lines + 1 → IsLeft found (record old { talk = t }) sender number w new → IsSaid found old line new
  line_from said.Done t sender number text w new is wished counted numbered left = (
    left.0,
    (
      heard.From sender text,
      is,
      (
        w,
        wished,
        subst (λ n. ComesOfWish NoOutcome old.market (with_line old.talk.desks sender) old.entries sender n w [] left.0 new.market new.talk.desks) numbered
            (subst (λ (x : Talk). ComesOfWish NoOutcome old.market x.desks old.entries sender number w [] left.0 new.market new.talk.desks) counted left.1),
      ),
    ),
    left.2 ∙ ap (λ (x : Talk). x.texts ++ left.0) counted,
    left.3,
  )
  line_from (said.Serve from n command) t sender number text w new is wished counted numbered left = (
    subst (λ s. AsksFor old line s n (Alone (command_in command)) new) (sym left.0) (record {
      text = text;
      heard = is;
      wished = subst (IsWish old.market.version old.market.tickers old.talk.desks sender text) left.2 wished;
      number_is = left.1 ∙ numbered;
      market = ap (λ (s : State). s.market) left.4;
      talk = ap (λ (s : State). s.talk) left.4 ∙ counted;
      entries = ap (λ (s : State). s.entries) left.4;
    }),
    left.3,
  )
  line_from (said.ServeAll from n commands) t sender number text w new is wished counted numbered left = (
    subst (λ s. AsksFor old line s n (OfLadder (map command_in commands)) new) (sym left.0) (record {
      text = text;
      heard = is;
      wished = subst (IsWish old.market.version old.market.tickers old.talk.desks sender text) left.2 wished;
      number_is = left.1 ∙ numbered;
      market = ap (λ (s : State). s.market) left.4;
      talk = ap (λ (s : State). s.talk) left.4 ∙ counted;
      entries = ap (λ (s : State). s.entries) left.4;
    }),
    left.3,
  )

-- ---- all accounts stay counted

pub line_accounts : (d : Desks) (sender : Recipient) → length (with_line d sender).accounts ≡ length d.accounts
line_accounts d Operator = refl
line_accounts d (Desk account) = length-set d.accounts (account - 1) _
line_accounts d ToAll = refl

says_counts : (old new : Market) (d later : Desks) (messages : List Message) (texts : List (List ℕ)) → length d.accounts ≡ account_count old.balances
    → SaysOnly old d messages [] texts new later → length later.accounts ≡ account_count new.balances
says_counts old new d later messages texts counted is =
    ap (λ (x : Desks). length x.accounts) is.3 ∙ told_accounts d messages ∙ counted ∙ ap (λ (m : Market). account_count m.balances) (sym is.1)

no_pair : (p : Pair Record Outcome) (ps : List (Pair Record Outcome)) → [] ≡ p ∷ ps → ⊥
no_pair p ps e = cc

served_counts : (old new : Market) (d later : Desks) (count : ℕ) (sender : Recipient) (line : ℕ) (commands : List Command) (texts : List (List ℕ)) → length d.accounts ≡ account_count old.balances
    → AreServed NoOutcome old d count sender line commands [] texts new later → length later.accounts ≡ account_count new.balances
served_counts old new d later count sender line [] texts counted is = ap (λ (x : Desks). length x.accounts) is.3 ∙ counted ∙ ap (λ (m : Market). account_count m.balances) (sym is.2)
served_counts old new d later count sender line (command ∷ commands) texts counted (pair, next, more, others, asked, step, rest, pairs_are, texts_are) = absurd (no_pair pair more pairs_are)

wish_counts : (old new : Market) (d later : Desks) (count : ℕ) (sender : Recipient) (line : ℕ) (w : Wish) (texts : List (List ℕ)) → length d.accounts ≡ account_count old.balances
    → ComesOfWish NoOutcome old d count sender line w [] texts new later → length later.accounts ≡ account_count new.balances
wish_counts old new d later count sender line wish.Nothing texts counted is = says_counts old new d later [] texts counted is
wish_counts old new d later count sender line (wish.Serve asked) texts counted is = served_counts old new d later count sender line (commands_of asked) texts counted is
wish_counts old new d later count sender line (wish.Answer q) texts counted is = says_counts old new d later (answer_to sender line (answer_members old sender q) ∷ []) texts counted is
wish_counts old new d later count sender line (wish.Refuse why) texts counted is = says_counts old new d later (error_to sender line (fault_word why) ∷ []) texts counted is

line_counts : (old new : Market) (d later : Desks) (count : ℕ) (said : Heard) (texts : List (List ℕ)) → length d.accounts ≡ account_count old.balances
    → ComesOf NoOutcome old d count said [] texts new later → length later.accounts ≡ account_count new.balances
line_counts old new d later count heard.Nothing texts counted is = says_counts old new (with_read d) later [] texts counted is
line_counts old new d later count heard.Noise texts counted is = says_counts old new (with_read d) later (no_envelope (d.total.lines + 1) ∷ []) texts counted is
line_counts old new d later count (heard.Other sender) texts counted is = says_counts old new (with_read d) later (expected sender ((tally_of d sender).lines + 1) ∷ []) texts counted is
line_counts old new d later count (heard.From sender text) texts counted (w, wished, comes) =
    wish_counts old new (with_line d sender) later count sender ((tally_of d sender).lines + 1) w texts (line_accounts d sender ∙ counted) comes

asks_counts : (old new : State) (line : List ℕ) (sender : Recipient) (number : ℕ) (asked : Asked) → CountsAccounts old → AsksFor old line sender number asked new → CountsAccounts new
asks_counts old new line sender number asked counted asks =
    ap (λ (t : Talk). length t.desks.accounts) asks.talk ∙ line_accounts old.talk.desks sender ∙ counted ∙ ap (λ (m : Market). account_count m.balances) (sym asks.market)

-- a line leaves all accounts counted
pub said_counts : (found : Said) (old new : State) (line : List ℕ) → CountsAccounts old → IsSaid found old line new → CountsAccounts new
said_counts said.Done old new line counted (texts, (heard, is, comes), more, entries) = line_counts old.market new.market old.talk.desks new.talk.desks old.entries heard texts counted comes
said_counts (said.Serve sender number command) old new line counted is = asks_counts old new line sender number _ counted is.0
said_counts (said.ServeAll sender number commands) old new line counted is = asks_counts old new line sender number _ counted is.0

-- ---- what holds of a line that was answered

pub kept : (result : Result Said Memory) (P Q : Said → Type 0) → ((x : Said) → P x → Q x) → IfOk result P → IfOk result Q
kept (Ok x) P Q follows holds = follows x holds
kept (Err e) P Q follows holds = tt

pub on_kept : (result : Result Said Memory) (P : Said → Type 0) {R : Type 0} → ((x : Said) → P x → R) → IfOk result P → OnOk result R
on_kept (Ok x) P follows holds = follows x holds
on_kept (Err e) P follows holds = tt

-- the sender of a line is there
pub heard_there : (d : Desks) (line : List ℕ) (sender : Recipient) (text : List ℕ) → IsHeard d line (heard.From sender text) → IsThere d sender
heard_there d line sender text (sent, is, from, said, next) = subst (IsThere d) (sym from) is.there

-- the number of a line that was counted
counted_line : (d : Desks) (sender : Recipient) → IsThere d sender → (tally_of (with_line d sender) sender).lines ≡ (tally_of d sender).lines + 1
counted_line d Operator there = refl
counted_line d (Desk account) there = ap (λ (t : Tally). t.lines) (get_or-set_same d.accounts (account - 1) _ _ (omega (arith, there.0, there.1)))
counted_line d ToAll there = refl

pub numbered : (d : Desks) (line : List ℕ) (sender : Recipient) (text : List ℕ) (number : ℕ) (now : Desks) → IsHeard d line (heard.From sender text) → now ≡ with_line d sender → number ≡ (tally_of now sender).lines
    → number ≡ (tally_of d sender).lines + 1
numbered d line sender text number now is counted value =
    value ∙ ap (λ (x : Desks). (tally_of x sender).lines) counted ∙ counted_line d sender (heard_there d line sender text is)
