-- A line is counted once, and in order.
use Rattle.std.proofs.Common.{◌≡◌, ◌⊎◌, inl, inr, ℕ, zero, suc, true, false, ◌+◌, ◌<◌, List, [], ◌∷◌, length, take, Some, None, refl, sym, ap, subst, ◌∙◌, arith}
use Rattle.std.specs.Prelude.{slice_index_or, unwrap_or}
use Rattle.std.proofs.lemmas.Bool.{cases_Bool}
use Rattle.wire_records.specs.Commands.{Command}
use Rattle.flow_orders.specs.Outcomes.{BatchRule, IsAdmissibleOutcome}
use Rattle.market_rules.specs.Market.{Market}
use Rattle.order_text.specs.Lines.{commands_of}
use Rattle.envelope_text.specs.Envelopes.{Sent, IsEnvelope}
use Rattle.envelope_text.proofs.OneEnvelope.{one_envelope}
use Rattle.answer_text.specs.declared.header.Recipient.{Recipient}
use Rattle.desk_messages.specs.Desks.{Desks, recipient_of, tally_of, with_read, with_line, IsThere, no_desks}
use Rattle.desk_messages.specs.Messages.{opened_by, with_opened, no_envelope, expected, error_to}
use Rattle.desk_lines.specs.Hearing.{Heard, IsHeard, IsNext}
use Rattle.desk_lines.specs.Hearing as heard
use Rattle.desk_lines.specs.Wishes.{Wish}
use Rattle.desk_lines.specs.Wishes as wish
use Rattle.desk_session.specs.Lines.{entry_messages, answer_members, fault_word, answer_to, AreServed, ComesOfWish, ComesOf, AreLinesServed}
use Rattle.desk_laws.specs.Heard.{IsCounted, is_counted_for, counted_for, AreHeardAs}
use Rattle.desk_laws.specs.Laws.{Entries, Texts, ServedLinesAreHeard, CountedOnce, CountedInOrder}
use Rattle.desk_laws.proofs.Tallies.{lines_of, one_if, told_lines, opened_lines, read_lines, line_own, line_adds, no_lines}

-- ---- one line

-- the counts once a line was heard, before anything is told
abbrev heard_after : Desks → Heard → Desks
heard_after d heard.Nothing = with_read d
heard_after d heard.Noise = with_read d
heard_after d (heard.Other sender) = with_read d
heard_after d (heard.From sender text) = with_line d sender

-- what is told counts no line
module _ (Rule : BatchRule) (who : Recipient) where
  served_lines : (sender : Recipient) (number : ℕ) (commands : List Command) (p : Entries) (t : Texts) (old new : Market) (d later : Desks) (count : ℕ) → AreServed Rule old d count sender number commands p t new later
      → lines_of later who ≡ lines_of d who
  served_lines sender number [] p t old new d later count (p_is, t_is, new_is, later_is) = ap (λ (x : Desks). lines_of x who) later_is
  served_lines sender number (command ∷ commands) p t old new d later count (pair, next, ps, ts, asked, step, rest, p_is, t_is) =
      let opened : Desks = with_opened (opened_by pair.answer) d in
      served_lines sender number commands ps ts next new _ later (count + 1) rest
      ∙ told_lines opened (entry_messages opened old next sender number (count + 1) command pair.answer) who
      ∙ opened_lines (opened_by pair.answer) d who

  wish_lines : (old new : Market) (d later : Desks) (count : ℕ) (sender : Recipient) (number : ℕ) (w : Wish) (p : Entries) (t : Texts) → ComesOfWish Rule old d count sender number w p t new later → lines_of later who ≡ lines_of d who
  wish_lines old new d later count sender number wish.Nothing p t is = ap (λ (x : Desks). lines_of x who) is.3
  wish_lines old new d later count sender number (wish.Answer q) p t is = ap (λ (x : Desks). lines_of x who) is.3 ∙ told_lines d (answer_to sender number (answer_members old sender q) ∷ []) who
  wish_lines old new d later count sender number (wish.Refuse why) p t is = ap (λ (x : Desks). lines_of x who) is.3 ∙ told_lines d (error_to sender number (fault_word why) ∷ []) who
  wish_lines old new d later count sender number (wish.Serve asked) p t is = served_lines sender number (commands_of asked) p t old new d later count is

  comes_lines : (old new : Market) (d later : Desks) (count : ℕ) (said : Heard) (p : Entries) (t : Texts) → ComesOf Rule old d count said p t new later → lines_of later who ≡ lines_of (heard_after d said) who
  comes_lines old new d later count heard.Nothing p t is = ap (λ (x : Desks). lines_of x who) is.3
  comes_lines old new d later count heard.Noise p t is = ap (λ (x : Desks). lines_of x who) is.3 ∙ told_lines (with_read d) (no_envelope (d.total.lines + 1) ∷ []) who
  comes_lines old new d later count (heard.Other sender) p t is = ap (λ (x : Desks). lines_of x who) is.3 ∙ told_lines (with_read d) (expected sender ((tally_of d sender).lines + 1) ∷ []) who
  comes_lines old new d later count (heard.From sender text) p t (w, wished, comes) = wish_lines old new (with_line d sender) later count sender ((tally_of d sender).lines + 1) w p t comes

-- what a line that was heard adds to the lines of a sender
heard_adds : (d : Desks) (line : List ℕ) (said : Heard) (from : ℕ) → IsHeard d line said → lines_of (heard_after d said) (recipient_of from) ≡ lines_of d (recipient_of from) + one_if (is_counted_for from said)
heard_adds d line heard.Nothing from is = omega (arith, read_lines d (recipient_of from))
heard_adds d line heard.Noise from is = omega (arith, read_lines d (recipient_of from))
heard_adds d line (heard.Other sender) from is = omega (arith, read_lines d (recipient_of from))
heard_adds d line (heard.From sender text) from (sent, is, sender_is, text_is, next) = rw sender_is (line_adds d sent.from from is.there)

-- a line of an envelope that was counted
module _ (d : Desks) (line : List ℕ) (sent : Sent) (id : ℕ) (envelope : IsEnvelope line sent) (named : sent.id ≡ Some id) where
  -- it has the next number of its sender
  next_number : IsNext d sent → id ≡ lines_of d (recipient_of sent.from) + 1
  next_number (inl none) = absurd (no_number id (sym none ∙ named))
    where
      no_number : (n : ℕ) → None ≡ Some n → ⊥
      no_number n e = cc
  next_number (inr is) = ap (λ o. unwrap_or o 0) (sym named ∙ is)

  counted_number : (said : Heard) → IsHeard d line said → IsCounted said → id ≡ lines_of d (recipient_of sent.from) + 1
  counted_number heard.Nothing is counted = absurd counted
  counted_number heard.Noise is counted = absurd counted
  counted_number (heard.Other sender) is counted = absurd counted
  counted_number (heard.From sender text) (other, is, sender_is, text_is, next) counted = next_number (subst (IsNext d) (one_envelope line other sent is.envelope envelope) next)

  -- and so many lines of its sender are counted then
  counted_after : (said : Heard) → IsHeard d line said → IsCounted said → lines_of (heard_after d said) (recipient_of sent.from) ≡ id
  counted_after heard.Nothing is counted = absurd counted
  counted_after heard.Noise is counted = absurd counted
  counted_after (heard.Other sender) is counted = absurd counted
  counted_after (heard.From sender text) (other, is, sender_is, text_is, next) counted =
      let same : other ≡ sent = one_envelope line other sent is.envelope envelope in
      let mine : sender ≡ recipient_of sent.from = sender_is ∙ ap (λ (s : Sent). recipient_of s.from) same in
      let there : IsThere d (recipient_of sent.from) = subst (λ (s : Sent). IsThere d (recipient_of s.from)) same is.there in
      rw mine (line_own d (recipient_of sent.from) there) ∙ sym (next_number (subst (IsNext d) same next))

-- ---- lines

-- one more was counted, or not
count_more : (from : ℕ) (said : Heard) (more : List Heard) → counted_for from (said ∷ more) ≡ one_if (is_counted_for from said) + counted_for from more
count_more from said more = by (cases_Bool (is_counted_for from said))
  where
    by : (is_counted_for from said ≡ true) ⊎ (is_counted_for from said ≡ false) → counted_for from (said ∷ more) ≡ one_if (is_counted_for from said) + counted_for from more
    by (inl yes_it_is) = rw yes_it_is (omega arith)
    by (inr no_it_is) = rw no_it_is (omega arith)

module _ (Rule : BatchRule) where
  -- the number of a counted line
  numbered : (lines : List (List ℕ)) (said : List Heard) (p : Entries) (t : Texts) (old new : Market) (d later : Desks) (count : ℕ) (i : ℕ) (sent : Sent) (id : ℕ)
      → AreHeardAs Rule old d count lines said p t new later → i < length lines
      → IsEnvelope (slice_index_or lines i []) sent → sent.id ≡ Some id → IsCounted (slice_index_or said i heard.Nothing)
      → id ≡ lines_of d (recipient_of sent.from) + counted_for sent.from (take i said) + 1
  numbered [] said p t old new d later count i sent id run inside envelope named counted = absurd (omega (arith, inside))
  numbered (line ∷ lines) said p t old new d later count zero sent id (first, ps, ts, next, between, rest, more, others, is, comes, run, said_is, p_is, t_is) inside envelope named counted =
      let here : IsCounted first = subst (λ hs. IsCounted (slice_index_or hs 0 heard.Nothing)) said_is counted in
      let number = counted_number d line sent id envelope named first is here in
      omega (arith, number)
  numbered (line ∷ lines) said p t old new d later count (suc i) sent id (first, ps, ts, next, between, rest, more, others, is, comes, run, said_is, p_is, t_is) inside envelope named counted =
      let here : IsCounted (slice_index_or rest i heard.Nothing) = subst (λ hs. IsCounted (slice_index_or hs (suc i) heard.Nothing)) said_is counted in
      let after = numbered lines rest more others next new between later (count + length ps) i sent id run (omega (arith, inside)) envelope named here in
      let adds = comes_lines Rule (recipient_of sent.from) old next d between count first ps ts comes ∙ heard_adds d line first sent.from is in
      let counts : counted_for sent.from (take (suc i) said) ≡ one_if (is_counted_for sent.from first) + counted_for sent.from (take i rest) =
      ap (λ hs. counted_for sent.from (take (suc i) hs)) said_is ∙ count_more sent.from first (take i rest) in
      omega (arith, after, adds, counts)

  -- a later line with the number of a counted one isn't counted
  once : (lines : List (List ℕ)) (said : List Heard) (p : Entries) (t : Texts) (old new : Market) (d later : Desks) (count : ℕ) (i j : ℕ) (a b : Sent) (id : ℕ)
      → AreHeardAs Rule old d count lines said p t new later → i < j → j < length lines
      → IsEnvelope (slice_index_or lines i []) a → IsEnvelope (slice_index_or lines j []) b → a.from ≡ b.from → a.id ≡ Some id → b.id ≡ Some id
      → IsCounted (slice_index_or said i heard.Nothing) → IsCounted (slice_index_or said j heard.Nothing) → ⊥
  once [] said p t old new d later count i j a b id run before inside is_a is_b same named_a named_b one other = omega (arith, inside)
  once (line ∷ lines) said p t old new d later count i zero a b id run before inside is_a is_b same named_a named_b one other = omega (arith, before)
  once (line ∷ lines) said p t old new d later count zero (suc j) a b id (first, ps, ts, next, between, rest, more, others, is, comes, run, said_is, p_is, t_is) before inside is_a is_b same named_a named_b one other =
      let here : IsCounted first = subst (λ hs. IsCounted (slice_index_or hs 0 heard.Nothing)) said_is one in
      let there : IsCounted (slice_index_or rest j heard.Nothing) = subst (λ hs. IsCounted (slice_index_or hs (suc j) heard.Nothing)) said_is other in
      let so_far : lines_of between (recipient_of b.from) ≡ id =
      comes_lines Rule (recipient_of b.from) old next d between count first ps ts comes
      ∙ subst (λ n. lines_of (heard_after d first) (recipient_of n) ≡ id) same (counted_after d line a id is_a named_a first is here) in
      let number = numbered lines rest more others next new between later (count + length ps) j b id run (omega (arith, inside)) is_b named_b there in
      omega (arith, number, so_far)
  once (line ∷ lines) said p t old new d later count (suc i) (suc j) a b id (first, ps, ts, next, between, rest, more, others, is, comes, run, said_is, p_is, t_is) before inside is_a is_b same named_a named_b one other =
      once lines rest more others next new between later (count + length ps) i j a b id run (omega (arith, before)) (omega (arith, inside)) is_a is_b same named_a named_b
      (subst (λ hs. IsCounted (slice_index_or hs (suc i) heard.Nothing)) said_is one) (subst (λ hs. IsCounted (slice_index_or hs (suc j) heard.Nothing)) said_is other)

  -- served lines are heard
  some_heard : (lines : List (List ℕ)) (p : Entries) (t : Texts) (old new : Market) (d later : Desks) (count : ℕ) → AreLinesServed Rule old d count lines p t new later
      → (said : List Heard) × (length said ≡ length lines) × AreHeardAs Rule old d count lines said p t new later
  some_heard [] p t old new d later count is = ([], refl, (refl, is.0, is.1, is.2, is.3))
  some_heard (line ∷ lines) p t old new d later count (first, own, next, between, more, others, (said, is, comes), rest, p_is, t_is) =
      let so = some_heard lines more others next new between later (count + length first) rest in
      (said ∷ so.0, ap suc so.1, (said, first, own, next, between, so.0, more, others, is, comes, so.2, refl, p_is, t_is))

  -- and heard lines are served
  heard_served : (lines : List (List ℕ)) (said : List Heard) (p : Entries) (t : Texts) (old new : Market) (d later : Desks) (count : ℕ) → AreHeardAs Rule old d count lines said p t new later → AreLinesServed Rule old d count lines p t new later
  heard_served [] said p t old new d later count is = (is.1, is.2, is.3, is.4)
  heard_served (line ∷ lines) said p t old new d later count (first, ps, ts, next, between, rest, more, others, is, comes, run, said_is, p_is, t_is) =
      (ps, ts, next, between, more, others, (first, is, comes), heard_served lines rest more others next new between later (count + length ps) run, p_is, t_is)

-- ---- laws

pub served_lines_are_heard : ServedLinesAreHeard
served_lines_are_heard = record {
  some = λ old new d later count lines p t is. some_heard IsAdmissibleOutcome lines p t old new d later count is;
  are = λ old new d later count lines said p t is. heard_served IsAdmissibleOutcome lines said p t old new d later count is;
}

pub counted_once : CountedOnce
counted_once old new d later count lines said p t i j a b id run before inside is_a is_b same named_a named_b both =
    once IsAdmissibleOutcome lines said p t old new d later count i j a b id run before inside is_a is_b same named_a named_b both.0 both.1

pub counted_in_order : CountedInOrder
counted_in_order = record {
  after = λ old new d later count lines said p t i sent id run inside envelope named counted. numbered IsAdmissibleOutcome lines said p t old new d later count i sent id run inside envelope named counted;
  first = λ old new later accounts count lines said p t i sent id run inside envelope named counted.
      let number = numbered IsAdmissibleOutcome lines said p t old new (no_desks accounts) later count i sent id run inside envelope named counted in
      omega (arith, number, no_lines accounts (recipient_of sent.from));
}
