-- Commands and lines that are served one after the other: one more, all of them, and the first of them.
use Rattle.std.proofs.Common.{◌≡◌, ◌⊎◌, inl, inr, ℕ, zero, suc, ◌+◌, ◌-◌, ◌<◌, ◌≤◌, List, [], ◌∷◌, ◌++◌, length, take, refl, sym, ap, subst, ◌∙◌, arith}
use Rattle.std.proofs.lemmas.Bool.{cases_lt}
use Rattle.std.proofs.lemmas.List.{append_assoc, append-nil, length-append, take-append-le, take_all}
use Rattle.std.proofs.Math.Seq.{take-append-add}
use Rattle.wire_records.specs.Records.{Record}
use Rattle.wire_records.specs.Commands.{Command, Pair}
use Rattle.wire_records.specs.Versions.{IsReadAs}
use Rattle.wire_records.proofs.Readings.{reading_unique}
use Rattle.flow_orders.specs.Outcomes.{Outcome, BatchRule}
use Rattle.market_rules.specs.Market.{Market}
use Rattle.market_rules.specs.Step.{NoOutcome}
use Rattle.market_rules.specs.Journal.{Follows}
use Rattle.market_rules.proofs.OneJournal.{follows-append}
use Rattle.order_text.specs.Lines.{Asked, commands_of}
use Rattle.answer_text.specs.declared.header.Recipient.{Recipient}
use Rattle.desk_messages.specs.Desks.{Desks, tally_of, with_read, with_line}
use Rattle.desk_messages.specs.Messages.{Message, texts_of, opened_by, with_opened, no_envelope, expected, error_to}
use Rattle.desk_lines.specs.Hearing.{Heard, IsHeard}
use Rattle.desk_lines.specs.Hearing as heard
use Rattle.desk_lines.specs.Wishes.{Wish, IsWish}
use Rattle.desk_lines.specs.Wishes as wish
use Rattle.desk_session.specs.Talks.{Talk}
use Rattle.desk_session.specs.Lines.{entry_messages, answer_members, fault_word, answer_to, one_text, AreServed, ComesOfWish, ComesOf, IsLineServed, AreLinesServed, IsLineBegun, AreServedInto, AreFirstServed}
use Rattle.desk_session.specs.States.{State, Answers}
use Rattle.desk_session.specs.Said.{AsksFor}

-- some entries
abbrev Entries : Type 0
Entries = List (Pair Record Outcome)

-- some texts
abbrev Texts : Type 0
Texts = List (List ℕ)

-- a list isn't both with and without a first element
no_entry : (p : Pair Record Outcome) (ps : Entries) → [] ≡ p ∷ ps → ⊥
no_entry p ps e = cc

-- ---- commands

module _ (Rule : BatchRule) where
  module _ (sender : Recipient) (number : ℕ) where
    -- no command was served yet
    pub none_served : (m : Market) (d : Desks) (count : ℕ) → AreServed Rule m d count sender number [] [] [] m d
    none_served m d count = (refl, refl, refl, refl)

    -- commands, and then others
    pub served_append : (commands more : List Command) (p q : Entries) (t u : Texts) (old mid new : Market) (d between later : Desks) (count after : ℕ) → after ≡ count + length p
        → AreServed Rule old d count sender number commands p t mid between → AreServed Rule mid between after sender number more q u new later
        → AreServed Rule old d count sender number (commands ++ more) (p ++ q) (t ++ u) new later
    served_append [] more p q t u old mid new d between later count after at (p_is, t_is, mid_is, between_is) second =
        let here : after ≡ count = omega (arith, at, ap length p_is) in
        rw (p_is, t_is) (rw (mid_is, between_is, here) at second)
    served_append (command ∷ commands) more p q t u old mid new d between later count after at (pair, next, ps, ts, asked, step, rest, p_is, t_is) second =
        (pair, next, ps ++ q, ts ++ u, asked, step, served_append commands more ps q ts u next mid new _ between later (count + 1) after (omega (arith, at, ap length p_is)) rest second, ap (λ x. x ++ q) p_is, ap (λ x. x ++ u) t_is)

    -- one command that was served
    one_served : (s new : State) (command : Command) (pair : Pair Record Outcome) → Answers Rule s sender number command pair new
        → (text : List ℕ) × AreServed Rule s.market s.talk.desks s.entries sender number (command ∷ []) (pair ∷ []) (text ∷ []) new.market new.talk.desks × (new.talk.texts ≡ s.talk.texts ++ text ∷ [])
    one_served s new command pair is = (
      texts_of (with_opened (opened_by pair.answer) s.talk.desks) (entry_messages (with_opened (opened_by pair.answer) s.talk.desks) s.market new.market sender number (s.entries + 1) command pair.answer),
      (pair, new.market, [], [], is.asked, is.step, (refl, refl, refl, ap (λ (t : Talk). t.desks) is.told), refl, refl),
      ap (λ (t : Talk). t.texts) is.told,
    )

    -- one command more was served
    pub served_more : (old mid : Market) (d between : Desks) (count : ℕ) (commands : List Command) (pairs : Entries) (texts : Texts) (s new : State) (command : Command) (pair : Pair Record Outcome)
        → AreServed Rule old d count sender number commands pairs texts mid between → s.market ≡ mid → s.talk.desks ≡ between → s.entries ≡ count + length pairs → Answers Rule s sender number command pair new
        → (text : List ℕ) × AreServed Rule old d count sender number (commands ++ command ∷ []) (pairs ++ pair ∷ []) (texts ++ text ∷ []) new.market new.talk.desks × (new.talk.texts ≡ s.talk.texts ++ text ∷ [])
    served_more old mid d between count commands pairs texts s new command pair so_far market desks entries is =
        let one = one_served s new command pair is in
        let here : AreServed Rule old d count sender number commands pairs texts s.market s.talk.desks = rw (market, desks) so_far in (
          one.0,
          served_append commands (command ∷ []) pairs (pair ∷ []) texts (one.0 ∷ []) old s.market new.market d s.talk.desks new.talk.desks count s.entries entries here one.1,
          one.2,
        )

    -- as many entries as commands, and as many texts
    pub served_count : (commands : List Command) (p : Entries) (t : Texts) (old new : Market) (d later : Desks) (count : ℕ) → AreServed Rule old d count sender number commands p t new later
        → (length p ≡ length commands) × (length t ≡ length commands)
    served_count [] p t old new d later count (p_is, t_is, new_is, later_is) = (ap length p_is, ap length t_is)
    served_count (command ∷ commands) p t old new d later count (pair, next, ps, ts, asked, step, rest, p_is, t_is) =
        let more = served_count commands ps ts next new _ later (count + 1) rest in
        (omega (arith, ap length p_is, more.0), omega (arith, ap length t_is, more.1))

    -- served commands are steps of the market
    pub follows_served : (commands : List Command) (p : Entries) (t : Texts) (old new : Market) (d later : Desks) (count : ℕ) → AreServed Rule old d count sender number commands p t new later → Follows IsReadAs Rule old p new
    follows_served [] p t old new d later count (p_is, t_is, new_is, later_is) = rw p_is new_is
    follows_served (command ∷ commands) p t old new d later count (pair, next, ps, ts, asked, step, rest, p_is, t_is) =
        rw p_is (next, step, follows_served commands ps ts next new _ later (count + 1) rest)

    -- the first commands that were served
    pub served_first : (commands : List Command) (p : Entries) (t : Texts) (old new : Market) (d later : Desks) (count : ℕ) → AreServed Rule old d count sender number commands p t new later → (k : ℕ) → k ≤ length t
        → (first next : List Command) × (mid : Market) × (between : Desks) × (commands ≡ first ++ next) × (k ≤ length p) × AreServed Rule old d count sender number first (take k p) (take k t) mid between
    served_first [] p t old new d later count (p_is, t_is, new_is, later_is) k within =
        let none : k ≡ 0 = omega (arith, within, ap length t_is) in
        rw none ([], [], old, d, refl, omega arith, (refl, refl, refl, refl))
    served_first (command ∷ commands) p t old new d later count (pair, next, ps, ts, asked, step, rest, p_is, t_is) zero within = ([], command ∷ commands, old, d, refl, omega arith, (refl, refl, refl, refl))
    served_first (command ∷ commands) p t old new d later count (pair, next, ps, ts, asked, step, rest, p_is, t_is) (suc k) within =
        let more = served_first commands ps ts next new _ later (count + 1) rest k (omega (arith, within, ap length t_is)) in (
          command ∷ more.0,
          more.1,
          more.2,
          more.3,
          ap (λ x. command ∷ x) more.4,
          omega (arith, ap length p_is, more.5),
          (pair, next, take k ps, take k ts, asked, step, more.6, ap (take (suc k)) p_is, ap (take (suc k)) t_is),
        )

  -- ---- a line that is begun

  -- no command of a line was served yet
  pub begun_none : (s new : State) (line : List ℕ) (sender : Recipient) (number : ℕ) (asked : Asked) → AsksFor s line sender number asked new
      → IsLineBegun Rule s.market s.talk.desks s.entries line sender (commands_of asked) [] [] new.market new.talk.desks
  begun_none s new line sender number asked asks = record {
    text = asks.text;
    asked = asked;
    is_heard = asks.heard;
    wished = asks.wished;
    first = [];
    parts = refl;
    served = (refl, refl, asks.market, ap (λ (t : Talk). t.desks) asks.talk);
  }

  -- one command more of it was served
  pub begun_more : (old mid : Market) (d between : Desks) (count : ℕ) (line : List ℕ) (sender : Recipient) (number : ℕ) (command : Command) (next : List Command) (pairs : Entries) (texts : Texts) (s new : State) (pair : Pair Record Outcome)
      → IsLineBegun Rule old d count line sender (command ∷ next) pairs texts mid between → s.market ≡ mid → s.talk.desks ≡ between → s.entries ≡ count + length pairs → number ≡ (tally_of d sender).lines + 1
      → Answers Rule s sender number command pair new
      → (text : List ℕ) × IsLineBegun Rule old d count line sender next (pairs ++ pair ∷ []) (texts ++ text ∷ []) new.market new.talk.desks × (new.talk.texts ≡ s.talk.texts ++ text ∷ [])
  begun_more old mid d between count line sender number command next pairs texts s new pair begun market desks entries number_is is =
      let here : Answers Rule s sender ((tally_of d sender).lines + 1) command pair new = subst (λ n. Answers Rule s sender n command pair new) number_is is in
      let more = served_more sender ((tally_of d sender).lines + 1) old mid (with_line d sender) between count begun.first pairs texts s new command pair begun.served market desks entries here in (
        more.0,
        record {
          text = begun.text;
          asked = begun.asked;
          is_heard = begun.is_heard;
          wished = begun.wished;
          first = begun.first ++ command ∷ [];
          parts = begun.parts ∙ sym (append_assoc begun.first (command ∷ []) next);
          served = more.1;
        },
        more.2,
      )

  -- all of them were served
  pub begun_all : (old new : Market) (d later : Desks) (count : ℕ) (line : List ℕ) (sender : Recipient) (pairs : Entries) (texts : Texts) → IsLineBegun Rule old d count line sender [] pairs texts new later
      → IsLineServed Rule old d count line pairs texts new later
  begun_all old new d later count line sender pairs texts begun = (
    heard.From sender begun.text,
    begun.is_heard,
    (
      wish.Serve begun.asked,
      begun.wished,
      subst (λ commands. AreServed Rule old (with_line d sender) count sender ((tally_of d sender).lines + 1) commands pairs texts new later) (sym (begun.parts ∙ append-nil begun.first)) begun.served,
    ),
  )

  -- ---- a line without entries

  -- what comes of a text without entries by the rule by which no batch ends comes of it by any
  wish_by_any : (old new : Market) (d later : Desks) (count : ℕ) (sender : Recipient) (number : ℕ) (w : Wish) (texts : Texts) → ComesOfWish NoOutcome old d count sender number w [] texts new later → ComesOfWish Rule old d count sender number w [] texts new later
  wish_by_any old new d later count sender number wish.Nothing texts is = is
  wish_by_any old new d later count sender number (wish.Answer q) texts is = is
  wish_by_any old new d later count sender number (wish.Refuse why) texts is = is
  wish_by_any old new d later count sender number (wish.Serve asked) texts is = by (commands_of asked) is
    where
      by : (commands : List Command) → AreServed NoOutcome old d count sender number commands [] texts new later → AreServed Rule old d count sender number commands [] texts new later
      by [] served = served
      by (command ∷ commands) (pair, next, more, others, asked_is, step, rest, pairs_are, texts_are) = absurd (no_entry pair more pairs_are)

  -- and so what comes of a line that was heard
  comes_by_any : (old new : Market) (d later : Desks) (count : ℕ) (said : Heard) (texts : Texts) → ComesOf NoOutcome old d count said [] texts new later → ComesOf Rule old d count said [] texts new later
  comes_by_any old new d later count heard.Nothing texts is = is
  comes_by_any old new d later count heard.Noise texts is = is
  comes_by_any old new d later count (heard.Other sender) texts is = is
  comes_by_any old new d later count (heard.From sender text) texts (w, wished, comes) = (w, wished, wish_by_any old new (with_line d sender) later count sender ((tally_of d sender).lines + 1) w texts comes)

  -- and so a line that was served
  pub line_by_any : (old new : Market) (d later : Desks) (count : ℕ) (line : List ℕ) (texts : Texts) → IsLineServed NoOutcome old d count line [] texts new later → IsLineServed Rule old d count line [] texts new later
  line_by_any old new d later count line texts (said, is, comes) = (said, is, comes_by_any old new d later count said texts comes)

  -- ---- lines

  -- no line was served yet
  pub lines_none : (m : Market) (d : Desks) (count : ℕ) → AreLinesServed Rule m d count [] [] [] m d
  lines_none m d count = (refl, refl, refl, refl)

  -- lines, and then others
  pub lines_append : (lines more : List (List ℕ)) (p q : Entries) (t u : Texts) (old mid new : Market) (d between later : Desks) (count after : ℕ) → after ≡ count + length p
      → AreLinesServed Rule old d count lines p t mid between → AreLinesServed Rule mid between after more q u new later
      → AreLinesServed Rule old d count (lines ++ more) (p ++ q) (t ++ u) new later
  lines_append [] more p q t u old mid new d between later count after at (p_is, t_is, mid_is, between_is) second =
      let here : after ≡ count = omega (arith, at, ap length p_is) in
      rw (p_is, t_is) (rw (mid_is, between_is, here) at second)
  lines_append (line ∷ lines) more p q t u old mid new d between later count after at (first, own, next, there, ps, ts, served, rest, p_is, t_is) second = (
    first,
    own,
    next,
    there,
    ps ++ q,
    ts ++ u,
    served,
    lines_append lines more ps q ts u next mid new there between later (count + length first) after (omega (arith, at, ap length p_is, length-append first ps)) rest second,
    ap (λ x. x ++ q) p_is ∙ append_assoc first ps q,
    ap (λ x. x ++ u) t_is ∙ append_assoc own ts u,
  )

  -- one line more was served
  pub lines_more : (old mid new : Market) (d between later : Desks) (count : ℕ) (lines : List (List ℕ)) (line : List ℕ) (pairs more : Entries) (texts others : Texts)
      → AreLinesServed Rule old d count lines pairs texts mid between → IsLineServed Rule mid between (count + length pairs) line more others new later
      → AreLinesServed Rule old d count (lines ++ line ∷ []) (pairs ++ more) (texts ++ others) new later
  lines_more old mid new d between later count lines line pairs more texts others so_far is =
      lines_append lines (line ∷ []) pairs more texts others old mid new d between later count (count + length pairs) refl so_far
      (more, others, new, later, [], [], is, (refl, refl, refl, refl), sym (append-nil more), sym (append-nil others))

  -- the first lines, and then the others
  pub lines_before : (lines others : List (List ℕ)) (p : Entries) (t : Texts) (old new : Market) (d later : Desks) (count : ℕ) → AreLinesServed Rule old d count (lines ++ others) p t new later
      → (p1 : Entries) × (t1 : Texts) × (mid : Market) × (between : Desks) × (p2 : Entries) × (t2 : Texts)
      × AreLinesServed Rule old d count lines p1 t1 mid between × AreLinesServed Rule mid between (count + length p1) others p2 t2 new later × (p ≡ p1 ++ p2) × (t ≡ t1 ++ t2)
  lines_before [] others p t old new d later count is =
      let here : count ≡ count + length {A = Pair Record Outcome} [] = omega arith in
      ([], [], old, d, p, t, (refl, refl, refl, refl), subst (λ n. AreLinesServed Rule old d n others p t new later) here is, refl, refl)
  lines_before (line ∷ lines) others p t old new d later count (first, own, next, there, ps, ts, served, rest, p_is, t_is) =
      let (p1, t1, mid, between, p2, t2, one, two, ps_are, ts_are) = lines_before lines others ps ts next new there later (count + length first) rest in
      let at : count + length first + length p1 ≡ count + length (first ++ p1) = omega (arith, length-append first p1) in (
        first ++ p1,
        own ++ t1,
        mid,
        between,
        p2,
        t2,
        (first, own, next, there, p1, t1, served, one, refl, refl),
        subst (λ n. AreLinesServed Rule mid between n others p2 t2 new later) at two,
        p_is ∙ ap (λ x. first ++ x) ps_are ∙ sym (append_assoc first p1 p2),
        t_is ∙ ap (λ x. own ++ x) ts_are ∙ sym (append_assoc own t1 t2),
      )

  -- ---- the steps of lines

  -- where there is no entry, there is no step
  follows_none : (old new : Market) (p : Entries) → p ≡ [] → new ≡ old → Follows IsReadAs Rule old p new
  follows_none old new p none same = rw none same

  -- what comes of a text
  follows_wish : (old new : Market) (d later : Desks) (count : ℕ) (sender : Recipient) (number : ℕ) (w : Wish) (p : Entries) (t : Texts) → ComesOfWish Rule old d count sender number w p t new later → Follows IsReadAs Rule old p new
  follows_wish old new d later count sender number wish.Nothing p t is = follows_none old new p is.0 is.1
  follows_wish old new d later count sender number (wish.Answer q) p t is = follows_none old new p is.0 is.1
  follows_wish old new d later count sender number (wish.Refuse why) p t is = follows_none old new p is.0 is.1
  follows_wish old new d later count sender number (wish.Serve asked) p t is = follows_served sender number (commands_of asked) p t old new d later count is

  -- what comes of a line that was heard
  follows_comes : (old new : Market) (d later : Desks) (count : ℕ) (said : Heard) (p : Entries) (t : Texts) → ComesOf Rule old d count said p t new later → Follows IsReadAs Rule old p new
  follows_comes old new d later count heard.Nothing p t is = follows_none old new p is.0 is.1
  follows_comes old new d later count heard.Noise p t is = follows_none old new p is.0 is.1
  follows_comes old new d later count (heard.Other sender) p t is = follows_none old new p is.0 is.1
  follows_comes old new d later count (heard.From sender text) p t (w, wished, comes) = follows_wish old new (with_line d sender) later count sender ((tally_of d sender).lines + 1) w p t comes

  -- the entries of a line are steps of the market
  pub follows_line : (old new : Market) (d later : Desks) (count : ℕ) (line : List ℕ) (p : Entries) (t : Texts) → IsLineServed Rule old d count line p t new later → Follows IsReadAs Rule old p new
  follows_line old new d later count line p t (said, is, comes) = follows_comes old new d later count said p t comes

  -- and those of lines
  pub follows_lines : (lines : List (List ℕ)) (p : Entries) (t : Texts) (old new : Market) (d later : Desks) (count : ℕ) → AreLinesServed Rule old d count lines p t new later → Follows IsReadAs Rule old p new
  follows_lines [] p t old new d later count (p_is, t_is, new_is, later_is) = rw p_is new_is
  follows_lines (line ∷ lines) p t old new d later count (first, own, next, there, ps, ts, served, rest, p_is, t_is) =
      rw p_is (follows-append IsReadAs reading_unique Rule old next new first ps (follows_line old next d there count line first own served) (follows_lines lines ps ts next new there later (count + length first) rest))

  -- and those of a line that is begun
  pub follows_begun : (old new : Market) (d later : Desks) (count : ℕ) (line : List ℕ) (sender : Recipient) (next : List Command) (p : Entries) (t : Texts) → IsLineBegun Rule old d count line sender next p t new later
      → Follows IsReadAs Rule old p new
  follows_begun old new d later count line sender next p t begun = follows_served sender ((tally_of d sender).lines + 1) begun.first p t old new (with_line d sender) later count begun.served

  -- and those of lines and of one more that is begun
  pub follows_into : (old new : Market) (d later : Desks) (count : ℕ) (lines : List (List ℕ)) (line : List ℕ) (next : List Command) (p : Entries) (t : Texts) → AreServedInto Rule old d count lines line next p t new later
      → Follows IsReadAs Rule old p new
  follows_into old new d later count lines line next p t into =
      rw into.all
      (follows-append IsReadAs reading_unique Rule old into.mid new into.first into.more (follows_lines lines into.first into.own old into.mid d into.between count into.whole)
      (follows_begun into.mid new into.between later (count + length into.first) line into.sender next into.more into.others into.begun))

  -- ---- the first texts

  -- nothing was served
  first_none : (old : Market) (d : Desks) (count : ℕ) (lines : List (List ℕ)) → AreFirstServed Rule old d count lines [] []
  first_none old d count lines = record { whole = []; rest = lines; parts = refl; new = old; later = d; served = inl (refl, refl, refl, refl) }

  -- all of these lines were served, and more may follow
  pub first_all : (old new : Market) (d later : Desks) (count : ℕ) (lines rest : List (List ℕ)) (pairs : Entries) (texts : Texts) → AreLinesServed Rule old d count lines pairs texts new later
      → AreFirstServed Rule old d count (lines ++ rest) pairs texts
  first_all old new d later count lines rest pairs texts served = record { whole = lines; rest = rest; parts = refl; new = new; later = later; served = inl served }

  -- and of one more line the first commands
  pub first_into : (old new : Market) (d later : Desks) (count : ℕ) (lines : List (List ℕ)) (line : List ℕ) (rest : List (List ℕ)) (next : List Command) (pairs : Entries) (texts : Texts)
      → AreServedInto Rule old d count lines line next pairs texts new later → AreFirstServed Rule old d count (lines ++ line ∷ rest) pairs texts
  first_into old new d later count lines line rest next pairs texts into =
      record { whole = lines; rest = line ∷ rest; parts = refl; new = new; later = later; served = inr (line, rest, next, refl, into) }

  -- more lines may follow
  pub first_wider : (old : Market) (d : Desks) (count : ℕ) (lines more : List (List ℕ)) (p : Entries) (t : Texts) → AreFirstServed Rule old d count lines p t → AreFirstServed Rule old d count (lines ++ more) p t
  first_wider old d count lines more p t is = record {
    whole = is.whole;
    rest = is.rest ++ more;
    parts = ap (λ x. x ++ more) is.parts ∙ append_assoc is.whole is.rest more;
    new = is.new;
    later = is.later;
    served =
        elim is.served [
          | inl served ↦ inl served
          | inr into ↦ inr (into.0, into.1 ++ more, into.2, ap (λ x. x ++ more) into.3, into.4)
        ];
  }

  -- one line before those that are served
  module _ (old next : Market) (d there : Desks) (count : ℕ) (line : List ℕ) (first : Entries) (own : Texts) (served : IsLineServed Rule old d count line first own next there) where
    -- lines and the first commands of one more
    into_after : (lines : List (List ℕ)) (last : List ℕ) (commands : List Command) (p : Entries) (t : Texts) (new : Market) (later : Desks) → AreServedInto Rule next there (count + length first) lines last commands p t new later
        → AreServedInto Rule old d count (line ∷ lines) last commands (first ++ p) (own ++ t) new later
    into_after lines last commands p t new later into =
        let at : count + length first + length into.first ≡ count + length (first ++ into.first) = omega (arith, length-append first into.first) in
        record {
          first = first ++ into.first;
          own = own ++ into.own;
          mid = into.mid;
          between = into.between;
          whole = (first, own, next, there, into.first, into.own, served, into.whole, refl, refl);
          sender = into.sender;
          more = into.more;
          others = into.others;
          begun = subst (λ n. IsLineBegun Rule into.mid into.between n last into.sender commands into.more into.others new later) at into.begun;
          all = ap (λ x. first ++ x) into.all ∙ sym (append_assoc first into.first into.more);
          said = ap (λ x. own ++ x) into.said ∙ sym (append_assoc own into.own into.others);
        }

    -- the first of some lines
    first_after : (lines : List (List ℕ)) (p : Entries) (t : Texts) → AreFirstServed Rule next there (count + length first) lines p t → AreFirstServed Rule old d count (line ∷ lines) (first ++ p) (own ++ t)
    first_after lines p t is = record {
      whole = line ∷ is.whole;
      rest = is.rest;
      parts = ap (λ x. line ∷ x) is.parts;
      new = is.new;
      later = is.later;
      served =
          elim is.served [
            | inl so ↦ inl (first, own, next, there, p, t, served, so, refl, refl)
            | inr into ↦ inr (into.0, into.1, into.2, into.3, into_after is.whole into.0 into.2 p t is.new is.later into.4)
          ];
    }

  -- so many of the texts of a line
  module _ (old new : Market) (d later : Desks) (count : ℕ) (line : List ℕ) (rest : List (List ℕ)) (p : Entries) (t : Texts) (k : ℕ) where
    -- entries of the line, fewer than all, were served with them
    abbrev FirstOf : Type 0
    FirstOf = (n : ℕ) × (n ≤ length p) × AreFirstServed Rule old d count (line ∷ rest) (take n p) (take k t)

    -- none of the texts
    no_text : k ≡ 0 → FirstOf
    no_text none = (0, omega arith, subst (λ n. AreFirstServed Rule old d count (line ∷ rest) [] (take n t)) (sym none) (first_none old d count (line ∷ rest)))

    -- there is one text, or none
    says_first : (desks : Desks) (messages : List Message) → t ≡ one_text desks messages → k < length t → FirstOf
    says_first desks [] is few = no_text (omega (arith, few, ap length is))
    says_first desks (m ∷ more) is few = no_text (omega (arith, few, ap length is))

    -- the text of a sender
    wish_first : (sender : Recipient) (text : List ℕ) (w : Wish) → IsHeard d line (heard.From sender text) → IsWish old.version old.tickers d sender text w
        → ComesOfWish Rule old (with_line d sender) count sender ((tally_of d sender).lines + 1) w p t new later → k < length t → FirstOf
    wish_first sender text wish.Nothing is wished comes few = says_first (with_line d sender) [] comes.2 few
    wish_first sender text (wish.Answer q) is wished comes few = says_first (with_line d sender) (answer_to sender ((tally_of d sender).lines + 1) (answer_members old sender q) ∷ []) comes.2 few
    wish_first sender text (wish.Refuse why) is wished comes few = says_first (with_line d sender) (error_to sender ((tally_of d sender).lines + 1) (fault_word why) ∷ []) comes.2 few
    wish_first sender text (wish.Serve asked) is wished comes few =
        let (first, next, mid, between, parts, within, served) = served_first sender ((tally_of d sender).lines + 1) (commands_of asked) p t old new (with_line d sender) later count comes k (omega (arith, few)) in
        let here : count ≡ count + length {A = Pair Record Outcome} [] = omega arith in
        let begun : IsLineBegun Rule old d count line sender next (take k p) (take k t) mid between = record {
          text = text;
          asked = asked;
          is_heard = is;
          wished = wished;
          first = first;
          parts = parts;
          served = served;
        } in (
          k,
          within,
          first_into old mid d between count [] line rest next (take k p) (take k t) (record {
            first = [];
            own = [];
            mid = old;
            between = d;
            whole = (refl, refl, refl, refl);
            sender = sender;
            more = take k p;
            others = take k t;
            begun = subst (λ n. IsLineBegun Rule old d n line sender next (take k p) (take k t) mid between) here begun;
            all = refl;
            said = refl;
          }),
        )

    -- a line that was heard
    comes_first : (said : Heard) → IsHeard d line said → ComesOf Rule old d count said p t new later → k < length t → FirstOf
    comes_first heard.Nothing is comes few = says_first (with_read d) [] comes.2 few
    comes_first heard.Noise is comes few = says_first (with_read d) (no_envelope (d.total.lines + 1) ∷ []) comes.2 few
    comes_first (heard.Other sender) is comes few = says_first (with_read d) (expected sender ((tally_of d sender).lines + 1) ∷ []) comes.2 few
    comes_first (heard.From sender text) is (w, wished, comes) few = wish_first sender text w is wished comes few

    -- a line, of which all is served or only a first part
    line_first : IsLineServed Rule old d count line p t new later → k ≤ length t → FirstOf
    line_first (said, is, comes) within = by (cases_lt k (length t))
      where
        by : (k < length t) ⊎ (length t ≤ k) → FirstOf
        by (inl few) = comes_first said is comes few
        by (inr all) = (
          length p,
          omega arith,
          rw (take_all (length p) p (omega arith), take_all k t all)
              (record {
                whole = line ∷ [];
                rest = rest;
                parts = refl;
                new = new;
                later = later;
                served = inl (p, t, new, later, [], [], (said, is, comes), (refl, refl, refl, refl), sym (append-nil p), sym (append-nil t));
              }),
        )

  -- so many texts of lines are those of the first lines
  pub first_texts : (lines : List (List ℕ)) (pairs : Entries) (texts : Texts) (old new : Market) (d later : Desks) (count : ℕ) → AreLinesServed Rule old d count lines pairs texts new later → (k : ℕ) → k ≤ length texts
      → (n : ℕ) × (n ≤ length pairs) × AreFirstServed Rule old d count lines (take n pairs) (take k texts)
  first_texts [] p t old new d later count (p_is, t_is, new_is, later_is) k within =
      let none : take k t ≡ [] = ap (take k) t_is ∙ take_all k [] (omega arith) in
      (0, omega arith, rw none (first_none old d count []))
  first_texts (line ∷ lines) p t old new d later count (first, own, next, there, ps, ts, served, rest, p_is, t_is) k within = by (cases_lt (length own) k) (first_texts lines ps ts next new there later (count + length first) rest)
    where
      by : (length own < k) ⊎ (k ≤ length own) → ((j : ℕ) → j ≤ length ts → (n : ℕ) × (n ≤ length ps) × AreFirstServed Rule next there (count + length first) lines (take n ps) (take j ts))
          → (n : ℕ) × (n ≤ length p) × AreFirstServed Rule old d count (line ∷ lines) (take n p) (take k t)
      by (inr few) others =
          let (n, small, is) = line_first old next d there count line lines first own k served few in (
            n,
            omega (arith, small, ap length p_is, length-append first ps),
            rw (p_is, t_is, take-append-le n first ps small, take-append-le k own ts few) is,
          )
      by (inl more) others =
          let (n, small, is) = others (k - length own) (omega (arith, more, within, ap length t_is, length-append own ts)) in
          let at : k ≡ length own + (k - length own) = omega (arith, more) in
          let texts_are : take k t ≡ own ++ take (k - length own) ts = ap (take k) t_is ∙ ap (λ j. take j (own ++ ts)) at ∙ take-append-add own ts (k - length own) in
          let pairs_are : take (length first + n) p ≡ first ++ take n ps = ap (take (length first + n)) p_is ∙ take-append-add first ps n in (
            length first + n,
            omega (arith, small, ap length p_is, length-append first ps),
            rw (pairs_are, texts_are) (first_after old next d there count line first own served lines (take n ps) (take (k - length own) ts) is),
          )

  -- and so where one more line is begun
  pub first_texts_into : (old new : Market) (d later : Desks) (count : ℕ) (lines : List (List ℕ)) (line : List ℕ) (more : List (List ℕ)) (next : List Command) (pairs : Entries) (texts : Texts)
      → AreServedInto Rule old d count lines line next pairs texts new later → (k : ℕ) → k ≤ length texts
      → (n : ℕ) × (n ≤ length pairs) × AreFirstServed Rule old d count (lines ++ line ∷ more) (take n pairs) (take k texts)
  first_texts_into old new d later count lines line more next p t into k within = by (cases_lt (length into.own) k)
    where
      by : (length into.own < k) ⊎ (k ≤ length into.own) → (n : ℕ) × (n ≤ length p) × AreFirstServed Rule old d count (lines ++ line ∷ more) (take n p) (take k t)
      by (inr few) =
          let (n, small, is) = first_texts lines into.first into.own old into.mid d into.between count into.whole k few in (
            n,
            omega (arith, small, ap length into.all, length-append into.first into.more),
            rw (into.all, into.said, take-append-le n into.first into.more small, take-append-le k into.own into.others few) (first_wider old d count lines (line ∷ more) (take n into.first) (take k into.own) is),
          )
      by (inl many) =
          let j : ℕ = k - length into.own in
          let begun = into.begun in
          let (first, left, mid, between, parts, small, served) =
          served_first into.sender ((tally_of into.between into.sender).lines + 1) begun.first into.more into.others into.mid new (with_line into.between into.sender) later (count + length into.first) begun.served j
          (omega (arith, many, within, ap length into.said, length-append into.own into.others))
          in
          let at : k ≡ length into.own + j = omega (arith, many) in
          let texts_are : take k t ≡ into.own ++ take j into.others = ap (take k) into.said ∙ ap (λ i. take i (into.own ++ into.others)) at ∙ take-append-add into.own into.others j in
          let pairs_are : take (length into.first + j) p ≡ into.first ++ take j into.more = ap (take (length into.first + j)) into.all ∙ take-append-add into.first into.more j in (
            length into.first + j,
            omega (arith, small, ap length into.all, length-append into.first into.more),
            rw (pairs_are, texts_are)
                (first_into old mid d between count lines line more (left ++ next) (into.first ++ take j into.more) (into.own ++ take j into.others) (record {
                  first = into.first;
                  own = into.own;
                  mid = into.mid;
                  between = into.between;
                  whole = into.whole;
                  sender = into.sender;
                  more = take j into.more;
                  others = take j into.others;
                  begun = record {
                    text = begun.text;
                    asked = begun.asked;
                    is_heard = begun.is_heard;
                    wished = begun.wished;
                    first = first;
                    parts = begun.parts ∙ ap (λ x. x ++ next) parts ∙ append_assoc first left next;
                    served = served;
                  };
                  all = refl;
                  said = refl;
                })),
          )
