-- The same lines again: one outcome by the canonical rule, and entries that make it.
use Rattle.std.proofs.Common.{◌≡◌, inl, inr, ℕ, ◌+◌, List, [], ◌∷◌, ◌++◌, length, Option, Some, None, Result, Ok, Err, sym, ap, subst, ◌∙◌}
use Rattle.wire_records.specs.Records.{Record}
use Rattle.wire_records.specs.Commands.{Command, RunBatch, Answer, Pair}
use Rattle.wire_records.specs.Versions.{IsReadAs}
use Rattle.wire_records.specs.declared.command.BodyFault.{BodyFault}
use Rattle.wire_records.specs.declared.reply.Refusal.{Refusal}
use Rattle.wire_records.proofs.Readings.{reading_unique, read_own}
use Rattle.flow_orders.specs.Outcomes.{Outcome, BatchRule, IsAdmissibleOutcome}
use Rattle.canonical_rule.specs.Canonical.{IsCanonicalOutcome}
use Rattle.market_rules.specs.Market.{Market}
use Rattle.market_rules.specs.Step.{Accepts, ServesRead}
use Rattle.market_rules.specs.Journal.{Step, Follows}
use Rattle.market_rules.proofs.ByFirst.{Answers}
use Rattle.market_rules.proofs.OneJournal.{step_market, journal_market, follows-parts}
use Rattle.canonical_journals.proofs.OneCanonicalJournal.{own_step}
use Rattle.canonical_journals.proofs.CanonicalIsLegal.{canonical_follows_are_admissible}
use Rattle.order_text.specs.Lines.{commands_of}
use Rattle.answer_text.specs.declared.header.Recipient.{Recipient}
use Rattle.desk_messages.specs.Desks.{Desks, tally_of, with_read, with_line}
use Rattle.desk_messages.specs.Messages.{Message, told, texts_of, opened_by, with_opened, no_envelope, expected, error_to}
use Rattle.desk_lines.specs.Hearing.{Heard}
use Rattle.desk_lines.specs.Hearing as heard
use Rattle.desk_lines.specs.Wishes.{Wish}
use Rattle.desk_lines.specs.Wishes as wish
use Rattle.desk_lines.specs.Laws.{OneHearing, OneWish}
use Rattle.desk_session.specs.Lines.{entry_messages, answer_members, fault_word, answer_to, SaysOnly, AreServed, ComesOfWish, ComesOf, IsLineServed, AreLinesServed, IsLineBegun, AreServedInto, AreFirstServed}
use Rattle.desk_session.proofs.Going.{follows_lines}
use Rattle.desk_laws.specs.Laws.{Entries, Texts, LinesHaveOneOutcome, CanonicalLinesAreValid, CanonicalEntriesMakeCanonicalLines}

-- ---- one outcome

-- entries of the same parts are the same
same_pair : (p q : Pair Record Outcome) → p.asked ≡ q.asked → p.answer ≡ q.answer → p ≡ q
same_pair p q asked answer =
    let made : Record → Answer Outcome → Pair Record Outcome = λ a b. record { asked = a; answer = b } in
    ap (λ a. made a p.answer) asked ∙ ap (λ b. made q.asked b) answer

-- two lists, two texts, two markets and two counts are the same
abbrev pub AreSame : Entries → Entries → Texts → Texts → Market → Market → Desks → Desks → Type 0
AreSame p q t u m n x y = (p ≡ q) × (t ≡ u) × (m ≡ n) × (x ≡ y)

-- the counts and the text after an entry
module _ (old : Market) (d : Desks) (count : ℕ) (sender : Recipient) (number : ℕ) (command : Command) where
  abbrev pub messages_of : Pair Record Outcome → Market → List Message
  messages_of pair next = entry_messages (with_opened (opened_by pair.answer) d) old next sender number (count + 1) command pair.answer

  abbrev pub counts_after : Pair Record Outcome → Market → Desks
  counts_after pair next = told (with_opened (opened_by pair.answer) d) (messages_of pair next)

  abbrev pub text_after : Pair Record Outcome → Market → List ℕ
  text_after pair next = texts_of (with_opened (opened_by pair.answer) d) (messages_of pair next)

-- commands
pub served_once : (sender : Recipient) (number : ℕ) (commands : List Command) (p q : Entries) (t u : Texts) (old m n : Market) (d x y : Desks) (count : ℕ)
    → AreServed IsCanonicalOutcome old d count sender number commands p t m x → AreServed IsCanonicalOutcome old d count sender number commands q u n y → AreSame p q t u m n x y
served_once sender number [] p q t u old m n d x y count (p_is, t_is, m_is, x_is) (q_is, u_is, n_is, y_is) = (p_is ∙ sym q_is, t_is ∙ sym u_is, m_is ∙ sym n_is, x_is ∙ sym y_is)
served_once sender number (command ∷ commands) p q t u old m n d x y count (pair, next, ps, ts, asked, step, rest, p_is, t_is) (other, after, qs, us, also, move, others, q_is, u_is) =
    let one = own_step IsReadAs reading_unique old pair.asked pair.answer other.answer next after step (subst (λ r. Step IsReadAs IsCanonicalOutcome old r other.answer after) (also ∙ sym asked) move) in
    let pairs : pair ≡ other = same_pair pair other (asked ∙ sym also) one.0 in
    let there : AreServed IsCanonicalOutcome next (counts_after old d count sender number command pair next) (count + 1) sender number commands qs us n y =
    subst (λ z. AreServed IsCanonicalOutcome next (counts_after old d count sender number command z next) (count + 1) sender number commands qs us n y) (sym pairs)
    (subst (λ k. AreServed IsCanonicalOutcome k (counts_after old d count sender number command other k) (count + 1) sender number commands qs us n y) (sym one.1) others) in
    let more = served_once sender number commands ps qs ts us next m n (counts_after old d count sender number command pair next) x y (count + 1) rest there in
    let texts : text_after old d count sender number command pair next ≡ text_after old d count sender number command other after =
    ap (λ z. text_after old d count sender number command z next) pairs ∙ ap (text_after old d count sender number command other) one.1 in (
      p_is ∙ ap (λ z. z ∷ ps) pairs ∙ ap (λ zs. other ∷ zs) more.0 ∙ sym q_is,
      t_is ∙ ap (λ z. z ∷ ts) texts ∙ ap (λ zs. text_after old d count sender number command other after ∷ zs) more.1 ∙ sym u_is,
      more.2,
      more.3,
    )

-- what is said alone
says_once : (old m n : Market) (d x y : Desks) (messages : List Message) (p q : Entries) (t u : Texts) → SaysOnly old d messages p t m x → SaysOnly old d messages q u n y → AreSame p q t u m n x y
says_once old m n d x y messages p q t u one other = (one.0 ∙ sym other.0, one.2 ∙ sym other.2, one.1 ∙ sym other.1, one.3 ∙ sym other.3)

-- a text
wish_once : (old m n : Market) (d x y : Desks) (count : ℕ) (sender : Recipient) (number : ℕ) (w : Wish) (p q : Entries) (t u : Texts)
    → ComesOfWish IsCanonicalOutcome old d count sender number w p t m x → ComesOfWish IsCanonicalOutcome old d count sender number w q u n y → AreSame p q t u m n x y
wish_once old m n d x y count sender number wish.Nothing p q t u one other = says_once old m n d x y [] p q t u one other
wish_once old m n d x y count sender number (wish.Answer question) p q t u one other = says_once old m n d x y (answer_to sender number (answer_members old sender question) ∷ []) p q t u one other
wish_once old m n d x y count sender number (wish.Refuse why) p q t u one other = says_once old m n d x y (error_to sender number (fault_word why) ∷ []) p q t u one other
wish_once old m n d x y count sender number (wish.Serve asked) p q t u one other = served_once sender number (commands_of asked) p q t u old m n d x y count one other

-- a line is heard in one way, and a text asks for one thing
module _ (one_hearing : OneHearing) (one_wish : OneWish) where
  -- a line that was heard
  comes_once : (old m n : Market) (d x y : Desks) (count : ℕ) (said : Heard) (p q : Entries) (t u : Texts)
      → ComesOf IsCanonicalOutcome old d count said p t m x → ComesOf IsCanonicalOutcome old d count said q u n y → AreSame p q t u m n x y
  comes_once old m n d x y count heard.Nothing p q t u one other = says_once old m n (with_read d) x y [] p q t u one other
  comes_once old m n d x y count heard.Noise p q t u one other = says_once old m n (with_read d) x y (no_envelope (d.total.lines + 1) ∷ []) p q t u one other
  comes_once old m n d x y count (heard.Other sender) p q t u one other = says_once old m n (with_read d) x y (expected sender ((tally_of d sender).lines + 1) ∷ []) p q t u one other
  comes_once old m n d x y count (heard.From sender text) p q t u (w, wished, comes) (v, also, too) =
      let same : v ≡ w = one_wish old.version old.tickers d sender text v w also wished in
      wish_once old m n (with_line d sender) x y count sender ((tally_of d sender).lines + 1) w p q t u comes
      (subst (λ z. ComesOfWish IsCanonicalOutcome old (with_line d sender) count sender ((tally_of d sender).lines + 1) z q u n y) same too)

  -- a line
  line_once : (old m n : Market) (d x y : Desks) (count : ℕ) (line : List ℕ) (p q : Entries) (t u : Texts)
      → IsLineServed IsCanonicalOutcome old d count line p t m x → IsLineServed IsCanonicalOutcome old d count line q u n y → AreSame p q t u m n x y
  line_once old m n d x y count line p q t u (said, is, comes) (heard, also, too) =
      comes_once old m n d x y count said p q t u comes (subst (λ z. ComesOf IsCanonicalOutcome old d count z q u n y) (one_hearing d line heard said also is) too)

  -- lines
  pub lines_once : (lines : List (List ℕ)) (p q : Entries) (t u : Texts) (old m n : Market) (d x y : Desks) (count : ℕ)
      → AreLinesServed IsCanonicalOutcome old d count lines p t m x → AreLinesServed IsCanonicalOutcome old d count lines q u n y → AreSame p q t u m n x y
  lines_once [] p q t u old m n d x y count (p_is, t_is, m_is, x_is) (q_is, u_is, n_is, y_is) = (p_is ∙ sym q_is, t_is ∙ sym u_is, m_is ∙ sym n_is, x_is ∙ sym y_is)
  lines_once (line ∷ lines) p q t u old m n d x y count (p1, t1, next, between, p2, t2, served, rest, p_is, t_is) (q1, u1, after, there, q2, u2, also, others, q_is, u_is) =
      let one = line_once old next after d between there count line p1 q1 t1 u1 served also in
      let here : AreLinesServed IsCanonicalOutcome next between (count + length p1) lines q2 u2 n y =
      subst (λ z. AreLinesServed IsCanonicalOutcome next between (count + length z) lines q2 u2 n y) (sym one.0)
      (subst (λ z. AreLinesServed IsCanonicalOutcome next z (count + length q1) lines q2 u2 n y) (sym one.3)
      (subst (λ z. AreLinesServed IsCanonicalOutcome z there (count + length q1) lines q2 u2 n y) (sym one.2) others)) in
      let more = lines_once lines p2 q2 t2 u2 next m n between x y (count + length p1) rest here in (
        p_is ∙ ap (λ z. z ++ p2) one.0 ∙ ap (λ z. q1 ++ z) more.0 ∙ sym q_is,
        t_is ∙ ap (λ z. z ++ t2) one.1 ∙ ap (λ z. u1 ++ z) more.1 ∙ sym u_is,
        more.2,
        more.3,
      )

  pub lines_have_one_outcome : LinesHaveOneOutcome
  lines_have_one_outcome start d count lines p q t u m n x y one other = lines_once lines p q t u start m n d x y count one other

-- ---- entries by another rule

-- any outcome of a batch
abbrev AnyOutcome : BatchRule
AnyOutcome search orders start budget outcome = Unit {0}

module _ (Rule : BatchRule) where
  accepted_any : (m : Market) (c : Command) (a : Answer Outcome) (n : Market) → Accepts Rule m c a n → Accepts AnyOutcome m c a n
  accepted_any m (RunBatch budget) a n accepts = (accepts.0, tt, accepts.2)
  accepted_any m command a n accepts = accepts

  answered_any : (m : Market) (c : Command) (first : Option Refusal) (a : Answer Outcome) (n : Market) → Answers Rule m c first a n → Answers AnyOutcome m c first a n
  answered_any m c (Some refusal) a n answers = answers
  answered_any m c None a n answers = accepted_any m c a n answers

  read_any : (m : Market) (read : Result Command BodyFault) (a : Answer Outcome) (n : Market) → ServesRead Rule m read a n → ServesRead AnyOutcome m read a n
  read_any m (Ok c) a n served = record { first = served.first; refused = served.refused; answered = answered_any m c served.first a n served.answered }
  read_any m (Err why) a n served = served

  -- a step by a rule is one by any outcome
  step_any : (m : Market) (asked : Record) (a : Answer Outcome) (n : Market) → Step IsReadAs Rule m asked a n → Step IsReadAs AnyOutcome m asked a n
  step_any m asked a n step = record { read = step.read; encoded = step.encoded; served = read_any m step.read a n step.served }

  follows_any : (m : Market) (pairs : Entries) (n : Market) → Follows IsReadAs Rule m pairs n → Follows IsReadAs AnyOutcome m pairs n
  follows_any m [] n follows = follows
  follows_any m (pair ∷ pairs) n follows = (follows.0, step_any m pair.asked pair.answer follows.0 follows.1, follows_any follows.0 pairs n follows.2)

module _ (Rule Other : BatchRule) where
  -- steps by two rules lead to one market, if they have the same answers
  two_steps : (m : Market) (asked : Record) (a : Answer Outcome) (n k : Market) → Step IsReadAs Rule m asked a n → Step IsReadAs Other m asked a k → k ≡ n
  two_steps m asked a n k one other = step_market IsReadAs reading_unique AnyOutcome m asked a k n (step_any Other m asked a k other) (step_any Rule m asked a n one)

  pub two_follows : (m : Market) (pairs : Entries) (n k : Market) → Follows IsReadAs Rule m pairs n → Follows IsReadAs Other m pairs k → k ≡ n
  two_follows m pairs n k one other = journal_market IsReadAs reading_unique AnyOutcome m pairs k n (follows_any Other m pairs k other) (follows_any Rule m pairs n one)

  -- what was served by one rule was served by another, if its entries are steps by that
  served_by : (sender : Recipient) (number : ℕ) (commands : List Command) (p : Entries) (t : Texts) (old new k : Market) (d later : Desks) (count : ℕ)
      → AreServed Rule old d count sender number commands p t new later → Follows IsReadAs Other old p k → AreServed Other old d count sender number commands p t new later × (k ≡ new)
  served_by sender number [] p t old new k d later count (p_is, t_is, new_is, later_is) follows =
      ((p_is, t_is, new_is, later_is), subst (λ z. Follows IsReadAs Other old z k) p_is follows ∙ sym new_is)
  served_by sender number (command ∷ commands) p t old new k d later count (pair, next, ps, ts, asked, step, rest, p_is, t_is) follows =
      let (after, move, others) = subst (λ z. Follows IsReadAs Other old z k) p_is follows in
      let same : after ≡ next = two_steps old pair.asked pair.answer next after step move in
      let more = served_by sender number commands ps ts next new k (counts_after old d count sender number command pair next) later (count + 1) rest (subst (λ z. Follows IsReadAs Other z ps k) same others) in
      ((pair, next, ps, ts, asked, subst (λ z. Step IsReadAs Other old pair.asked pair.answer z) same move, more.0, p_is, t_is), more.1)

  -- no entry
  says_by : (old new k : Market) (d later : Desks) (messages : List Message) (p : Entries) (t : Texts) → SaysOnly old d messages p t new later → Follows IsReadAs Other old p k → k ≡ new
  says_by old new k d later messages p t is follows = subst (λ z. Follows IsReadAs Other old z k) is.0 follows ∙ sym is.1

  wish_by : (old new k : Market) (d later : Desks) (count : ℕ) (sender : Recipient) (number : ℕ) (w : Wish) (p : Entries) (t : Texts)
      → ComesOfWish Rule old d count sender number w p t new later → Follows IsReadAs Other old p k → ComesOfWish Other old d count sender number w p t new later × (k ≡ new)
  wish_by old new k d later count sender number wish.Nothing p t is follows = (is, says_by old new k d later [] p t is follows)
  wish_by old new k d later count sender number (wish.Answer q) p t is follows = (is, says_by old new k d later (answer_to sender number (answer_members old sender q) ∷ []) p t is follows)
  wish_by old new k d later count sender number (wish.Refuse why) p t is follows = (is, says_by old new k d later (error_to sender number (fault_word why) ∷ []) p t is follows)
  wish_by old new k d later count sender number (wish.Serve asked) p t is follows = served_by sender number (commands_of asked) p t old new k d later count is follows

  comes_by : (old new k : Market) (d later : Desks) (count : ℕ) (said : Heard) (p : Entries) (t : Texts)
      → ComesOf Rule old d count said p t new later → Follows IsReadAs Other old p k → ComesOf Other old d count said p t new later × (k ≡ new)
  comes_by old new k d later count heard.Nothing p t is follows = (is, says_by old new k (with_read d) later [] p t is follows)
  comes_by old new k d later count heard.Noise p t is follows = (is, says_by old new k (with_read d) later (no_envelope (d.total.lines + 1) ∷ []) p t is follows)
  comes_by old new k d later count (heard.Other sender) p t is follows = (is, says_by old new k (with_read d) later (expected sender ((tally_of d sender).lines + 1) ∷ []) p t is follows)
  comes_by old new k d later count (heard.From sender text) p t (w, wished, comes) follows =
      let so = wish_by old new k (with_line d sender) later count sender ((tally_of d sender).lines + 1) w p t comes follows in
      ((w, wished, so.0), so.1)

  line_by : (old new k : Market) (d later : Desks) (count : ℕ) (line : List ℕ) (p : Entries) (t : Texts)
      → IsLineServed Rule old d count line p t new later → Follows IsReadAs Other old p k → IsLineServed Other old d count line p t new later × (k ≡ new)
  line_by old new k d later count line p t (said, is, comes) follows =
      let so = comes_by old new k d later count said p t comes follows in
      ((said, is, so.0), so.1)

  pub lines_by : (lines : List (List ℕ)) (p : Entries) (t : Texts) (old new k : Market) (d later : Desks) (count : ℕ)
      → AreLinesServed Rule old d count lines p t new later → Follows IsReadAs Other old p k → AreLinesServed Other old d count lines p t new later × (k ≡ new)
  lines_by [] p t old new k d later count (p_is, t_is, new_is, later_is) follows = ((p_is, t_is, new_is, later_is), subst (λ z. Follows IsReadAs Other old z k) p_is follows ∙ sym new_is)
  lines_by (line ∷ lines) p t old new k d later count (first, own, next, between, more, others, served, rest, p_is, t_is) follows =
      let (mid, here, there) = follows-parts IsReadAs reading_unique Other old k first more (subst (λ z. Follows IsReadAs Other old z k) p_is follows) in
      let one = line_by old next mid d between count line first own served here in
      let so = lines_by lines more others next new k between later (count + length first) rest (subst (λ z. Follows IsReadAs Other z more k) one.1 there) in
      ((first, own, next, between, more, others, one.0, so.0, p_is, t_is), so.1)

  -- a line that is begun
  begun_by : (old new k : Market) (d later : Desks) (count : ℕ) (line : List ℕ) (sender : Recipient) (next : List Command) (p : Entries) (t : Texts)
      → IsLineBegun Rule old d count line sender next p t new later → Follows IsReadAs Other old p k → IsLineBegun Other old d count line sender next p t new later
  begun_by old new k d later count line sender next p t begun follows = record {
    text = begun.text;
    asked = begun.asked;
    is_heard = begun.is_heard;
    wished = begun.wished;
    first = begun.first;
    parts = begun.parts;
    served = (served_by sender ((tally_of d sender).lines + 1) begun.first p t old new k (with_line d sender) later count begun.served follows).0;
  }

  into_by : (old new k : Market) (d later : Desks) (count : ℕ) (lines : List (List ℕ)) (line : List ℕ) (next : List Command) (p : Entries) (t : Texts)
      → AreServedInto Rule old d count lines line next p t new later → Follows IsReadAs Other old p k → AreServedInto Other old d count lines line next p t new later
  into_by old new k d later count lines line next p t into follows =
      let (mid, here, there) = follows-parts IsReadAs reading_unique Other old k into.first into.more (subst (λ z. Follows IsReadAs Other old z k) into.all follows) in
      let one = lines_by lines into.first into.own old into.mid mid d into.between count into.whole here in
      record {
        first = into.first;
        own = into.own;
        mid = into.mid;
        between = into.between;
        whole = one.0;
        sender = into.sender;
        more = into.more;
        others = into.others;
        begun = begun_by into.mid new k into.between later (count + length into.first) line into.sender next into.more into.others into.begun (subst (λ z. Follows IsReadAs Other z into.more k) one.1 there);
        all = into.all;
        said = into.said;
      }

  pub first_by : (old k : Market) (d : Desks) (count : ℕ) (lines : List (List ℕ)) (p : Entries) (t : Texts)
      → AreFirstServed Rule old d count lines p t → Follows IsReadAs Other old p k → AreFirstServed Other old d count lines p t
  first_by old k d count lines p t is follows = record {
    whole = is.whole;
    rest = is.rest;
    parts = is.parts;
    new = is.new;
    later = is.later;
    served =
        elim is.served [
          | inl served ↦ inl (lines_by is.whole p t old is.new k d is.later count served follows).0
          | inr into ↦ inr (into.0, into.1, into.2, into.3, into_by old is.new k d is.later count is.whole into.0 into.2 p t into.4 follows)
        ];
  }

pub canonical_lines_are_valid : CanonicalLinesAreValid
canonical_lines_are_valid start d count lines p t m x consistent served =
    let steps = canonical_follows_are_admissible IsReadAs read_own start p m consistent (follows_lines IsCanonicalOutcome lines p t start m d x count served) in
    (lines_by IsCanonicalOutcome IsAdmissibleOutcome lines p t start m m d x count served steps).0

pub canonical_entries_make_canonical_lines : CanonicalEntriesMakeCanonicalLines
canonical_entries_make_canonical_lines = record {
  all = λ start d count lines p t m n x follows served. (lines_by IsAdmissibleOutcome IsCanonicalOutcome lines p t start m n d x count served follows).0;
  first = λ start d count lines p t n follows served. first_by IsAdmissibleOutcome IsCanonicalOutcome start n d count lines p t served follows;
}
