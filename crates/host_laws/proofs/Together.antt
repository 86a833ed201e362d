-- The same lines twice, whose entries are alike as long as they are asked for alike: they have the same entries and texts.
use Rattle.std.proofs.Common.{◌≡◌, ℕ, ◌+◌, List, [], ◌∷◌, ◌++◌, length, append_assoc, sym, ap, subst, ◌∙◌}
use Rattle.wire_records.specs.Records.{Record}
use Rattle.wire_records.specs.Commands.{Command, Pair}
use Rattle.wire_records.specs.Versions.{IsReadAs}
use Rattle.wire_records.proofs.Readings.{reading_unique}
use Rattle.flow_orders.specs.Outcomes.{Outcome, IsAdmissibleOutcome}
use Rattle.market_rules.specs.Market.{Market}
use Rattle.market_rules.specs.Journal.{Step}
use Rattle.market_rules.proofs.OneJournal.{step_market}
use Rattle.order_text.specs.Lines.{commands_of}
use Rattle.answer_text.specs.declared.header.Recipient.{Recipient}
use Rattle.desk_messages.specs.Desks.{Desks, tally_of, with_read, with_line}
use Rattle.desk_messages.specs.Messages.{Message, told, texts_of, opened_by, with_opened, no_envelope, expected, error_to}
use Rattle.desk_lines.specs.Hearing.{Heard}
use Rattle.desk_lines.specs.Hearing as heard
use Rattle.desk_lines.specs.Wishes.{Wish}
use Rattle.desk_lines.specs.Wishes as wish
use Rattle.desk_lines.specs.Laws.{OneHearing, OneWish}
use Rattle.desk_session.specs.Lines.{entry_messages, answer_members, fault_word, answer_to, SaysOnly, AreServed, ComesOfWish, ComesOf, IsLineServed, AreLinesServed}
use Rattle.desk_keeping.specs.Hosting.{Entries, Texts}

-- two runs have the same entries and texts, and lead to the same market and counts
pub record AreSame (p q : Entries) (t u : Texts) (m n : Market) (x y : Desks) : Type 0 where
  pub entries : p ≡ q
  pub texts : t ≡ u
  pub market : m ≡ n
  pub counts : x ≡ y

-- the counts and the text after an entry
module _ (old : Market) (d : Desks) (count : ℕ) (sender : Recipient) (number : ℕ) (command : Command) where
  abbrev pub messages_of : Pair Record Outcome → Market → List Message
  messages_of pair next = entry_messages (with_opened (opened_by pair.answer) d) old next sender number (count + 1) command pair.answer

  abbrev pub counts_after : Pair Record Outcome → Market → Desks
  counts_after pair next = told (with_opened (opened_by pair.answer) d) (messages_of pair next)

  abbrev pub text_after : Pair Record Outcome → Market → List ℕ
  text_after pair next = texts_of (with_opened (opened_by pair.answer) d) (messages_of pair next)

-- entries that come from a market on in two runs, of which the first ones are one if their records are
abbrev pub Alike : Type 1
Alike = Market → Entries → Entries → Type 0

pub record StayAlike (R : Alike) : Type 0 where
  pub one : (m n k : Market) (v w : Pair Record Outcome) (more others : Entries) → R m (v ∷ more) (w ∷ others) → v.asked ≡ w.asked
      → Step IsReadAs IsAdmissibleOutcome m v.asked v.answer n → Step IsReadAs IsAdmissibleOutcome m w.asked w.answer k → (v ≡ w) × R n more others

-- they are one list
abbrev pub AreOne : Alike
AreOne m p q = p ≡ q

-- lists that begin alike
pub heads : (v w : Pair Record Outcome) (x y : Entries) → v ∷ x ≡ w ∷ y → (v ≡ w) × (x ≡ y)
heads v w x y e = (cc, cc)

pub one_stays : StayAlike AreOne
one_stays = record { one = λ m n k v w more others e asked step move. heads v w more others e }

module _ (R : Alike) (stay : StayAlike R) (a b : Entries) where
  -- what two runs end in: `a` and `b` are the entries that follow
  abbrev pub EndAlike : (p q : Entries) → (t u : Texts) → (m n : Market) → (x y : Desks) → Type 0
  EndAlike p q t u m n x y = AreSame p q t u m n x y × R m a b

  none_alike : (old m n : Market) (d x y : Desks) (p q : Entries) (t u s : Texts) → (p ≡ []) → (q ≡ []) → (t ≡ s) → (u ≡ s) → (m ≡ old) → (n ≡ old) → (x ≡ d) → (y ≡ d) → R old (p ++ a) (q ++ b) → EndAlike p q t u m n x y
  none_alike old m n d x y p q t u s p_is q_is t_is u_is m_is n_is x_is y_is alike = (
    record { entries = p_is ∙ sym q_is; texts = t_is ∙ sym u_is; market = m_is ∙ sym n_is; counts = x_is ∙ sym y_is },
    subst (λ (k : Market). R k a b) (sym m_is) (subst (λ (l : Entries). R old (l ++ a) b) p_is (subst (λ (l : Entries). R old (p ++ a) (l ++ b)) q_is alike)),
  )

  -- commands
  served_alike : (sender : Recipient) (number : ℕ) (commands : List Command) (p q : Entries) (t u : Texts) (old m n : Market) (d x y : Desks) (count : ℕ)
      → AreServed IsAdmissibleOutcome old d count sender number commands p t m x → AreServed IsAdmissibleOutcome old d count sender number commands q u n y → R old (p ++ a) (q ++ b) → EndAlike p q t u m n x y
  served_alike sender number [] p q t u old m n d x y count (p_is, t_is, m_is, x_is) (q_is, u_is, n_is, y_is) alike = none_alike old m n d x y p q t u [] p_is q_is t_is u_is m_is n_is x_is y_is alike
  served_alike sender number (command ∷ commands) p q t u old m n d x y count (pair, mid, ps, ts, asked, step, more, p_is, t_is) (other, after, qs, us, also, move, others, q_is, u_is) alike =
      let whole : R old (pair ∷ (ps ++ a)) (other ∷ (qs ++ b)) = subst (λ (l : Entries). R old (l ++ a) (other ∷ (qs ++ b))) p_is (subst (λ (l : Entries). R old (p ++ a) (l ++ b)) q_is alike) in
      let (first, left) = stay.one old mid after pair other (ps ++ a) (qs ++ b) whole (asked ∙ sym also) step move in
      let same : mid ≡ after =
      step_market IsReadAs reading_unique IsAdmissibleOutcome old other.asked other.answer mid after (subst (λ (z : Pair Record Outcome). Step IsReadAs IsAdmissibleOutcome old z.asked z.answer mid) first step) move in
      let there : AreServed IsAdmissibleOutcome mid (counts_after old d count sender number command pair mid) (count + 1) sender number commands qs us n y =
      subst (λ z. AreServed IsAdmissibleOutcome mid (counts_after old d count sender number command z mid) (count + 1) sender number commands qs us n y) (sym first)
      (subst (λ k. AreServed IsAdmissibleOutcome k (counts_after old d count sender number command other k) (count + 1) sender number commands qs us n y) (sym same) others) in
      let texts : text_after old d count sender number command pair mid ≡ text_after old d count sender number command other after =
      ap (λ z. text_after old d count sender number command z mid) first ∙ ap (text_after old d count sender number command other) same in
      let (rest, end) = served_alike sender number commands ps qs ts us mid m n (counts_after old d count sender number command pair mid) x y (count + 1) more there left in (
        record {
          entries = p_is ∙ ap (λ z. z ∷ ps) first ∙ ap (λ zs. other ∷ zs) rest.entries ∙ sym q_is;
          texts = t_is ∙ ap (λ z. z ∷ ts) texts ∙ ap (λ zs. text_after old d count sender number command other after ∷ zs) rest.texts ∙ sym u_is;
          market = rest.market;
          counts = rest.counts;
        },
        end,
      )

  -- what is said alone
  says_alike : (old m n : Market) (d x y : Desks) (messages : List Message) (p q : Entries) (t u : Texts) → SaysOnly old d messages p t m x → SaysOnly old d messages q u n y → R old (p ++ a) (q ++ b) → EndAlike p q t u m n x y
  says_alike old m n d x y messages p q t u one other alike = (
    record { entries = one.0 ∙ sym other.0; texts = one.2 ∙ sym other.2; market = one.1 ∙ sym other.1; counts = one.3 ∙ sym other.3 },
    subst (λ (k : Market). R k a b) (sym one.1) (subst (λ (l : Entries). R old (l ++ a) b) one.0 (subst (λ (l : Entries). R old (p ++ a) (l ++ b)) other.0 alike)),
  )

  -- a text
  wish_alike : (old m n : Market) (d x y : Desks) (count : ℕ) (sender : Recipient) (number : ℕ) (w : Wish) (p q : Entries) (t u : Texts)
      → ComesOfWish IsAdmissibleOutcome old d count sender number w p t m x → ComesOfWish IsAdmissibleOutcome old d count sender number w q u n y → R old (p ++ a) (q ++ b) → EndAlike p q t u m n x y
  wish_alike old m n d x y count sender number wish.Nothing p q t u one other alike = says_alike old m n d x y [] p q t u one other alike
  wish_alike old m n d x y count sender number (wish.Answer question) p q t u one other alike = says_alike old m n d x y (answer_to sender number (answer_members old sender question) ∷ []) p q t u one other alike
  wish_alike old m n d x y count sender number (wish.Refuse why) p q t u one other alike = says_alike old m n d x y (error_to sender number (fault_word why) ∷ []) p q t u one other alike
  wish_alike old m n d x y count sender number (wish.Serve asked) p q t u one other alike = served_alike sender number (commands_of asked) p q t u old m n d x y count one other alike

  -- a line is heard in one way, and a text asks for one thing
  module _ (one_hearing : OneHearing) (one_wish : OneWish) where
    comes_alike : (old m n : Market) (d x y : Desks) (count : ℕ) (said : Heard) (p q : Entries) (t u : Texts)
        → ComesOf IsAdmissibleOutcome old d count said p t m x → ComesOf IsAdmissibleOutcome old d count said q u n y → R old (p ++ a) (q ++ b) → EndAlike p q t u m n x y
    comes_alike old m n d x y count heard.Nothing p q t u one other alike = says_alike old m n (with_read d) x y [] p q t u one other alike
    comes_alike old m n d x y count heard.Noise p q t u one other alike = says_alike old m n (with_read d) x y (no_envelope (d.total.lines + 1) ∷ []) p q t u one other alike
    comes_alike old m n d x y count (heard.Other sender) p q t u one other alike = says_alike old m n (with_read d) x y (expected sender ((tally_of d sender).lines + 1) ∷ []) p q t u one other alike
    comes_alike old m n d x y count (heard.From sender text) p q t u (w, wished, comes) (v, also, too) alike =
        let same : v ≡ w = one_wish old.version old.tickers d sender text v w also wished in
        wish_alike old m n (with_line d sender) x y count sender ((tally_of d sender).lines + 1) w p q t u comes
        (subst (λ z. ComesOfWish IsAdmissibleOutcome old (with_line d sender) count sender ((tally_of d sender).lines + 1) z q u n y) same too) alike

    -- a line
    pub line_alike : (old m n : Market) (d x y : Desks) (count : ℕ) (line : List ℕ) (p q : Entries) (t u : Texts)
        → IsLineServed IsAdmissibleOutcome old d count line p t m x → IsLineServed IsAdmissibleOutcome old d count line q u n y → R old (p ++ a) (q ++ b) → EndAlike p q t u m n x y
    line_alike old m n d x y count line p q t u (said, is, comes) (other, also, too) alike =
        comes_alike old m n d x y count said p q t u comes (subst (λ z. ComesOf IsAdmissibleOutcome old d count z q u n y) (one_hearing d line other said also is) too) alike

-- lines
module _ (R : Alike) (stay : StayAlike R) (one_hearing : OneHearing) (one_wish : OneWish) where
  pub lines_alike : (lines : List (List ℕ)) (p q : Entries) (t u : Texts) (old m n : Market) (d x y : Desks) (count : ℕ) (a b : Entries)
      → AreLinesServed IsAdmissibleOutcome old d count lines p t m x → AreLinesServed IsAdmissibleOutcome old d count lines q u n y → R old (p ++ a) (q ++ b) → EndAlike R stay a b p q t u m n x y
  lines_alike [] p q t u old m n d x y count a b (p_is, t_is, m_is, x_is) (q_is, u_is, n_is, y_is) alike = none_alike R stay a b old m n d x y p q t u [] p_is q_is t_is u_is m_is n_is x_is y_is alike
  lines_alike (line ∷ lines) p q t u old m n d x y count a b (p1, t1, mid, between, p2, t2, served, rest, p_is, t_is) (q1, u1, after, there, q2, u2, also, others, q_is, u_is) alike =
      let whole : R old (p1 ++ (p2 ++ a)) (q1 ++ (q2 ++ b)) =
      subst (λ (l : Entries). R old l (q1 ++ (q2 ++ b))) (ap (λ z. z ++ a) p_is ∙ append_assoc p1 p2 a) (subst (λ (l : Entries). R old (p ++ a) l) (ap (λ z. z ++ b) q_is ∙ append_assoc q1 q2 b) alike) in
      let (one, left) = line_alike R stay (p2 ++ a) (q2 ++ b) one_hearing one_wish old mid after d between there count line p1 q1 t1 u1 served also whole in
      let here : AreLinesServed IsAdmissibleOutcome mid between (count + length p1) lines q2 u2 n y =
      subst (λ z. AreLinesServed IsAdmissibleOutcome mid between (count + length z) lines q2 u2 n y) (sym one.entries)
      (subst (λ z. AreLinesServed IsAdmissibleOutcome mid z (count + length q1) lines q2 u2 n y) (sym one.counts)
      (subst (λ z. AreLinesServed IsAdmissibleOutcome z there (count + length q1) lines q2 u2 n y) (sym one.market) others)) in
      let (more, end) = lines_alike lines p2 q2 t2 u2 mid m n between x y (count + length p1) a b rest here left in (
        record {
          entries = p_is ∙ ap (λ z. z ++ p2) one.entries ∙ ap (λ z. q1 ++ z) more.entries ∙ sym q_is;
          texts = t_is ∙ ap (λ z. z ++ t2) one.texts ∙ ap (λ z. u1 ++ z) more.texts ∙ sym u_is;
          market = more.market;
          counts = more.counts;
        },
        end,
      )
