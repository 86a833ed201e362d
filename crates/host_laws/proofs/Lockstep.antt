-- Two ways through the same lines, whose entries are first parts of one list: they meet in one place, or the one that ended earlier goes on there.
use Rattle.std.proofs.Common.{◌≡◌, ◌≢◌, ◌⊎◌, inl, inr, ℕ, ◌+◌, List, [], ◌∷◌, ◌++◌, length, length-append, append-nil, append_assoc, refl, sym, ap, subst, ◌∙◌, arith}
use Rattle.wire_records.specs.Records.{Record}
use Rattle.wire_records.specs.Commands.{Command, Pair}
use Rattle.wire_records.specs.CommandRecords.{record_of}
use Rattle.wire_records.specs.Versions.{IsReadAs}
use Rattle.wire_records.proofs.Readings.{reading_unique}
use Rattle.flow_orders.specs.Outcomes.{Outcome, IsAdmissibleOutcome}
use Rattle.market_rules.specs.Market.{Market}
use Rattle.market_rules.specs.Journal.{Step}
use Rattle.market_rules.proofs.OneJournal.{step_market}
use Rattle.order_text.specs.Lines.{Asked, commands_of}
use Rattle.answer_text.specs.declared.header.Recipient.{Recipient}
use Rattle.desk_messages.specs.Desks.{Desks, tally_of, with_line}
use Rattle.desk_lines.specs.Hearing.{Heard, IsHeard}
use Rattle.desk_lines.specs.Hearing as heard
use Rattle.desk_lines.specs.Wishes.{Wish, IsWish}
use Rattle.desk_lines.specs.Wishes as wish
use Rattle.desk_lines.specs.Laws.{OneHearing, OneWish}
use Rattle.desk_session.specs.Lines.{AreServed, ComesOfWish, ComesOf, IsLineServed, AreLinesServed, IsLineBegun, AreServedInto}
use Rattle.desk_keeping.specs.Hosting.{Entries, Texts}
use Rattle.host_laws.proofs.Together.{AreSame, counts_after, text_after, AreOne, heads, one_stays, line_alike}

-- ---- where two ways meet

-- the first of these entries is the one that the first command asks for, and is a step of the market
abbrev pub GoesOn : Market → List Command → Entries → Type 0
GoesOn m [] more = ⊥
GoesOn m (command ∷ commands) more =
    (pair : Pair Record Outcome) × (others : Entries) × (after : Market) × (more ≡ pair ∷ others) × (pair.asked ≡ record_of command) × Step IsReadAs IsAdmissibleOutcome m pair.asked pair.answer after

-- Two ways end in one place, or one of them goes on where it ended: `next` and `rest` are the commands that are left, and `a` and `b` entries that follow.
abbrev pub Meet : (next rest : List Command) → (p q : Entries) → (t u : Texts) → (m n : Market) → (x y : Desks) → (a b : Entries) → Type 0
Meet next rest p q t u m n x y a b = (AreSame p q t u m n x y × (next ≡ rest) × (a ≡ b)) ⊎ (GoesOn m next a ⊎ GoesOn n rest b)

-- lists that begin alike
pub command_heads : (v w : Command) (x y : List Command) → v ∷ x ≡ w ∷ y → (v ≡ w) × (x ≡ y)
command_heads v w x y e = (cc, cc)

-- an entry comes after the last one
goes : (m old after : Market) (next more : List Command) (command : Command) (a others : Entries) (pair : Pair Record Outcome)
    → m ≡ old → next ≡ command ∷ more → a ≡ pair ∷ others → pair.asked ≡ record_of command → Step IsReadAs IsAdmissibleOutcome old pair.asked pair.answer after → GoesOn m next a
goes m old after next more command a others pair m_is next_is a_is asked step =
    subst (λ (c : List Command). GoesOn m c a) (sym next_is)
    (pair, others, after, a_is, asked, subst (λ (k : Market). Step IsReadAs IsAdmissibleOutcome k pair.asked pair.answer after) (sym m_is) step)

-- ---- commands

module _ (sender : Recipient) (number : ℕ) where
  served_meet : (first second next rest : List Command) (p q : Entries) (t u : Texts) (old m n : Market) (d x y : Desks) (count : ℕ) (a b : Entries)
      → AreServed IsAdmissibleOutcome old d count sender number first p t m x → AreServed IsAdmissibleOutcome old d count sender number second q u n y
      → first ++ next ≡ second ++ rest → p ++ a ≡ q ++ b → Meet next rest p q t u m n x y a b
  served_meet [] [] next rest p q t u old m n d x y count a b (p_is, t_is, m_is, x_is) (q_is, u_is, n_is, y_is) parts e =
      inl (
        record { entries = p_is ∙ sym q_is; texts = t_is ∙ sym u_is; market = m_is ∙ sym n_is; counts = x_is ∙ sym y_is },
        parts,
        ap (λ z. z ++ a) (sym p_is) ∙ e ∙ ap (λ z. z ++ b) q_is,
      )
  served_meet [] (command ∷ second) next rest p q t u old m n d x y count a b (p_is, t_is, m_is, x_is) (other, after, qs, us, also, move, others, q_is, u_is) parts e =
      inr (inl (goes m old after next (second ++ rest) command a (qs ++ b) other m_is parts (ap (λ z. z ++ a) (sym p_is) ∙ e ∙ ap (λ z. z ++ b) q_is) also move))
  served_meet (command ∷ first) [] next rest p q t u old m n d x y count a b (pair, after, ps, ts, asked, step, more, p_is, t_is) (q_is, u_is, n_is, y_is) parts e =
      inr (inr (goes n old after rest (first ++ next) command b (ps ++ a) pair n_is (sym parts) (ap (λ z. z ++ b) (sym q_is) ∙ sym e ∙ ap (λ z. z ++ a) p_is) asked step))
  served_meet (command ∷ first) (c ∷ second) next rest p q t u old m n d x y count a b (pair, mid, ps, ts, asked, step, more, p_is, t_is) served parts e =
      let h = command_heads command c (first ++ next) (second ++ rest) parts in
      let (other, after, qs, us, also, move, others, q_is, u_is) = subst (λ (k : Command). AreServed IsAdmissibleOutcome old d count sender number (k ∷ second) q u n y) (sym h.0) served in
      let tops = heads pair other (ps ++ a) (qs ++ b) (ap (λ z. z ++ a) (sym p_is) ∙ e ∙ ap (λ z. z ++ b) q_is) in
      let same : mid ≡ after =
      step_market IsReadAs reading_unique IsAdmissibleOutcome old other.asked other.answer mid after (subst (λ (z : Pair Record Outcome). Step IsReadAs IsAdmissibleOutcome old z.asked z.answer mid) tops.0 step) move in
      let there : AreServed IsAdmissibleOutcome mid (counts_after old d count sender number command pair mid) (count + 1) sender number second qs us n y =
      subst (λ z. AreServed IsAdmissibleOutcome mid (counts_after old d count sender number command z mid) (count + 1) sender number second qs us n y) (sym tops.0)
      (subst (λ k. AreServed IsAdmissibleOutcome k (counts_after old d count sender number command other k) (count + 1) sender number second qs us n y) (sym same) others) in
      let texts : text_after old d count sender number command pair mid ≡ text_after old d count sender number command other after =
      ap (λ z. text_after old d count sender number command z mid) tops.0 ∙ ap (text_after old d count sender number command other) same in
      elim (served_meet first second next rest ps qs ts us mid m n (counts_after old d count sender number command pair mid) x y (count + 1) a b more there h.1 tops.1) [
        | inl alike ↦
            inl (
              record {
                entries = p_is ∙ ap (λ z. z ∷ ps) tops.0 ∙ ap (λ zs. other ∷ zs) alike.0.entries ∙ sym q_is;
                texts = t_is ∙ ap (λ z. z ∷ ts) texts ∙ ap (λ zs. text_after old d count sender number command other after ∷ zs) alike.0.texts ∙ sym u_is;
                market = alike.0.market;
                counts = alike.0.counts;
              },
              alike.1,
              alike.2,
            )
        | inr on ↦ inr on
      ]

-- ---- ways through lines

-- A way through these lines: all are served, or those before one of which the first commands are, and `next` are its others.
abbrev pub Walks : Market → Desks → (count : ℕ) → List (List ℕ) → List Command → Entries → Texts → Market → Desks → Type 0
Walks old d count [] next pairs texts new later = (next ≡ []) × (pairs ≡ []) × (texts ≡ []) × (new ≡ old) × (later ≡ d)
Walks old d count (line ∷ lines) next pairs texts new later =
    ((next ≢ []) × (sender : Recipient) × IsLineBegun IsAdmissibleOutcome old d count line sender next pairs texts new later)
    ⊎ ((first : Entries) × (own : Texts) × (mid : Market) × (between : Desks) × (more : Entries) × (others : Texts)
    × IsLineServed IsAdmissibleOutcome old d count line first own mid between × Walks mid between (count + length first) lines next more others new later
    × (pairs ≡ first ++ more) × (texts ≡ own ++ others))

-- all lines
pub walks_all : (lines : List (List ℕ)) (p : Entries) (t : Texts) (old new : Market) (d later : Desks) (count : ℕ)
    → AreLinesServed IsAdmissibleOutcome old d count lines p t new later → Walks old d count lines [] p t new later
walks_all [] p t old new d later count (p_is, t_is, new_is, later_is) = (refl, p_is, t_is, new_is, later_is)
walks_all (line ∷ lines) p t old new d later count (first, own, mid, between, more, others, served, rest, p_is, t_is) =
    inr (first, own, mid, between, more, others, served, walks_all lines more others mid new between later (count + length first) rest, p_is, t_is)

-- lines, and then one that is begun
walks_begun : (lines : List (List ℕ)) (line : List ℕ) (following : List (List ℕ)) (sender : Recipient) (next : List Command) (p q : Entries) (t u : Texts) (old mid new : Market) (d between later : Desks) (count : ℕ)
    → next ≢ [] → AreLinesServed IsAdmissibleOutcome old d count lines p t mid between → IsLineBegun IsAdmissibleOutcome mid between (count + length p) line sender next q u new later
    → Walks old d count (lines ++ line ∷ following) next (p ++ q) (t ++ u) new later
walks_begun [] line following sender next p q t u old mid new d between later count some (p_is, t_is, mid_is, between_is) begun =
    let size : count + length p ≡ count = omega (arith, ap length p_is) in
    let here : IsLineBegun IsAdmissibleOutcome old d count line sender next q u new later =
    subst (λ (z : Market). IsLineBegun IsAdmissibleOutcome z d count line sender next q u new later) mid_is
    (subst (λ (z : Desks). IsLineBegun IsAdmissibleOutcome mid z count line sender next q u new later) between_is
    (subst (λ (k : ℕ). IsLineBegun IsAdmissibleOutcome mid between k line sender next q u new later) size begun)) in
    inl (
      some,
      sender,
      subst (λ (z : Entries). IsLineBegun IsAdmissibleOutcome old d count line sender next z (t ++ u) new later) (ap (λ z. z ++ q) (sym p_is))
          (subst (λ (z : Texts). IsLineBegun IsAdmissibleOutcome old d count line sender next q z new later) (ap (λ z. z ++ u) (sym t_is)) here),
    )
walks_begun (first_line ∷ lines) line following sender next p q t u old mid new d between later count some (first, own, m, x, more, others, served, rest, p_is, t_is) begun =
    let size : count + length p ≡ (count + length first) + length more = omega (arith, ap length p_is, length-append first more) in
    let walks = walks_begun lines line following sender next more q others u m mid new x between later (count + length first) some rest
    (subst (λ (k : ℕ). IsLineBegun IsAdmissibleOutcome mid between k line sender next q u new later) size begun) in
    inr (
      first,
      own,
      m,
      x,
      more ++ q,
      others ++ u,
      served,
      walks,
      ap (λ z. z ++ q) p_is ∙ append_assoc first more q,
      ap (λ z. z ++ u) t_is ∙ append_assoc own others u,
    )

pub walks_into : (lines : List (List ℕ)) (line : List ℕ) (following : List (List ℕ)) (next : List Command) (p : Entries) (t : Texts) (old new : Market) (d later : Desks) (count : ℕ)
    → next ≢ [] → AreServedInto IsAdmissibleOutcome old d count lines line next p t new later → Walks old d count (lines ++ line ∷ following) next p t new later
walks_into lines line following next p t old new d later count some into =
    let walks = walks_begun lines line following into.sender next into.first into.more into.own into.others old into.mid new d into.between later count some into.whole into.begun in
    subst (λ (z : Entries). Walks old d count (lines ++ line ∷ following) next z t new later) (sym into.all)
    (subst (λ (z : Texts). Walks old d count (lines ++ line ∷ following) next (into.first ++ into.more) z new later) (sym into.said) walks)

-- ---- two ways through lines

-- what is heard of a line that is begun, and what it asks for
pub from_is : (s r : Recipient) (text other : List ℕ) → heard.From s text ≡ heard.From r other → (s ≡ r) × (text ≡ other)
from_is s r text other e = (cc, cc)

pub serve_is : (asked other : Asked) → wish.Serve asked ≡ wish.Serve other → asked ≡ other
serve_is asked other e = cc

-- a line is heard in one way, and a text asks for one thing
module _ (one_hearing : OneHearing) (one_wish : OneWish) where
  module _ (old : Market) (d : Desks) (count : ℕ) (line : List ℕ) where
    -- one that is begun twice
    begun_meet : (sender other : Recipient) (next rest : List Command) (p q : Entries) (t u : Texts) (m n : Market) (x y : Desks) (a b : Entries)
        → IsLineBegun IsAdmissibleOutcome old d count line sender next p t m x → IsLineBegun IsAdmissibleOutcome old d count line other rest q u n y → p ++ a ≡ q ++ b
        → Meet next rest p q t u m n x y a b
    begun_meet sender other next rest p q t u m n x y a b one also e =
        let same = from_is sender other one.text also.text (one_hearing d line (heard.From sender one.text) (heard.From other also.text) one.is_heard also.is_heard) in
        let wished : IsWish old.version old.tickers d sender one.text (wish.Serve also.asked) =
        subst (λ (r : Recipient). IsWish old.version old.tickers d r one.text (wish.Serve also.asked)) (sym same.0)
        (subst (λ (l : List ℕ). IsWish old.version old.tickers d other l (wish.Serve also.asked)) (sym same.1) also.wished) in
        let asked : one.asked ≡ also.asked = serve_is one.asked also.asked (one_wish old.version old.tickers d sender one.text (wish.Serve one.asked) (wish.Serve also.asked) one.wished wished) in
        let served : AreServed IsAdmissibleOutcome old (with_line d sender) count sender ((tally_of d sender).lines + 1) also.first q u n y =
        subst (λ (r : Recipient). AreServed IsAdmissibleOutcome old (with_line d r) count r ((tally_of d r).lines + 1) also.first q u n y) (sym same.0) also.served in
        served_meet sender ((tally_of d sender).lines + 1) one.first also.first next rest p q t u old m n (with_line d sender) x y count a b one.served served
        (sym one.parts ∙ ap commands_of asked ∙ also.parts) e

    -- one that is begun, and served
    begun_goes : (sender : Recipient) (next : List Command) (p q : Entries) (t u : Texts) (m n : Market) (x y : Desks) (a b : Entries) → next ≢ []
        → IsLineBegun IsAdmissibleOutcome old d count line sender next p t m x → IsLineServed IsAdmissibleOutcome old d count line q u n y → p ++ a ≡ q ++ b → GoesOn m next a
    begun_goes sender next p q t u m n x y a b some one (said, is, comes) e =
        let (w, wished, does) = subst (λ (z : Heard). ComesOf IsAdmissibleOutcome old d count z q u n y) (one_hearing d line said (heard.From sender one.text) is one.is_heard) comes in
        let serves : AreServed IsAdmissibleOutcome old (with_line d sender) count sender ((tally_of d sender).lines + 1) (commands_of one.asked) q u n y =
        subst (λ (z : Wish). ComesOfWish IsAdmissibleOutcome old (with_line d sender) count sender ((tally_of d sender).lines + 1) z q u n y)
        (one_wish old.version old.tickers d sender one.text w (wish.Serve one.asked) wished one.wished) does in
        elim (served_meet sender ((tally_of d sender).lines + 1) one.first (commands_of one.asked) next [] p q t u old m n (with_line d sender) x y count a b one.served serves
        (sym one.parts ∙ sym (append-nil (commands_of one.asked))) e) [
          | inl alike ↦ absurd (some alike.1)
          | inr on ↦ elim on [ inl here ↦ here | inr there ↦ absurd there ]
        ]

  -- two ways through the same lines
  pub walks_meet : (lines : List (List ℕ)) (next rest : List Command) (p q : Entries) (t u : Texts) (old m n : Market) (d x y : Desks) (count : ℕ) (a b : Entries)
      → Walks old d count lines next p t m x → Walks old d count lines rest q u n y → p ++ a ≡ q ++ b → Meet next rest p q t u m n x y a b
  walks_meet [] next rest p q t u old m n d x y count a b (next_is, p_is, t_is, m_is, x_is) (rest_is, q_is, u_is, n_is, y_is) e =
      inl (
        record { entries = p_is ∙ sym q_is; texts = t_is ∙ sym u_is; market = m_is ∙ sym n_is; counts = x_is ∙ sym y_is },
        next_is ∙ sym rest_is,
        ap (λ z. z ++ a) (sym p_is) ∙ e ∙ ap (λ z. z ++ b) q_is,
      )
  walks_meet (line ∷ lines) next rest p q t u old m n d x y count a b (inl one) (inl other) e =
      begun_meet old d count line one.1 other.1 next rest p q t u m n x y a b one.2 other.2 e
  walks_meet (line ∷ lines) next rest p q t u old m n d x y count a b (inl one) (inr (first, own, mid, between, more, others, served, walks, q_is, u_is)) e =
      inr (inl (begun_goes old d count line one.1 next p first t own m mid x between a (more ++ b) one.0 one.2 served (e ∙ ap (λ z. z ++ b) q_is ∙ append_assoc first more b)))
  walks_meet (line ∷ lines) next rest p q t u old m n d x y count a b (inr (first, own, mid, between, more, others, served, walks, p_is, t_is)) (inl other) e =
      inr (inr (begun_goes old d count line other.1 rest q first u own n mid y between b (more ++ a) other.0 other.2 served (sym e ∙ ap (λ z. z ++ a) p_is ∙ append_assoc first more a)))
  walks_meet (line ∷ lines) next rest p q t u old m n d x y count a b (inr (p1, t1, mid, between, p2, t2, served, walks, p_is, t_is)) (inr (q1, u1, after, there, q2, u2, also, others, q_is, u_is)) e =
      let joined : p1 ++ (p2 ++ a) ≡ q1 ++ (q2 ++ b) = sym (append_assoc p1 p2 a) ∙ ap (λ z. z ++ a) (sym p_is) ∙ e ∙ ap (λ z. z ++ b) q_is ∙ append_assoc q1 q2 b in
      let (one, left) = line_alike AreOne one_stays (p2 ++ a) (q2 ++ b) one_hearing one_wish old mid after d between there count line p1 q1 t1 u1 served also joined in
      let here : Walks mid between (count + length p1) lines rest q2 u2 n y =
      subst (λ z. Walks mid between (count + length z) lines rest q2 u2 n y) (sym one.entries)
      (subst (λ z. Walks mid z (count + length q1) lines rest q2 u2 n y) (sym one.counts)
      (subst (λ z. Walks z there (count + length q1) lines rest q2 u2 n y) (sym one.market) others)) in
      elim (walks_meet lines next rest p2 q2 t2 u2 mid m n between x y (count + length p1) a b walks here left) [
        | inl alike ↦
            inl (
              record {
                entries = p_is ∙ ap (λ z. z ++ p2) one.entries ∙ ap (λ z. q1 ++ z) alike.0.entries ∙ sym q_is;
                texts = t_is ∙ ap (λ z. z ++ t2) one.texts ∙ ap (λ z. u1 ++ z) alike.0.texts ∙ sym u_is;
                market = alike.0.market;
                counts = alike.0.counts;
              },
              alike.1,
              alike.2,
            )
        | inr on ↦ inr on
      ]
