-- What was written before a failure: the texts of the first lines, which a call that doesn't fail writes too.
use Rattle.std.proofs.Common.{◌≡◌, ◌≢◌, ◌⊎◌, inl, inr, ℕ, ◌+◌, List, [], ◌∷◌, ◌++◌, length, length-append, append-nil, append_assoc, refl, sym, ap, subst, ◌∙◌, arith}
use Rattle.wire_records.specs.Records.{Record}
use Rattle.wire_records.specs.Commands.{Command, Pair}
use Rattle.wire_records.specs.CommandRecords.{record_of}
use Rattle.wire_records.specs.Versions.{IsReadAs}
use Rattle.wire_records.proofs.Readings.{reading_unique}
use Rattle.flow_orders.specs.Outcomes.{Outcome, IsAdmissibleOutcome}
use Rattle.market_rules.specs.Market.{Market}
use Rattle.market_rules.specs.Journal.{Step}
use Rattle.market_rules.proofs.OneJournal.{step_market}
use Rattle.order_text.specs.Lines.{commands_of}
use Rattle.answer_text.specs.declared.header.Recipient.{Recipient}
use Rattle.desk_messages.specs.Desks.{Desks, tally_of, with_line}
use Rattle.desk_lines.specs.Hearing.{Heard}
use Rattle.desk_lines.specs.Hearing as heard
use Rattle.desk_lines.specs.Wishes.{Wish, IsWish}
use Rattle.desk_lines.specs.Wishes as wish
use Rattle.desk_lines.specs.Laws.{OneHearing, OneWish}
use Rattle.desk_session.specs.Lines.{AreServed, ComesOfWish, ComesOf, IsLineServed, AreLinesServed, IsLineBegun, AreServedInto, AreFirstServed}
use Rattle.desk_keeping.specs.Hosting.{Entries, Texts}
use Rattle.host_laws.proofs.Together.{Alike, StayAlike, counts_after, text_after, line_alike}
use Rattle.host_laws.proofs.Lockstep.{command_heads, from_is, serve_is, Walks}

-- ---- first texts

-- texts that others begin with
abbrev pub IsFirst : Texts → Texts → Type 0
IsFirst t u = (more : Texts) × (u ≡ t ++ more)

no_texts : (t u : Texts) → t ≡ [] → IsFirst t u
no_texts t u none = (u, ap (λ (z : Texts). z ++ u) (sym none))

after_texts : (own s t u : Texts) → s ≡ own → IsFirst t u → IsFirst (s ++ t) (own ++ u)
after_texts own s t u same (more, is) = (more, ap (λ (z : Texts). own ++ z) is ∙ sym (append_assoc own t more) ∙ ap (λ (z : Texts). (z ++ t) ++ more) (sym same))

more_texts : (t own others : Texts) → IsFirst t own → IsFirst t (own ++ others)
more_texts t own others (more, is) = (more ++ others, ap (λ (z : Texts). z ++ others) is ∙ append_assoc t more others)

same_first : (s t u v : Texts) → s ≡ t → v ≡ u → IsFirst t u → IsFirst s v
same_first s t u v s_is v_is (more, is) = (more, v_is ∙ is ∙ ap (λ (z : Texts). z ++ more) (sym s_is))

-- if the first of some commands are all of them, so are more of these
none_left : (second next rest : List Command) → next ≡ second ++ rest → next ≡ [] → rest ≡ []
none_left [] next rest parts none = sym parts ∙ none
none_left (command ∷ second) next rest parts none = absurd (no_command command (second ++ rest) (sym parts ∙ none))
  where
    no_command : (c : Command) (l : List Command) → c ∷ l ≡ [] → ⊥
    no_command c l e = absurd cc

-- The first of these lines were served, and perhaps the first commands of the next one.
abbrev pub Starts : Market → Desks → (count : ℕ) → List (List ℕ) → Entries → Texts → Type 0
Starts old d count [] pairs texts = texts ≡ []
Starts old d count (line ∷ lines) pairs texts =
    (texts ≡ [])
    ⊎ (((sender : Recipient) × (next : List Command) × (new : Market) × (later : Desks) × IsLineBegun IsAdmissibleOutcome old d count line sender next pairs texts new later)
    ⊎ ((first : Entries) × (own : Texts) × (mid : Market) × (between : Desks) × (more : Entries) × (others : Texts)
    × IsLineServed IsAdmissibleOutcome old d count line first own mid between × Starts mid between (count + length first) lines more others × (pairs ≡ first ++ more) × (texts ≡ own ++ others)))

module _ (R : Alike) (stay : StayAlike R) where
  -- an entry comes in another run where this one stopped, which the first command that is left asks for: `b` are the entries that follow here
  abbrev pub Passes : Market → List Command → Entries → Type 0
  Passes n [] b = ⊥
  Passes n (command ∷ commands) b =
      (pair : Pair Record Outcome) × (others : Entries) × (after : Market) × R n (pair ∷ others) b × (pair.asked ≡ record_of command) × Step IsReadAs IsAdmissibleOutcome n pair.asked pair.answer after

  passes : (old n after : Market) (rest more : List Command) (command : Command) (b others : Entries) (pair : Pair Record Outcome)
      → n ≡ old → rest ≡ command ∷ more → R old (pair ∷ others) b → pair.asked ≡ record_of command → Step IsReadAs IsAdmissibleOutcome old pair.asked pair.answer after → Passes n rest b
  passes old n after rest more command b others pair n_is rest_is alike asked step =
      subst (λ (c : List Command). Passes n c b) (sym rest_is)
      (pair, others, after, subst (λ (k : Market). R k (pair ∷ others) b) (sym n_is) alike, asked, subst (λ (k : Market). Step IsReadAs IsAdmissibleOutcome k pair.asked pair.answer after) (sym n_is) step)

  module _ (sender : Recipient) (number : ℕ) where
    served_begun : (first second next rest : List Command) (p q : Entries) (t u : Texts) (old m n : Market) (d x y : Desks) (count : ℕ) (a b : Entries)
        → AreServed IsAdmissibleOutcome old d count sender number first p t m x → AreServed IsAdmissibleOutcome old d count sender number second q u n y
        → first ++ next ≡ second ++ rest → R old (p ++ a) (q ++ b) → (IsFirst t u × (next ≡ [] → rest ≡ [])) ⊎ Passes n rest b
    served_begun [] second next rest p q t u old m n d x y count a b (p_is, t_is, m_is, x_is) other parts alike = inl (no_texts t u t_is, none_left second next rest parts)
    served_begun (command ∷ first) [] next rest p q t u old m n d x y count a b (pair, after, ps, ts, asked, step, more, p_is, t_is) (q_is, u_is, n_is, y_is) parts alike =
        inr (passes old n after rest (first ++ next) command b (ps ++ a) pair n_is (sym parts)
        (subst (λ (l : Entries). R old (l ++ a) b) p_is (subst (λ (l : Entries). R old (p ++ a) (l ++ b)) q_is alike)) asked step)
    served_begun (command ∷ first) (c ∷ second) next rest p q t u old m n d x y count a b (pair, mid, ps, ts, asked, step, more, p_is, t_is) served parts alike =
        let h = command_heads command c (first ++ next) (second ++ rest) parts in
        let (other, after, qs, us, also, move, others, q_is, u_is) = subst (λ (k : Command). AreServed IsAdmissibleOutcome old d count sender number (k ∷ second) q u n y) (sym h.0) served in
        let whole : R old (pair ∷ (ps ++ a)) (other ∷ (qs ++ b)) = subst (λ (l : Entries). R old (l ++ a) (other ∷ (qs ++ b))) p_is (subst (λ (l : Entries). R old (p ++ a) (l ++ b)) q_is alike) in
        let (top, left) = stay.one old mid after pair other (ps ++ a) (qs ++ b) whole (asked ∙ sym also) step move in
        let same : mid ≡ after =
        step_market IsReadAs reading_unique IsAdmissibleOutcome old other.asked other.answer mid after (subst (λ (z : Pair Record Outcome). Step IsReadAs IsAdmissibleOutcome old z.asked z.answer mid) top step) move in
        let there : AreServed IsAdmissibleOutcome mid (counts_after old d count sender number command pair mid) (count + 1) sender number second qs us n y =
        subst (λ z. AreServed IsAdmissibleOutcome mid (counts_after old d count sender number command z mid) (count + 1) sender number second qs us n y) (sym top)
        (subst (λ k. AreServed IsAdmissibleOutcome k (counts_after old d count sender number command other k) (count + 1) sender number second qs us n y) (sym same) others) in
        let text : text_after old d count sender number command pair mid ≡ text_after old d count sender number command other after =
        ap (λ z. text_after old d count sender number command z mid) top ∙ ap (text_after old d count sender number command other) same in
        elim (served_begun first second next rest ps qs ts us mid m n (counts_after old d count sender number command pair mid) x y (count + 1) a b more there h.1 left) [
          | inl (is, none) ↦
              inl (
                same_first t (text_after old d count sender number command pair mid ∷ ts) (text_after old d count sender number command other after ∷ us) u t_is u_is
                    (after_texts (text_after old d count sender number command other after ∷ []) (text_after old d count sender number command pair mid ∷ []) ts us (ap (λ z. z ∷ []) text) is),
                none,
              )
          | inr on ↦ inr on
        ]

  -- a line is heard in one way, and a text asks for one thing
  module _ (one_hearing : OneHearing) (one_wish : OneWish) where
    module _ (old : Market) (d : Desks) (count : ℕ) (line : List ℕ) where
      -- a line that is begun in both runs
      both_begun : (sender other : Recipient) (next rest : List Command) (p q : Entries) (t u : Texts) (m n : Market) (x y : Desks) (a b : Entries)
          → IsLineBegun IsAdmissibleOutcome old d count line sender next p t m x → IsLineBegun IsAdmissibleOutcome old d count line other rest q u n y → R old (p ++ a) (q ++ b) → IsFirst t u ⊎ Passes n rest b
      both_begun sender other next rest p q t u m n x y a b one also alike =
          let same = from_is sender other one.text also.text (one_hearing d line (heard.From sender one.text) (heard.From other also.text) one.is_heard also.is_heard) in
          let wished : IsWish old.version old.tickers d sender one.text (wish.Serve also.asked) =
          subst (λ (r : Recipient). IsWish old.version old.tickers d r one.text (wish.Serve also.asked)) (sym same.0)
          (subst (λ (l : List ℕ). IsWish old.version old.tickers d other l (wish.Serve also.asked)) (sym same.1) also.wished) in
          let asked = serve_is one.asked also.asked (one_wish old.version old.tickers d sender one.text (wish.Serve one.asked) (wish.Serve also.asked) one.wished wished) in
          let served : AreServed IsAdmissibleOutcome old (with_line d sender) count sender ((tally_of d sender).lines + 1) also.first q u n y =
          subst (λ (r : Recipient). AreServed IsAdmissibleOutcome old (with_line d r) count r ((tally_of d r).lines + 1) also.first q u n y) (sym same.0) also.served in
          elim (served_begun sender ((tally_of d sender).lines + 1) one.first also.first next rest p q t u old m n (with_line d sender) x y count a b one.served served
          (sym one.parts ∙ ap commands_of asked ∙ also.parts) alike) [ inl (first, none) ↦ inl first | inr on ↦ inr on ]

      -- a line that is begun in one, and served in the other
      begun_served : (sender : Recipient) (next : List Command) (p q : Entries) (t u : Texts) (m n : Market) (x y : Desks) (a b : Entries)
          → IsLineBegun IsAdmissibleOutcome old d count line sender next p t m x → IsLineServed IsAdmissibleOutcome old d count line q u n y → R old (p ++ a) (q ++ b) → IsFirst t u
      begun_served sender next p q t u m n x y a b one (said, is, comes) alike =
          let (w, wished, does) = subst (λ (z : Heard). ComesOf IsAdmissibleOutcome old d count z q u n y) (one_hearing d line said (heard.From sender one.text) is one.is_heard) comes in
          let serves : AreServed IsAdmissibleOutcome old (with_line d sender) count sender ((tally_of d sender).lines + 1) (commands_of one.asked) q u n y =
          subst (λ (z : Wish). ComesOfWish IsAdmissibleOutcome old (with_line d sender) count sender ((tally_of d sender).lines + 1) z q u n y)
          (one_wish old.version old.tickers d sender one.text w (wish.Serve one.asked) wished one.wished) does in
          elim (served_begun sender ((tally_of d sender).lines + 1) one.first (commands_of one.asked) next [] p q t u old m n (with_line d sender) x y count a b one.served serves
          (sym one.parts ∙ sym (append-nil (commands_of one.asked))) alike) [ inl (first, none) ↦ first | inr on ↦ absurd on ]

      -- a line that is served in one, and begun in the other
      served_after : (other : Recipient) (rest : List Command) (p q : Entries) (t u : Texts) (m n : Market) (x y : Desks) (a b : Entries) → rest ≢ []
          → IsLineServed IsAdmissibleOutcome old d count line p t m x → IsLineBegun IsAdmissibleOutcome old d count line other rest q u n y → R old (p ++ a) (q ++ b) → Passes n rest b
      served_after other rest p q t u m n x y a b some (said, is, comes) also alike =
          let (w, wished, does) = subst (λ (z : Heard). ComesOf IsAdmissibleOutcome old d count z p t m x) (one_hearing d line said (heard.From other also.text) is also.is_heard) comes in
          let serves : AreServed IsAdmissibleOutcome old (with_line d other) count other ((tally_of d other).lines + 1) (commands_of also.asked) p t m x =
          subst (λ (z : Wish). ComesOfWish IsAdmissibleOutcome old (with_line d other) count other ((tally_of d other).lines + 1) z p t m x)
          (one_wish old.version old.tickers d other also.text w (wish.Serve also.asked) wished also.wished) does in
          elim (served_begun other ((tally_of d other).lines + 1) (commands_of also.asked) also.first [] rest p q t u old m n (with_line d other) x y count a b serves also.served
          (append-nil (commands_of also.asked) ∙ also.parts) alike) [ inl (first, none) ↦ absurd (some (none refl)) | inr on ↦ on ]

    -- lines of which the first were served in one run, and all or the first in the other
    pub starts_first : (lines : List (List ℕ)) (rest : List Command) (p q : Entries) (t u : Texts) (old n : Market) (d y : Desks) (count : ℕ) (a b : Entries)
        → Starts old d count lines p t → Walks old d count lines rest q u n y → R old (p ++ a) (q ++ b) → IsFirst t u ⊎ Passes n rest b
    starts_first [] rest p q t u old n d y count a b none walks alike = inl (no_texts t u none)
    starts_first (line ∷ lines) rest p q t u old n d y count a b (inl none) walks alike = inl (no_texts t u none)
    starts_first (line ∷ lines) rest p q t u old n d y count a b (inr (inl (sender, next, m, x, begun))) (inl (some, other, also)) alike =
        both_begun old d count line sender other next rest p q t u m n x y a b begun also alike
    starts_first (line ∷ lines) rest p q t u old n d y count a b (inr (inl (sender, next, m, x, begun))) (inr (first, own, mid, between, more, others, served, walks, q_is, u_is)) alike =
        let whole : R old (p ++ a) (first ++ (more ++ b)) = subst (λ (l : Entries). R old (p ++ a) l) (ap (λ z. z ++ b) q_is ∙ append_assoc first more b) alike in
        inl (same_first t t (own ++ others) u refl u_is (more_texts t own others (begun_served old d count line sender next p first t own m mid x between a (more ++ b) begun served whole)))
    starts_first (line ∷ lines) rest p q t u old n d y count a b (inr (inr (first, own, mid, between, more, others, served, starts, p_is, t_is))) (inl (some, other, also)) alike =
        let whole : R old (first ++ (more ++ a)) (q ++ b) = subst (λ (l : Entries). R old l (q ++ b)) (ap (λ z. z ++ a) p_is ∙ append_assoc first more a) alike in
        inr (served_after old d count line other rest first q own u mid n between y (more ++ a) b some served also whole)
    starts_first (line ∷ lines) rest p q t u old n d y count a b (inr (inr (p1, t1, mid, between, p2, t2, served, starts, p_is, t_is))) (inr (q1, u1, after, there, q2, u2, also, walks, q_is, u_is)) alike =
        let whole : R old (p1 ++ (p2 ++ a)) (q1 ++ (q2 ++ b)) =
        subst (λ (l : Entries). R old l (q1 ++ (q2 ++ b))) (ap (λ z. z ++ a) p_is ∙ append_assoc p1 p2 a) (subst (λ (l : Entries). R old (p ++ a) l) (ap (λ z. z ++ b) q_is ∙ append_assoc q1 q2 b) alike) in
        let (one, left) = line_alike R stay (p2 ++ a) (q2 ++ b) one_hearing one_wish old mid after d between there count line p1 q1 t1 u1 served also whole in
        let here : Walks mid between (count + length p1) lines rest q2 u2 n y =
        subst (λ z. Walks mid between (count + length z) lines rest q2 u2 n y) (sym one.entries)
        (subst (λ z. Walks mid z (count + length q1) lines rest q2 u2 n y) (sym one.counts)
        (subst (λ z. Walks z there (count + length q1) lines rest q2 u2 n y) (sym one.market) walks)) in
        elim (starts_first lines rest p2 q2 t2 u2 mid n between y (count + length p1) a b starts here left) [
          | inl is ↦ inl (same_first t (t1 ++ t2) (u1 ++ u2) u t_is u_is (after_texts u1 t1 t2 u2 one.texts is))
          | inr on ↦ inr on
        ]

-- ---- first lines

starts_none : (lines : List (List ℕ)) (p : Entries) (t : Texts) (old : Market) (d : Desks) (count : ℕ) → t ≡ [] → Starts old d count lines p t
starts_none [] p t old d count none = none
starts_none (line ∷ lines) p t old d count none = inl none

pub starts_all : (lines following : List (List ℕ)) (p : Entries) (t : Texts) (old new : Market) (d later : Desks) (count : ℕ) → AreLinesServed IsAdmissibleOutcome old d count lines p t new later → Starts old d count (lines ++ following) p t
starts_all [] following p t old new d later count (p_is, t_is, new_is, later_is) = starts_none following p t old d count t_is
starts_all (line ∷ lines) following p t old new d later count (first, own, mid, between, more, others, served, rest, p_is, t_is) =
    inr (inr (first, own, mid, between, more, others, served, starts_all lines following more others mid new between later (count + length first) rest, p_is, t_is))

starts_begun : (lines : List (List ℕ)) (line : List ℕ) (following : List (List ℕ)) (sender : Recipient) (next : List Command) (p q : Entries) (t u : Texts) (old mid new : Market) (d between later : Desks) (count : ℕ)
    → AreLinesServed IsAdmissibleOutcome old d count lines p t mid between → IsLineBegun IsAdmissibleOutcome mid between (count + length p) line sender next q u new later
    → Starts old d count (lines ++ line ∷ following) (p ++ q) (t ++ u)
starts_begun [] line following sender next p q t u old mid new d between later count (p_is, t_is, mid_is, between_is) begun =
    let size : count + length p ≡ count = omega (arith, ap length p_is) in
    let here : IsLineBegun IsAdmissibleOutcome old d count line sender next q u new later =
    subst (λ (z : Market). IsLineBegun IsAdmissibleOutcome z d count line sender next q u new later) mid_is
    (subst (λ (z : Desks). IsLineBegun IsAdmissibleOutcome mid z count line sender next q u new later) between_is
    (subst (λ (k : ℕ). IsLineBegun IsAdmissibleOutcome mid between k line sender next q u new later) size begun)) in
    inr (inl (
      sender,
      next,
      new,
      later,
      subst (λ (z : Entries). IsLineBegun IsAdmissibleOutcome old d count line sender next z (t ++ u) new later) (ap (λ z. z ++ q) (sym p_is))
          (subst (λ (z : Texts). IsLineBegun IsAdmissibleOutcome old d count line sender next q z new later) (ap (λ z. z ++ u) (sym t_is)) here),
    ))
starts_begun (first_line ∷ lines) line following sender next p q t u old mid new d between later count (first, own, m, x, more, others, served, rest, p_is, t_is) begun =
    let size : count + length p ≡ (count + length first) + length more = omega (arith, ap length p_is, length-append first more) in
    let starts = starts_begun lines line following sender next more q others u m mid new x between later (count + length first) rest
    (subst (λ (k : ℕ). IsLineBegun IsAdmissibleOutcome mid between k line sender next q u new later) size begun) in
    inr (inr (first, own, m, x, more ++ q, others ++ u, served, starts, ap (λ z. z ++ q) p_is ∙ append_assoc first more q, ap (λ z. z ++ u) t_is ∙ append_assoc own others u))

pub starts_of : (lines more : List (List ℕ)) (p : Entries) (t : Texts) (old : Market) (d : Desks) (count : ℕ) → AreFirstServed IsAdmissibleOutcome old d count lines p t → Starts old d count (lines ++ more) p t
starts_of lines more p t old d count is = by is.served
  where
    whole : lines ++ more ≡ is.whole ++ (is.rest ++ more)
    whole = ap (λ (l : List (List ℕ)). l ++ more) is.parts ∙ append_assoc is.whole is.rest more

    by : AreLinesServed IsAdmissibleOutcome old d count is.whole p t is.new is.later
        ⊎ ((line : List ℕ) × (others : List (List ℕ)) × (next : List Command) × (is.rest ≡ line ∷ others) × AreServedInto IsAdmissibleOutcome old d count is.whole line next p t is.new is.later)
        → Starts old d count (lines ++ more) p t
    by (inl served) = subst (λ (l : List (List ℕ)). Starts old d count l p t) (sym whole) (starts_all is.whole (is.rest ++ more) p t old is.new d is.later count served)
    by (inr (line, others, next, rest_is, into)) =
        let parts : lines ++ more ≡ is.whole ++ line ∷ (others ++ more) = whole ∙ ap (λ (l : List (List ℕ)). is.whole ++ (l ++ more)) rest_is in
        let starts = starts_begun is.whole line (others ++ more) into.sender next into.first into.more into.own into.others old into.mid is.new d into.between is.later count into.whole into.begun in
        subst (λ (l : List (List ℕ)). Starts old d count l p t) (sym parts)
        (subst (λ (z : Entries). Starts old d count (is.whole ++ line ∷ (others ++ more)) z t) (sym into.all)
        (subst (λ (z : Texts). Starts old d count (is.whole ++ line ∷ (others ++ more)) (into.first ++ into.more) z) (sym into.said) starts))
