-- Lines have some outcome by the canonical rule, and what the first of them get is a first part of it.
use Rattle.std.proofs.Common.{◌≡◌, inl, inr, ℕ, ◌+◌, List, [], ◌∷◌, ◌++◌, length, Ok, refl, sym, ap, subst, ◌∙◌}
use Rattle.std.proofs.lemmas.List.{append_assoc, append-nil}
use Rattle.std.proofs.lemmas.List.Elements.{All-head, All-tail}
use Rattle.wire_records.specs.Records.{Record}
use Rattle.wire_records.specs.Commands.{Command, Pair}
use Rattle.wire_records.specs.CommandRecords.{record_of, IsCommand}
use Rattle.wire_records.specs.Versions.{IsOfVersion, IsReadAs}
use Rattle.wire_records.proofs.Readings.{read_own}
use Rattle.flow_orders.specs.Outcomes.{Outcome}
use Rattle.canonical_rule.specs.Canonical.{IsCanonicalOutcome}
use Rattle.market_rules.specs.Market.{Market, IsConsistent}
use Rattle.market_rules.specs.Journal.{Step}
use Rattle.market_rules.proofs.Consistency.{consistent_follows}
use Rattle.market_rules.proofs.Versions.{step_version}
use Rattle.canonical_journals.proofs.CanonicalServed.{served_is_there}
use Rattle.canonical_journals.proofs.CanonicalIsLegal.{canonical_follows_are_admissible}
use Rattle.order_text.specs.Lines.{commands_of}
use Rattle.order_text.proofs.Fitting.{commands_fit}
use Rattle.answer_text.specs.declared.header.Recipient.{Recipient}
use Rattle.desk_messages.specs.Desks.{Desks, tally_of, with_read, with_line}
use Rattle.desk_messages.specs.Messages.{Message, told, no_envelope, expected, error_to}
use Rattle.desk_lines.specs.Hearing.{Heard, IsHeard}
use Rattle.desk_lines.specs.Hearing as heard
use Rattle.desk_lines.specs.Wishes.{Wish, IsWish}
use Rattle.desk_lines.specs.Wishes as wish
use Rattle.desk_lines.specs.Laws.{OneHearing, SomeHearing, OneWish, SomeWish}
use Rattle.desk_session.specs.Lines.{answer_members, fault_word, answer_to, one_text, SaysOnly, AreServed, ComesOfWish, ComesOf, IsLineServed, AreLinesServed, IsLineBegun, AreServedInto}
use Rattle.desk_session.proofs.Going.{follows_line, lines_before}
use Rattle.desk_laws.specs.Laws.{Entries, Texts, LinesHaveSomeOutcome, FirstLinesGetFirstParts}
use Rattle.desk_laws.proofs.Owned.{AreFit, reads_own}
use Rattle.desk_laws.proofs.Again.{counts_after, text_after, served_once, lines_once}

-- ---- some outcome

-- a command that fits has a step
step_there : (m : Market) (c : Command) → IsCommand c → IsOfVersion m.version c → (pair : Pair Record Outcome) × (n : Market) × (pair.asked ≡ record_of c) × Step IsReadAs IsCanonicalOutcome m pair.asked pair.answer n
step_there m c fits of =
    let served = served_is_there m c in
    (record { asked = record_of c; answer = served.0 }, served.1, refl, record { read = Ok c; encoded = reads_own m.version c (record_of c) fits of refl; served = served.2 })

-- what some commands come to, which their market and counts begin
record IsThere (Are : Entries → Texts → Market → Desks → Type 0) : Type 0 where
  pairs : Entries
  texts : Texts
  new : Market
  later : Desks
  are : Are pairs texts new later

commands_there : (sender : Recipient) (number : ℕ) (commands : List Command) (m : Market) (d : Desks) (count : ℕ) → AreFit m.version commands → IsThere (AreServed IsCanonicalOutcome m d count sender number commands)
commands_there sender number [] m d count fit = record { pairs = []; texts = []; new = m; later = d; are = (refl, refl, refl, refl) }
commands_there sender number (command ∷ commands) m d count fit =
    let (pair, next, asked, step) = step_there m command (All-head IsCommand command commands fit.0) (All-head (IsOfVersion m.version) command commands fit.1) in
    let version : next.version ≡ m.version = step_version IsCanonicalOutcome IsReadAs m pair.asked pair.answer next step in
    let tail : AreFit m.version commands = (All-tail IsCommand command commands fit.0, All-tail (IsOfVersion m.version) command commands fit.1) in
    let more = commands_there sender number commands next (counts_after m d count sender number command pair next) (count + 1) (subst (λ v. AreFit v commands) (sym version) tail) in
    record {
      pairs = pair ∷ more.pairs;
      texts = text_after m d count sender number command pair next ∷ more.texts;
      new = more.new;
      later = more.later;
      are = (pair, next, more.pairs, more.texts, asked, step, more.are, refl, refl);
    }

-- what is said alone
says_there : (m : Market) (d : Desks) (messages : List Message) → IsThere (SaysOnly m d messages)
says_there m d messages = record { pairs = []; texts = one_text d messages; new = m; later = told d messages; are = (refl, refl, refl, refl) }

wish_there : (m : Market) (d : Desks) (count : ℕ) (sender : Recipient) (number : ℕ) (counts : Desks) (text : List ℕ) (w : Wish) → IsConsistent m → IsWish m.version m.tickers counts sender text w
    → IsThere (ComesOfWish IsCanonicalOutcome m d count sender number w)
wish_there m d count sender number counts text wish.Nothing consistent wished = says_there m d []
wish_there m d count sender number counts text (wish.Answer q) consistent wished = says_there m d (answer_to sender number (answer_members m sender q) ∷ [])
wish_there m d count sender number counts text (wish.Refuse why) consistent wished = says_there m d (error_to sender number (fault_word why) ∷ [])
wish_there m d count sender number counts text (wish.Serve asked) consistent wished =
    commands_there sender number (commands_of asked) m d count (commands_fit m.version m.tickers text asked consistent.tickers wished.1)

-- a market stays consistent over a line
still_consistent : (old new : Market) (d later : Desks) (count : ℕ) (line : List ℕ) (p : Entries) (t : Texts) → IsConsistent old → IsLineServed IsCanonicalOutcome old d count line p t new later → IsConsistent new
still_consistent old new d later count line p t consistent served =
    consistent_follows IsReadAs read_own old p new consistent
    (canonical_follows_are_admissible IsReadAs read_own old p new consistent (follows_line IsCanonicalOutcome old new d later count line p t served))

module _ (some_hearing : SomeHearing) (some_wish : SomeWish) where
  -- no line is without an outcome
  line_there : (m : Market) (d : Desks) (count : ℕ) (line : List ℕ) → IsConsistent m
      → ¬ ((pairs : Entries) (texts : Texts) (n : Market) (x : Desks) → ¬ IsLineServed IsCanonicalOutcome m d count line pairs texts n x)
  line_there m d count line consistent none = some_hearing d line by
    where
      from : (said : Heard) → IsHeard d line said → IsThere (ComesOf IsCanonicalOutcome m d count said) → ⊥
      from said is there = none there.pairs there.texts there.new there.later (said, is, there.are)

      by : (said : Heard) → ¬ IsHeard d line said
      by heard.Nothing is = from heard.Nothing is (says_there m (with_read d) [])
      by heard.Noise is = from heard.Noise is (says_there m (with_read d) (no_envelope (d.total.lines + 1) ∷ []))
      by (heard.Other sender) is = from (heard.Other sender) is (says_there m (with_read d) (expected sender ((tally_of d sender).lines + 1) ∷ []))
      by (heard.From sender text) is =
          some_wish m.version m.tickers d sender text (λ w wished.
          let there = wish_there m (with_line d sender) count sender ((tally_of d sender).lines + 1) d text w consistent wished in
          none there.pairs there.texts there.new there.later (heard.From sender text, is, (w, wished, there.are)))

  lines_there : (lines : List (List ℕ)) (m : Market) (d : Desks) (count : ℕ) → IsConsistent m
      → ¬ ((pairs : Entries) (texts : Texts) (n : Market) (x : Desks) → ¬ AreLinesServed IsCanonicalOutcome m d count lines pairs texts n x)
  lines_there [] m d count consistent none = none [] [] m d (refl, refl, refl, refl)
  lines_there (line ∷ lines) m d count consistent none =
      line_there m d count line consistent (λ first own next between served.
      lines_there lines next between (count + length first) (still_consistent m next d between count line first own consistent served)
      (λ more others n x rest. none (first ++ more) (own ++ others) n x (first, own, next, between, more, others, served, rest, refl, refl)))

  pub lines_have_some_outcome : LinesHaveSomeOutcome
  lines_have_some_outcome start d count lines consistent none = lines_there lines start d count consistent none

-- ---- first parts

-- a list is a first part of another
abbrev Begins : {A : Type 0} → List A → List A → Type 0
Begins {A} first all = (more : List A) × (all ≡ first ++ more)

begins_all : {A : Type 0} (a b : List A) → a ≡ b → Begins a b
begins_all a b same = ([], sym same ∙ sym (append-nil a))

begins_more : {A : Type 0} (a b more : List A) → Begins a b → Begins a (b ++ more)
begins_more a b more is = (is.0 ++ more, ap (λ x. x ++ more) is.1 ∙ append_assoc a is.0 more)

begins_after : {A : Type 0} (first a b : List A) → Begins a b → Begins (first ++ a) (first ++ b)
begins_after first a b is = (is.0, ap (λ x. first ++ x) is.1 ∙ sym (append_assoc first a is.0))

-- the first of some commands
module _ (sender : Recipient) (number : ℕ) where
  first_commands : (first next : List Command) (p q : Entries) (t u : Texts) (old m n : Market) (d x y : Desks) (count : ℕ)
      → AreServed IsCanonicalOutcome old d count sender number first p t m x → AreServed IsCanonicalOutcome old d count sender number (first ++ next) q u n y → Begins p q × Begins t u
  first_commands first next p q t u old m n d x y count served all =
      let (q1, u1, mid, between, q2, u2, one, q_is, u_is) = apart first q u old n d y count all in
      let same = served_once sender number first p q1 t u1 old m mid d x between count served one in
      (subst (Begins p) (sym q_is) (begins_more p q1 q2 (begins_all p q1 same.0)), subst (Begins t) (sym u_is) (begins_more t u1 u2 (begins_all t u1 same.1)))
    where
      apart : (first : List Command) (q : Entries) (u : Texts) (old n : Market) (d y : Desks) (count : ℕ) → AreServed IsCanonicalOutcome old d count sender number (first ++ next) q u n y
          → (q1 : Entries) × (u1 : Texts) × (mid : Market) × (between : Desks) × (q2 : Entries) × (u2 : Texts) × AreServed IsCanonicalOutcome old d count sender number first q1 u1 mid between × (q ≡ q1 ++ q2) × (u ≡ u1 ++ u2)
      apart [] q u old n d y count all = ([], [], old, d, q, u, (refl, refl, refl, refl), refl, refl)
      apart (command ∷ commands) q u old n d y count (pair, after, qs, us, asked, step, rest, q_is, u_is) =
          let (q1, u1, mid, between, q2, u2, one, qs_are, us_are) = apart commands qs us after n _ y (count + 1) rest in
          (pair ∷ q1, text_after old d count sender number command pair after ∷ u1, mid, between, q2, u2, (pair, after, q1, u1, asked, step, one, refl, refl), q_is ∙ ap (λ z. pair ∷ z) qs_are, u_is ∙ ap (λ z. text_after old d count sender number command pair after ∷ z) us_are)

module _ (one_hearing : OneHearing) (one_wish : OneWish) where
  -- a line that is begun
  begun_first : (old m n : Market) (d x y : Desks) (count : ℕ) (line : List ℕ) (sender : Recipient) (next : List Command) (p q : Entries) (t u : Texts)
      → IsLineBegun IsCanonicalOutcome old d count line sender next p t m x → IsLineServed IsCanonicalOutcome old d count line q u n y → Begins p q × Begins t u
  begun_first old m n d x y count line sender next p q t u begun (said, is, comes) = by (subst (λ z. ComesOf IsCanonicalOutcome old d count z q u n y) (one_hearing d line said (heard.From sender begun.text) is begun.is_heard) comes)
    where
      by : ComesOf IsCanonicalOutcome old d count (heard.From sender begun.text) q u n y → Begins p q × Begins t u
      by (w, wished, so) =
          let same : w ≡ wish.Serve begun.asked = one_wish old.version old.tickers d sender begun.text w (wish.Serve begun.asked) wished begun.wished in
          let all : AreServed IsCanonicalOutcome old (with_line d sender) count sender ((tally_of d sender).lines + 1) (commands_of begun.asked) q u n y =
          subst (λ z. ComesOfWish IsCanonicalOutcome old (with_line d sender) count sender ((tally_of d sender).lines + 1) z q u n y) same so in
          first_commands sender ((tally_of d sender).lines + 1) begun.first next p q t u old m n (with_line d sender) x y count begun.served
          (subst (λ cs. AreServed IsCanonicalOutcome old (with_line d sender) count sender ((tally_of d sender).lines + 1) cs q u n y) begun.parts all)

  -- lines and one more that is begun
  into_first : (old m n : Market) (d x y : Desks) (count : ℕ) (lines : List (List ℕ)) (line : List ℕ) (more : List (List ℕ)) (next : List Command) (p q : Entries) (t u : Texts)
      → AreServedInto IsCanonicalOutcome old d count lines line next p t m x → AreLinesServed IsCanonicalOutcome old d count (lines ++ line ∷ more) q u n y → Begins p q × Begins t u
  into_first old m n d x y count lines line more next p q t u into all =
      let (q1, u1, mid, between, q2, u2, one, two, q_is, u_is) = lines_before IsCanonicalOutcome lines (line ∷ more) q u old n d y count all in
      let same = lines_once one_hearing one_wish lines into.first q1 into.own u1 old into.mid mid d into.between between count into.whole one in
      let (q3, u3, after, there, q4, u4, served, rest, q2_is, u2_is) = two in
      let begun : IsLineBegun IsCanonicalOutcome mid between (count + length q1) line into.sender next into.more into.others m x =
      subst (λ z. IsLineBegun IsCanonicalOutcome mid between (count + length z) line into.sender next into.more into.others m x) same.0
      (subst (λ z. IsLineBegun IsCanonicalOutcome mid z (count + length into.first) line into.sender next into.more into.others m x) same.3
      (subst (λ z. IsLineBegun IsCanonicalOutcome z into.between (count + length into.first) line into.sender next into.more into.others m x) same.2 into.begun)) in
      let here = begun_first mid m after between x there (count + length q1) line into.sender next into.more q3 into.others u3 begun served in
      let pairs : Begins (q1 ++ into.more) (q1 ++ q2) = subst (λ z. Begins (q1 ++ into.more) (q1 ++ z)) (sym q2_is) (begins_after q1 into.more (q3 ++ q4) (begins_more into.more q3 q4 here.0)) in
      let texts : Begins (u1 ++ into.others) (u1 ++ u2) = subst (λ z. Begins (u1 ++ into.others) (u1 ++ z)) (sym u2_is) (begins_after u1 into.others (u3 ++ u4) (begins_more into.others u3 u4 here.1)) in (
        subst (λ z. Begins z q) (ap (λ z. z ++ into.more) (sym same.0) ∙ sym into.all) (subst (Begins (q1 ++ into.more)) (sym q_is) pairs),
        subst (λ z. Begins z u) (ap (λ z. z ++ into.others) (sym same.1) ∙ sym into.said) (subst (Begins (u1 ++ into.others)) (sym u_is) texts),
      )

  whole_first : (old m n : Market) (d x y : Desks) (count : ℕ) (lines rest : List (List ℕ)) (p q : Entries) (t u : Texts)
      → AreLinesServed IsCanonicalOutcome old d count lines p t m x → AreLinesServed IsCanonicalOutcome old d count (lines ++ rest) q u n y → Begins p q × Begins t u
  whole_first old m n d x y count lines rest p q t u served all =
      let (q1, u1, mid, between, q2, u2, one, two, q_is, u_is) = lines_before IsCanonicalOutcome lines rest q u old n d y count all in
      let same = lines_once one_hearing one_wish lines p q1 t u1 old m mid d x between count served one in
      (subst (Begins p) (sym q_is) (begins_more p q1 q2 (begins_all p q1 same.0)), subst (Begins t) (sym u_is) (begins_more t u1 u2 (begins_all t u1 same.1)))

  pub first_lines_get_first_parts : FirstLinesGetFirstParts
  first_lines_get_first_parts start d count lines p q t u n y is all =
      elim is.served [
        | inl served ↦ whole_first start is.new n d is.later y count is.whole is.rest p q t u served (subst (λ ls. AreLinesServed IsCanonicalOutcome start d count ls q u n y) is.parts all)
        | inr into ↦
            into_first start is.new n d is.later y count is.whole into.0 into.1 into.2 p q t u into.4
            (subst (λ ls. AreLinesServed IsCanonicalOutcome start d count ls q u n y) (is.parts ∙ ap (λ r. is.whole ++ r) into.3) all)
      ]
