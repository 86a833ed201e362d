-- Lines that are served have their letters and what an account observes, and only these.
use Rattle.std.proofs.Common.{◌≡◌, ℕ, ◌+◌, ◌⊎◌, inl, inr, List, [], ◌∷◌, ◌++◌, length, refl, sym, ap, subst, ◌∙◌}
use Rattle.std.specs.List.{flat_map}
use Rattle.std.proofs.lemmas.List.{append-nil}
use Rattle.std.proofs.lemmas.Grind.{flat_map-append}
use Rattle.wire_records.specs.Records.{Record}
use Rattle.wire_records.specs.Commands.{Command, Pair}
use Rattle.wire_records.specs.CommandRecords.{record_of}
use Rattle.wire_records.specs.Versions.{IsReadAs}
use Rattle.wire_records.proofs.Readings.{reading_unique}
use Rattle.flow_orders.specs.Outcomes.{Outcome, IsAdmissibleOutcome}
use Rattle.market_rules.specs.Market.{Market}
use Rattle.market_rules.specs.Journal.{Step}
use Rattle.market_rules.proofs.LawProofs.{market_is_determined}
use Rattle.order_text.specs.Lines.{commands_of}
use Rattle.answer_text.specs.declared.header.Recipient.{Recipient}
use Rattle.statement_rules.specs.Views.{seen}
use Rattle.desk_messages.specs.Desks.{Desks, tally_of, with_message, with_read, with_line}
use Rattle.desk_messages.specs.Messages.{Message, text_of, texts_of, told, opened_by, with_opened, no_envelope, expected, error_to}
use Rattle.desk_lines.specs.Hearing.{Heard}
use Rattle.desk_lines.specs.Hearing as heard
use Rattle.desk_lines.specs.Wishes.{Wish}
use Rattle.desk_lines.specs.Wishes as wish
use Rattle.desk_lines.specs.Laws.{OneHearing, OneWish}
use Rattle.desk_session.specs.Lines.{entry_messages, answer_members, fault_word, answer_to, one_text, SaysOnly, AreServed, ComesOfWish, ComesOf, AreLinesServed, AreServedInto, AreFirstServed}
use Rattle.desk_privacy.specs.Letters.{Letter, letters_of, bytes_of}
use Rattle.desk_privacy.specs.Observing.{Observation, observed, AreServedTo, SaysAlone, ComesOfWishTo, own_line, ComesTo, IsLineServedTo, AreLinesServedTo, AreServedIntoTo, AreFirstServedTo}
use Rattle.desk_privacy.specs.Laws.{LettersAreWritten, FirstLettersAreWritten}

-- texts, one after the other
abbrev pub joined : List (List ℕ) → List ℕ
joined texts = flat_map (λ (text : List ℕ). text) texts

abbrev Entries : Type 0
Entries = List (Pair Record Outcome)

-- the text of messages is their letters' bytes
pub text_is : (d : Desks) (messages : List Message) → texts_of d messages ≡ bytes_of (letters_of d messages)
text_is d [] = refl
text_is d (m ∷ more) = ap (λ (x : List ℕ). text_of d m ++ x) (text_is (with_message d m.to) more)

one_text_is : (d : Desks) (messages : List Message) → joined (one_text d messages) ≡ bytes_of (letters_of d messages)
one_text_is d [] = refl
one_text_is d (m ∷ more) = append-nil (texts_of d (m ∷ more)) ∙ text_is d (m ∷ more)

-- texts and letters before others
both_joined : (a b texts : List (List ℕ)) (x y letters : List Letter) → joined a ≡ bytes_of x → joined b ≡ bytes_of y → texts ≡ a ++ b → letters ≡ x ++ y → joined texts ≡ bytes_of letters
both_joined a b texts x y letters one other texts_are letters_are =
    ap joined texts_are ∙ flat_map-append (λ (text : List ℕ). text) a b ∙ ap (λ (l : List ℕ). l ++ joined b) one ∙ ap (λ (l : List ℕ). bytes_of x ++ l) other
    ∙ sym (ap bytes_of letters_are ∙ flat_map-append (λ (l : Letter). l.line) x y)

module _ (account : ℕ) where
  -- ---- each line that is served has them

  -- the letters of some lines, and what the account observes
  record Found (Are : List Letter → List Observation → Type 0) (texts : List (List ℕ)) : Type 0 where
    letters : List Letter
    noted : List Observation
    are : Are letters noted
    same : joined texts ≡ bytes_of letters

  says_some : (old new : Market) (d later : Desks) (messages : List Message) (pairs : Entries) (texts : List (List ℕ)) → SaysOnly old d messages pairs texts new later
      → Found (λ letters noted. SaysAlone account old d messages pairs letters noted new later) texts
  says_some old new d later messages pairs texts is = record {
    letters = letters_of d messages;
    noted = [];
    are = (is.0, refl, refl, is.1, is.3);
    same = ap joined is.2 ∙ one_text_is d messages;
  }

  served_some : (old new : Market) (d later : Desks) (count : ℕ) (sender : Recipient) (line : ℕ) (commands : List Command) (pairs : Entries) (texts : List (List ℕ))
      → AreServed IsAdmissibleOutcome old d count sender line commands pairs texts new later → Found (λ letters noted. AreServedTo account old d count sender line commands pairs letters noted new later) texts
  served_some old new d later count sender line [] pairs texts is = record { letters = []; noted = []; are = (is.0, refl, refl, is.2, is.3); same = ap joined is.1 }
  served_some old new d later count sender line (command ∷ commands) pairs texts (pair, next, more, others, asked, step, served, pairs_are, texts_are) =
      let d1 = with_opened (opened_by pair.answer) d in
      let messages = entry_messages d1 old next sender line (count + 1) command pair.answer in
      let rest = served_some next new (told d1 messages) later (count + 1) sender line commands more others served in
      record {
        letters = letters_of d1 messages ++ rest.letters;
        noted = observed account command pair.answer (seen account old step.read pair.answer) ++ rest.noted;
        are = (pair, next, more, rest.letters, rest.noted, asked, step, rest.are, pairs_are, refl, refl);
        same = both_joined (texts_of d1 messages ∷ []) others texts (letters_of d1 messages) rest.letters _ (append-nil (texts_of d1 messages) ∙ text_is d1 messages) rest.same texts_are refl;
      }

  wish_some : (old new : Market) (d later : Desks) (count : ℕ) (sender : Recipient) (line : ℕ) (w : Wish) (pairs : Entries) (texts : List (List ℕ))
      → ComesOfWish IsAdmissibleOutcome old d count sender line w pairs texts new later → Found (λ letters noted. ComesOfWishTo account old d count sender line w pairs letters noted new later) texts
  wish_some old new d later count sender line wish.Nothing pairs texts is = says_some old new d later [] pairs texts is
  wish_some old new d later count sender line (wish.Serve asked) pairs texts is = served_some old new d later count sender line (commands_of asked) pairs texts is
  wish_some old new d later count sender line (wish.Answer q) pairs texts is = says_some old new d later (answer_to sender line (answer_members old sender q) ∷ []) pairs texts is
  wish_some old new d later count sender line (wish.Refuse why) pairs texts is = says_some old new d later (error_to sender line (fault_word why) ∷ []) pairs texts is

  comes_some : (old new : Market) (d later : Desks) (count : ℕ) (said : Heard) (pairs : Entries) (texts : List (List ℕ))
      → ComesOf IsAdmissibleOutcome old d count said pairs texts new later → Found (λ letters noted. ComesTo account old d count said pairs letters noted new later) texts
  comes_some old new d later count heard.Nothing pairs texts is = says_some old new (with_read d) later [] pairs texts is
  comes_some old new d later count heard.Noise pairs texts is = says_some old new (with_read d) later (no_envelope (d.total.lines + 1) ∷ []) pairs texts is
  comes_some old new d later count (heard.Other sender) pairs texts is = says_some old new (with_read d) later (expected sender ((tally_of d sender).lines + 1) ∷ []) pairs texts is
  comes_some old new d later count (heard.From sender text) pairs texts (w, wished, comes) =
      let found = wish_some old new (with_line d sender) later count sender ((tally_of d sender).lines + 1) w pairs texts comes in
      record { letters = found.letters; noted = found.noted; are = (w, wished, found.are); same = found.same }

  lines_some : (old new : Market) (d later : Desks) (count : ℕ) (lines : List (List ℕ)) (pairs : Entries) (texts : List (List ℕ))
      → AreLinesServed IsAdmissibleOutcome old d count lines pairs texts new later → Found (λ letters noted. AreLinesServedTo account old d count lines pairs letters noted new later) texts
  lines_some old new d later count [] pairs texts is = record { letters = []; noted = []; are = (is.0, refl, refl, is.2, is.3); same = ap joined is.1 }
  lines_some old new d later count (line ∷ lines) pairs texts (first, own, next, between, more, others, (said, is, comes), served, pairs_are, texts_are) =
      let here = comes_some old next d between count said first own comes in
      let rest = lines_some next new between later (count + length first) lines more others served in
      record {
        letters = here.letters ++ rest.letters;
        noted = (own_line account said ++ here.noted) ++ rest.noted;
        are = (first, here.letters, own_line account said ++ here.noted, next, between, more, rest.letters, rest.noted, (said, here.noted, is, here.are, refl), rest.are, pairs_are, refl, refl);
        same = both_joined own others texts here.letters rest.letters _ here.same rest.same texts_are refl;
      }

  -- ---- and is served

  -- the texts of some letters
  record Told (Are : List (List ℕ) → Type 0) (letters : List Letter) : Type 0 where
    texts : List (List ℕ)
    are : Are texts
    same : joined texts ≡ bytes_of letters

  says_served : (old new : Market) (d later : Desks) (messages : List Message) (pairs : Entries) (letters : List Letter) (noted : List Observation) → SaysAlone account old d messages pairs letters noted new later
      → Told (λ texts. SaysOnly old d messages pairs texts new later) letters
  says_served old new d later messages pairs letters noted is = record {
    texts = one_text d messages;
    are = (is.0, is.3, refl, is.4);
    same = one_text_is d messages ∙ ap bytes_of (sym is.1);
  }

  served_served : (old new : Market) (d later : Desks) (count : ℕ) (sender : Recipient) (line : ℕ) (commands : List Command) (pairs : Entries) (letters : List Letter) (noted : List Observation)
      → AreServedTo account old d count sender line commands pairs letters noted new later → Told (λ texts. AreServed IsAdmissibleOutcome old d count sender line commands pairs texts new later) letters
  served_served old new d later count sender line [] pairs letters noted is = record { texts = []; are = (is.0, refl, is.3, is.4); same = ap bytes_of (sym is.1) }
  served_served old new d later count sender line (command ∷ commands) pairs letters noted (pair, next, more, others, after, asked, step, served, pairs_are, letters_are, noted_are) =
      let d1 = with_opened (opened_by pair.answer) d in
      let messages = entry_messages d1 old next sender line (count + 1) command pair.answer in
      let rest = served_served next new (told d1 messages) later (count + 1) sender line commands more others after served in
      record {
        texts = texts_of d1 messages ∷ rest.texts;
        are = (pair, next, more, rest.texts, asked, step, rest.are, pairs_are, refl);
        same = both_joined (texts_of d1 messages ∷ []) rest.texts _ (letters_of d1 messages) others letters (append-nil (texts_of d1 messages) ∙ text_is d1 messages) rest.same refl letters_are;
      }

  wish_served : (old new : Market) (d later : Desks) (count : ℕ) (sender : Recipient) (line : ℕ) (w : Wish) (pairs : Entries) (letters : List Letter) (noted : List Observation)
      → ComesOfWishTo account old d count sender line w pairs letters noted new later → Told (λ texts. ComesOfWish IsAdmissibleOutcome old d count sender line w pairs texts new later) letters
  wish_served old new d later count sender line wish.Nothing pairs letters noted is = says_served old new d later [] pairs letters noted is
  wish_served old new d later count sender line (wish.Serve asked) pairs letters noted is = served_served old new d later count sender line (commands_of asked) pairs letters noted is
  wish_served old new d later count sender line (wish.Answer q) pairs letters noted is = says_served old new d later (answer_to sender line (answer_members old sender q) ∷ []) pairs letters noted is
  wish_served old new d later count sender line (wish.Refuse why) pairs letters noted is = says_served old new d later (error_to sender line (fault_word why) ∷ []) pairs letters noted is

  comes_served : (old new : Market) (d later : Desks) (count : ℕ) (said : Heard) (pairs : Entries) (letters : List Letter) (noted : List Observation)
      → ComesTo account old d count said pairs letters noted new later → Told (λ texts. ComesOf IsAdmissibleOutcome old d count said pairs texts new later) letters
  comes_served old new d later count heard.Nothing pairs letters noted is = says_served old new (with_read d) later [] pairs letters noted is
  comes_served old new d later count heard.Noise pairs letters noted is = says_served old new (with_read d) later (no_envelope (d.total.lines + 1) ∷ []) pairs letters noted is
  comes_served old new d later count (heard.Other sender) pairs letters noted is = says_served old new (with_read d) later (expected sender ((tally_of d sender).lines + 1) ∷ []) pairs letters noted is
  comes_served old new d later count (heard.From sender text) pairs letters noted (w, wished, comes) =
      let found = wish_served old new (with_line d sender) later count sender ((tally_of d sender).lines + 1) w pairs letters noted comes in
      record { texts = found.texts; are = (w, wished, found.are); same = found.same }

  lines_served : (old new : Market) (d later : Desks) (count : ℕ) (lines : List (List ℕ)) (pairs : Entries) (letters : List Letter) (noted : List Observation)
      → AreLinesServedTo account old d count lines pairs letters noted new later → Told (λ texts. AreLinesServed IsAdmissibleOutcome old d count lines pairs texts new later) letters
  lines_served old new d later count [] pairs letters noted is = record { texts = []; are = (is.0, refl, is.3, is.4); same = ap bytes_of (sym is.1) }
  lines_served old new d later count (line ∷ lines) pairs letters noted (first, own, now, next, between, more, others, after, (said, then, is, comes, now_is), served, pairs_are, letters_are, noted_are) =
      let here = comes_served old next d between count said first own then comes in
      let rest = lines_served next new between later (count + length first) lines more others after served in
      record {
        texts = here.texts ++ rest.texts;
        are = (first, here.texts, next, between, more, rest.texts, (said, is, here.are), rest.are, pairs_are, refl);
        same = both_joined here.texts rest.texts _ own others letters here.same rest.same refl letters_are;
      }

-- ---- and only these

heads : (a b : Pair Record Outcome) (x y : Entries) → a ∷ x ≡ b ∷ y → (a ≡ b) × (x ≡ y)
heads a b x y e = (cc, cc)

-- the same entries first, and then others, with the same letters, observations, market and counts
record AreSame (p q more others : Entries) (x y : List Letter) (v w : List Observation) (m n : Market) (e f : Desks) : Type 0 where
  pairs : p ≡ q
  rest : more ≡ others
  letters : x ≡ y
  noted : v ≡ w
  market : m ≡ n
  desks : e ≡ f

-- no entry is added
says_one : (account : ℕ) (old : Market) (d : Desks) (messages : List Message) (p q more others : Entries) (x y : List Letter) (v w : List Observation) (m n : Market) (e f : Desks)
    → p ++ more ≡ q ++ others → SaysAlone account old d messages p x v m e → SaysAlone account old d messages q y w n f → AreSame p q more others x y v w m n e f
says_one account old d messages p q more others x y v w m n e f all one other = record {
  pairs = one.0 ∙ sym other.0;
  rest = ap (λ (l : Entries). l ++ more) (sym one.0) ∙ all ∙ ap (λ (l : Entries). l ++ others) other.0;
  letters = one.1 ∙ sym other.1;
  noted = one.2 ∙ sym other.2;
  market = one.3 ∙ sym other.3;
  desks = one.4 ∙ sym other.4;
}

module _ (account : ℕ) (sender : Recipient) (line : ℕ) where
  -- what comes of a command that gets this entry, and of the others after it
  abbrev AfterEntry : Market → Desks → (count : ℕ) → Command → List Command → Entries → List Letter → List Observation → Market → Desks → Pair Record Outcome → Type 0
  AfterEntry old d count command commands pairs letters noted new later pair =
      (next : Market) × (more : Entries) × (others : List Letter) × (rest : List Observation)
      × (pair.asked ≡ record_of command) × (step : Step IsReadAs IsAdmissibleOutcome old pair.asked pair.answer next)
      × AreServedTo account next (told (with_opened (opened_by pair.answer) d) (entry_messages (with_opened (opened_by pair.answer) d) old next sender line (count + 1) command pair.answer))
      (count + 1) sender line commands more others rest new later
      × (pairs ≡ pair ∷ more)
      × (letters ≡ letters_of (with_opened (opened_by pair.answer) d) (entry_messages (with_opened (opened_by pair.answer) d) old next sender line (count + 1) command pair.answer) ++ others)
      × (noted ≡ observed account command pair.answer (seen account old step.read pair.answer) ++ rest)

  -- commands that get the same entries
  served_one : (commands : List Command) (old : Market) (d : Desks) (count : ℕ) (p q more others : Entries) (x y : List Letter) (v w : List Observation) (m n : Market) (e f : Desks)
      → p ++ more ≡ q ++ others → AreServedTo account old d count sender line commands p x v m e → AreServedTo account old d count sender line commands q y w n f → AreSame p q more others x y v w m n e f
  served_one [] old d count p q more others x y v w m n e f all one other = record {
    pairs = one.0 ∙ sym other.0;
    rest = ap (λ (l : Entries). l ++ more) (sym one.0) ∙ all ∙ ap (λ (l : Entries). l ++ others) other.0;
    letters = one.1 ∙ sym other.1;
    noted = one.2 ∙ sym other.2;
    market = one.3 ∙ sym other.3;
    desks = one.4 ∙ sym other.4;
  }
  served_one (command ∷ commands) old d count p q more others x y v w m n e f all (pair, next, p', x', v', asked, step, served, p_is, x_is, v_is) (pair', next', q', y', w', asked', step', found, q_is, y_is, w_is) =
      let also : AfterEntry old d count command commands q y w n f pair' = (next', q', y', w', asked', step', found, q_is, y_is, w_is) in
      let firsts : pair ∷ (p' ++ more) ≡ pair' ∷ (also.1 ++ others) = ap (λ (l : Entries). l ++ more) (sym p_is) ∙ all ∙ ap (λ (l : Entries). l ++ others) also.7 in
      let both = heads pair pair' (p' ++ more) (also.1 ++ others) firsts in
      let o : AfterEntry old d count command commands q y w n f pair = subst (AfterEntry old d count command commands q y w n f) (sym both.0) also in
      let d1 = with_opened (opened_by pair.answer) d in
      let messages : Market → List Message = λ z. entry_messages d1 old z sender line (count + 1) command pair.answer in
      let seconds : pair ∷ (p' ++ more) ≡ pair ∷ (o.1 ++ others) = ap (λ (l : Entries). l ++ more) (sym p_is) ∙ all ∙ ap (λ (l : Entries). l ++ others) o.7 in
      let tails = heads pair pair (p' ++ more) (o.1 ++ others) seconds in
      let same_next : next ≡ o.0 = market_is_determined old pair.asked pair.answer next o.0 step o.5 in
      let same_read = reading_unique old.version pair.asked step.read o.5.read step.encoded o.5.encoded in
      let served' : AreServedTo account next (told d1 (messages next)) (count + 1) sender line commands o.1 o.2 o.3 n f =
      subst (λ z. AreServedTo account z (told d1 (messages z)) (count + 1) sender line commands o.1 o.2 o.3 n f) (sym same_next) o.6 in
      let rest = served_one commands next (told d1 (messages next)) (count + 1) p' o.1 more others x' o.2 v' o.3 m n e f tails.1 served served' in
      record {
        pairs = p_is ∙ ap (λ (l : Entries). pair ∷ l) rest.pairs ∙ sym o.7;
        rest = rest.rest;
        letters = x_is ∙ ap (λ (l : List Letter). letters_of d1 (messages next) ++ l) rest.letters ∙ ap (λ z. letters_of d1 (messages z) ++ o.2) same_next ∙ sym o.8;
        noted = v_is ∙ ap (λ (l : List Observation). observed account command pair.answer (seen account old step.read pair.answer) ++ l) rest.noted
            ∙ ap (λ r. observed account command pair.answer (seen account old r pair.answer) ++ o.3) same_read ∙ sym o.9;
        market = rest.market;
        desks = rest.desks;
      }

  wish_one : (wished : Wish) (old : Market) (d : Desks) (count : ℕ) (p q more others : Entries) (x y : List Letter) (v w : List Observation) (m n : Market) (e f : Desks)
      → p ++ more ≡ q ++ others → ComesOfWishTo account old d count sender line wished p x v m e → ComesOfWishTo account old d count sender line wished q y w n f → AreSame p q more others x y v w m n e f
  wish_one wish.Nothing old d count p q more others x y v w m n e f all one other = says_one account old d [] p q more others x y v w m n e f all one other
  wish_one (wish.Serve asked) old d count p q more others x y v w m n e f all one other = served_one (commands_of asked) old d count p q more others x y v w m n e f all one other
  wish_one (wish.Answer a) old d count p q more others x y v w m n e f all one other =
      says_one account old d (answer_to sender line (answer_members old sender a) ∷ []) p q more others x y v w m n e f all one other
  wish_one (wish.Refuse why) old d count p q more others x y v w m n e f all one other = says_one account old d (error_to sender line (fault_word why) ∷ []) p q more others x y v w m n e f all one other

module _ (one_hearing : OneHearing) (one_wish : OneWish) (account : ℕ) where
  comes_one : (said : Heard) (old : Market) (d : Desks) (count : ℕ) (p q more others : Entries) (x y : List Letter) (v w : List Observation) (m n : Market) (e f : Desks)
      → p ++ more ≡ q ++ others → ComesTo account old d count said p x v m e → ComesTo account old d count said q y w n f → AreSame p q more others x y v w m n e f
  comes_one heard.Nothing old d count p q more others x y v w m n e f all one other = says_one account old (with_read d) [] p q more others x y v w m n e f all one other
  comes_one heard.Noise old d count p q more others x y v w m n e f all one other = says_one account old (with_read d) (no_envelope (d.total.lines + 1) ∷ []) p q more others x y v w m n e f all one other
  comes_one (heard.Other sender) old d count p q more others x y v w m n e f all one other =
      says_one account old (with_read d) (expected sender ((tally_of d sender).lines + 1) ∷ []) p q more others x y v w m n e f all one other
  comes_one (heard.From sender text) old d count p q more others x y v w m n e f all (wished, is, comes) (wished', is', comes') =
      let line = (tally_of d sender).lines + 1 in
      let same = one_wish old.version old.tickers d sender text wished wished' is is' in
      wish_one account sender line wished old (with_line d sender) count p q more others x y v w m n e f all comes
      (subst (λ z. ComesOfWishTo account old (with_line d sender) count sender line z q y w n f) (sym same) comes')

  line_one : (line : List ℕ) (old : Market) (d : Desks) (count : ℕ) (p q more others : Entries) (x y : List Letter) (v w : List Observation) (m n : Market) (e f : Desks)
      → p ++ more ≡ q ++ others → IsLineServedTo account old d count line p x v m e → IsLineServedTo account old d count line q y w n f → AreSame p q more others x y v w m n e f
  line_one line old d count p q more others x y v w m n e f all (said, after, is, comes, noted) (said', after', is', comes', noted') =
      let same = one_hearing d line said said' is is' in
      let rest = comes_one said old d count p q more others x y after after' m n e f all comes (subst (λ z. ComesTo account old d count z q y after' n f) (sym same) comes') in
      record {
        pairs = rest.pairs;
        rest = rest.rest;
        letters = rest.letters;
        noted = noted ∙ ap (λ (l : List Observation). own_line account said ++ l) rest.noted ∙ ap (λ z. own_line account z ++ after') same ∙ sym noted';
        market = rest.market;
        desks = rest.desks;
      }

  pub lines_one : (lines : List (List ℕ)) (old : Market) (d : Desks) (count : ℕ) (p q : Entries) (x y : List Letter) (v w : List Observation) (m n : Market) (e f : Desks)
      → p ≡ q → AreLinesServedTo account old d count lines p x v m e → AreLinesServedTo account old d count lines q y w n f → (x ≡ y) × (v ≡ w)
  lines_one [] old d count p q x y v w m n e f all one other = (one.1 ∙ sym other.1, one.2 ∙ sym other.2)
  lines_one (line ∷ lines) old d count p q x y v w m n e f all
      (first, own, now, next, between, more, others, rest, served, following, p_is, x_is, v_is)
      (first', own', now', next', between', more', others', rest', served', following', q_is, y_is, w_is) =
      let here = line_one line old d count first first' more more' own own' now now' next next' between between' (sym p_is ∙ all ∙ q_is) served served' in
      let at_next : AreLinesServedTo account next between' (count + length first') lines more' others' rest' n f =
      subst (λ z. AreLinesServedTo account z between' (count + length first') lines more' others' rest' n f) (sym here.market) following' in
      let at_between : AreLinesServedTo account next between (count + length first') lines more' others' rest' n f =
      subst (λ z. AreLinesServedTo account next z (count + length first') lines more' others' rest' n f) (sym here.desks) at_next in
      let at_count : AreLinesServedTo account next between (count + length first) lines more' others' rest' n f =
      subst (λ (z : Entries). AreLinesServedTo account next between (count + length z) lines more' others' rest' n f) (sym here.pairs) at_between in
      let then = lines_one lines next between (count + length first) more more' others others' rest rest' m n e f here.rest following at_count in (
        x_is ∙ ap (λ (l : List Letter). l ++ others) here.letters ∙ ap (λ (l : List Letter). own' ++ l) then.0 ∙ sym y_is,
        v_is ∙ ap (λ (l : List Observation). l ++ rest) here.noted ∙ ap (λ (l : List Observation). now' ++ l) then.1 ∙ sym w_is,
      )

pub letters_are_written : OneHearing → OneWish → LettersAreWritten
letters_are_written one_hearing one_wish = record {
  some = λ account old new d later count lines pairs texts is. let found = lines_some account old new d later count lines pairs texts is in (found.letters, found.noted, found.are, found.same);
  served = λ account old new d later count lines pairs letters noted is. let found = lines_served account old new d later count lines pairs letters noted is in (found.texts, found.are, found.same);
  one = λ account old d count lines pairs x y v w m n e f one other. lines_one one_hearing one_wish account lines old d count pairs pairs x y v w m n e f refl one other;
}

-- ---- lines of which only the first are served

module _ (account : ℕ) where
  into_some : (old new : Market) (d later : Desks) (count : ℕ) (lines : List (List ℕ)) (line : List ℕ) (next : List Command) (pairs : Entries) (texts : List (List ℕ))
      → AreServedInto IsAdmissibleOutcome old d count lines line next pairs texts new later → Found account (λ letters noted. AreServedIntoTo account old d count lines line pairs letters noted new later) texts
  into_some old new d later count lines line next pairs texts into =
      let here = lines_some account old into.mid d into.between count lines into.first into.own into.whole in
      let begun = into.begun in
      let rest = served_some account into.mid new (with_line into.between into.sender) later (count + length into.first) into.sender ((tally_of into.between into.sender).lines + 1) begun.first into.more into.others begun.served in
      record {
        letters = here.letters ++ rest.letters;
        noted = here.noted ++ (own_line account (heard.From into.sender begun.text) ++ rest.noted);
        are = record {
          first = into.first;
          own = here.letters;
          now = here.noted;
          mid = into.mid;
          between = into.between;
          whole = here.are;
          more = into.more;
          others = rest.letters;
          rest = own_line account (heard.From into.sender begun.text) ++ rest.noted;
          begun = record {
            sender = into.sender;
            text = begun.text;
            asked = begun.asked;
            is_heard = begun.is_heard;
            wished = begun.wished;
            first = begun.first;
            next = next;
            parts = begun.parts;
            after = rest.noted;
            served = rest.are;
            noted_is = refl;
          };
          pairs_are = into.all;
          letters_are = refl;
          noted_is = refl;
        };
        same = both_joined into.own into.others texts here.letters rest.letters _ here.same rest.same into.said refl;
      }

  first_some : (old : Market) (d : Desks) (count : ℕ) (lines : List (List ℕ)) (pairs : Entries) (texts : List (List ℕ))
      → AreFirstServed IsAdmissibleOutcome old d count lines pairs texts → Found account (λ letters noted. AreFirstServedTo account old d count lines pairs letters noted) texts
  first_some old d count lines pairs texts are = by are.served
    where
      by : AreLinesServed IsAdmissibleOutcome old d count are.whole pairs texts are.new are.later
          ⊎ ((line : List ℕ) × (more : List (List ℕ)) × (next : List Command) × (are.rest ≡ line ∷ more) × AreServedInto IsAdmissibleOutcome old d count are.whole line next pairs texts are.new are.later)
          → Found account (λ letters noted. AreFirstServedTo account old d count lines pairs letters noted) texts
      by (inl whole) =
          let found = lines_some account old are.new d are.later count are.whole pairs texts whole in
          record {
            letters = found.letters;
            noted = found.noted;
            are = record { whole = are.whole; rest = are.rest; parts = are.parts; new = are.new; later = are.later; served = inl found.are };
            same = found.same;
          }
      by (inr (line, more, next, rest_is, into)) =
          let found = into_some old are.new d are.later count are.whole line next pairs texts into in
          record {
            letters = found.letters;
            noted = found.noted;
            are = record { whole = are.whole; rest = are.rest; parts = are.parts; new = are.new; later = are.later; served = inr (line, more, rest_is, found.are) };
            same = found.same;
          }

pub first_letters_are_written : FirstLettersAreWritten
first_letters_are_written account old d count lines pairs texts are = let found = first_some account old d count lines pairs texts are in (found.letters, found.noted, found.are, found.same)
