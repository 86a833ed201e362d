-- What the first lines are answered with are the first of the answers to all lines.
use Rattle.std.proofs.Common.{◌≡◌, inl, inr, ℕ, ◌+◌, List, [], ◌∷◌, ◌++◌, length, refl, sym, ap, subst, ◌∙◌, arith, append_assoc, length-append}
use Rattle.std.proofs.lemmas.List.{append-nil}
use Rattle.wire_records.specs.Records.{Record}
use Rattle.wire_records.specs.Commands.{Command, Pair}
use Rattle.wire_records.specs.Versions.{IsReadAs}
use Rattle.wire_records.proofs.Readings.{reading_unique}
use Rattle.flow_orders.specs.Outcomes.{Outcome}
use Rattle.canonical_rule.specs.Canonical.{IsCanonicalOutcome}
use Rattle.order_text.specs.Lines.{commands_of}
use Rattle.journal_records.specs.Formats.{records_of}
use Rattle.market_rules.specs.Market.{Market}
use Rattle.market_rules.specs.Journal.{Step}
use Rattle.canonical_journals.proofs.OneCanonicalJournal.{own_step}
use Rattle.batch_report.specs.Reports.{IsReport}
use Rattle.batch_report.proofs.OneReport.{one_report}
use Rattle.line_keeping.specs.Answers.{AreAnswered, IsLineAnswered, AreLinesAnswered, IsLineBegun, AreFirstAnswered}
use Rattle.line_keeping.proofs.OneAnswer.{one_answer}
use Rattle.line_keeping.proofs.Asking.{one_asked}
use Rattle.kept_laws.proofs.Promised.{Pairs}
use Rattle.kept_laws.proofs.OneAnswer.{same_pair}
use Rattle.kept_laws.proofs.Begun.{Texts}

-- these texts are the first of those
abbrev pub IsFirstOf : Texts → Texts → Type 0
IsFirstOf first all = (more : Texts) × (all ≡ first ++ more)

-- commands
first_commands : (old : Market) (count : ℕ) (first rest : List Command) (p q : Pairs) (t u : Texts) (m n : Market) → AreAnswered old count first p t m → AreAnswered old count (first ++ rest) q u n → IsFirstOf t u
first_commands old count [] rest p q t u m n a b = (u, ap (λ (l : Texts). l ++ u) (sym a.1))
first_commands old count (command ∷ first) rest p q t u m n (x, s, next, more, told, asked, step, report, on, p_is, t_is) (y, w, after, further, said, asks, steps, reports, following, q_is, u_is) =
    let same_asked : x.asked ≡ y.asked = asked ∙ sym asks in
    let one = own_step IsReadAs reading_unique old x.asked x.answer y.answer next after step (subst (λ (r : Record). Step IsReadAs IsCanonicalOutcome old r y.answer after) (sym same_asked) steps) in
    let same = same_pair x y same_asked one.0 in
    let text = one_report after (count + 1) (records_of y) s w (subst (λ (k : Market). IsReport k (count + 1) (records_of y) s) one.1 (subst (λ (z : Pair Record Outcome). IsReport next (count + 1) (records_of z) s) same report)) reports in
    let later = first_commands after (count + 1) first rest more further told said m n (subst (λ (k : Market). AreAnswered k (count + 1) first more told m) one.1 on) following in
    (later.0, u_is ∙ ap (λ (l : Texts). w ∷ l) later.1 ∙ ap (λ (z : List ℕ). z ∷ (told ++ later.0)) (sym text) ∙ ap (λ (l : Texts). l ++ later.0) (sym t_is))

-- a line alone
alone : (old : Market) (count number : ℕ) (line : List ℕ) (p : Pairs) (t : Texts) (new : Market) → IsLineAnswered old count number line p t new → AreLinesAnswered old count number (line ∷ []) p t new
alone old count number line p t new a = (p, t, new, [], [], a, (refl, refl, refl), sym (append-nil p), sym (append-nil t))

one_line : (old : Market) (count number : ℕ) (line : List ℕ) (p q : Pairs) (t u : Texts) (m n : Market) → IsLineAnswered old count number line p t m → IsLineAnswered old count number line q u n → (p ≡ q) × (t ≡ u) × (m ≡ n)
one_line old count number line p q t u m n a b = one_answer old count number (line ∷ []) p q t u m n (alone old count number line p t m a) (alone old count number line q u n b)

all_of : (t u : Texts) → t ≡ u → IsFirstOf t u
all_of t u same = ([], sym same ∙ sym (append-nil t))

-- a line that was begun
first_line : (old : Market) (count number : ℕ) (line : List ℕ) (p q : Pairs) (t u : Texts) (m n : Market) → IsLineBegun old count number line p t m → IsLineAnswered old count number line q u n → IsFirstOf t u
first_line old count number line p q t u m n (inl none) b = (u, ap (λ (l : Texts). l ++ u) (sym none.1))
first_line old count number line p q t u m n (inr (inl says)) b = all_of t u (one_line old count number line p q t u m n (inr (inl says)) b).1
first_line old count number line p q t u m n (inr (inr (asked, first, rest, asks, parts, answered))) (inl b) = absurd (asks.1.written b.0.1)
first_line old count number line p q t u m n (inr (inr (asked, first, rest, asks, parts, answered))) (inr (inl (inl long, none, own, stays))) = absurd (asks.0 long)
first_line old count number line p q t u m n (inr (inr (asked, first, rest, asks, parts, answered))) (inr (inl (inr says, none, own, stays))) = absurd (says.no_command asked asks.1)
first_line old count number line p q t u m n (inr (inr (asked, first, rest, asks, parts, answered))) (inr (inr b)) =
    let same = one_asked old line asked b.0 asks.1 b.1.1 in
    first_commands old count first rest p q t u m n answered (subst (λ (l : List Command). AreAnswered old count l q u n) (ap commands_of (sym same) ∙ parts) b.2)

-- lines, and the beginning of one more
first_into : (old : Market) (count number : ℕ) (read : Texts) (line : List ℕ) (left : Texts) (done p q : Pairs) (own t u : Texts) (next m n : Market) → AreLinesAnswered old count number read done own next
    → IsLineBegun next (count + length done) (length read + number) line p t m → AreLinesAnswered old count number (read ++ line ∷ left) q u n → IsFirstOf (own ++ t) u
first_into old count number [] line left done p q own t u next m n a begun (q1, u1, after, q2, u2, answered, following, q_is, u_is) =
    let same = a.2 in
    let place : count + length done ≡ count = omega (arith, ap length a.0) in
    let at : length {A = List ℕ} [] + number ≡ number = omega arith in
    let numbered = subst (λ (k : ℕ). IsLineBegun next (count + length done) k line p t m) at begun in
    let here : IsLineBegun old count number line p t m = subst (λ (k : ℕ). IsLineBegun old k number line p t m) place (subst (λ (x : Market). IsLineBegun x (count + length done) number line p t m) same numbered) in
    let first = first_line old count number line p q1 t u1 m after here answered in
    (first.0 ++ u2, u_is ∙ ap (λ (l : Texts). l ++ u2) first.1 ∙ append_assoc t first.0 u2 ∙ ap (λ (l : Texts). l ++ (t ++ (first.0 ++ u2))) (sym a.1) ∙ sym (append_assoc own t (first.0 ++ u2)))
first_into old count number (x ∷ read) line left done p q own t u next m n (d1, o1, mid, d2, o2, is, on, done_is, own_is) begun (q1, u1, after, q2, u2, answered, following, q_is, u_is) =
    let one = one_line old count number x d1 q1 o1 u1 mid after is answered in
    let here = subst (λ (k : Market). AreLinesAnswered k (count + length q1) (number + 1) read d2 o2 next) one.2 (subst (λ (l : Pairs). AreLinesAnswered mid (count + length l) (number + 1) read d2 o2 next) one.0 on) in
    let place : count + length done ≡ (count + length q1) + length d2 = omega (arith, ap length done_is, length-append d1 d2, ap length one.0) in
    let at : length (x ∷ read) + number ≡ length read + (number + 1) = omega arith in
    let there : IsLineBegun next ((count + length q1) + length d2) (length read + (number + 1)) line p t m = subst (λ (k : ℕ). IsLineBegun next k (length read + (number + 1)) line p t m) place (subst (λ (k : ℕ). IsLineBegun next (count + length done) k line p t m) at begun) in
    let first = first_into after (count + length q1) (number + 1) read line left d2 p q2 o2 t u2 next m n here there following in
    (first.0, u_is ∙ ap (λ (l : Texts). u1 ++ l) first.1 ∙ sym (append_assoc u1 (o2 ++ t) first.0) ∙ ap (λ (l : Texts). l ++ first.0) (sym (append_assoc u1 o2 t)) ∙ ap (λ (l : Texts). ((l ++ o2) ++ t) ++ first.0) (sym one.1) ∙ ap (λ (l : Texts). (l ++ t) ++ first.0) (sym own_is))

pub first_of_lines : (old : Market) (count : ℕ) (lines : Texts) (p q : Pairs) (t u : Texts) (m n : Market) → AreFirstAnswered old count lines p t m → AreLinesAnswered old count 1 lines q u n → IsFirstOf t u
first_of_lines old count lines p q t u m n (inl a) b = all_of t u (one_answer old count 1 lines p q t u m n a b).1
first_of_lines old count lines p q t u m n (inr (read, line, left, is, into)) b =
    let first = first_into old count 1 read line left into.done into.more q into.own into.others u into.next m n into.answered into.begun (subst (λ (l : Texts). AreLinesAnswered old count 1 l q u n) is b) in
    (first.0, first.1 ∙ ap (λ (l : Texts). l ++ first.0) (sym into.texts_are))
