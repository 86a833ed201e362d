-- What lines of accounts add, and what they change.
use Rattle.std.proofs.Common.{◌≡◌, ◌≢◌, ◌⊎◌, inl, inr, ℕ, ◌+◌, List, [], ◌∷◌, ◌++◌, length, All, Some, None, Ok, refl, sym, ap, subst, ◌∙◌, arith}
use Rattle.std.specs.Prelude.{Contains, unwrap_or}
use Rattle.std.proofs.lemmas.Bool.{cases_eq, ne_eqb}
use Rattle.std.proofs.lemmas.List.Elements.{All-nil, All-cons, All-head, All-tail, All-append, Contains-get_or, Contains-append_left, Contains-append_right}
use Rattle.wire_records.specs.Records.{Record}
use Rattle.wire_records.specs.Commands.{Command, AddAsset, OpenAccount, Deposit, Withdraw, Place, CancelOrder, RunBatch, SetCredit, Pair}
use Rattle.wire_records.specs.CommandRecords.{record_of, IsCommand}
use Rattle.wire_records.specs.Versions.{IsOfVersion, IsReadAs}
use Rattle.wire_records.specs.declared.version.Version.{Version}
use Rattle.wire_records.proofs.Readings.{read_own}
use Rattle.flow_orders.specs.Outcomes.{Outcome, BatchRule, IsAdmissibleOutcome}
use Rattle.market_rules.specs.Market.{Market, IsConsistent}
use Rattle.market_rules.proofs.Consistency.{consistent_follows}
use Rattle.market_rules.proofs.Versions.{follows_version}
use Rattle.order_text.specs.Lines.{Asked, commands_of}
use Rattle.order_text.specs.Questions.{AsksQuestion}
use Rattle.order_text.specs.declared.question.Question.{Question}
use Rattle.order_text.proofs.Fitting.{commands_fit}
use Rattle.envelope_text.specs.Envelopes.{Sent, IsEnvelope}
use Rattle.envelope_text.proofs.OneEnvelope.{one_envelope}
use Rattle.answer_text.specs.declared.header.Recipient.{Recipient}
use Rattle.answer_text.specs.declared.header.Recipient.TheVariants.{Desk}
use Rattle.desk_messages.specs.Desks.{Desks, recipient_of, tally_of, with_line}
use Rattle.desk_lines.specs.Hearing.{Heard, IsHeard}
use Rattle.desk_lines.specs.Hearing as heard
use Rattle.desk_lines.specs.Rights.{owner_of, MayAsk, MayKnow, IsAboutSome}
use Rattle.desk_lines.specs.Wishes.{Wish, IsWish}
use Rattle.desk_lines.specs.Wishes as wish
use Rattle.desk_lines.specs.Laws.{OneWish}
use Rattle.desk_lines.specs.declared.wishes.TextFault.TheVariants.{NotYours, NoAccount}
use Rattle.desk_session.specs.Lines.{AreServed, ComesOfWish, ComesOf, IsLineServed, AreLinesServed, IsLineBegun, AreServedInto}
use Rattle.desk_session.proofs.Going.{follows_line, follows_lines}
use Rattle.desk_laws.specs.Rights.{IsLineOf, IsPlacementOf, IsCancelOf, IsOwnEntry, IsAskedFor}
use Rattle.desk_laws.specs.Laws.{Entries, Texts, AccountsPlaceAndCancel, EntriesAreAskedFor, QuestionsChangeNothing}

-- ---- the commands of an account

pub same_account : (a b : ℕ) → Some a ≡ Some b → a ≡ b
same_account a b is = ap (λ o. unwrap_or o 0) is

pub nobodys : {A : Type 0} (account : ℕ) → None ≡ Some account → A
nobodys account is = absurd cc

-- it may place and cancel its own orders alone
own_command : (account : ℕ) (command : Command) → owner_of command ≡ Some account → IsPlacementOf account command ⊎ IsCancelOf account command
own_command account (AddAsset ticker) is = nobodys account is
own_command account OpenAccount is = nobodys account is
own_command account (Deposit named kind count) is = nobodys account is
own_command account (Withdraw named kind count) is = nobodys account is
own_command account (Place last request) is = inl (last, request, refl, same_account request.account account is)
own_command account (CancelOrder named order) is = inr (order, ap (λ n. CancelOrder n order) (same_account named account is))
own_command account (RunBatch budget) is = nobodys account is
own_command account (SetCredit named kind count) is = nobodys account is

-- commands whose fields fit, of a version
abbrev pub AreFit : Version → List Command → Type 0
AreFit version commands = All IsCommand commands × All (IsOfVersion version) commands

-- the record of a command that fits is read as the command
pub reads_own : (version : Version) (command : Command) (asked : Record) → IsCommand command → IsOfVersion version command → asked ≡ record_of command → IsReadAs version asked (Ok command)
reads_own version command asked fits of is = (rw is of, record { fits = fits; encoded = is })

module _ (Rule : BatchRule) where
  -- the entries of an account's commands
  own_served : (version : Version) (account : ℕ) (sender : Recipient) (number : ℕ) (commands : List Command) (p : Entries) (t : Texts) (old new : Market) (d later : Desks) (count : ℕ)
      → All (MayAsk (Desk account)) commands → AreFit version commands → AreServed Rule old d count sender number commands p t new later → All (IsOwnEntry version account) p
  own_served version account sender number [] p t old new d later count may fit (p_is, t_is, new_is, later_is) = rw p_is (All-nil (IsOwnEntry version account))
  own_served version account sender number (command ∷ commands) p t old new d later count may fit (pair, next, ps, ts, asked, step, rest, p_is, t_is) =
      let here : IsOwnEntry version account pair = (
        command,
        reads_own version command pair.asked (All-head IsCommand command commands fit.0) (All-head (IsOfVersion version) command commands fit.1) asked,
        own_command account command (All-head (MayAsk (Desk account)) command commands may),
      ) in
      let others = own_served version account sender number commands ps ts next new _ later (count + 1)
      (All-tail (MayAsk (Desk account)) command commands may) (All-tail IsCommand command commands fit.0, All-tail (IsOfVersion version) command commands fit.1) rest in
      rw p_is (All-cons (IsOwnEntry version account) pair ps here others)

-- the sender of an account's envelope
pub own_sender : (account : ℕ) → account ≢ 0 → recipient_of account ≡ Desk account
own_sender account some = rw (ne_eqb account 0 some) refl

-- the sender of a line that was counted, by its envelope
sent_by : (d : Desks) (line : List ℕ) (sender : Recipient) (text : List ℕ) (sent : Sent) → IsHeard d line (heard.From sender text) → IsEnvelope line sent → sender ≡ recipient_of sent.from
sent_by d line sender text sent (other, is, sender_is, text_is, next) envelope = sender_is ∙ ap (λ (s : Sent). recipient_of s.from) (one_envelope line other sent is.envelope envelope)

-- and its text
text_sent : (d : Desks) (line : List ℕ) (sender : Recipient) (text : List ℕ) (sent : Sent) → IsHeard d line (heard.From sender text) → IsEnvelope line sent → text ≡ sent.text
text_sent d line sender text sent (other, is, sender_is, text_is, next) envelope = text_is ∙ ap (λ (s : Sent). s.text) (one_envelope line other sent is.envelope envelope)

-- no entry is each one's own
none_own : (version : Version) (account : ℕ) (p : Entries) → p ≡ [] → All (IsOwnEntry version account) p
none_own version account p none = rw none (All-nil (IsOwnEntry version account))

own_line : (old new : Market) (d later : Desks) (count : ℕ) (line : List ℕ) (p : Entries) (t : Texts) (account : ℕ) → IsConsistent old → account ≢ 0 → IsLineOf account line
    → IsLineServed IsAdmissibleOutcome old d count line p t new later → All (IsOwnEntry old.version account) p
own_line old new d later count line p t account consistent some (sent, envelope, from_is) (said, is, comes) = by said is comes
  where
    by_wish : (sender : Recipient) (text : List ℕ) → sender ≡ Desk account → (w : Wish) → IsWish old.version old.tickers d sender text w
        → ComesOfWish IsAdmissibleOutcome old (with_line d sender) count sender ((tally_of d sender).lines + 1) w p t new later → All (IsOwnEntry old.version account) p
    by_wish sender text mine wish.Nothing wished comes = none_own old.version account p comes.0
    by_wish sender text mine (wish.Answer q) wished comes = none_own old.version account p comes.0
    by_wish sender text mine (wish.Refuse why) wished comes = none_own old.version account p comes.0
    by_wish sender text mine (wish.Serve asked) wished comes =
        own_served IsAdmissibleOutcome old.version account sender ((tally_of d sender).lines + 1) (commands_of asked) p t old new (with_line d sender) later count
        (subst (λ s. All (MayAsk s) (commands_of asked)) mine wished.2) (commands_fit old.version old.tickers text asked consistent.tickers wished.1) comes

    by : (said : Heard) → IsHeard d line said → ComesOf IsAdmissibleOutcome old d count said p t new later → All (IsOwnEntry old.version account) p
    by heard.Nothing is comes = none_own old.version account p comes.0
    by heard.Noise is comes = none_own old.version account p comes.0
    by (heard.Other sender) is comes = none_own old.version account p comes.0
    by (heard.From sender text) is (w, wished, comes) =
        by_wish sender text (sent_by d line sender text sent is envelope ∙ ap recipient_of from_is ∙ own_sender account some) w wished comes

-- what holds of all of some elements holds of the first of them
first_of : {X : Type 0} (P : X → Type 0) (first more all : List X) → all ≡ first ++ more → All P all → All P first
first_of {X} P first more all is holds = by first (subst (All P) is holds)
  where
    by : (xs : List X) → All P (xs ++ more) → All P xs
    by [] holds = All-nil P
    by (x ∷ xs) holds = All-cons P x xs (All-head P x (xs ++ more) holds) (by xs (All-tail P x (xs ++ more) holds))

-- the first commands of a line that is begun
module _ (old new : Market) (d later : Desks) (count : ℕ) (line : List ℕ) (sender : Recipient) (next : List Command) (p : Entries) (t : Texts) (begun : IsLineBegun IsAdmissibleOutcome old d count line sender next p t new later) where
  -- are of an account, if the line is
  pub begun_may : (account : ℕ) → account ≢ 0 → IsLineOf account line → All (MayAsk (Desk account)) begun.first
  begun_may account some (sent, envelope, from_is) =
      let mine = sent_by d line sender begun.text sent begun.is_heard envelope ∙ ap recipient_of from_is ∙ own_sender account some in
      first_of (MayAsk (Desk account)) begun.first next (commands_of begun.asked) begun.parts (subst (λ s. All (MayAsk s) (commands_of begun.asked)) mine begun.wished.2)

  -- and fit
  pub begun_fit : IsConsistent old → AreFit old.version begun.first
  begun_fit consistent =
      let fit = commands_fit old.version old.tickers begun.text begun.asked consistent.tickers begun.wished.1 in
      (first_of IsCommand begun.first next (commands_of begun.asked) begun.parts fit.0, first_of (IsOfVersion old.version) begun.first next (commands_of begun.asked) begun.parts fit.1)

  own_begun : (account : ℕ) → IsConsistent old → account ≢ 0 → IsLineOf account line → All (IsOwnEntry old.version account) p
  own_begun account consistent some own =
      own_served IsAdmissibleOutcome old.version account sender ((tally_of d sender).lines + 1) begun.first p t old new (with_line d sender) later count (begun_may account some own) (begun_fit consistent) begun.served

pub accounts_place_and_cancel : AccountsPlaceAndCancel
accounts_place_and_cancel = record {
  whole = own_line;
  begun = λ old new d later count line sender next p t account consistent some own begun. own_begun old new d later count line sender next p t begun account consistent some own;
}

-- ---- who asked for an entry

-- a line asks for an entry
abbrev AsksOf : Version → List ℕ → Pair Record Outcome → Type 0
AsksOf version line pair = IsLineOf 0 line ⊎ ((account : ℕ) × (account ≢ 0) × IsLineOf account line × IsOwnEntry version account pair)

-- whose a line is
by_sender : (version : Version) (line : List ℕ) (sent : Sent) (p : Entries) → IsEnvelope line sent → (sent.from ≢ 0 → All (IsOwnEntry version sent.from) p) → All (AsksOf version line) p
by_sender version line sent p envelope own = by (cases_eq sent.from 0)
  where
    by : (sent.from ≡ 0) ⊎ (sent.from ≢ 0) → All (AsksOf version line) p
    by (inl operator) = λ k e inside. inl (sent, envelope, operator)
    by (inr some) = λ k e inside. inr (sent.from, some, (sent, envelope, refl), own some k e inside)

-- no entry is asked for
none_asked : (version : Version) (line : List ℕ) (p : Entries) → p ≡ [] → All (AsksOf version line) p
none_asked version line p none = rw none (All-nil (AsksOf version line))

-- the entries of a line
line_asks : (old new : Market) (d later : Desks) (count : ℕ) (line : List ℕ) (p : Entries) (t : Texts) → IsConsistent old → IsLineServed IsAdmissibleOutcome old d count line p t new later → All (AsksOf old.version line) p
line_asks old new d later count line p t consistent (heard.Nothing, is, comes) = none_asked old.version line p comes.0
line_asks old new d later count line p t consistent (heard.Noise, is, comes) = none_asked old.version line p comes.0
line_asks old new d later count line p t consistent (heard.Other sender, is, comes) = none_asked old.version line p comes.0
line_asks old new d later count line p t consistent (heard.From sender text, is, comes) =
    by_sender old.version line is.0 p is.1.envelope
    (λ some. own_line old new d later count line p t is.0.from consistent some (is.0, is.1.envelope, refl) (heard.From sender text, is, comes))

begun_asks : (old new : Market) (d later : Desks) (count : ℕ) (line : List ℕ) (sender : Recipient) (next : List Command) (p : Entries) (t : Texts) → IsConsistent old
    → IsLineBegun IsAdmissibleOutcome old d count line sender next p t new later → All (AsksOf old.version line) p
begun_asks old new d later count line sender next p t consistent begun =
    let is = begun.is_heard in
    by_sender old.version line is.0 p is.1.envelope
    (λ some. own_begun old new d later count line sender next p t begun is.0.from consistent some (is.0, is.1.envelope, refl))

-- a line among others
among : (version : Version) (lines : List (List ℕ)) (line : List ℕ) (p : Entries) → Contains lines line → All (AsksOf version line) p → All (IsAskedFor version lines) p
among version lines line p there asks = λ k e inside. (line, there, asks k e inside)

-- with more lines around
wider : (version : Version) (lines all : List (List ℕ)) (p : Entries) → ((line : List ℕ) → Contains lines line → Contains all line) → All (IsAskedFor version lines) p → All (IsAskedFor version all) p
wider version lines all p more asks = λ k e inside. let (line, there, is) = asks k e inside in (line, more line there, is)

-- the entries of lines
lines_ask : (lines : List (List ℕ)) (p : Entries) (t : Texts) (old new : Market) (d later : Desks) (count : ℕ) → IsConsistent old → AreLinesServed IsAdmissibleOutcome old d count lines p t new later
    → All (IsAskedFor old.version lines) p
lines_ask [] p t old new d later count consistent is = rw is.0 (All-nil (IsAskedFor old.version []))
lines_ask (line ∷ lines) p t old new d later count consistent (first, own, next, between, more, others, served, rest, p_is, t_is) =
    let steps = follows_line IsAdmissibleOutcome old next d between count line first own served in
    let version : next.version ≡ old.version = follows_version IsAdmissibleOutcome IsReadAs old first next steps in
    let after = lines_ask lines more others next new between later (count + length first) (consistent_follows IsReadAs read_own old first next consistent steps) rest in
    let here = among old.version (line ∷ lines) line first (Contains-get_or (line ∷ lines) 0 [] (omega arith)) (line_asks old next d between count line first own consistent served) in
    let there = wider old.version lines (line ∷ lines) more (λ l is. Contains-append_right (line ∷ []) lines l is) (subst (λ v. All (IsAskedFor v lines) more) version after) in
    rw p_is (All-append (IsAskedFor old.version (line ∷ lines)) first more here there)

-- and those of lines and of one more that is begun
into_asks : (old new : Market) (d later : Desks) (count : ℕ) (lines : List (List ℕ)) (line : List ℕ) (rest : List (List ℕ)) (next : List Command) (p : Entries) (t : Texts) → IsConsistent old
    → AreServedInto IsAdmissibleOutcome old d count lines line next p t new later → All (IsAskedFor old.version (lines ++ line ∷ rest)) p
into_asks old new d later count lines line rest next p t consistent into =
    let steps = follows_lines IsAdmissibleOutcome lines into.first into.own old into.mid d into.between count into.whole in
    let version : into.mid.version ≡ old.version = follows_version IsAdmissibleOutcome IsReadAs old into.first into.mid steps in
    let all : List (List ℕ) = lines ++ line ∷ rest in
    let here = wider old.version lines all into.first (λ l is. Contains-append_left lines (line ∷ rest) l is) (lines_ask lines into.first into.own old into.mid d into.between count consistent into.whole) in
    let asks = begun_asks into.mid new into.between later (count + length into.first) line into.sender next into.more into.others (consistent_follows IsReadAs read_own old into.first into.mid consistent steps) into.begun in
    let there = among old.version all line into.more (Contains-append_right lines (line ∷ rest) line (Contains-get_or (line ∷ rest) 0 [] (omega arith))) (subst (λ v. All (AsksOf v line) into.more) version asks) in
    rw into.all (All-append (IsAskedFor old.version all) into.first into.more here there)

pub entries_are_asked_for : EntriesAreAskedFor
entries_are_asked_for = record {
  all = λ start new d later count lines p t consistent served. lines_ask lines p t start new d later count consistent served;
  first = λ start d count lines p t consistent is.
      subst (λ ls. All (IsAskedFor start.version ls) p) (sym is.parts)
      (elim is.served [
        | inl served ↦
            wider start.version is.whole (is.whole ++ is.rest) p (λ l there. Contains-append_left is.whole is.rest l there) (lines_ask is.whole p t start is.new d is.later count consistent served)
        | inr into ↦
            subst (λ r. All (IsAskedFor start.version (is.whole ++ r)) p) (sym into.3) (into_asks start is.new d is.later count is.whole into.0 into.1 into.2 p t consistent into.4)
      ]);
}

-- ---- questions

-- a text that asks a question asks for no commands, since it asks for one thing
no_commands : OneWish → (version : Version) (tickers : List (List ℕ)) (d : Desks) (sender : Recipient) (text : List ℕ) (asked : Asked) (question : Question)
    → IsWish version tickers d sender text (wish.Serve asked) → AsksQuestion text question → ⊥
no_commands one_wish version tickers d sender text asked question served asks = not_known (λ may. not_there may (λ there. not_answered may there))
  where
    one : (w : Wish) → IsWish version tickers d sender text w → wish.Serve asked ≡ w
    one w is = one_wish version tickers d sender text (wish.Serve asked) w served is

    no_answer : wish.Serve asked ≡ wish.Answer question → ⊥
    no_answer e = cc

    no_account : wish.Serve asked ≡ wish.Refuse NoAccount → ⊥
    no_account e = cc

    none_of_yours : wish.Serve asked ≡ wish.Refuse NotYours → ⊥
    none_of_yours e = cc

    not_answered : MayKnow sender question → IsAboutSome d question → ⊥
    not_answered may there = no_answer (one (wish.Answer question) (served.0, asks, may, there))

    not_there : MayKnow sender question → ¬ (¬ IsAboutSome d question)
    not_there may absent = no_account (one (wish.Refuse NoAccount) (served.0, question, asks, may, absent))

    not_known : ¬ (¬ MayKnow sender question)
    not_known may_not = none_of_yours (one (wish.Refuse NotYours) (served.0, inr (question, asks, may_not)))

pub questions_change_nothing : OneWish → QuestionsChangeNothing
questions_change_nothing one_wish old new d later count line p t sent question envelope asks (said, is, comes) = by said is comes
  where
    by_wish : (sender : Recipient) (text : List ℕ) → text ≡ sent.text → (w : Wish) → IsWish old.version old.tickers d sender text w
        → ComesOfWish IsAdmissibleOutcome old (with_line d sender) count sender ((tally_of d sender).lines + 1) w p t new later → (p ≡ []) × (new ≡ old)
    by_wish sender text same wish.Nothing wished comes = (comes.0, comes.1)
    by_wish sender text same (wish.Answer q) wished comes = (comes.0, comes.1)
    by_wish sender text same (wish.Refuse why) wished comes = (comes.0, comes.1)
    by_wish sender text same (wish.Serve asked) wished comes =
        absurd (no_commands one_wish old.version old.tickers d sender text asked question wished (subst (λ x. AsksQuestion x question) (sym same) asks))

    by : (said : Heard) → IsHeard d line said → ComesOf IsAdmissibleOutcome old d count said p t new later → (p ≡ []) × (new ≡ old)
    by heard.Nothing is comes = (comes.0, comes.1)
    by heard.Noise is comes = (comes.0, comes.1)
    by (heard.Other sender) is comes = (comes.0, comes.1)
    by (heard.From sender text) is (w, wished, comes) = by_wish sender text (text_sent d line sender text sent is envelope) w wished comes
