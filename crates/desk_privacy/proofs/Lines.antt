-- Lines tell an account what follows from what it knows and observes.
use Rattle.std.proofs.Common.{◌≡◌, ◌≢◌, ◌⊎◌, inl, inr, ℕ, ◌+◌, ◌-◌, ◌<◌, ◌≤◌, Bool, true, false, List, [], ◌∷◌, ◌++◌, length, Option, Some, None, Ok, refl, sym, ap, subst, ◌∙◌, arith}
use Rattle.std.specs.Prelude.{◌==◌, if◌then◌else◌, All}
use Rattle.std.proofs.lemmas.Bool.{eq-eqb, true≢false}
use Rattle.std.proofs.lemmas.Bool.Decides.{eqb_tells}
use Rattle.std.proofs.lemmas.List.{append-nil, length-append, length-set, get_or-set_same, get_or-set_other}
use Rattle.std.proofs.lemmas.List.Elements.{filter-append, All-nil, All-cons, All-head, All-tail}
use Rattle.wire_records.specs.Records.{Record}
use Rattle.wire_records.specs.Commands.{Command, Answer, Pair}
use Rattle.wire_records.specs.CommandRecords.{record_of, IsCommand}
use Rattle.wire_records.specs.Versions.{IsReadAs, IsOfVersion}
use Rattle.wire_records.proofs.Readings.{command_read}
use Rattle.flow_accounts.specs.Balances.{IsAccount}
use Rattle.flow_orders.specs.Outcomes.{Outcome, IsAdmissibleOutcome}
use Rattle.market_rules.specs.Market.{Market, IsConsistent}
use Rattle.market_rules.specs.Step.{ServesRead}
use Rattle.market_rules.specs.Journal.{Step}
use Rattle.market_rules.proofs.Versions.{step_version}
use Rattle.order_text.specs.Lines.{Asked, commands_of}
use Rattle.order_text.proofs.Fitting.{commands_fit}
use Rattle.answer_text.specs.declared.header.Recipient.{Recipient}
use Rattle.answer_text.specs.declared.header.Recipient.TheVariants as recipient
use Rattle.statement_rules.specs.Views.{seen}
use Rattle.statement_rules.proofs.ViewLaws.{consistent_after}
use Rattle.desk_messages.specs.declared.counts.Tally.{Tally}
use Rattle.desk_messages.specs.Desks.{Desks, nothing, tally_of, with_read, with_line, IsThere, recipient_of, no_desks}
use Rattle.desk_messages.specs.Messages.{Message, told, opened_by, with_opened, no_envelope, expected, error_to}
use Rattle.desk_messages.proofs.Telling.{told_accounts}
use Rattle.desk_lines.specs.Rights.{MayAsk}
use Rattle.desk_lines.specs.Hearing.{Heard, IsHeard}
use Rattle.desk_lines.specs.Hearing as heard
use Rattle.desk_lines.specs.Wishes.{Wish, IsWish}
use Rattle.desk_lines.specs.Wishes as wish
use Rattle.desk_session.specs.Lines.{entry_messages, answer_members, fault_word, answer_to}
use Rattle.flow_accounts.proofs.ListLemmas.{get_or-push_same}
use Rattle.desk_privacy.specs.Letters.{Letter, letters_of, is_for, letters_for}
use Rattle.desk_privacy.specs.Observing.{Observation, NextLine, OtherLine, observed, AreServedTo, SaysAlone, ComesOfWishTo, own_line, ComesTo, AreLinesServedTo, IsLineBegunTo, AreServedIntoTo, AreFirstServedTo}
use Rattle.desk_privacy.specs.Knowing.{CountsAll}
use Rattle.desk_privacy.proofs.Learning.{Knows, IsLearned, IsCounted, tell, numbered, with_own_line, after_wish, wish_messages, commands_left, known_answer, Hears, hears_more, tell_keeps}
use Rattle.desk_privacy.proofs.Numbering.{IsIn, AllIn, mine, numbered_mine}
use Rattle.desk_privacy.proofs.Named.{IsTurn}
use Rattle.desk_privacy.proofs.Entries.{entry_told}
use Rattle.desk_privacy.proofs.Counting.{with_more, opened_accounts, step_accounts, entry_in}
use Rattle.desk_privacy.proofs.Asking.{wish_alike, answer_is}

abbrev Entries : Type 0
Entries = List (Pair Record Outcome)

-- An account that knows this observes that, and hears these letters. Then it knows this market and these counts, and so many commands of its last line are left.
pub record IsHeardTo (account left_then : ℕ) (k : Knows) (new : Market) (later : Desks) (noted : List Observation) (letters : List Letter) : Type 0 where
  pub known : Knows
  pub hears : Hears account k noted (letters_for account letters) known
  pub learned : IsLearned account new known.market
  pub counted : IsCounted account later known
  pub left : known.left ≡ left_then
  pub consistent : IsConsistent new
  pub counts : CountsAll new later

-- an account that is opened has counted nothing, as it had before
opened_counted : (account : ℕ) (o : Option ℕ) (d : Desks) (k : Knows) → IsCounted account d k → IsCounted account (with_opened o d) k
opened_counted account None d k is = is
opened_counted account (Some named) d k is = record { own = is.own ∙ sym (get_or-push_same (λ (t : Tally). t) d.accounts nothing nothing (account - 1) refl); all = is.all }

-- the counts after an entry are those of all accounts
entry_counts : (m n : Market) (d : Desks) (asked : Record) (a : Answer Outcome) (messages : List Message) → CountsAll m d → Step IsReadAs IsAdmissibleOutcome m asked a n → CountsAll n (told (with_opened (opened_by a) d) messages)
entry_counts m n d asked a messages counts step =
    told_accounts (with_opened (opened_by a) d) messages ∙ opened_accounts (opened_by a) d ∙ ap (with_more (opened_by a)) counts ∙ sym (step_accounts m asked a n step)

-- whoever is there still is
still_in : (s : Recipient) (n k : ℕ) → n ≤ k → IsIn n s → IsIn k s
still_in recipient.Operator n k more there = tt
still_in (recipient.Desk named) n k more there = (there.0, omega (arith, there.1, more))
still_in recipient.All n k more there = tt

opened_more : (o : Option ℕ) (n : ℕ) → n ≤ with_more o n
opened_more None n = omega arith
opened_more (Some account) n = omega arith

in_opened : (s : Recipient) (o : Option ℕ) (d : Desks) → IsIn (length d.accounts) s → IsIn (length (with_opened o d).accounts) s
in_opened s o d there = still_in s (length d.accounts) (length (with_opened o d).accounts) (omega (arith, opened_accounts o d, opened_more o (length d.accounts))) there

-- whose line it is, and how many of its commands are left: these, and perhaps others after them
abbrev IsLineOf : ℕ → ℕ → Knows → Recipient → ℕ → List Command → Type 0
IsLineOf account spare k recipient.Operator line commands = (k.left ≡ 0) × (spare ≡ 0)
IsLineOf account spare k (recipient.Desk sender) line commands =
    ((sender ≡ account) × (k.left ≡ length commands + spare) × (line ≡ k.own.lines)) ⊎ ((sender ≢ account) × (k.left ≡ 0) × (spare ≡ 0))
IsLineOf account spare k recipient.All line commands = ⊥

turn_of : (account spare : ℕ) (k : Knows) (s : Recipient) (line : ℕ) (command : Command) (commands : List Command) → IsLineOf account spare k s line (command ∷ commands) → IsTurn account k s line
turn_of account spare k recipient.Operator line command commands is = is.0
turn_of account spare k (recipient.Desk sender) line command commands (inl is) = inl (is.0, omega (arith, is.1), is.2)
turn_of account spare k (recipient.Desk sender) line command commands (inr is) = inr (is.0, is.1)
turn_of account spare k recipient.All line command commands is = is

next_of : (account spare : ℕ) (k j : Knows) (s : Recipient) (line : ℕ) (command : Command) (commands : List Command) → j.left ≡ k.left - 1 → j.own.lines ≡ k.own.lines
    → IsLineOf account spare k s line (command ∷ commands) → IsLineOf account spare j s line commands
next_of account spare k j recipient.Operator line command commands left lines is = (omega (arith, left, is.0), is.1)
next_of account spare k j (recipient.Desk sender) line command commands left lines (inl is) = inl (is.0, omega (arith, left, is.1), is.2 ∙ sym lines)
next_of account spare k j (recipient.Desk sender) line command commands left lines (inr is) = inr (is.0, omega (arith, left, is.1), is.2)
next_of account spare k j recipient.All line command commands left lines is = is

none_left : (account spare : ℕ) (k : Knows) (s : Recipient) (line : ℕ) → IsLineOf account spare k s line [] → k.left ≡ spare
none_left account spare k recipient.Operator line is = is.0 ∙ sym is.1
none_left account spare k (recipient.Desk sender) line (inl is) = omega (arith, is.1)
none_left account spare k (recipient.Desk sender) line (inr is) = is.1 ∙ sym is.2
none_left account spare k recipient.All line is = absurd is

-- what holds of all holds of the first
all_first : {X : Type 0} (P : X → Type 0) (first next : List X) → All P (first ++ next) → All P first
all_first P [] next all = All-nil P
all_first P (x ∷ first) next all = All-cons P x first (All-head P x (first ++ next) all) (all_first P first next (All-tail P x (first ++ next) all))

-- an account that is counted is there
there_account : (m : Market) (d : Desks) (account : ℕ) → CountsAll m d → IsThere d (recipient.Desk account) → IsAccount m.balances account
there_account m d account counts there = (there.0, omega (arith, there.1, counts))

module _ (account : ℕ) (some : 0 < account) where
  -- letters, and then others
  letters_parts : (one other : List Letter) → letters_for account (one ++ other) ≡ letters_for account one ++ letters_for account other
  letters_parts one other = filter-append _ one other

  -- ---- commands

  module _ (s : Recipient) (line spare : ℕ) where
    -- one entry
    one_heard : (m n : Market) (d : Desks) (k : Knows) (entry : ℕ) (c : Command) (commands : List Command) (asked : Record) (a : Answer Outcome) → IsConsistent m → CountsAll m d → IsLearned account m k.market → IsCounted account d k
        → IsLineOf account spare k s line (c ∷ commands) → IsIn (length d.accounts) s → MayAsk s c → IsCommand c → IsOfVersion m.version c → asked ≡ record_of c → (step : Step IsReadAs IsAdmissibleOutcome m asked a n)
        → (j : Knows) × Hears account k (observed account c a (seen account m step.read a)) (letters_for account (letters_of (with_opened (opened_by a) d) (entry_messages (with_opened (opened_by a) d) m n s line entry c a))) j
        × IsLearned account n j.market × IsCounted account (told (with_opened (opened_by a) d) (entry_messages (with_opened (opened_by a) d) m n s line entry c a)) j
        × (j.left ≡ k.left - 1) × (j.own.lines ≡ k.own.lines)
    one_heard m n d k entry c commands asked a consistent counts learned is_counted turn there may fits version asked_is step =
        let d1 = with_opened (opened_by a) d in
        let messages = entry_messages d1 m n s line entry c a in
        let read_is : step.read ≡ Ok c = command_read m.version c asked step.read version (record { fits = fits; encoded = asked_is }) step.encoded in
        let served : ServesRead IsAdmissibleOutcome m (Ok c) a n = subst (λ r. ServesRead IsAdmissibleOutcome m r a n) read_is step.served in
        let told_so = entry_told account some m d k consistent counts learned line entry c s a n (turn_of account spare k s line c commands turn) there may served in
        let same = numbered_mine account some messages d1 k (entry_in d1 m n s line entry c a (in_opened s (opened_by a) d there)) (opened_counted account (opened_by a) d k is_counted) in (
          told_so.known,
          subst (λ r. Hears account k (observed account c a (seen account m r a)) (letters_for account (letters_of d1 messages)) told_so.known) (sym read_is)
              (subst (λ (l : List Letter). Hears account k (observed account c a (seen account m (Ok c) a)) l told_so.known) (sym same.0) told_so.hears),
          told_so.learned,
          record { own = told_so.own ∙ same.1.own; all = told_so.all ∙ same.1.all },
          told_so.left,
          ap (λ (t : Tally). t.lines) told_so.own ∙ (tell_keeps (mine account messages) k).2,
        )

    -- all commands of a line
    commands_heard : (commands : List Command) (m new : Market) (d later : Desks) (k : Knows) (count : ℕ) (pairs : Entries) (letters : List Letter) (noted : List Observation)
        → IsConsistent m → CountsAll m d → IsLearned account m k.market → IsCounted account d k → IsLineOf account spare k s line commands → IsIn (length d.accounts) s
        → All (MayAsk s) commands → All IsCommand commands → All (IsOfVersion m.version) commands
        → AreServedTo account m d count s line commands pairs letters noted new later → IsHeardTo account spare k new later noted letters
    commands_heard [] m new d later k count pairs letters noted consistent counts learned is_counted turn there may fits version is =
        subst (λ (x : List Letter). IsHeardTo account spare k new later noted x) (sym is.1) (subst (λ (x : List Observation). IsHeardTo account spare k new later x []) (sym is.2)
        (subst (λ x. IsHeardTo account spare k x later [] []) (sym is.3) (subst (λ x. IsHeardTo account spare k m x [] []) (sym is.4)
        (record { known = k; hears = (refl, refl); learned = learned; counted = is_counted; left = none_left account spare k s line turn; consistent = consistent; counts = counts }))))
    commands_heard (c ∷ commands) m new d later k count pairs letters noted consistent counts learned is_counted turn there may fits version
        (pair, next, more, others, rest, asked, step, served, pairs_are, letters_are, noted_are) =
        let d1 = with_opened (opened_by pair.answer) d in
        let messages = entry_messages d1 m next s line (count + 1) c pair.answer in
        let here = one_heard m next d k (count + 1) c commands pair.asked pair.answer consistent counts learned is_counted turn there
        (All-head (MayAsk s) c commands may) (All-head IsCommand c commands fits) (All-head (IsOfVersion m.version) c commands version) asked step in
        let consistent_next = consistent_after m pair.asked pair.answer next step.read consistent step.encoded step.served in
        let counts_next = entry_counts m next d pair.asked pair.answer messages counts step in
        let version_next : next.version ≡ m.version = step_version IsAdmissibleOutcome IsReadAs m pair.asked pair.answer next step in
        let there_next : IsIn (length (told d1 messages).accounts) s = subst (λ n. IsIn n s) (sym (told_accounts d1 messages)) (in_opened s (opened_by pair.answer) d there) in
        let following = commands_heard commands next new (told d1 messages) later here.0 (count + 1) more others rest consistent_next counts_next here.2 here.3
        (next_of account spare k here.0 s line c commands here.4 here.5 turn) there_next (All-tail (MayAsk s) c commands may) (All-tail IsCommand c commands fits)
        (subst (λ v. All (IsOfVersion v) commands) (sym version_next) (All-tail (IsOfVersion m.version) c commands version)) served in
        record {
          known = following.known;
          hears = subst (λ (x : List Observation). Hears account k x (letters_for account letters) following.known) (sym noted_are)
              (subst (λ (x : List Letter). Hears account k (observed account c pair.answer (seen account m step.read pair.answer) ++ rest) x following.known) (sym (ap (letters_for account) letters_are ∙ letters_parts (letters_of d1 messages) others))
              (hears_more account (observed account c pair.answer (seen account m step.read pair.answer)) k here.0 following.known rest (letters_for account (letters_of d1 messages)) (letters_for account others) here.1 following.hears));
          learned = following.learned;
          counted = following.counted;
          left = following.left;
          consistent = following.consistent;
          counts = following.counts;
        }

  -- ---- lines

  -- a message to nobody else is to the account
  own_mine : (line entry : Option ℕ) (members : List ℕ) → mine account (record { to = recipient.Desk account; line = line; entry = entry; members = members } ∷ []) ≡ record { to = recipient.Desk account; line = line; entry = entry; members = members } ∷ []
  own_mine line entry members = rw (eq-eqb account account refl) refl

  -- messages of a line that adds no entry, of which the account hears its own
  says_heard : (old new : Market) (d later : Desks) (messages : List Message) (pairs : Entries) (letters : List Letter) (noted first : List Observation) (k base j : Knows)
      → SaysAlone account old d messages pairs letters noted new later → AllIn (length d.accounts) messages → IsCounted account d base → IsConsistent old → CountsAll old d
      → Hears account k first (numbered base (mine account messages)) j → IsLearned account old j.market → j.own ≡ (tell base (mine account messages)).own → j.all ≡ (tell base (mine account messages)).all → j.left ≡ 0
      → IsHeardTo account 0 k new later (first ++ noted) letters
  says_heard old new d later messages pairs letters noted first k base j is all_in is_counted consistent counts hears learned own all left =
      let same = numbered_mine account some messages d base all_in is_counted in
      let letters_are : letters_for account letters ≡ numbered base (mine account messages) = ap (letters_for account) is.1 ∙ same.0 in
      let done : IsHeardTo account 0 k old (told d messages) first letters = record {
        known = j;
        hears = subst (λ (l : List Letter). Hears account k first l j) (sym letters_are) hears;
        learned = learned;
        counted = record { own = own ∙ same.1.own; all = all ∙ same.1.all };
        left = left;
        consistent = consistent;
        counts = told_accounts d messages ∙ counts;
      } in
      subst (λ (x : List Observation). IsHeardTo account 0 k new later x letters) (sym (append-nil first) ∙ ap (λ (l : List Observation). first ++ l) (sym is.2))
      (subst (λ x. IsHeardTo account 0 k x later first letters) (sym is.3) (subst (λ x. IsHeardTo account 0 k old x first letters) (sym is.4) done))

  -- it hears none of them
  unheard : (old new : Market) (d later : Desks) (messages : List Message) (pairs : Entries) (letters : List Letter) (noted : List Observation) (k : Knows)
      → SaysAlone account old d messages pairs letters noted new later → AllIn (length d.accounts) messages → IsCounted account d k → IsConsistent old → CountsAll old d → IsLearned account old k.market → k.left ≡ 0
      → mine account messages ≡ [] → IsHeardTo account 0 k new later noted letters
  unheard old new d later messages pairs letters noted k is all_in is_counted consistent counts learned left none =
      says_heard old new d later messages pairs letters noted [] k k k is all_in is_counted consistent counts (ap (numbered k) none, refl) learned
      (ap (λ (l : List Message). (tell k l).own) (sym none)) (ap (λ (l : List Message). (tell k l).all) (sym none)) left

  -- lines of others change no count of the account
  others_count : (s : Recipient) (d : Desks) (k : Knows) → is_for account s ≡ false → IsThere d s → IsCounted account d k → IsCounted account (with_line d s) k
  others_count recipient.Operator d k other there is = record { own = is.own; all = is.all }
  others_count (recipient.Desk sender) d k other there is = record {
    own = is.own ∙ sym (get_or-set_other d.accounts (sender - 1) (account - 1) _ nothing (λ e. true≢false (sym (eq-eqb sender account (omega (arith, e, some, there.0))) ∙ other)));
    all = is.all;
  }
  others_count recipient.All d k other there is = absurd (true≢false other)

  line_accounts : (d : Desks) (s : Recipient) → length (with_line d s).accounts ≡ length d.accounts
  line_accounts d recipient.Operator = refl
  line_accounts d (recipient.Desk sender) = length-set d.accounts (sender - 1) _
  line_accounts d recipient.All = refl

  in_line : (d : Desks) (s : Recipient) → IsThere d s → IsIn (length (with_line d s).accounts) s
  in_line d recipient.Operator there = tt
  in_line d (recipient.Desk sender) there = (there.0, omega (arith, there.1, line_accounts d (recipient.Desk sender)))
  in_line d recipient.All there = tt

  -- whose line it is that is another's
  other_line : (s : Recipient) (k : Knows) (line : ℕ) (commands : List Command) → is_for account s ≡ false → k.left ≡ 0 → IsLineOf account 0 k s line commands
  other_line recipient.Operator k line commands other left = (left, refl)
  other_line (recipient.Desk sender) k line commands other left = inr (λ same. true≢false (sym (eq-eqb sender account same) ∙ other), left, refl)
  other_line recipient.All k line commands other left = absurd (true≢false other)

  -- the text of another's line
  wish_unheard : (s : Recipient) (w : Wish) (old new : Market) (d later : Desks) (count : ℕ) (text : List ℕ) (pairs : Entries) (letters : List Letter) (noted : List Observation) (k : Knows)
      → is_for account s ≡ false → IsThere d s → IsConsistent old → CountsAll old d → IsLearned account old k.market → IsCounted account d k → k.left ≡ 0
      → IsWish old.version old.tickers d s text w → ComesOfWishTo account old (with_line d s) count s ((tally_of d s).lines + 1) w pairs letters noted new later → IsHeardTo account 0 k new later noted letters
  wish_unheard s wish.Nothing old new d later count text pairs letters noted k other there consistent counts learned is_counted left wished is =
      unheard old new (with_line d s) later [] pairs letters noted k is tt (others_count s d k other there is_counted) consistent (line_accounts d s ∙ counts) learned left refl
  wish_unheard s (wish.Serve asked) old new d later count text pairs letters noted k other there consistent counts learned is_counted left wished is =
      let fits = commands_fit old.version old.tickers text asked consistent.tickers wished.1 in
      commands_heard s ((tally_of d s).lines + 1) 0 (commands_of asked) old new (with_line d s) later k count pairs letters noted consistent (line_accounts d s ∙ counts) learned (others_count s d k other there is_counted)
      (other_line s k ((tally_of d s).lines + 1) (commands_of asked) other left) (in_line d s there) wished.2 fits.0 fits.1 is
  wish_unheard s (wish.Answer q) old new d later count text pairs letters noted k other there consistent counts learned is_counted left wished is =
      unheard old new (with_line d s) later (answer_to s ((tally_of d s).lines + 1) (answer_members old s q) ∷ []) pairs letters noted k is (in_line d s there, tt) (others_count s d k other there is_counted) consistent
      (line_accounts d s ∙ counts) learned left (rw other refl)
  wish_unheard s (wish.Refuse why) old new d later count text pairs letters noted k other there consistent counts learned is_counted left wished is =
      unheard old new (with_line d s) later (error_to s ((tally_of d s).lines + 1) (fault_word why) ∷ []) pairs letters noted k is (in_line d s there, tt) (others_count s d k other there is_counted) consistent
      (line_accounts d s ∙ counts) learned left (rw other refl)

  -- its own lines are counted
  own_count : (d : Desks) (k : Knows) → IsThere d (recipient.Desk account) → IsCounted account d k → IsCounted account (with_line d (recipient.Desk account)) (with_own_line k)
  own_count d k there is = record {
    own = ap (λ (t : Tally). record t { lines = t.lines + 1 }) is.own ∙ sym (get_or-set_same d.accounts (account - 1) _ nothing (omega (arith, there.0, there.1)));
    all = is.all;
  }

  -- a line of its own asks for commands, of which the first are served
  serve_heard : (asked : Asked) (first next : List Command) (old new : Market) (d later : Desks) (count : ℕ) (text : List ℕ) (pairs : Entries) (letters : List Letter) (noted : List Observation) (k : Knows)
      → IsThere d (recipient.Desk account) → IsConsistent old → CountsAll old d → IsLearned account old k.market → IsCounted account d k
      → IsWish old.version old.tickers d (recipient.Desk account) text (wish.Serve asked) → commands_of asked ≡ first ++ next
      → AreServedTo account old (with_line d (recipient.Desk account)) count (recipient.Desk account) ((tally_of d (recipient.Desk account)).lines + 1) first pairs letters noted new later
      → IsHeardTo account (length next) k new later (NextLine text ∷ noted) letters
  serve_heard asked first next old new d later count text pairs letters noted k there consistent counts learned is_counted wished parts served =
      let own : Recipient = recipient.Desk account in
      let k1 : Knows = with_own_line k in
      let line : ℕ = (tally_of d own).lines + 1 in
      let line_is : k1.own.lines ≡ line = ap (λ (t : Tally). t.lines + 1) is_counted.own in
      let counted1 = own_count d k there is_counted in
      let fits = commands_fit old.version old.tickers text asked consistent.tickers wished.1 in
      let k2 : Knows = after_wish account k1 (wish.Serve asked) in
      let size : k2.left ≡ length first + length next = ap length parts ∙ length-append first next in
      let firsts : (P : Command → Type 0) → All P (commands_of asked) → All P first = λ P all. all_first P first next (subst (All P) parts all) in
      let known : IsWish k.market.version k.market.holding.tickers (no_desks 0) own text (wish.Serve asked) =
      subst (λ v. IsWish v k.market.holding.tickers (no_desks 0) own text (wish.Serve asked)) (sym learned.version)
      (subst (λ ts. IsWish old.version ts (no_desks 0) own text (wish.Serve asked)) (sym learned.holding.tickers) (wish_alike old.version old.tickers d (no_desks 0) account text (wish.Serve asked) wished)) in
      let rest = commands_heard own line (length next) first old new (with_line d own) later k2 count pairs letters noted consistent (line_accounts d own ∙ counts) learned (record { own = counted1.own; all = counted1.all })
      (inl (refl, size, sym line_is)) (in_line d own there) (firsts (MayAsk own) wished.2) (firsts IsCommand fits.0) (firsts (IsOfVersion old.version) fits.1) served in
      record {
        known = rest.known;
        hears = (wish.Serve asked, letters_for account letters, known, rest.hears, refl);
        learned = rest.learned;
        counted = rest.counted;
        left = rest.left;
        consistent = rest.consistent;
        counts = rest.counts;
      }

  -- the text of a line of its own
  wish_heard : (w : Wish) (old new : Market) (d later : Desks) (count : ℕ) (text : List ℕ) (pairs : Entries) (letters : List Letter) (noted : List Observation) (k : Knows)
      → IsThere d (recipient.Desk account) → IsConsistent old → CountsAll old d → IsLearned account old k.market → IsCounted account d k → k.left ≡ 0
      → IsWish old.version old.tickers d (recipient.Desk account) text w
      → ComesOfWishTo account old (with_line d (recipient.Desk account)) count (recipient.Desk account) ((tally_of d (recipient.Desk account)).lines + 1) w pairs letters noted new later
      → IsHeardTo account 0 k new later (NextLine text ∷ noted) letters
  wish_heard w old new d later count text pairs letters noted k there consistent counts learned is_counted left wished is = by w wished is
    where
      own : Recipient
      own = recipient.Desk account

      k1 : Knows
      k1 = with_own_line k

      line : ℕ
      line = (tally_of d own).lines + 1

      line_is : k1.own.lines ≡ line
      line_is = ap (λ (t : Tally). t.lines + 1) is_counted.own

      counted1 : IsCounted account (with_line d own) k1
      counted1 = own_count d k there is_counted

      counts1 : CountsAll old (with_line d own)
      counts1 = line_accounts d own ∙ counts

      in1 : IsIn (length (with_line d own).accounts) own
      in1 = in_line d own there

      known : (x : Wish) → IsWish old.version old.tickers d own text x → IsWish k.market.version k.market.holding.tickers (no_desks 0) own text x
      known x is_so = subst (λ v. IsWish v k.market.holding.tickers (no_desks 0) own text x) (sym learned.version)
          (subst (λ ts. IsWish old.version ts (no_desks 0) own text x) (sym learned.holding.tickers) (wish_alike old.version old.tickers d (no_desks 0) account text x is_so))

      -- a message that answers it
      answered : (x : Wish) (members : List ℕ) → IsWish old.version old.tickers d own text x → wish_messages account k1 x ≡ record { to = own; line = Some line; entry = None; members = members } ∷ [] → commands_left account x ≡ 0
          → SaysAlone account old (with_line d own) (record { to = own; line = Some line; entry = None; members = members } ∷ []) pairs letters noted new later → IsHeardTo account 0 k new later (NextLine text ∷ noted) letters
      answered x members wished_so messages_are none said =
          let m : List Message = record { to = own; line = Some line; entry = None; members = members } ∷ [] in
          let whole : mine account m ≡ wish_messages account k1 x = own_mine (Some line) None members ∙ sym messages_are in
          says_heard old new (with_line d own) later m pairs letters noted (NextLine text ∷ []) k k1 (after_wish account k1 x) said (in1, tt) counted1 consistent counts1
          (x, [], known x wished_so, (refl, refl), ap (numbered k1) whole ∙ sym (append-nil (numbered k1 (wish_messages account k1 x))))
          (subst (IsLearned account old) (sym (tell_keeps (wish_messages account k1 x) k1).0) learned)
          (ap (λ (l : List Message). (tell k1 l).own) (sym whole)) (ap (λ (l : List Message). (tell k1 l).all) (sym whole)) none

      by : (x : Wish) → IsWish old.version old.tickers d own text x → ComesOfWishTo account old (with_line d own) count own line x pairs letters noted new later → IsHeardTo account 0 k new later (NextLine text ∷ noted) letters
      by wish.Nothing wished_so said =
          says_heard old new (with_line d own) later [] pairs letters noted (NextLine text ∷ []) k k1 (after_wish account k1 wish.Nothing) said tt counted1 consistent counts1
          (wish.Nothing, [], known wish.Nothing wished_so, (refl, refl), refl) learned refl refl refl
      by (wish.Serve asked) wished_so said =
          serve_heard asked (commands_of asked) [] old new d later count text pairs letters noted k there consistent counts learned is_counted wished_so (sym (append-nil (commands_of asked))) said
      by (wish.Answer q) wished_so said =
          let here = there_account old d account counts there in
          answered (wish.Answer q) (answer_members old own q) wished_so
          (ap (λ n. answer_to own n (known_answer account k.market q) ∷ []) line_is ∙ ap (λ (l : List ℕ). answer_to own line l ∷ []) (sym (answer_is account old k.market consistent here learned q wished_so.2))) refl said
      by (wish.Refuse why) wished_so said =
          answered (wish.Refuse why) _ wished_so (ap (λ n. error_to own n (fault_word why) ∷ []) line_is) refl said

  -- nobody sends for all
  no_sender : (from : ℕ) → recipient.All ≡ recipient_of from → ⊥
  no_sender from is = by (from == 0) is
    where
      by : (b : Bool) → recipient.All ≡ (if b then recipient.Operator else recipient.Desk from) → ⊥
      by true e = cc
      by false e = cc

  -- a line that another sent, or nobody
  read_count : (d : Desks) (k : Knows) → IsCounted account d k → IsCounted account (with_read d) k
  read_count d k is = record { own = is.own; all = is.all }

  -- what comes of a line
  comes_heard : (said : Heard) (line : List ℕ) (old new : Market) (d later : Desks) (count : ℕ) (pairs : Entries) (letters : List Letter) (noted : List Observation) (k : Knows)
      → IsHeard d line said → IsConsistent old → CountsAll old d → IsLearned account old k.market → IsCounted account d k → k.left ≡ 0
      → ComesTo account old d count said pairs letters noted new later → IsHeardTo account 0 k new later (own_line account said ++ noted) letters
  comes_heard heard.Nothing line old new d later count pairs letters noted k is_heard consistent counts learned is_counted left is =
      unheard old new (with_read d) later [] pairs letters noted k is tt (read_count d k is_counted) consistent counts learned left refl
  comes_heard heard.Noise line old new d later count pairs letters noted k is_heard consistent counts learned is_counted left is =
      unheard old new (with_read d) later (no_envelope (d.total.lines + 1) ∷ []) pairs letters noted k is (tt, tt) (read_count d k is_counted) consistent counts learned left refl
  comes_heard (heard.Other recipient.Operator) line old new d later count pairs letters noted k is_heard consistent counts learned is_counted left is =
      unheard old new (with_read d) later (expected recipient.Operator (d.operator.lines + 1) ∷ []) pairs letters noted k is (tt, tt) (read_count d k is_counted) consistent counts learned left refl
  comes_heard (heard.Other (recipient.Desk sender)) line old new d later count pairs letters noted k (sent, sent_is, from_is, not_next) consistent counts learned is_counted left is = by (eqb_tells sender account)
    where
      there : IsThere d (recipient.Desk sender)
      there = subst (IsThere d) (sym from_is) sent_is.there

      by : (((sender == account) ≡ true) × (sender ≡ account)) ⊎ (((sender == account) ≡ false) × (sender ≢ account)) → IsHeardTo account 0 k new later ((if sender == account then OtherLine ∷ [] else []) ++ noted) letters
      by (inr other) =
          rw other.0 (unheard old new (with_read d) later (expected (recipient.Desk sender) ((tally_of d (recipient.Desk sender)).lines + 1) ∷ []) pairs letters noted k is (there, tt) (read_count d k is_counted) consistent counts learned left (rw other.0 refl))
      by (inl same) =
          let own : List Message = expected (recipient.Desk account) (k.own.lines + 1) ∷ [] in
          let messages : List Message = expected (recipient.Desk sender) ((tally_of d (recipient.Desk sender)).lines + 1) ∷ [] in
          let are : messages ≡ own = ap (λ a. expected (recipient.Desk a) ((tally_of d (recipient.Desk a)).lines + 1) ∷ []) same.1 ∙ ap (λ (t : Tally). expected (recipient.Desk account) (t.lines + 1) ∷ []) (sym is_counted.own) in
          let whole : mine account messages ≡ own = ap (mine account) are ∙ own_mine None None _ in
          rw same.0 (says_heard old new (with_read d) later messages pairs letters noted (OtherLine ∷ []) k k (tell k own) is (there, tt) (read_count d k is_counted) consistent counts
          ([], (refl, refl), ap (numbered k) whole ∙ sym (append-nil (numbered k own))) learned (ap (λ (l : List Message). (tell k l).own) (sym whole)) (ap (λ (l : List Message). (tell k l).all) (sym whole)) left)
  comes_heard (heard.Other recipient.All) line old new d later count pairs letters noted k (sent, sent_is, from_is, not_next) consistent counts learned is_counted left is = absurd (no_sender sent.from from_is)
  comes_heard (heard.From recipient.Operator text) line old new d later count pairs letters noted k is_heard consistent counts learned is_counted left (w, wished, is) =
      wish_unheard recipient.Operator w old new d later count text pairs letters noted k refl tt consistent counts learned is_counted left wished is
  comes_heard (heard.From (recipient.Desk sender) text) line old new d later count pairs letters noted k (sent, sent_is, from_is, text_is, next) consistent counts learned is_counted left (w, wished, is) = by (eqb_tells sender account)
    where
      there : IsThere d (recipient.Desk sender)
      there = subst (IsThere d) (sym from_is) sent_is.there

      by : (((sender == account) ≡ true) × (sender ≡ account)) ⊎ (((sender == account) ≡ false) × (sender ≢ account)) → IsHeardTo account 0 k new later ((if sender == account then NextLine text ∷ [] else []) ++ noted) letters
      by (inr other) = rw other.0 (wish_unheard (recipient.Desk sender) w old new d later count text pairs letters noted k other.0 there consistent counts learned is_counted left wished is)
      by (inl same) =
          rw same.0 (wish_heard w old new d later count text pairs letters noted k (subst (λ a. IsThere d (recipient.Desk a)) same.1 there) consistent counts learned is_counted left
          (subst (λ a. IsWish old.version old.tickers d (recipient.Desk a) text w) same.1 wished)
          (subst (λ a. ComesOfWishTo account old (with_line d (recipient.Desk a)) count (recipient.Desk a) ((tally_of d (recipient.Desk a)).lines + 1) w pairs letters noted new later) same.1 is))
  comes_heard (heard.From recipient.All text) line old new d later count pairs letters noted k (sent, sent_is, from_is, text_is, next) consistent counts learned is_counted left is = absurd (no_sender sent.from from_is)

  -- all lines
  pub lines_heard : (lines : List (List ℕ)) (old new : Market) (d later : Desks) (count : ℕ) (pairs : Entries) (letters : List Letter) (noted : List Observation) (k : Knows)
      → IsConsistent old → CountsAll old d → IsLearned account old k.market → IsCounted account d k → k.left ≡ 0
      → AreLinesServedTo account old d count lines pairs letters noted new later → IsHeardTo account 0 k new later noted letters
  lines_heard [] old new d later count pairs letters noted k consistent counts learned is_counted left is =
      subst (λ (x : List Letter). IsHeardTo account 0 k new later noted x) (sym is.1) (subst (λ (x : List Observation). IsHeardTo account 0 k new later x []) (sym is.2)
      (subst (λ x. IsHeardTo account 0 k x later [] []) (sym is.3) (subst (λ x. IsHeardTo account 0 k old x [] []) (sym is.4)
      (record { known = k; hears = (refl, refl); learned = learned; counted = is_counted; left = left; consistent = consistent; counts = counts }))))
  lines_heard (line ∷ lines) old new d later count pairs letters noted k consistent counts learned is_counted left
      (first, own, now, next, between, more, others, rest, (said, after, is, comes, now_is), served, pairs_are, letters_are, noted_are) =
      let here = comes_heard said line old next d between count first own after k is consistent counts learned is_counted left comes in
      let following = lines_heard lines next new between later (count + length first) more others rest here.known here.consistent here.counts here.learned here.counted here.left served in
      record {
        known = following.known;
        hears = subst (λ (x : List Observation). Hears account k x (letters_for account letters) following.known) (sym (noted_are ∙ ap (λ (l : List Observation). l ++ rest) now_is))
            (subst (λ (x : List Letter). Hears account k ((own_line account said ++ after) ++ rest) x following.known) (sym (ap (letters_for account) letters_are ∙ letters_parts own others))
            (hears_more account (own_line account said ++ after) k here.known following.known rest (letters_for account own) (letters_for account others) here.hears following.hears));
        learned = following.learned;
        counted = following.counted;
        left = following.left;
        consistent = following.consistent;
        counts = following.counts;
      }

  -- ---- lines of which the last is served in part

  -- a line of which the first commands are served
  begun_heard : (old new : Market) (d later : Desks) (count : ℕ) (line : List ℕ) (pairs : Entries) (letters : List Letter) (noted : List Observation) (k : Knows)
      → IsConsistent old → CountsAll old d → IsLearned account old k.market → IsCounted account d k → k.left ≡ 0
      → IsLineBegunTo account old d count line pairs letters noted new later → (left : ℕ) × IsHeardTo account left k new later noted letters
  begun_heard old new d later count line pairs letters noted k consistent counts learned is_counted left begun = by begun.sender begun.is_heard begun.wished begun.served begun.noted_is
    where
      by : (s : Recipient) → IsHeard d line (heard.From s begun.text) → IsWish old.version old.tickers d s begun.text (wish.Serve begun.asked)
          → AreServedTo account old (with_line d s) count s ((tally_of d s).lines + 1) begun.first pairs letters begun.after new later → noted ≡ own_line account (heard.From s begun.text) ++ begun.after
          → (left : ℕ) × IsHeardTo account left k new later noted letters
      by s (sent, sent_is, from_is, text_is, next) wished served noted_is = at s (subst (IsThere d) (sym from_is) sent_is.there) from_is wished served noted_is
        where
          others : (x : Recipient) → is_for account x ≡ false → IsThere d x → IsWish old.version old.tickers d x begun.text (wish.Serve begun.asked)
              → AreServedTo account old (with_line d x) count x ((tally_of d x).lines + 1) begun.first pairs letters begun.after new later → IsHeardTo account 0 k new later begun.after letters
          others x other there wished_so served_so =
              let fits = commands_fit old.version old.tickers begun.text begun.asked consistent.tickers wished_so.1 in
              let firsts : (P : Command → Type 0) → All P (commands_of begun.asked) → All P begun.first = λ P all. all_first P begun.first begun.next (subst (All P) begun.parts all) in
              commands_heard x ((tally_of d x).lines + 1) 0 begun.first old new (with_line d x) later k count pairs letters begun.after consistent (line_accounts d x ∙ counts) learned (others_count x d k other there is_counted)
              (other_line x k ((tally_of d x).lines + 1) begun.first other left) (in_line d x there) (firsts (MayAsk x) wished_so.2) (firsts IsCommand fits.0) (firsts (IsOfVersion old.version) fits.1) served_so

          at : (x : Recipient) → IsThere d x → x ≡ recipient_of sent.from → IsWish old.version old.tickers d x begun.text (wish.Serve begun.asked)
              → AreServedTo account old (with_line d x) count x ((tally_of d x).lines + 1) begun.first pairs letters begun.after new later → noted ≡ own_line account (heard.From x begun.text) ++ begun.after
              → (left : ℕ) × IsHeardTo account left k new later noted letters
          at recipient.Operator there from_so wished_so served_so noted_so =
              (0, subst (λ (l : List Observation). IsHeardTo account 0 k new later l letters) (sym noted_so) (others recipient.Operator refl there wished_so served_so))
          at (recipient.Desk sender) there from_so wished_so served_so noted_so = own (eqb_tells sender account)
            where
              own : (((sender == account) ≡ true) × (sender ≡ account)) ⊎ (((sender == account) ≡ false) × (sender ≢ account)) → (left : ℕ) × IsHeardTo account left k new later noted letters
              own (inr other) =
                  let plain : noted ≡ begun.after = noted_so ∙ ap (λ (b : Bool). (if b then NextLine begun.text ∷ [] else []) ++ begun.after) other.0 in
                  (0, subst (λ (l : List Observation). IsHeardTo account 0 k new later l letters) (sym plain) (others (recipient.Desk sender) other.0 there wished_so served_so))
              own (inl same) =
                  let plain : noted ≡ NextLine begun.text ∷ begun.after = noted_so ∙ ap (λ (b : Bool). (if b then NextLine begun.text ∷ [] else []) ++ begun.after) same.0 in (
                    length begun.next,
                    subst (λ (l : List Observation). IsHeardTo account (length begun.next) k new later l letters) (sym plain)
                        (serve_heard begun.asked begun.first begun.next old new d later count begun.text pairs letters begun.after k (subst (λ a. IsThere d (recipient.Desk a)) same.1 there) consistent counts learned is_counted
                        (subst (λ a. IsWish old.version old.tickers d (recipient.Desk a) begun.text (wish.Serve begun.asked)) same.1 wished_so) begun.parts
                        (subst (λ a. AreServedTo account old (with_line d (recipient.Desk a)) count (recipient.Desk a) ((tally_of d (recipient.Desk a)).lines + 1) begun.first pairs letters begun.after new later) same.1 served_so)),
                  )
          at recipient.All there from_so wished_so served_so noted_so = absurd (no_sender sent.from from_so)

  -- lines, and the first commands of one more
  into_heard : (old new : Market) (d later : Desks) (count : ℕ) (lines : List (List ℕ)) (line : List ℕ) (pairs : Entries) (letters : List Letter) (noted : List Observation) (k : Knows)
      → IsConsistent old → CountsAll old d → IsLearned account old k.market → IsCounted account d k → k.left ≡ 0
      → AreServedIntoTo account old d count lines line pairs letters noted new later → (left : ℕ) × IsHeardTo account left k new later noted letters
  into_heard old new d later count lines line pairs letters noted k consistent counts learned is_counted left into =
      let here = lines_heard lines old into.mid d into.between count into.first into.own into.now k consistent counts learned is_counted left into.whole in
      let begun = begun_heard into.mid new into.between later (count + length into.first) line into.more into.others into.rest here.known here.consistent here.counts here.learned here.counted here.left into.begun in (
        begun.0,
        record {
          known = begun.1.known;
          hears = subst (λ (x : List Observation). Hears account k x (letters_for account letters) begun.1.known) (sym into.noted_is)
              (subst (λ (x : List Letter). Hears account k (into.now ++ into.rest) x begun.1.known) (sym (ap (letters_for account) into.letters_are ∙ letters_parts into.own into.others))
              (hears_more account into.now k here.known begun.1.known into.rest (letters_for account into.own) (letters_for account into.others) here.hears begun.1.hears));
          learned = begun.1.learned;
          counted = begun.1.counted;
          left = begun.1.left;
          consistent = begun.1.consistent;
          counts = begun.1.counts;
        },
      )

  -- the first of some lines
  pub first_heard : (old : Market) (d : Desks) (count : ℕ) (lines : List (List ℕ)) (pairs : Entries) (letters : List Letter) (noted : List Observation) (k : Knows)
      → IsConsistent old → CountsAll old d → IsLearned account old k.market → IsCounted account d k → k.left ≡ 0
      → AreFirstServedTo account old d count lines pairs letters noted → (known : Knows) × Hears account k noted (letters_for account letters) known
  first_heard old d count lines pairs letters noted k consistent counts learned is_counted left are = by are.served
    where
      by : AreLinesServedTo account old d count are.whole pairs letters noted are.new are.later
          ⊎ ((line : List ℕ) × (more : List (List ℕ)) × (are.rest ≡ line ∷ more) × AreServedIntoTo account old d count are.whole line pairs letters noted are.new are.later)
          → (known : Knows) × Hears account k noted (letters_for account letters) known
      by (inl whole) = let found = lines_heard are.whole old are.new d are.later count pairs letters noted k consistent counts learned is_counted left whole in (found.known, found.hears)
      by (inr (line, more, rest_is, into)) =
          let found = into_heard old are.new d are.later count are.whole line pairs letters noted k consistent counts learned is_counted left into in
          (found.1.known, found.1.hears)
