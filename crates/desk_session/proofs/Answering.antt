-- A command that was served, or whose entry was taken, is told of, and all accounts are counted.
use Rattle.std.proofs.Common.{◌≡◌, ℕ, ◌+◌, ◌^◌, ◌<◌, List, [], ◌++◌, length, refl, sym, ap, subst, ◌∙◌, arith}
use Rattle.wire_records.specs.Records.{Record, encoding, AreEncoding}
use Rattle.wire_records.specs.Commands.{Command, Answer, Plain, Batch, Pair}
use Rattle.wire_records.specs.CommandRecords.{record_of, IsCommand, HasShortRow}
use Rattle.wire_records.specs.Versions.{IsReadAs}
use Rattle.wire_records.specs.declared.reply.Reply.{Reply}
use Rattle.wire_records.proofs.Readings.{command_short}
use Rattle.flow_accounts.specs.Balances.{account_count}
use Rattle.flow_orders.specs.Orders as book
use Rattle.flow_orders.specs.Outcomes.{Outcome, BatchRule, IsAdmissibleOutcome}
use Rattle.canonical_rule.specs.Canonical.{IsCanonicalOutcome}
use Rattle.batch_outcome.specs.Published.{outcome_of}
use Rattle.journal_records.specs.Pairs.{IsPair, pair_encoding}
use Rattle.journal_records.specs.Replies.{EncodesAnswer, answer_record}
use Rattle.market_rules.specs.Market.{Market, IsConsistent}
use Rattle.market_rules.specs.Step.{ServesRead}
use Rattle.market_rules.specs.Journal.{Step}
use Rattle.market_rules.proofs.LawProofs.{read_numbers_one}
use Rattle.batch_audit.specs.Legal.{IsLegalPair}
use Rattle.exchange_session.specs.Serving.{ServesCommand, IsToldOf}
use Rattle.exchange_session.specs.Halves.{IsAnswered, IsHeld, after_held}
use Rattle.exchange_session.specs.declared.session.Served.TheVariants as variants
use Rattle.exchange_session.specs.declared.answered.HeldBatch.{HeldBatch}
use Rattle.exchange_session.specs.declared.answered.Answered.{Answered}
use Rattle.exchange_session.specs.declared.answered.Answered.TheVariants as answered
use Rattle.answer_text.specs.declared.header.Recipient.{Recipient}
use Rattle.desk_messages.specs.Desks.{Desks}
use Rattle.desk_messages.specs.Messages.{Message, opened_by, with_opened, served_messages, told}
use Rattle.desk_messages.proofs.Telling.{told_accounts}
use Rattle.desk_session.specs.Talks.{Talk, says, says_of}
use Rattle.desk_session.specs.Lines.{told_of_fills, entry_messages}
use Rattle.desk_session.specs.States.{State, CountsAccounts, Answers, Serves, IsReplayed}
use Rattle.desk_session.specs.Private.{FitsFills}
use Rattle.desk_session.specs.declared.session.Replayed.TheVariants.{Same}
use Rattle.desk_session.proofs.Counting.{with_more, step_accounts, opened_accounts, batch_tickers, batch_numbers}
use Rattle.desk_session.proofs.Fitting.{fits_settled, served_as_seen, batch_made}

-- an entry begins with its command's record
entry_begins : (pair : Pair Record Outcome) (text : List ℕ) → text ≡ pair_encoding pair → (rest : List ℕ) × (text ≡ encoding pair.asked ++ rest)
unfolding pair_encoding
entry_begins pair text is = (encoding (answer_record pair.answer), is)

-- what was put into the buffer begins with the command's record
pub asked_written : (a : Answered) (old : Market) (command : Command) (new : Market) (text : List ℕ) → IsAnswered old command new text a → (rest : List ℕ) × (text ≡ encoding (record_of command) ++ rest)
asked_written (answered.Plain reply) old command new text is = entry_begins (record { asked = record_of command; answer = is.answers.answer }) text is.answers.encoded
asked_written (answered.Batch held) old command new text is = entry_begins (record { asked = record_of command; answer = is.0.serves.answers.answer }) text is.0.serves.answers.encoded

-- all messages of an entry, by the tickers and the live orders
abbrev pub messages_of : (tickers : List (List ℕ)) (orders : List book.Order) → Recipient → (line entry : ℕ) → Command → Answer Outcome → Desks → List Message
messages_of tickers orders sender line entry command answer d =
    served_messages (length d.accounts) sender line entry tickers command answer ++ told_of_fills (length d.accounts) orders answer

-- all accounts are counted after a command was answered
counts_answered : (Rule : BatchRule) (old new : State) (sender : Recipient) (line : ℕ) (command : Command) (pair : Pair Record Outcome) → CountsAccounts old → Answers Rule old sender line command pair new
    → CountsAccounts new
counts_answered Rule old new sender line command pair counted is =
    let opened = opened_by pair.answer in
    ap (λ (x : Talk). length x.desks.accounts) is.told
    ∙ told_accounts (with_opened opened old.talk.desks) (entry_messages (with_opened opened old.talk.desks) old.market new.market sender line (old.entries + 1) command pair.answer)
    ∙ opened_accounts opened old.talk.desks
    ∙ ap (with_more opened) counted
    ∙ sym (step_accounts Rule old.market pair.asked pair.answer new.market is.step)

pub served_counts : (old new : State) (sender : Recipient) (line : ℕ) (command : Command) → CountsAccounts old → (pair : Pair Record Outcome) × Serves old sender line command pair new → CountsAccounts new
served_counts old new sender line command counted (pair, is) = counts_answered IsCanonicalOutcome old new sender line command pair counted is.answers

pub replayed_counts : (old new : State) (sender : Recipient) (line : ℕ) (command : Command) (pair : Record × Record) → CountsAccounts old → IsReplayed Same old sender line command pair new → CountsAccounts new
replayed_counts old new sender line command pair counted (taken, asked, encodes, is) = counts_answered IsAdmissibleOutcome old new sender line command taken counted is

-- what is told of a batch that was answered fits the live orders
pub fits_held : (old new : Market) (command : Command) (text : List ℕ) (held : HeldBatch) (seen : Answer Outcome) (accounts : ℕ) → IsHeld old command text held × (new ≡ old) → old.next_order + 1 < 2 ^ 64
    → ((pair : Pair Record Outcome) → IsPair pair → text ≡ pair_encoding pair → IsToldOf pair (variants.Batch held.place) → seen ≡ pair.answer)
    → IsConsistent new → accounts ≡ account_count old.balances → FitsFills accounts new.orders seen
fits_held old new command text held seen accounts (is, same) few reads consistent counted =
    let numbers = batch_numbers old (outcome_of old.orders held.outcome) in
    let pair : Pair Record Outcome = record { asked = record_of command; answer = is.serves.answers.answer } in
    let answer_is : seen ≡ Batch (old.batches + 1) (outcome_of old.orders held.outcome) = reads pair (is.serves.answers.fits (omega (arith, numbers, few))) is.serves.answers.encoded is.serves.told_of ∙ is.answer in
    let fits : FitsFills (account_count old.balances) old.orders (Batch (old.batches + 1) (outcome_of old.orders held.outcome)) =
    fits_settled old held.outcome (old.batches + 1) (subst IsConsistent same consistent) is.right in
    subst (λ n. FitsFills n new.orders seen) (sym counted)
    (subst (λ (m : Market). FitsFills (account_count old.balances) m.orders seen) (sym same) (subst (FitsFills (account_count old.balances) old.orders) (sym answer_is) fits))

module _ (old new : Market) (t t' : Talk) (entries now_entries : ℕ) (entry text : List ℕ) (sender : Recipient) (line : ℕ) (command : Command) (is_next : now_entries ≡ entries + 1) where
  abbrev before : State
  before = record { market = old; talk = t; entries = entries; entry = entry }

  abbrev after : Market → State
  after market = record { market = market; talk = t'; entries = now_entries; entry = text }

  -- a command without a batch
  pub serves_plain : (mid : Market) (reply : Reply) → new ≡ mid → ServesCommand old command mid text (variants.Plain reply) → old.next_order + 1 < 2 ^ 64
      → t' ≡ says_of t (opened_by (Plain reply)) (messages_of mid.tickers mid.orders sender line now_entries command (Plain reply))
      → (pair : Pair Record Outcome) × Serves before sender line command pair (after new)
  serves_plain mid reply same serves_mid few says_mid =
      let serves : ServesCommand old command new text (variants.Plain reply) = subst (λ x. ServesCommand old command x text (variants.Plain reply)) (sym same) serves_mid in
      let says_new : t' ≡ says_of t (opened_by (Plain reply)) (messages_of new.tickers new.orders sender line now_entries command (Plain reply)) =
      subst (λ (x : Market). t' ≡ says_of t (opened_by (Plain reply)) (messages_of x.tickers x.orders sender line now_entries command (Plain reply))) (sym same) says_mid in
      let pair : Pair Record Outcome = record { asked = record_of command; answer = Plain reply } in
      let step : Step IsReadAs IsCanonicalOutcome old (record_of command) (Plain reply) new = subst (λ x. Step IsReadAs IsCanonicalOutcome old (record_of command) x new) serves.told_of serves.answers.step in
      let numbers = read_numbers_one IsCanonicalOutcome old step.read (Plain reply) new step.served in
      let fits : IsPair pair = subst (λ x. IsPair (record { asked = record_of command; answer = x })) serves.told_of (serves.answers.fits (omega (arith, numbers, few))) in (
        pair,
        record {
          answers = record {
            asked = refl;
            step = step;
            told = subst (λ n. t' ≡ says_of t (opened_by (Plain reply)) (λ d. entry_messages d old new sender line n command (Plain reply))) is_next says_new;
            counted = is_next;
          };
          fits = fits;
          entry = serves.answers.encoded ∙ ap (λ x. pair_encoding (record { asked = record_of command; answer = x })) serves.told_of;
        },
      )

  -- a command with a batch
  pub serves_batch : (held : HeldBatch) (seen : Answer Outcome) → IsHeld old command text held → old.next_order + 1 < 2 ^ 64
      → ((pair : Pair Record Outcome) → IsPair pair → text ≡ pair_encoding pair → IsToldOf pair (variants.Batch held.place) → seen ≡ pair.answer)
      → (mid : Market) → mid ≡ old → t' ≡ says_of t (opened_by seen) (messages_of mid.tickers mid.orders sender line now_entries command seen) → new ≡ after_held mid held
      → (pair : Pair Record Outcome) × Serves before sender line command pair (after new)
  serves_batch held seen is few reads mid same_mid says_mid made_mid =
      let says : t' ≡ says_of t (opened_by seen) (messages_of old.tickers old.orders sender line now_entries command seen) =
      subst (λ (x : Market). t' ≡ says_of t (opened_by seen) (messages_of x.tickers x.orders sender line now_entries command seen)) same_mid says_mid in
      let made : new ≡ after_held old held = made_mid ∙ ap (λ m. after_held m held) same_mid in
      let numbers = batch_numbers old (outcome_of old.orders held.outcome) in
      let answer : Answer Outcome = is.serves.answers.answer in
      let pair : Pair Record Outcome = record { asked = record_of command; answer = answer } in
      let fits : IsPair pair = is.serves.answers.fits (omega (arith, numbers, few)) in
      let same : seen ≡ answer = reads pair fits is.serves.answers.encoded is.serves.told_of in
      let tickers : new.tickers ≡ old.tickers = ap (λ (m : Market). m.tickers) made ∙ batch_tickers old (outcome_of old.orders held.outcome) in
      let one : t' ≡ says_of t (opened_by answer) (messages_of old.tickers old.orders sender line now_entries command answer) =
      subst (λ a. t' ≡ says_of t (opened_by a) (messages_of old.tickers old.orders sender line now_entries command a)) same says in
      let two : t' ≡ says_of t (opened_by answer) (messages_of new.tickers old.orders sender line now_entries command answer) =
      subst (λ ts. t' ≡ says_of t (opened_by answer) (messages_of ts old.orders sender line now_entries command answer)) (sym tickers) one in
      let three : t' ≡ says_of t (opened_by answer) (messages_of new.tickers old.orders sender line (entries + 1) command answer) =
      subst (λ n. t' ≡ says_of t (opened_by answer) (messages_of new.tickers old.orders sender line n command answer)) is_next two in (
        pair,
        record {
          answers = record {
            asked = refl;
            step = subst (λ m. Step IsReadAs IsCanonicalOutcome old (record_of command) answer m) (sym made) is.serves.answers.step;
            told = three;
            counted = is_next;
          };
          fits = fits;
          entry = is.serves.answers.encoded;
        },
      )

  -- an entry that was taken
  pub replays : (pair : Record × Record) (seen : Answer Outcome) → EncodesAnswer pair.1 seen → pair.0 ≡ record_of command → (legal : IsLegalPair old pair new)
      → t' ≡ says_of t (opened_by seen) (λ d. entry_messages d old new sender line now_entries command seen) → IsReplayed Same before sender line command pair (after new)
  replays pair seen encodes same legal told = (
    record { asked = pair.0; answer = seen },
    refl,
    encodes,
    record {
      asked = same;
      step = record { read = legal.step.read; encoded = legal.step.encoded; served = served_as_seen old pair new seen legal encodes };
      told = rw (← is_next) told;
      counted = is_next;
    },
  )

-- a record that was written into an empty buffer
pub record_written : (command : Command) (before bytes : List ℕ) → IsCommand command → HasShortRow command → bytes ≡ before ++ encoding (record_of command) → before ≡ [] → AreEncoding (record_of command) bytes
record_written command before bytes fits short written empty =
    let is = command_short command fits short in
    record {
      tag = is.tag;
      body = omega (arith, is.body);
      encoded = written ∙ ap (λ x. x ++ encoding (record_of command)) empty;
    }

-- a batch is told of by the tickers that the market has after it
pub batch_told : (m mid n : Market) (pair : Record × Record) (t t' : Talk) (sender : Recipient) (line entry : ℕ) (command : Command) (a : Answer Outcome) (number : ℕ) (o : Outcome)
    → a ≡ Batch number o → mid ≡ m → EncodesAnswer pair.1 a → IsLegalPair mid pair n
    → t' ≡ says_of t (opened_by a) (λ d. entry_messages d m m sender line entry command a)
    → t' ≡ says_of t (opened_by a) (λ d. entry_messages d m n sender line entry command a)
batch_told m mid n pair t t' sender line entry command a number o is same encodes legal says =
    let served = served_as_seen mid pair n a legal encodes in
    let made = batch_made mid legal.step.read number o n (subst (λ x. ServesRead IsAdmissibleOutcome mid legal.step.read x n) is served) in
    let tickers : n.tickers ≡ m.tickers = ap (λ (x : Market). x.tickers) made ∙ batch_tickers mid o ∙ ap (λ (x : Market). x.tickers) same in
    subst (λ ts. t' ≡ says_of t (opened_by a) (messages_of ts m.orders sender line entry command a)) (sym tickers) says
