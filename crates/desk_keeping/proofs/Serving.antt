-- A command that was served.
use Rattle.std.proofs.Common.{◌≡◌, ℕ, ◌+◌, ◌≤◌, List, [], ◌∷◌, ◌++◌, length, length-append, refl, sym, ap, ◌∙◌, arith}
use Rattle.std.proofs.lemmas.List.{append-nil}
use Rattle.wire_records.specs.Records.{Record, encoding}
use Rattle.wire_records.specs.Commands.{Command, Pair, Answer, Plain}
use Rattle.wire_records.specs.declared.reply.Reply.{Reply}
use Rattle.wire_records.proofs.Encoded.{length-encoding}
use Rattle.flow_orders.specs.Outcomes.{Outcome}
use Rattle.canonical_rule.specs.Canonical.{IsCanonicalOutcome}
use Rattle.journal_records.specs.Pairs.{IsPair, pair_encoding, longest_pair, longest_plain_pair}
use Rattle.journal_records.specs.Formats.{records_of}
use Rattle.journal_records.proofs.Encoded.{pair_room}
use Rattle.market_rules.specs.Market.{IsConsistent}
use Rattle.answer_text.specs.declared.header.Recipient.{Recipient}
use Rattle.journal_disk.specs.Entries.{framed, entry}
use Rattle.journal_disk.proofs.Entries.{length-framed}
use Rattle.journal_keeping.specs.Lengths.{longest_stored_entry}
use Rattle.journal_keeping.proofs.Turns.{same_bytes}
use Rattle.desk_session.specs.States.{State, Serves}
use Rattle.desk_session.specs.Said.{IsPlacement}
use Rattle.desk_session.proofs.Answered.{serves_admissible, placed_plain}
use Rattle.desk_keeping.specs.Private.{HostState, stored, ServesOne, plain_stored_entry}

-- what is stored of one entry
pub one_stored : (pair : Pair Record Outcome) → stored (pair ∷ []) ≡ 1 ∷ framed (pair_encoding pair)
one_stored pair = append-nil (entry (records_of pair)) ∙ ap (λ (l : List ℕ). 1 ∷ framed l) (sym (same_bytes pair))

pub serves_one : (h : HostState) (s : State) (fresh text : List ℕ) (sender : Recipient) (line : ℕ) (command : Command) → IsConsistent h.session.market → ((pair : Pair Record Outcome) × Serves h.session sender line command pair s)
    → text ≡ s.entry → fresh ≡ h.fresh ++ 1 ∷ framed text → ServesOne sender line command h (record h { session = s; fresh = fresh })
serves_one h s fresh text sender line command consistent (pair, serves) same put = record {
  pair = pair;
  serves = serves;
  answers = serves_admissible h.session s sender line command pair consistent serves.answers;
  fresh = put ∙ ap (λ (l : List ℕ). h.fresh ++ l) (ap (λ (l : List ℕ). 1 ∷ framed l) (same ∙ serves.entry) ∙ sym (one_stored pair));
  aside = record { group = refl; told = refl; written = refl };
}

-- ---- how long its entry is

-- the longest entry
longest_entry : (pair : Pair Record Outcome) → IsPair pair → length (pair_encoding pair) ≤ longest_pair
unfolding pair_encoding
longest_entry pair fits = omega (arith, length-append (encoding pair.asked) (encoding (records_of pair).1), length-encoding pair.asked, length-encoding (records_of pair).1, fits.asked.body, fits.answered.body)

-- the longest one with a plain answer
plain_entry : (pair : Pair Record Outcome) (reply : Reply) → pair.answer ≡ Plain reply → IsPair pair → length (pair_encoding pair) ≤ longest_plain_pair
plain_entry pair reply is fits =
    let same : pair_encoding pair ≡ pair_encoding (record { asked = pair.asked; answer = Plain reply }) = ap (λ (a : Answer Outcome). pair_encoding (record { asked = pair.asked; answer = a })) is in
    omega (arith, ap length same, pair_room pair.asked reply, length-encoding pair.asked, fits.asked.body)

-- the entries of a line with one more
one_more : (before fresh text : List ℕ) → fresh ≡ before ++ 1 ∷ framed text → length fresh ≡ length before + (5 + length text)
one_more before fresh text is = omega (arith, ap length is, length-append before (1 ∷ framed text), length-framed text)

pub serves_short : (s t : State) (sender : Recipient) (line : ℕ) (command : Command) (before fresh text : List ℕ) → ((pair : Pair Record Outcome) × Serves s sender line command pair t) → text ≡ t.entry → fresh ≡ before ++ 1 ∷ framed text
    → length fresh ≤ length before + longest_stored_entry
serves_short s t sender line command before fresh text (pair, serves) same put =
    omega (arith, one_more before fresh text put, ap length (same ∙ serves.entry), longest_entry pair serves.fits)

pub serves_plain : (s t : State) (sender : Recipient) (line : ℕ) (command : Command) (before fresh text : List ℕ) → ((pair : Pair Record Outcome) × Serves s sender line command pair t) → text ≡ t.entry → fresh ≡ before ++ 1 ∷ framed text
    → IsPlacement command → length fresh ≤ length before + plain_stored_entry
serves_plain s t sender line command before fresh text (pair, serves) same put places =
    let plain = placed_plain IsCanonicalOutcome s t sender line command pair places serves.answers in
    omega (arith, one_more before fresh text put, ap length (same ∙ serves.entry), plain_entry pair plain.0 plain.1 serves.fits)
