-- A history as it was read.
use Rattle.std.proofs.Common.{◌≡◌, ◌⊎◌, ◌+◌, ◌<◌, ℕ, List, [], ◌∷◌, ◌++◌, All, map, length, take, inl, inr, sym, ap, ◌∙◌, subst, append-nil, append_assoc, arith}
use Rattle.std.proofs.lemmas.Bool.{cases_lt}
use Rattle.std.proofs.lemmas.List.{flat_map_more}
use Rattle.std.proofs.lemmas.List.Elements.{All-push}
use Rattle.wire_records.specs.Records.{Record}
use Rattle.wire_records.specs.Commands.{Pair}
use Rattle.wire_records.specs.Versions.{IsReadAs}
use Rattle.wire_records.specs.Grammars.{BeginsWith, BeginsWithNone, encode_all}
use Rattle.wire_records.specs.Reading.{Ending, End, EndsAs, ReadsOn}
use Rattle.wire_records.specs.Reading as reading
use Rattle.wire_records.proofs.ReadingLaws.{reads_on_one}
use Rattle.flow_orders.specs.Outcomes.{Outcome, IsAdmissibleOutcome}
use Rattle.journal_records.specs.Pairs.{IsPair}
use Rattle.journal_records.specs.Formats.{journals, records_of}
use Rattle.journal_records.proofs.Files.{journals_readable}
use Rattle.market_rules.specs.Market.{Market, IsConsistent}
use Rattle.market_rules.specs.Journal.{Follows}
use Rattle.market_rules.proofs.Consistency.{consistent-empty}
use Rattle.market_rules.proofs.LawProofs.{journals_hold_deposits}
use Rattle.market_rules.proofs.Promised.{legal_journal_keeps_promises}
use Rattle.market_history.specs.Histories.{Start, Empty, Kept, CanStart, market_of, starts, histories}
use Rattle.batch_audit.specs.Legal.{IsIllegalPair}
use Rattle.batch_audit.proofs.LawProofs.{judged_once}
use Rattle.journal_replay.proofs.Judged.{read_more}
use Rattle.history_words.proofs.Starts.{one_start}
use Rattle.exit_status.specs.declared.status.Status.{Status}
use Rattle.flow_exchange.specs.HistoryFiles.{History, IsHistory, history_status, HistoryTo, IsAtPairOf}
use Rattle.flow_exchange.specs.Promising.{IsKeptFrom}

-- the history of these parts
abbrev pub history_of : Start → List (Pair Record Outcome) → Market → List (Record × Record) → Ending → History
history_of start legal market following ending = record { start = start; legal = legal; market = market; following = following; ending = ending }

-- what a subcommand makes of the bytes is what it makes of this history
pub makes_by : (judge : History → Status) (Writes : History → List ℕ → Type 0) (limit : ℕ) (bytes : List ℕ) (status : Status) (text : List ℕ) (history : History) → IsHistory limit bytes history → status ≡ judge history → Writes history text → HistoryTo judge Writes limit bytes status text
makes_by judge Writes limit bytes status text history is ends writes = inr (history, is, ends, writes)

pub makes_of : (Writes : History → List ℕ → Type 0) (limit : ℕ) (bytes : List ℕ) (status : Status) (text : List ℕ) (history : History) → IsHistory limit bytes history → status ≡ history_status limit history → Writes history text → HistoryTo (history_status limit) Writes limit bytes status text
makes_of Writes limit bytes status text history is ends writes = makes_by (history_status limit) Writes limit bytes status text history is ends writes

-- ---- how a history is read, and a journal

ends_there : (More : Type 0) (rest : List ℕ) (place : ℕ) (ending : Ending) → EndsAs journals More rest place ending → EndsAs histories More rest place ending
ends_there More rest place End ends = ends
ends_there More rest place (reading.Torn n) ends = ends
ends_there More rest place reading.TooLong ends = ends

ends_here : (More : Type 0) (rest : List ℕ) (place : ℕ) (ending : Ending) → EndsAs histories More rest place ending → EndsAs journals More rest place ending
ends_here More rest place End ends = ends
ends_here More rest place (reading.Torn n) ends = ends
ends_here More rest place reading.TooLong ends = ends

pub reads_there : (place : ℕ) (More : Type 0) (bytes : List ℕ) (units : List (Record × Record)) (ending : Ending) → ReadsOn journals place More bytes units ending → ReadsOn histories place More bytes units ending
reads_there place More bytes units ending on = record {
  rest = on.rest;
  whole = on.whole;
  each = on.each;
  none = on.none;
  ends = ends_there More on.rest (place + length (encode_all journals.units units)) ending on.ends;
}

pub reads_here : (place : ℕ) (More : Type 0) (bytes : List ℕ) (units : List (Record × Record)) (ending : Ending) → ReadsOn histories place More bytes units ending → ReadsOn journals place More bytes units ending
reads_here place More bytes units ending on = record {
  rest = on.rest;
  whole = on.whole;
  each = on.each;
  none = on.none;
  ends = ends_here More on.rest (place + length (encode_all journals.units units)) ending on.ends;
}

-- ---- bytes are at most one history

pub one_history : (limit : ℕ) (bytes : List ℕ) (a b : History) → IsHistory limit bytes a → IsHistory limit bytes b → a ≡ b
one_history limit bytes a b x y =
    let here = x.reads in
    let there = y.reads in
    let More = limit < length bytes in
    let begun = one_start a.start b.start here.0 there.0 here.1.0 there.1.0 (sym here.1.1 ∙ there.1.1) in
    let size = length (starts.encode b.start) in
    let moved : ReadsOn histories size More there.0 x.units a.ending =
    subst (λ (s : Start). ReadsOn histories (length (starts.encode s)) More there.0 x.units a.ending) begun.0 (subst (λ (xs : List ℕ). ReadsOn histories (length (starts.encode a.start)) More xs x.units a.ending) begun.1 here.2) in
    let one = reads_on_one journals journals_readable size More there.0 x.units y.units a.ending b.ending (reads_here size More there.0 x.units a.ending moved) (reads_here size More there.0 y.units b.ending there.2) in
    let steps = subst (λ (s : Start). Follows IsReadAs IsAdmissibleOutcome (market_of s) a.legal a.market) begun.0 x.legal.steps in
    let judged = judged_once (market_of b.start) a.legal b.legal a.following b.following a.market b.market (sym x.parts ∙ one.0 ∙ y.parts) x.legal.each y.legal.each steps y.legal.steps x.stops y.stops in
    ap (λ (s : Start). history_of s a.legal a.market a.following a.ending) begun.0 ∙ ap (λ (p : List (Pair Record Outcome)). history_of b.start p a.market a.following a.ending) judged.0
    ∙ ap (λ (m : Market). history_of b.start b.legal m a.following a.ending) judged.2 ∙ ap (λ (u : List (Record × Record)). history_of b.start b.legal b.market u a.ending) judged.1
    ∙ ap (λ (e : Ending). history_of b.start b.legal b.market b.following e) one.1

-- ---- the entries of a history keep the promises of the exchange

pub consistent_start : (start : Start) → CanStart start → IsConsistent (market_of start)
consistent_start (Empty version) lawful = consistent-empty version
consistent_start (Kept market) lawful = lawful.consistent

pub is_kept_from : (limit : ℕ) (bytes : List ℕ) (history : History) → IsHistory limit bytes history → IsKeptFrom history
is_kept_from limit bytes history is =
    let consistent = consistent_start history.start is.reads.1.0 in
    record {
      deposits = journals_hold_deposits (market_of history.start) history.legal history.market consistent is.legal.steps;
      keeps = legal_journal_keeps_promises (market_of history.start) history.legal history.market consistent is.legal.steps;
    }

-- ---- how the entries of a history are judged

pub more_than : (limit n : ℕ) → (limit < n) ⊎ (¬ (limit < n))
more_than limit n = elim (cases_lt limit n) [ inl more ↦ inl more | inr not ↦ inr (λ more. omega (arith, more, not)) ]

module _ (limit : ℕ) (bytes body : List ℕ) (start : Start) (begins : BeginsWith starts (take limit bytes) start body) (units : List (Record × Record)) (rest : List ℕ) (whole : body ≡ encode_all journals.units units ++ rest) (lawful : All journals.units.IsLawful units)
    (legal : List (Pair Record Outcome)) (parts : units ≡ map records_of legal) (each : All IsPair legal) (market : Market) (steps : Follows IsReadAs IsAdmissibleOutcome (market_of start) legal market) where
  -- all are valid
  unfoldable pub judged_all : (ending : Ending) → BeginsWithNone journals.units rest → EndsAs journals (limit < length bytes) rest (length (starts.encode start) + length (encode_all journals.units units)) ending → IsHistory limit bytes (history_of start legal market [] ending)
  judged_all ending none ends = record {
    units = units;
    reads = (body, begins, reads_there (length (starts.encode start)) (limit < length bytes) body units ending (record { rest = rest; whole = whole; each = lawful; none = none; ends = ends }));
    parts = parts ∙ sym (append-nil (map records_of legal));
    legal = record { each = each; steps = steps };
    stops = tt;
  }

  -- the next one is invalid
  unfoldable pub judged_some : (bad : Record × Record) (more : List ℕ) → BeginsWith journals.units rest bad more → IsIllegalPair market bad → (following : List (Record × Record)) × (ending : Ending) × IsHistory limit bytes (history_of start legal market (bad ∷ following) ending)
  judged_some bad more prefix illegal =
      let on = read_more (length (starts.encode start)) (limit < length bytes) (more_than limit (length bytes)) body rest more units bad whole lawful prefix.0 prefix.1 in (
        on.0,
        on.1,
        record {
          units = units ++ bad ∷ on.0;
          reads = (body, begins, reads_there (length (starts.encode start)) (limit < length bytes) body (units ++ bad ∷ on.0) on.1 on.2);
          parts = ap (λ xs. xs ++ bad ∷ on.0) parts;
          legal = record { each = each; steps = steps };
          stops = illegal;
        },
      )

  -- the units that were passed are valid entries, and another one follows
  unfoldable pub at_pair : (next : Record × Record) (more : List ℕ) → BeginsWith journals.units rest next more → IsAtPairOf limit bytes start legal market next
  at_pair next more prefix = record {
    starts = record {
      body = body;
      rest = more;
      magic = begins;
      whole = whole ∙ ap (λ xs. encode_all journals.units units ++ xs) prefix.1 ∙ sym (append_assoc (encode_all journals.units units) (journals.units.encode next) more)
          ∙ ap (λ xs. xs ++ more) (flat_map_more journals.units.encode [] units next) ∙ ap (λ (us : List (Record × Record)). encode_all journals.units (us ++ next ∷ []) ++ more) parts;
      each = subst (λ (us : List (Record × Record)). All journals.units.IsLawful (us ++ next ∷ [])) parts (All-push journals.units.IsLawful units next lawful prefix.0);
    };
    are = record { each = each; steps = steps };
  }
