-- What a session answers from the market of a replay on makes with the replayed journal one valid journal.
use Rattle.std.proofs.Common.{◌≡◌, ◌+◌, ◌^◌, ◌<◌, ◌≤◌, ℕ, List, [], ◌∷◌, ◌++◌, map, length, Result, Ok, refl, sym, ap, subst, ◌∙◌, append_assoc, length-append, arith}
use Rattle.std.specs.Prelude.{All}
use Rattle.std.specs.List.{flat_map}
use Rattle.std.proofs.lemmas.Grind.{flat_map-append}
use Rattle.std.proofs.lemmas.List.{map-append}
use Rattle.std.proofs.lemmas.List.Elements.{All-nil, All-cons, All-append}
use Rattle.wire_records.specs.Records.{Record}
use Rattle.wire_records.specs.Commands.{Pair}
use Rattle.wire_records.specs.Versions.{IsReadAs}
use Rattle.wire_records.specs.declared.version.Version.{Version}
use Rattle.wire_records.proofs.Readings.{reading_unique, read_own}
use Rattle.flow_orders.specs.Outcomes.{Outcome, IsAdmissibleOutcome}
use Rattle.canonical_rule.specs.Canonical.{IsCanonicalOutcome}
use Rattle.journal_records.specs.Pairs.{IsPair, pair_encoding}
use Rattle.journal_records.specs.Formats.{journal_magic_of, journal_in}
use Rattle.market_rules.specs.Market.{Market, IsConsistent, empty_market}
use Rattle.market_rules.specs.Journal.{Follows, IsJournal}
use Rattle.market_rules.proofs.OneJournal.{follows-append}
use Rattle.canonical_journals.proofs.OneCanonicalJournal.{one_canonical_journal}
use Rattle.canonical_journals.proofs.CanonicalIsLegal.{canonical_follows_are_admissible}
use Rattle.market_rules.proofs.LawProofs.{steps_keep_consistency, sequences_compose, legal_steps_number_one, journals_stay_consistent}
use Rattle.canonical_journals.proofs.LawProofs.{steps_number_one}
use Rattle.batch_audit.specs.Legal.{IsLegalJournal}
use Rattle.journal_replay.specs.declared.replaying.ReplayFault.{ReplayFault}
use Rattle.journal_replay.specs.Replays.{IsReplayed}
use Rattle.journal_records.proofs.Files.{eight}
use Rattle.journal_replay.proofs.LawProofs.{markets_are, one_replay}
use Rattle.word_driver.specs.Word.{Goes}
use Rattle.exchange_session.specs.Journals.{Journals}
use Rattle.exchange_session.specs.Running.{run}
use Rattle.session_resume.specs.Continuing.{Continues}
use Rattle.flow_laws.specs.Laws.{IsOneJournal, SessionsGoOn}
use Rattle.flow_laws.proofs.AuditLaws.{done_for_legal}
use Rattle.flow_laws.proofs.RunsAudited.{pairs_short, journal}

-- what a run makes of records from a market on
answers : (old new : Market) (records : List Record) (text : List ℕ) → Goes run old records new text → Continues old records new text
answers old new [] text goes = record { pairs = []; answered = record { asked = refl; steps = goes.0 }; fits = λ few. All-nil IsPair; encoded = goes.1 }
answers old new (r ∷ records) text goes =
    let next = goes.0 in
    let one = goes.3 in
    let rest = answers next new records goes.2 goes.4 in
    let pair : Pair Record Outcome = record { asked = r; answer = one.answer } in
    let rise = steps_number_one old r one.answer next one.step in
    record {
      pairs = pair ∷ rest.pairs;
      answered = record { asked = ap (λ xs. r ∷ xs) rest.answered.asked; steps = (next, one.step, rest.answered.steps) };
      fits = λ few. All-cons IsPair pair rest.pairs (one.fits (omega (arith, rise, few))) (rest.fits (omega (arith, rise, few)));
      encoded = goes.5 ∙ ap (λ xs. xs ++ goes.2) one.encoded ∙ ap (λ xs. pair_encoding pair ++ xs) rest.encoded;
    }

-- valid entries give at most as many numbers to orders as they are
pub orders_few : (old new : Market) (pairs : List (Pair Record Outcome)) → Follows IsReadAs IsAdmissibleOutcome old pairs new → new.next_order ≤ old.next_order + length pairs
orders_few old new [] follows = omega (arith, ap (λ (m : Market). m.next_order) follows)
orders_few old new (pair ∷ pairs) (between, step, follows) =
    omega (arith, legal_steps_number_one old pair.asked pair.answer between step, orders_few between new pairs follows)

-- the encoding of two lists of entries, one after the other
joined : (version : Version) (pairs more : List (Pair Record Outcome)) (bytes text : List ℕ) → bytes ≡ journal_in version pairs → text ≡ flat_map pair_encoding more → bytes ++ text ≡ journal_in version (pairs ++ more)
joined version pairs more bytes text before following =
    let magic = journal_magic_of version in
    ap (λ xs. xs ++ text) before ∙ append_assoc magic (flat_map pair_encoding pairs) text
    ∙ ap (λ xs. magic ++ xs) (ap (λ xs. flat_map pair_encoding pairs ++ xs) following ∙ sym (flat_map-append pair_encoding pairs more))

-- the market of a valid journal is consistent
pub legal_is_consistent : (version : Version) (pairs : List (Pair Record Outcome)) (market : Market) → IsLegalJournal version pairs market → IsConsistent market
legal_is_consistent version pairs market legal = (journals_stay_consistent (empty_market version) pairs market (steps_keep_consistency.0 version) legal.steps)

-- entries that answer records from the market of a valid journal on make with it a valid journal
module _ (most : ℕ) (version : Version) (pairs : List (Pair Record Outcome)) (bytes text : List ℕ) (old new : Market) (records : List Record)
    (legal : IsLegalJournal version pairs old) (before : bytes ≡ journal_in version pairs) (so : Continues old records new text)
    (wide : most < 2 ^ 64) (within : length (bytes ++ text) ≤ most) where
  more_fit : All IsPair so.pairs
  more_fit =
      let few = orders_few (empty_market version) old pairs legal.steps in
      let first = length-append (journal_magic_of version) (flat_map pair_encoding pairs) in
      so.fits (omega (arith, few, pairs_short pairs, pairs_short so.pairs, ap length before, first, eight version, ap length so.encoded, length-append bytes text, wide, within))

  all_legal : IsLegalJournal version (pairs ++ so.pairs) new
  all_legal = record {
    each = All-append IsPair pairs so.pairs legal.each more_fit;
    steps = sequences_compose.joined (empty_market version) old new pairs so.pairs legal.steps
        (canonical_follows_are_admissible IsReadAs read_own old so.pairs new (legal_is_consistent version pairs old legal) so.answered.steps);
  }

  pub one_journal : IsOneJournal most bytes records new text
  one_journal =
      let whole = joined version pairs so.pairs bytes text before so.encoded in
      record {
        version = version;
        pairs = pairs;
        more = so.pairs;
        before = before;
        asked = so.answered.asked;
        following = so.encoded;
        whole = whole;
        legal = all_legal;
        replayed = (markets_are (bytes ++ text) new).1 (version, pairs ++ so.pairs, all_legal, whole);
        audited = done_for_legal.done most (bytes ++ text) version (pairs ++ so.pairs) new (record { journal = all_legal; encoded = whole; within = within });
      }

legal : (most : ℕ) (bytes text : List ℕ) (old new : Market) (records : List Record) → IsReplayed bytes (Ok old) → Goes run old records new text
    → most < 2 ^ 64 → length (bytes ++ text) ≤ most → IsOneJournal most bytes records new text
legal most bytes text old new records replayed goes wide within =
    let of = (markets_are bytes old).0 replayed in
    one_journal most of.0 of.1 bytes text old new records of.2 of.3 (answers old new records text goes) wide within

-- the answer of a replay that made a market
abbrev made : Market → Result Market ReplayFault
made market = Ok market

same_market : (m n : Market) → made m ≡ made n → m ≡ n
same_market m n same = cc

-- if the first entries are a run's journal of some records, all are that of these records and the others
module _ (most : ℕ) (version : Version) (bytes text : List ℕ) (old new : Market) (first records : List Record) (writes : Journals version first old bytes)
    (so : Continues old records new text) (wide : most < 2 ^ 64) (within : length (bytes ++ text) ≤ most) where
  abbrev all_pairs : List (Pair Record Outcome)
  all_pairs = writes.pairs ++ so.pairs

  -- all records are answered from the empty market on
  all_answered : IsJournal IsReadAs IsCanonicalOutcome version (first ++ records) all_pairs new
  all_answered = record {
    asked = map-append (λ (pair : Pair Record Outcome). pair.asked) writes.pairs so.pairs
        ∙ ap (λ (xs : List Record). xs ++ map (λ (pair : Pair Record Outcome). pair.asked) so.pairs) writes.journal_of.asked ∙ ap (λ (xs : List Record). first ++ xs) so.answered.asked;
    steps = follows-append IsReadAs reading_unique IsCanonicalOutcome (empty_market version) old new writes.pairs so.pairs writes.journal_of.steps so.answered.steps;
  }

  pub canonical_journal : Journals version (first ++ records) new (bytes ++ text)
  canonical_journal =
      let short : length bytes ≤ most = omega (arith, length-append bytes text, within) in
      let before = (journal most version first old bytes writes wide short).0 in
      let legal = all_legal most version writes.pairs bytes text old new records before writes.encoded so wide within in
      record {
        pairs = all_pairs;
        journal_of = all_answered;
        fits = λ _. legal.each;
        encoded = joined version writes.pairs so.pairs bytes text writes.encoded so.encoded;
      }

  pub same_journal : (whole : List ℕ) (last : Market) → Journals version (first ++ records) last whole → (whole ≡ bytes ++ text) × (last ≡ new)
  same_journal whole last other =
      let one = one_canonical_journal IsReadAs reading_unique version (first ++ records) other.pairs all_pairs last new other.journal_of all_answered in
      (other.encoded ∙ ap (journal_in version) one.0 ∙ sym (joined version writes.pairs so.pairs bytes text writes.encoded so.encoded), one.1)

-- a replay of a run's journal answers its market
module _ (most : ℕ) (version : Version) (bytes text : List ℕ) (at old new : Market) (first records : List Record) (writes : Journals version first at bytes)
    (replayed : IsReplayed bytes (Ok old)) (goes : Goes run old records new text) (wide : most < 2 ^ 64) (within : length (bytes ++ text) ≤ most) where
  was : at ≡ old
  was =
      let short : length bytes ≤ most = omega (arith, length-append bytes text, within) in
      let legal = (journal most version first at bytes writes wide short).0 in
      same_market at old (one_replay bytes (made at) (made old) (λ e. absurd cc) (λ e. absurd cc) ((markets_are bytes at).1 (version, writes.pairs, legal, writes.encoded)) replayed)

  wrote : Journals version first old bytes
  wrote = subst (λ (m : Market). Journals version first m bytes) was writes

  own : Journals version (first ++ records) new (bytes ++ text)
  own = canonical_journal most version bytes text old new first records wrote (answers old new records text goes) wide within

  same : (whole : List ℕ) (last : Market) → Journals version (first ++ records) last whole → (whole ≡ bytes ++ text) × (last ≡ new)
  same = same_journal most version bytes text old new first records wrote (answers old new records text goes) wide within

pub sessions_go_on : SessionsGoOn
sessions_go_on = record {
  legal = legal;
  own = own;
  same = λ most version bytes text whole at old new last first records writes replayed goes wide within other.
      same most version bytes text at old new first records writes replayed goes wide within whole last other;
}
