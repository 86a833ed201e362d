-- What a run writes is a valid journal, of which an audit is done.
use Rattle.std.proofs.Common.{◌≡◌, ◌≢◌, ◌+◌, ◌*◌, ◌^◌, ◌<◌, ◌≤◌, ℕ, List, [], ◌∷◌, length, inl, inr, ap, length-append, arith}
use Rattle.std.specs.List.{flat_map}
use Rattle.wire_records.specs.Records.{Record, encoding}
use Rattle.wire_records.specs.Commands.{Pair}
use Rattle.wire_records.specs.Versions.{IsReadAs}
use Rattle.wire_records.specs.Reading.{Reading, NotFlow, File}
use Rattle.wire_records.specs.declared.version.Version.{Version}
use Rattle.wire_records.proofs.Encoded.{length-encoding}
use Rattle.flow_orders.specs.Outcomes.{Outcome}
use Rattle.canonical_rule.specs.Canonical.{IsCanonicalOutcome}
use Rattle.journal_records.specs.Replies.{answer_record}
use Rattle.journal_records.specs.Pairs.{pair_encoding}
use Rattle.journal_records.specs.Formats.{journal_magic_of}
use Rattle.market_rules.specs.Market.{Market, empty_market}
use Rattle.market_rules.specs.Journal.{Follows}
use Rattle.market_rules.proofs.Consistency.{consistent-empty}
use Rattle.canonical_journals.proofs.LawProofs.{canonical_journals_are_legal, steps_number_one}
use Rattle.batch_audit.specs.Legal.{IsLegalJournal}
use Rattle.journal_records.proofs.Files.{eight}
use Rattle.exchange_session.specs.Journals.{Journals}
use Rattle.flow_exchange.specs.declared.form.Form.TheVariants.{Audit}
use Rattle.exit_status.specs.declared.status.Status.{Status}
use Rattle.exit_status.specs.declared.status.Status.TheVariants as answer
use Rattle.exit_status.specs.Statuses.{reading_status}
use Rattle.flow_exchange.specs.Running.{WritesOf}
use Rattle.flow_exchange.specs.Auditing.{legal_line}
use Rattle.flow_exchange.specs.Program.{ComesTo}
use Rattle.flow_exchange.proofs.CanonicallyKept.{are_own_kept}
use Rattle.flow_laws.specs.Laws.{RunsAreAudited}
use Rattle.flow_laws.proofs.AuditLaws.{done_for_legal}

-- an entry takes at least ten bytes
pair_long : (pair : Pair Record Outcome) → 10 ≤ length (pair_encoding pair)
unfolding pair_encoding
pair_long pair = omega (arith, length-append (encoding pair.asked) (encoding (answer_record pair.answer)), length-encoding pair.asked, length-encoding (answer_record pair.answer))

pub pairs_long : (pairs : List (Pair Record Outcome)) → 10 * length pairs ≤ length (flat_map pair_encoding pairs)
pairs_long [] = omega arith
pairs_long (pair ∷ pairs) = omega (arith, pair_long pair, pairs_long pairs, length-append (pair_encoding pair) (flat_map pair_encoding pairs))

-- entries are at most as many as their bytes
pub pairs_short : (pairs : List (Pair Record Outcome)) → length pairs ≤ length (flat_map pair_encoding pairs)
pairs_short pairs = omega (arith, pairs_long pairs)

pub orders_few : (old new : Market) (pairs : List (Pair Record Outcome)) → Follows IsReadAs IsCanonicalOutcome old pairs new → new.next_order ≤ old.next_order + length pairs
orders_few old new [] follows = omega (arith, ap (λ (m : Market). m.next_order) follows)
orders_few old new (pair ∷ pairs) (between, step, follows) =
    omega (arith, steps_number_one old pair.asked pair.answer between step, orders_few between new pairs follows)

numbers_fit : (most : ℕ) (version : Version) (records : List Record) (market : Market) (text : List ℕ) (writes : Journals version records market text) → most < 2 ^ 64 → length text ≤ most → market.next_order < 2 ^ 64
numbers_fit most version records market text writes wide within =
    let few = orders_few (empty_market version) market writes.pairs writes.journal_of.steps in
    let long = length-append (journal_magic_of version) (flat_map pair_encoding writes.pairs) in
    omega (arith, few, pairs_short writes.pairs, ap length writes.encoded, long, eight version, wide, within)

pub journal : (most : ℕ) (version : Version) (records : List Record) (market : Market) (text : List ℕ) (writes : Journals version records market text)
    → most < 2 ^ 64 → length text ≤ most → IsLegalJournal version writes.pairs market × ComesTo Audit most text answer.Done (legal_line writes.pairs)
journal most version records market text writes wide within =
    let legal : IsLegalJournal version writes.pairs market = record {
      each = writes.fits (numbers_fit most version records market text writes wide within);
      steps = (canonical_journals_are_legal version records writes.pairs market writes.journal_of).steps;
    } in
    (legal, done_for_legal.done most text version writes.pairs market (record { journal = legal; encoded = writes.encoded; within = within }))

-- an audit of a run's journal is done, with some line
audited : (most : ℕ) (version : Version) (records : List Record) (market : Market) (text : List ℕ) → Journals version records market text
    → most < 2 ^ 64 → length text ≤ most → (line : List ℕ) × ComesTo Audit most text answer.Done line
audited most version records market text writes wide within = (legal_line writes.pairs, (journal most version records market text writes wide within).1)

read : (limit most : ℕ) (text : List ℕ) (status : Status) (reading : Reading Version Record) → WritesOf reading text → status ≡ reading_status limit reading → status ≢ answer.NotFlow
    → most < 2 ^ 64 → length text ≤ most → (line : List ℕ) × ComesTo Audit most text answer.Done line
read limit most text status NotFlow writes ends other wide within = absurd (other ends)
read limit most text status (File version records ending) (market, writes) ends other wide within = audited most version records market text writes wide within

-- if something was written, it is a journal
some : (most : ℕ) (text : List ℕ) (reading : Reading Version Record) → WritesOf reading text → text ≢ [] → most < 2 ^ 64 → length text ≤ most → (line : List ℕ) × ComesTo Audit most text answer.Done line
some most text NotFlow writes other wide within = absurd (other writes)
some most text (File version records ending) (market, writes) other wide within = audited most version records market text writes wide within

pub runs_are_audited : RunsAreAudited
runs_are_audited = record {
  journal = journal;
  done = λ limit most bytes text status runs other wide within. read limit most text status runs.reading runs.writes runs.ends other wide within;
  begun = λ limit most bytes text gets other wide within.
      elim gets [
        | inl (n, more) ↦ let runs = more 0 [] in some most text runs.1.reading runs.1.writes other wide within
        | inr (status, runs) ↦ some most text runs.reading runs.writes other wide within
      ];
  keeps = λ version records market text writes. are_own_kept (empty_market version) market writes.pairs (consistent-empty version) writes.journal_of.steps;
}
