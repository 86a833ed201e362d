-- The first record is served: its entry may be kept.
use Rattle.std.proofs.Common.{◌≡◌, ◌⊎◌, ⊎_elim, ◌+◌, ◌-◌, ◌*◌, ◌<◌, ◌≤◌, ◌^◌, ℕ, List, [], ◌∷◌, ◌++◌, IsSome, length, length-append, drop, refl, sym, ap, subst, ◌∙◌, arith}
use Rattle.std.specs.Prelude.{⊤}
use Rattle.wire_records.specs.Records.{Record, encoding}
use Rattle.wire_records.proofs.Encoded.{length-encoding}
use Rattle.wire_records.specs.Commands.{Pair}
use Rattle.wire_records.specs.Formats.{commands}
use Rattle.flow_orders.specs.Outcomes.{Outcome}
use Rattle.journal_records.specs.Pairs.{IsPair, longest_plain_pair}
use Rattle.journal_records.specs.Formats.{records_of}
use Rattle.market_rules.specs.Market.{Market}
use Rattle.canonical_journals.proofs.LawProofs.{steps_number_one}
use Rattle.file_units.specs.Units.{TakesOne}
use Rattle.exchange_session.specs.Serving.{Puts, HasNumbers, AllocatesNext}
use Rattle.disk_edge.specs.Disks.{DiskState, AtEachMoment}
use Rattle.journal_disk.specs.Pairs.{RecordPair, IsRecordPair, pair_bytes, IsWholePair}
use Rattle.journal_disk.specs.Entries.{Head, WithOrWithout, Keeps}
use Rattle.journal_disk.specs.Lengths.{ReachesAtMost}
use Rattle.journal_disk.proofs.Entries.{pair_short}
use Rattle.journal_disk.proofs.Lengths.{reach_wider}
use Rattle.journal_keeping.specs.declared.fault.ServeFault.{ServeFault}
use Rattle.journal_keeping.specs.declared.fault.ServeFault.TheVariants.{Disk, Write}
use Rattle.journal_keeping.specs.Lengths.{longest_stored_entry}
use Rattle.journal_keeping.specs.Outputs.{Output, Gains}
use Rattle.journal_keeping.specs.Private.{KeepsMore, IsServed, TakesNext, BreaksNext, HasAllocating}
use Rattle.journal_keeping.proofs.Turns.{is_record_pair, same_bytes, is_whole}

-- a record takes at least five bytes, and no more than there are
record_within : (bytes : List ℕ) (r : Record) (taken : ℕ) → taken ≡ length (encoding r) → bytes ≡ encoding r ++ drop taken bytes → (taken ≤ length bytes) × (5 ≤ taken)
record_within bytes r taken size prefix = (omega (arith, size, ap length prefix, length-append (encoding r) (drop taken bytes)), omega (arith, size, length-encoding r))

-- if memory ran out with a buffer for the longest plain entry, the record may allocate
pub has_allocating : (old : Market) (bytes : List ℕ) (room : ℕ) → longest_plain_pair ≤ room → AllocatesNext old bytes room → HasAllocating old bytes
has_allocating old bytes room enough next = (next.asked, next.rest, (next.lawful, next.prefix), ⊎_elim (λ (small : room < longest_plain_pair). absurd (omega (arith, small, enough))) (λ allocates. allocates) next.allocates)

module _ (n : ℕ) (bytes : List ℕ) (old new : Market) (text : List ℕ) (one : TakesOne commands Puts n bytes old new [] text) (left : ℕ) (inside : length bytes ≤ left) (ready : HasNumbers old left) where
  abbrev pub pair_of : Pair Record Outcome
  pair_of = record { asked = one.unit; answer = one.step.answer }

  within : (n ≤ length bytes) × (5 ≤ n)
  within = record_within bytes one.unit n one.size one.prefix

  pub fits : IsPair pair_of
  fits = one.step.fits (omega (arith, steps_number_one old one.unit one.step.answer new one.step.step, within.0, within.1, inside, ready))

  pub served : IsServed bytes old pair_of new
  served = record { lawful = one.lawful; rest = drop n bytes; prefix = one.prefix; step = one.step.step; fits = fits }

  pub whole : IsWholePair text
  whole = is_whole pair_of text fits one.step.encoded

  -- the entry as two records, and its bytes
  pub two_records : IsRecordPair (records_of pair_of)
  two_records = is_record_pair pair_of fits

  pub their_bytes : text ≡ pair_bytes (records_of pair_of)
  their_bytes = one.step.encoded ∙ same_bytes pair_of

  pub takes : (from to : ℕ) (disk later : DiskState) (out after : Output) → KeepsMore (pair_of ∷ []) from to disk later → (IsSome later.content → IsSome disk.content) → Gains ⊥ out after (text ∷ []) → TakesNext n bytes old new from to disk later out after
  takes from to disk later out after keeps told gained = record {
    pair = pair_of;
    served = record { lawful = one.lawful; rest = drop n bytes; prefix = one.prefix; step = one.step.step; fits = fits };
    size = one.size;
    some = one.some;
    following = refl;
    keeps = keeps;
    told = told;
    gained = subst (λ (l : List ℕ). Gains ⊥ out after (l ∷ [])) one.step.encoded gained;
  }

  pub still_ready : (place later : ℕ) → place + longest_stored_entry * left ≤ 2 ^ 61 → later ≡ place + (5 + length text) → later + longest_stored_entry * (left - n) ≤ 2 ^ 61
  still_ready place later room moved = omega (arith, room, moved, ap length their_bytes, pair_short (records_of pair_of) two_records, within.0, within.1, inside)

  -- at any place, and with any number of bytes left, the entry fits in 263,183 bytes for each byte of its record
  pub still_within : (place later other most : ℕ) → length bytes ≤ other → place + longest_stored_entry * other ≤ most → later ≡ place + (5 + length text) → later + longest_stored_entry * (other - n) ≤ most
  still_within place later other most fits room moved = omega (arith, room, moved, ap length their_bytes, pair_short (records_of pair_of) two_records, within.0, within.1, fits)

  pub still_reaches : (place : ℕ) (disk later : DiskState) (other : ℕ) → length bytes ≤ other → ReachesAtMost (place + (6 + length text)) disk later → ReachesAtMost (place + longest_stored_entry * other + 1) disk later
  still_reaches place disk later other fits =
      reach_wider (place + (6 + length text)) (place + longest_stored_entry * other + 1) disk later
      (omega (arith, ap length their_bytes, pair_short (records_of pair_of) two_records, within.0, within.1, fits))

  -- the entry wasn't kept, or not written completely
  pub breaks : (from to : ℕ) (disk later : DiskState) (out after : Output) (SameDisk : Type 0) (fault : ServeFault) → (fault ≡ Disk) ⊎ (fault ≡ Write) → (fault ≡ Disk → after ≡ out)
      → ((head : Head) (pairs : List RecordPair) → Keeps head pairs from disk → AtEachMoment disk later (WithOrWithout head pairs (records_of pair_of ∷ [])))
      → (fault ≡ Write → KeepsMore (pair_of ∷ []) from to disk later) → (fault ≡ Write → IsSome later.content → IsSome disk.content)
      → (fault ≡ Write → Gains ⊤ out after (text ∷ [])) → BreaksNext bytes old from to disk later out after SameDisk fault
  breaks from to disk later out after SameDisk fault refused silent moments keeps told cut =
      ⊎_elim
      (λ (is : fault ≡ Disk). subst (λ (f : ServeFault). BreaksNext bytes old from to disk later out after SameDisk f) (sym is) (silent is, pair_of, new, served, moments))
      (λ (is : fault ≡ Write). subst (λ (f : ServeFault). BreaksNext bytes old from to disk later out after SameDisk f) (sym is)
      (pair_of, new, served, keeps is, told is, subst (λ (l : List ℕ). Gains ⊤ out after (l ∷ [])) one.step.encoded (cut is)))
      refused
