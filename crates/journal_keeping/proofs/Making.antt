-- A new disk is made after the whole beginning of a source was taken.
use Rattle.std.proofs.Common.{◌≡◌, ◌⊎◌, inl, inr, ℕ, ◌+◌, ◌-◌, ◌≤◌, List, [], ◌++◌, Option, Some, None, IfSome, Result, Ok, Err, length, take, refl, ap, subst, ◌∙◌, arith, append_assoc, length-append}
use Rattle.std.specs.Prelude.{IfErr}
use Rattle.std.proofs.Math.Seq.{take-append-add}
use Rattle.flow_io.specs.Streams.{Takes}
use Rattle.flow_io.specs.Windows.{WindowState}
use Rattle.wire_records.specs.Records.{longest_record}
use Rattle.wire_records.specs.Grammars.{BeginsWith}
use Rattle.wire_records.specs.declared.version.Version.{Version}
use Rattle.market_rules.specs.Market.{Market}
use Rattle.market_history.specs.Histories.{Start}
use Rattle.disk_edge.specs.Disks.{DiskState}
use Rattle.journal_disk.specs.Entries.{IsNewDisk}
use Rattle.journal_disk.specs.Recovering.{IsFound}
use Rattle.journal_disk.specs.Looking.{OnlyLooks}
use Rattle.journal_disk.proofs.GoingOn.{looks_more}
use Rattle.journal_keeping.specs.Inputs.{InputBegins, HasShownStart}
use Rattle.journal_keeping.specs.Taking.{IsAfterStart, source_format}
use Rattle.journal_keeping.specs.Starts.{source_start, sources, source_starts}
use Rattle.journal_keeping.specs.Beginning.{IsAfterSource, OpensStart, TakesStart}
use Rattle.journal_keeping.proofs.Lengths.{stored_few}

pub each_some : {T : Type 0} (o : Option T) (P : T → Type 0) → ((x : T) → P x) → IfSome o P
each_some None P p = tt
each_some (Some x) P p = p x

pub each_err : {T E : Type 0} (r : Result T E) (P : Type 0) → P → IfErr r (λ fault. P)
each_err (Ok x) P p = tt
each_err (Err e) P p = p

pub takes_none : (o : Option (List ℕ)) → Takes o o []
takes_none None = tt
takes_none (Some bytes) = refl

-- a disk of a version isn't new
pub kept_not_new : (content : Option (List ℕ)) (found : Option Version) (version : Version) (disk : DiskState) (P : List ℕ → Type 0) → found ≡ Some version → IfSome content (λ held. IsFound found held disk) → IfSome content (λ held. IsNewDisk held → P held)
kept_not_new None found version disk P is finds = tt
kept_not_new (Some held) found version disk P is finds = λ new. absurd ((subst (λ (o : Option Version). IsFound o held disk) is finds).0 new)

-- the disk was only looked at before
pub looked_first : (a b c : DiskState) (P : Type 0) → OnlyLooks a b → OnlyLooks b c ⊎ P → OnlyLooks a c ⊎ P
looked_first a b c P first (inl second) = inl (looks_more a b c first second)
looked_first a b c P first (inr p) = inr p

module _ (limit : ℕ) (w : WindowState) (input : Start) (first : List ℕ) (begins : BeginsWith sources.magics first input w.held) (few : length first ≤ limit) where
  abbrev start : List ℕ
  start = source_start input

  first_long : length first ≡ length start + length w.held
  first_long = ap length begins.1 ∙ length-append start w.held

  -- what was taken begins so
  begins_taken : (bytes m taken l : List ℕ) → bytes ≡ first ++ m → m ≡ taken ++ l
      → take (length (first ++ taken)) (take limit bytes) ≡ start ++ take (length (w.held ++ taken)) (take (limit - length start) (w.held ++ (taken ++ l)))
  begins_taken bytes m taken l opens takes =
      let later = w.held ++ (taken ++ l) in
      let all : bytes ≡ start ++ later =
      opens ∙ ap (λ (xs : List ℕ). xs ++ m) begins.1 ∙ append_assoc start w.held m ∙ ap (λ (xs : List ℕ). start ++ (w.held ++ xs)) takes in
      let parts : limit ≡ length start + (limit - length start) = omega (arith, few, first_long) in
      let counts : length (first ++ taken) ≡ length start + length (w.held ++ taken) = omega (arith, length-append first taken, length-append w.held taken, first_long) in
      let within : take limit bytes ≡ start ++ take (limit - length start) later =
      ap (take limit) all ∙ ap (λ (n : ℕ). take n (start ++ later)) parts ∙ take-append-add start later (limit - length start) in
      ap (take (length (first ++ taken))) within ∙ ap (λ (n : ℕ). take n (start ++ take (limit - length start) later)) counts
      ∙ take-append-add start (take (limit - length start) later) (length (w.held ++ taken))

  counts_taken : (bytes m taken l : List ℕ) → bytes ≡ first ++ m → m ≡ taken ++ l → length (first ++ taken) + length l ≡ length bytes
  counts_taken bytes m taken l opens takes = omega (arith, ap length opens, ap length takes, length-append first m, length-append taken l, length-append first taken)

  has_told : (o m l : Option (List ℕ)) (taken : List ℕ) → Takes o m first → Takes m l taken → IfSome o (λ bytes. HasShownStart source_starts limit bytes l)
  has_told None m l taken opens takes = tt
  has_told (Some bytes) None l taken opens takes = absurd opens
  has_told (Some bytes) (Some m) None taken opens takes = absurd takes
  has_told (Some bytes) (Some m) (Some l) taken opens takes =
      let body = take (length (w.held ++ taken)) (take (limit - length start) (w.held ++ (taken ++ l))) in
      let is = begins_taken bytes m taken l opens takes in
      (length (first ++ taken), counts_taken bytes m taken l opens takes, input, body, (begins.0, is), inl (λ part. part.0 input body begins.0 is))

-- what was taken of a source shows how it begins, and so does more of it
pub start_taken : (limit : ℕ) (w : WindowState) (input : Start) (content mid left : Option (List ℕ)) (taken : List ℕ) → IsAfterSource limit input w content mid → Takes mid left taken → IfSome content (λ bytes. HasShownStart source_starts limit bytes left)
start_taken limit w input content mid left taken following takes = has_told limit w input following.first following.magic following.few content mid left taken following.takes takes

-- the source begins so within the limit
source_begins : (limit : ℕ) (w : WindowState) (input : Start) (content left : Option (List ℕ)) → IsAfterSource limit input w content left → InputBegins source_starts limit content input
source_begins limit w input None left following = tt
source_begins limit w input (Some bytes) None following = absurd following.takes
source_begins limit w input (Some bytes) (Some m) following = (
  take (limit - length (source_start input)) (w.held ++ m),
  (
    following.magic.0,
    ap (take limit) (following.takes ∙ ap (λ (xs : List ℕ). xs ++ m) following.magic.1 ∙ append_assoc (source_start input) w.held m)
        ∙ ap (λ (n : ℕ). take n (source_start input ++ (w.held ++ m))) (start_within limit w input following.first following.magic following.few)
        ∙ take-append-add (source_start input) (w.held ++ m) (limit - length (source_start input)),
  ),
)
  where
    start_within : (limit : ℕ) (w : WindowState) (input : Start) (first : List ℕ) → BeginsWith sources.magics first input w.held → length first ≤ limit → limit ≡ length (source_start input) + (limit - length (source_start input))
    start_within limit w input first begins few = omega (arith, few, ap length begins.1, length-append (source_start input) w.held)

-- A window after the beginning of a source is one after that of an input.
module _ (limit : ℕ) (w : WindowState) (input : Start) (content left : Option (List ℕ)) where
  pub after_source : IsAfterSource limit input w content left → IsAfterStart source_format limit input w content left
  after_source following =
      let long = ap length following.magic.1 ∙ length-append (source_start input) w.held in
      record {
        starts = following.magic.0;
        limited = following.limited;
        place = following.place;
        takes = subst (Takes content left) following.magic.1 following.takes;
        within = omega (arith, following.place, following.limited, following.few, long);
        near = following.held;
        begins = source_begins limit w input content left following;
        shown = start_taken limit w input content left left [] following (takes_none left);
      }

  pub as_source : IsAfterStart source_format limit input w content left → w.room ≡ longest_record → w.over ≡ None → IsAfterSource limit input w content left
  as_source following room over = record {
    limited = following.limited;
    place = following.place;
    room = room;
    over = over;
    first = source_start input ++ w.held;
    takes = following.takes;
    magic = (following.starts, refl);
    few = omega (arith, following.place, following.limited, following.within, length-append (source_start input) w.held);
    held = following.near;
  }

pub takes_start : (limit : ℕ) (market : Market) (stored : List ℕ) (w : WindowState) (content left : Option (List ℕ)) → OpensStart limit market stored w content left → TakesStart source_format limit market stored w content left
takes_start limit market stored w content left opens = record {
  begin = opens.begin;
  may = tt;
  following = after_source limit w opens.begin content left opens.following;
  market_is = opens.market_is;
  stored_is = opens.stored_is;
  few = omega (arith, stored_few opens.begin stored opens.stored_is);
}
