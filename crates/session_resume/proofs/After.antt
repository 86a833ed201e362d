-- What follows the first part, and what was written for it.
use Rattle.std.proofs.Common.{◌≡◌, ◌+◌, ◌<◌, ◌≤◌, ◌⊎◌, ℕ, List, [], ◌++◌, length, drop, length-append, Option, Ok, Err, refl, sym, ap, ◌∙◌, arith, inl, inr}
use Rattle.std.proofs.lemmas.List.{drop-drop, drop_at, length-drop}
use Rattle.flow_io.specs.Faults.{Blames}
use Rattle.flow_io.specs.Streams.{Grows}
use Rattle.flow_io.proofs.Growth.{Grows-nothing}
use Rattle.wire_records.specs.Records.{Record}
use Rattle.wire_records.specs.Reading as reading
use Rattle.wire_records.specs.Formats.{command_magic_of}
use Rattle.wire_records.specs.declared.version.Version.{Version}
use Rattle.market_rules.specs.Market.{Market}
use Rattle.word_driver.specs.Ended.{Ended}
use Rattle.word_driver.specs.declared.fault.Fault.TheVariants.{Read, Write, Memory, NotFlow, Torn, TooLong, Stopped}
use Rattle.session_resume.specs.declared.first.Origin.{Origin}
use Rattle.session_resume.specs.declared.first.Unfit.{Unfit}
use Rattle.session_resume.specs.declared.first.Unfit.TheVariants as unfit
use Rattle.session_resume.specs.Firsts.{Illegal, Whole, IsFirst}
use Rattle.session_resume.specs.Rests.{Cut, Nothing, Commands, Other, IsRest, ServesAll, IsNoFile}
use Rattle.session_resume.specs.Resuming.{FirstComesTo, Resumes, ResumesFirst, ResumesInto, ResumesShort}
use Rattle.wire_records.proofs.RecordCode.{eight}
use Rattle.session_resume.specs.Private.{EndsResuming, WritesFirst, WritesInto, WritesShort, IntoAfter, ShortAfter}

-- what follows from results, from first records and from running out of memory follows from what was written
module _ (Comes ComesTo : Ended Unfit → List ℕ → Type 0) (Into IntoThat Short ShortThat : List ℕ → Type 0) (to : (ended : Ended Unfit) (text : List ℕ) → Comes ended text → ComesTo ended text) (into : (text : List ℕ) → Into text → IntoThat text) (short : (text : List ℕ) → Short text → ShortThat text) where
  pub ends_map : (ended : Ended Unfit) (before after : Option (List ℕ)) → EndsResuming Comes Into Short ended before after → EndsResuming ComesTo IntoThat ShortThat ended before after
  ends_map (Ok done) before after ends = (ends.0, to (Ok tt) ends.0 ends.1, ends.2)
  ends_map (Err NotFlow) before after ends = (ends.0, to (Err NotFlow) ends.0 ends.1, ends.2)
  ends_map (Err (Torn place)) before after ends = (ends.0, to (Err (Torn place)) ends.0 ends.1, ends.2)
  ends_map (Err TooLong) before after ends = (ends.0, to (Err TooLong) ends.0 ends.1, ends.2)
  ends_map (Err (Stopped why)) before after ends = (ends.0, to (Err (Stopped why)) ends.0 ends.1, ends.2)
  ends_map (Err Write) before after ends = (ends.0, into ends.0 ends.1, ends.2)
  ends_map (Err Memory) before after (text, inl none, written) = (text, inl none, written)
  ends_map (Err Memory) before after (text, inr lacks, written) = (text, inr (short text lacks), written)
  ends_map (Err Read) before after ends = ends

-- nothing was written, since memory ran out
pub ends_out : (Comes : Ended Unfit → List ℕ → Type 0) (Into Short : List ℕ → Type 0) (held : Option (List ℕ)) → EndsResuming Comes Into Short (Err Memory) held held
ends_out Comes Into Short held = ([], inl refl, Grows-nothing held)

module _ (origin : Origin) (market : Market) (More : Type 0) (place : ℕ) (rest : List ℕ) where
  abbrev pub ComesAfter : Ended Unfit → List ℕ → Type 0
  ComesAfter = FirstComesTo More (Whole origin market place rest)

  abbrev pub EndsAfter : Ended Unfit → Option (List ℕ) → Option (List ℕ) → Type 0
  EndsAfter = EndsResuming ComesAfter (IntoAfter market rest) (ShortAfter market rest)

  pub is_cut : length rest < 8 → More → (held : Option (List ℕ)) → EndsAfter (Err TooLong) held held
  is_cut few more held = ([], (Cut, (few, more), (refl, refl)), Grows-nothing held)

  pub is_nothing : rest ≡ [] → ¬ More → (held : Option (List ℕ)) → EndsAfter (Ok tt) held held
  is_nothing none no_more held = ([], (Nothing, (none, no_more), (refl, refl)), Grows-nothing held)

  pub is_commands : (body : List ℕ) → rest ≡ command_magic_of market.version ++ body → (ended : Ended Unfit) (before after : Option (List ℕ)) → EndsResuming (ServesAll market More (place + 8) body) (WritesInto market body) (WritesShort market body) ended before after → EndsAfter ended before after
  is_commands body magic ended before after ends =
      ends_map (ServesAll market More (place + 8) body) ComesAfter (WritesInto market body) (IntoAfter market rest) (WritesShort market body) (ShortAfter market rest)
      (λ other text serves. (Commands body, magic, serves)) (λ text into. (body, magic, into)) (λ text short. (body, magic, short)) ended before after ends

  is_other : (ended : Ended Unfit) → IsRest market.version More rest Other → IsNoFile origin More place rest ended → ComesAfter ended []
  is_other ended other file = (Other, other, (file, refl))

  pub is_no_file : (ended : Ended Unfit) → IsRest market.version More rest Other → IsNoFile origin More place rest ended → (ended ≡ Err TooLong) ⊎ (ended ≡ Err (Torn place)) → (held : Option (List ℕ)) → EndsAfter ended held held
  is_no_file ended other file (inl long) held = rw long ([], rw long at (is_other ended other file), Grows-nothing held)
  is_no_file ended other file (inr torn) held = rw torn ([], rw torn at (is_other ended other file), Grows-nothing held)

-- a rest that is no command file is no fault of the output
pub no_file_quiet : (ended : Ended Unfit) (place faults : ℕ) → (ended ≡ Err TooLong) ⊎ (ended ≡ Err (Torn place)) → Blames (ended ≡ Err Write) faults faults
no_file_quiet ended place faults (inl long) = record { later = omega arith; rose = λ e. absurd (let no = sym long ∙ e in cc); quiet = λ _. refl }
no_file_quiet ended place faults (inr torn) = record { later = omega arith; rose = λ e. absurd (let no = sym torn ∙ e in cc); quiet = λ _. refl }

-- an entry that isn't valid
pub illegal_ends : (More : Type 0) (bytes : List ℕ) (number : ℕ) → IsFirst bytes (Illegal number) → (held : Option (List ℕ)) → (text : List ℕ) × Resumes More bytes (Err (Stopped (unfit.Illegal number))) text × Grows held held text
illegal_ends More bytes number stands held = ([], record { first = Illegal number; stands = stands; comes = (refl, refl) }, Grows-nothing held)

-- the bytes after a magic
pub after_magic : (version : Version) (bytes body : List ℕ) (place : ℕ) → drop place bytes ≡ command_magic_of version ++ body → drop place bytes ≡ command_magic_of version ++ drop (place + 8) bytes
after_magic version bytes body place begins =
    let rest : drop (place + 8) bytes ≡ body = sym (drop-drop 8 place bytes) ∙ ap (drop 8) begins ∙ drop_at (command_magic_of version) body 8 (eight version) in
    begins ∙ ap (λ xs. command_magic_of version ++ xs) (sym rest)

-- a magic takes eight bytes more
pub magic_inside : (version : Version) (bytes body : List ℕ) (place : ℕ) → drop place bytes ≡ command_magic_of version ++ body → place ≤ length bytes → place + 8 ≤ length bytes
magic_inside version bytes body place begins inside = omega (arith, ap length begins, length-append (command_magic_of version) body, eight version, length-drop place bytes, inside)

-- from the first part to the considered bytes
module _ (bytes : List ℕ) (origin : Origin) (market : Market) (place : ℕ) (rest : List ℕ) (stands : IsFirst bytes (Whole origin market place rest)) where
  first_whole : (body : List ℕ) → rest ≡ command_magic_of market.version ++ body → (records : List Record) (left : List ℕ) (new : Market) (text : List ℕ) → WritesFirst market body records left new text → ResumesFirst bytes records left new text
  first_whole body magic records left new text first = record {
    origin = origin;
    market = market;
    place = place;
    rest = rest;
    body = body;
    stands = stands;
    magic = magic;
    whole = first.whole;
    each = first.each;
    writes = first.writes;
  }

  pub into_whole : (text : List ℕ) → IntoAfter market rest text → ResumesInto bytes text
  into_whole text (body, magic, (records, left, new, first)) = record { records = records; left = left; new = new; first = first_whole body magic records left new text first }

  pub short_whole : (text : List ℕ) → ShortAfter market rest text → ResumesShort bytes text
  short_whole text (body, magic, short) = record {
    records = short.records;
    left = short.left;
    new = short.new;
    next = short.next;
    following = short.following;
    first = first_whole body magic short.records short.left short.new text short.first;
    stands = short.stands;
    allocates = short.allocates;
  }
