-- From considered bytes to what a source had.
use Rattle.std.proofs.Common.{◌≡◌, ◌+◌, ◌<◌, ◌≤◌, ◌↔◌, ℕ, List, [], length, take, drop, IsTrue, Option, Some, None, IfSome, OnOk, Result, Ok, Err, sym, ap, subst, ◌∙◌, arith, inl, inr}
use Rattle.std.proofs.lemmas.List.{drop_all}
use Rattle.flow_io.specs.declared.whole.WholeInput.{WholeInput}
use Rattle.flow_io.specs.declared.whole.ReadAllFault.{ReadAllFault}
use Rattle.flow_io.specs.declared.whole.ReadAllFault.TheVariants as reads
use Rattle.flow_io.specs.Faults.{Blames}
use Rattle.flow_io.specs.Streams.{Grows}
use Rattle.flow_io.specs.Whole.{IsWholeInput}
use Rattle.wire_records.specs.Reading.{Ending, EndsAs}
use Rattle.wire_records.specs.Reading as reading
use Rattle.wire_records.specs.Formats.{commands}
use Rattle.wire_records.specs.declared.version.Version.{Version}
use Rattle.file_units.proofs.Endings.{reads_alike}
use Rattle.journal_records.specs.Formats.{journals}
use Rattle.market_rules.specs.Market.{Market}
use Rattle.word_driver.specs.Ended.{Ended}
use Rattle.word_driver.specs.declared.fault.Fault.TheVariants as fault
use Rattle.word_driver.specs.Does.{Determines, Meets}
use Rattle.session_resume.specs.declared.first.Origin.{Origin}
use Rattle.session_resume.specs.declared.first.Origin.TheVariants.{Journal, Checkpoint}
use Rattle.session_resume.specs.declared.first.Unfit.{Unfit}
use Rattle.session_resume.specs.Firsts.{First, Neither, NoCheckpoint, Illegal, Whole}
use Rattle.session_resume.specs.Rests.{Rest, Cut, Nothing, Commands, Other, IsRest, ServesAll, IsNoFile, RestComesTo, ended_by}
use Rattle.session_resume.specs.Resuming.{EndsUnsound, FirstComesTo, Resumes, ResumesInto, ResumesShort}
use Rattle.session_resume.specs.Tasks.{resuming}
use Rattle.session_resume.specs.Private.{EndsResuming}
use Rattle.session_resume.proofs.OneResumption.{one_end_of}

-- ---- the result for bytes depends only on whether the input has more

module _ (P Q : Type 0) (same : P ↔ Q) where
  rest_alike : (version : Version) (rest : List ℕ) (following : Rest) → IsRest version P rest following → IsRest version Q rest following
  rest_alike version rest Cut is = (is.0, same.0 is.1)
  rest_alike version rest Nothing is = (is.0, λ q. is.1 (same.1 q))
  rest_alike version rest (Commands body) is = is
  rest_alike version rest Other is = (λ cut. is.0 (cut.0, same.1 cut.1), is.1, is.2)

  ends_alike : (rest : List ℕ) (place : ℕ) (ending : Ending) → EndsAs journals P rest place ending → EndsAs journals Q rest place ending
  ends_alike rest place reading.End ends = (ends.0, λ q. ends.1 (same.1 q), ends.2)
  ends_alike rest place reading.TooLong ends = (ends.0, same.0 ends.1)
  ends_alike rest place (reading.Torn n) ends =
      (ends.0, elim ends.1 [ inl over ↦ inl over | inr short ↦ inr (λ q. short.0 (same.1 q), short.1) ])

  no_file_alike : (origin : Origin) (place : ℕ) (rest : List ℕ) (ended : Ended Unfit) → IsNoFile origin P place rest ended → IsNoFile origin Q place rest ended
  no_file_alike Journal place rest ended is = (is.0, ends_alike rest place is.0 is.1, is.2)
  no_file_alike Checkpoint place rest ended is = is

  serves_alike : (market : Market) (place : ℕ) (body : List ℕ) (ended : Ended Unfit) (text : List ℕ) → ServesAll market P place body ended text → ServesAll market Q place body ended text
  serves_alike market place body ended text all = record {
    records = all.records;
    ending = all.ending;
    new = all.new;
    reads = reads_alike commands P Q place body all.records all.ending same all.reads;
    ends = all.ends;
    writes = all.writes;
  }

  after_alike : (origin : Origin) (market : Market) (place : ℕ) (rest : List ℕ) (following : Rest) (ended : Ended Unfit) (text : List ℕ) → RestComesTo origin market P place rest following ended text → RestComesTo origin market Q place rest following ended text
  after_alike origin market place rest Cut ended text comes = comes
  after_alike origin market place rest Nothing ended text comes = comes
  after_alike origin market place rest (Commands body) ended text comes = serves_alike market (place + 8) body ended text comes
  after_alike origin market place rest Other ended text comes = (no_file_alike origin place rest ended comes.0, comes.1)

  unsound_alike : (ended : Ended Unfit) → EndsUnsound P ended → EndsUnsound Q ended
  unsound_alike ended (inl more) = inl (same.0 more.0, more.1)
  unsound_alike ended (inr none) = inr (λ q. none.0 (same.1 q), none.1)

  first_alike : (first : First) (ended : Ended Unfit) (text : List ℕ) → FirstComesTo P first ended text → FirstComesTo Q first ended text
  first_alike Neither ended text comes = comes
  first_alike NoCheckpoint ended text comes = (unsound_alike ended comes.0, comes.1)
  first_alike (Illegal number) ended text comes = comes
  first_alike (Whole origin market place rest) ended text comes = (comes.0, rest_alike market.version rest comes.0 comes.1, after_alike origin market place rest comes.0 ended text comes.2)

  resumes_alike : (bytes : List ℕ) (ended : Ended Unfit) (text : List ℕ) → Resumes P bytes ended text → Resumes Q bytes ended text
  resumes_alike bytes ended text resumes = record { first = resumes.first; stands = resumes.stands; comes = first_alike resumes.first ended text resumes.comes }

-- ---- if all was done, the input has no more

module _ (More : Type 0) where
  ending_done : (format_ends : reading.Ending → Type 0) → (format_ends reading.End → ¬ More) → (ending : Ending) → format_ends ending → Ok tt ≡ ended_by ending → ¬ More
  ending_done format_ends at_end reading.End ends done = at_end ends
  ending_done format_ends at_end (reading.Torn n) ends done = absurd cc
  ending_done format_ends at_end reading.TooLong ends done = absurd cc

  no_file_done : (origin : Origin) (place : ℕ) (rest : List ℕ) → IsNoFile origin More place rest (Ok tt) → ¬ More
  no_file_done Journal place rest is = ending_done (EndsAs journals More rest place) (λ ends. ends.1) is.0 is.1 is.2
  no_file_done Checkpoint place rest is = absurd cc

  after_done : (origin : Origin) (market : Market) (place : ℕ) (rest : List ℕ) (following : Rest) (text : List ℕ) → IsRest market.version More rest following → RestComesTo origin market More place rest following (Ok tt) text → ¬ More
  after_done origin market place rest Cut text is comes = absurd (let done = comes.0 in cc)
  after_done origin market place rest Nothing text is comes = is.1
  after_done origin market place rest (Commands body) text is comes = ending_done (EndsAs commands More comes.reads.rest _) (λ ends. ends.1) comes.ending comes.reads.ends comes.ends
  after_done origin market place rest Other text is comes = no_file_done origin place rest comes.0

  unsound_done : EndsUnsound More (Ok tt) → ⊥
  unsound_done (inl more) = absurd (let done = more.1 in cc)
  unsound_done (inr none) = absurd (let done = none.1 in cc)

  first_done : (first : First) (text : List ℕ) → FirstComesTo More first (Ok tt) text → ¬ More
  first_done Neither text comes = absurd (let done = comes.0 in cc)
  first_done NoCheckpoint text comes = absurd (unsound_done comes.0)
  first_done (Illegal number) text comes = absurd (let done = comes.0 in cc)
  first_done (Whole origin market place rest) text comes = after_done origin market place rest comes.0 text comes.1 comes.2

-- ---- over the known content of a source

abbrev EndsAll : WholeInput → Ended Unfit → Option (List ℕ) → Option (List ℕ) → Type 0
EndsAll input = EndsResuming (Resumes (IsTrue input.more) input.bytes.items) (ResumesInto input.bytes.items) (ResumesShort input.bytes.items)

module _ (limit : ℕ) (left : List ℕ) (after : Option (List ℕ)) (input : WholeInput) (whole : IsWholeInput limit left input) where
  determines : (ended : Ended Unfit) (text : List ℕ) (before now : Option (List ℕ)) → Resumes (IsTrue input.more) input.bytes.items ended text → Grows before now text → Determines resuming limit left ended before now
  determines ended text before now resumes written =
      let here : Resumes (limit < length left) (take limit left) ended text = subst (λ (xs : List ℕ). Resumes (limit < length left) xs ended text) whole.bytes (resumes_alike (IsTrue input.more) (limit < length left) whole.more input.bytes.items ended text resumes) in
      (text, here, written, λ other words comes. one_end_of (limit < length left) (take limit left) other ended words text comes here)

  -- by the result
  meets : (ended : Ended Unfit) (before now : Option (List ℕ)) → EndsAll input ended before now → Meets resuming limit left after ended before now
  meets (Ok done) before now ends = determines (Ok tt) ends.0 before now ends.1 ends.2
  meets (Err fault.NotFlow) before now ends = determines (Err fault.NotFlow) ends.0 before now ends.1 ends.2
  meets (Err (fault.Torn n)) before now ends = determines (Err (fault.Torn n)) ends.0 before now ends.1 ends.2
  meets (Err fault.TooLong) before now ends = determines (Err fault.TooLong) ends.0 before now ends.1 ends.2
  meets (Err (fault.Stopped why)) before now ends = determines (Err (fault.Stopped why)) ends.0 before now ends.1 ends.2
  meets (Err fault.Write) before now (text, into, cut) = (text, inl (0, inr (subst (λ (xs : List ℕ). ResumesInto xs text) whole.bytes into)), cut)
  meets (Err fault.Memory) before now (text, inl none, written) = (text, inr (inl none), written)
  meets (Err fault.Memory) before now (text, inr short, written) = (text, inr (inr (subst (λ (xs : List ℕ). ResumesShort xs text) whole.bytes short)), written)
  meets (Err fault.Read) before now ends = absurd ends

pub meets_told : (told after : Option (List ℕ)) (limit : ℕ) (input : WholeInput) (ended : Ended Unfit) (before now : Option (List ℕ)) → IfSome told (λ left. IsWholeInput limit left input) → EndsAll input ended before now → IfSome told (λ left. Meets resuming limit left after ended before now)
meets_told None after limit input ended before now whole ends = tt
meets_told (Some left) after limit input ended before now whole ends = meets limit left after input whole ended before now ends

-- if all was done, nothing is left
pub left_told : (told after : Option (List ℕ)) (limit : ℕ) (input : WholeInput) (ended : Ended Unfit) (before now : Option (List ℕ)) → IfSome told (λ left. IsWholeInput limit left input) → IfSome told (λ left. after ≡ Some (drop (limit + 1) left))
    → EndsAll input ended before now → OnOk ended (IfSome told (λ left. after ≡ Some []))
left_told None after limit input (Ok done) before now whole taken ends = tt
left_told (Some left) after limit input (Ok done) before now whole taken ends =
    let no_more = first_done (IsTrue input.more) ends.1.first ends.0 ends.1.comes in
    let few : length left ≤ limit = omega (arith, λ (above : limit < length left). no_more (whole.more.1 above)) in
    taken ∙ ap (λ (xs : List ℕ). Some xs) (drop_all (limit + 1) left (omega arith))
left_told told after limit input (Err why) before now whole taken ends = tt

-- a resumption doesn't read the source
pub no_read : (Comes : Ended Unfit → List ℕ → Type 0) (Into Short : List ℕ → Type 0) (ended : Ended Unfit) (before now : Option (List ℕ)) → EndsResuming Comes Into Short ended before now → ended ≡ Err fault.Read → ⊥
no_read Comes Into Short ended before now ends e = subst (λ (z : Ended Unfit). EndsResuming Comes Into Short z before now) e ends

pub read_quietly : (Comes : Ended Unfit → List ℕ → Type 0) (Into Short : List ℕ → Type 0) (ended : Ended Unfit) (before now : Option (List ℕ)) → EndsResuming Comes Into Short ended before now → (faults later : ℕ) → later ≡ faults → Blames (ended ≡ Err fault.Read) faults later
read_quietly Comes Into Short ended before now ends faults later same = record {
  later = omega (arith, same);
  rose = λ e. absurd (no_read Comes Into Short ended before now ends e);
  quiet = λ _. same;
}

-- running out of memory is no fault of the source
same_why : (T F : Type 0) (a b : F) → ◌≡◌ {A = Result T F} (Err a) (Err b) → a ≡ b
same_why T F a b e = cc

pub memory_is_not_read : (T : Type 0) (why : ReadAllFault) → why ≡ reads.Memory → ◌≡◌ {A = Result T ReadAllFault} (Err why) (Err reads.Read) → ⊥
memory_is_not_read T why memory e = absurd (let same : reads.Memory ≡ reads.Read = sym memory ∙ same_why T ReadAllFault why reads.Read e in cc)
