-- A resumption does what the clauses of the program say.
use Rattle.std.proofs.Common.{◌≡◌, ◌<◌, ◌⊎◌, ℕ, List, [], ◌∷◌, ◌++◌, Option, Err, length, take, inl, inr, append-nil, append_assoc, length-append, refl, sym, ap, ◌∙◌, subst, arith}
use Rattle.std.proofs.lemmas.List.{take_at}
use Rattle.flow_io.specs.Streams.{GrowsByPrefix}
use Rattle.flow_io.proofs.Growth.{Grows-nothing}
use Rattle.wire_records.specs.Records.{Record}
use Rattle.wire_records.specs.Grammars.{encode_all}
use Rattle.wire_records.specs.Reading as reading
use Rattle.wire_records.specs.Formats.{commands, command_magic_of}
use Rattle.wire_records.proofs.RecordCode.{commands_readable}
use Rattle.wire_records.proofs.ReadingLaws.{none_in_none}
use Rattle.market_rules.specs.Market.{Market}
use Rattle.market_snapshot.specs.Checkpoints.{checkpoint_magic}
use Rattle.journal_records.specs.Formats.{journals, journal_in}
use Rattle.journal_records.proofs.Files.{eight}
use Rattle.word_driver.specs.declared.fault.Fault.TheVariants.{NotFlow, TooLong}
use Rattle.exchange_session.proofs.RunLaws.{run_is_exact}
use Rattle.session_resume.specs.declared.first.Unfit.{Unfit}
use Rattle.session_resume.specs.declared.first.Unfit.TheVariants.{Illegal, NoCheckpoint}
use Rattle.session_resume.specs.declared.first.Origin.{Origin}
use Rattle.session_resume.specs.declared.first.Origin.TheVariants.{Journal, Checkpoint}
use Rattle.session_resume.specs.Firsts.{Neither, Whole, IsFirst}
use Rattle.session_resume.specs.Rests.{Commands}
use Rattle.session_resume.specs.Resuming.{Resumes, ResumesFirst, ResumesInto, ResumesShort}
use Rattle.session_resume.specs.Tasks.{resuming}
use Rattle.flow_exchange.specs.declared.form.Form.TheVariants.{Resume}
use Rattle.exit_status.specs.declared.status.Status.TheVariants as answer
use Rattle.flow_exchange.specs.Statuses.{unfit_status}
use Rattle.flow_exchange.specs.Program.{ComesToIfMore, GetsTo}
use Rattle.exit_status.proofs.Own.{IsOwn}
use Rattle.flow_exchange.proofs.Words.{IsForm, Unwritten, nothing_is_prefix}
use Rattle.flow_exchange.proofs.CommandFiles.{command_files_begin_no_pair}

-- The bytes begin with what is resumed from, whatever follows it.
pub record HasPrefix (bytes : List ℕ) (origin : Origin) (market : Market) (place : ℕ) (rest : List ℕ) : Type 0 where
  pub prefix : List ℕ
  pub whole : bytes ≡ prefix ++ rest
  pub stands : (body : List ℕ) → IsFirst (prefix ++ (command_magic_of market.version ++ body)) (Whole origin market place (command_magic_of market.version ++ body))

pub prefix_of : (bytes : List ℕ) (origin : Origin) (market : Market) (place : ℕ) (rest : List ℕ) → IsFirst bytes (Whole origin market place rest) → HasPrefix bytes origin market place rest
prefix_of bytes Journal market place rest is = record {
  prefix = journal_in is.version is.pairs;
  whole = is.whole;
  stands = λ body. record { version = is.version; pairs = is.pairs; legal = is.legal; whole = refl; last = command_files_begin_no_pair market.version body; ends = is.ends };
}
prefix_of bytes Checkpoint market place rest is = record {
  prefix = is.checkpoint;
  whole = is.whole;
  stands = λ body. record { checkpoint = is.checkpoint; is_one = is.is_one; whole = refl; ends = is.ends };
}

-- what first bytes result in if more follow
if_more : (first text : List ℕ) → ((More : Type 0) → More → Resumes More first (Err TooLong) text) → ComesToIfMore Resume first text
if_more first text resumes = λ next more.
    let all = first ++ next ∷ more in
    let longer : length first < length all = omega (arith, length-append first (next ∷ more)) in
    let taken = sym (take_at first (next ∷ more) (length first) refl) in
    (answer.TooLong (length first), (Err TooLong, subst (λ (xs : List ℕ). Resumes (length first < length all) xs (Err TooLong) text) taken (resumes (length first < length all) longer), refl))

-- the bytes up to the end of the first records result in the entries of these
gets : (limit : ℕ) (bytes : List ℕ) (records : List Record) (left : List ℕ) (new : Market) (text : List ℕ) → ResumesFirst (take limit bytes) records left new text → GetsTo Resume limit bytes text
gets limit bytes records left new text at =
    let magic = command_magic_of at.market.version in
    let encoded = encode_all commands.units records in
    let has = prefix_of (take limit bytes) at.origin at.market at.place at.rest at.stands in
    let first = has.prefix ++ (magic ++ encoded) in
    let whole : take limit bytes ≡ first ++ left =
    has.whole ∙ ap (λ xs. has.prefix ++ xs) (at.magic ∙ ap (λ xs. magic ++ xs) at.whole ∙ sym (append_assoc magic encoded left)) ∙ sym (append_assoc has.prefix (magic ++ encoded) left)
    in
    let taken : take (length first) (take limit bytes) ≡ first = ap (take (length first)) whole ∙ take_at first left (length first) refl in
    let comes : (More : Type 0) → More → Resumes More first (Err TooLong) text = λ More more. record {
      first = Whole at.origin at.market at.place (magic ++ encoded);
      stands = has.stands encoded;
      comes = (
        Commands encoded,
        refl,
        record {
          records = records;
          ending = reading.TooLong;
          new = new;
          reads = record { rest = []; whole = sym (append-nil encoded); each = at.each; none = none_in_none commands.units commands_readable.units; ends = (run_is_exact.short, more) };
          ends = refl;
          writes = at.writes;
        },
      );
    } in
    inl (length first, subst (λ (xs : List ℕ). ComesToIfMore Resume xs text) (sym taken) (if_more first text comes))

lacks : (limit : ℕ) (bytes : List ℕ) (text : List ℕ) → (text ≡ []) ⊎ ResumesShort (take limit bytes) text → (text ≡ []) ⊎ GetsTo Resume limit bytes text
lacks limit bytes text (inl none) = inl none
lacks limit bytes text (inr short) = inr (gets limit bytes short.records short.left short.new text short.first)

-- after a failed write of the output: without bytes there is nothing to resume from
no_bytes : ComesToIfMore Resume [] []
no_bytes = λ next more. (
  answer.NotFlow,
  (
    Err NotFlow,
    record {
      first = Neither;
      stands = (λ version rest lawful e. omega (arith, ap length e, length-append (journals.magics.encode version) rest, eight version), λ (rest, e). omega (arith, ap length e, length-append checkpoint_magic rest, eight_bytes));
      comes = (refl, refl);
    },
    refl,
  ),
)
  where
    eight_bytes : length checkpoint_magic ≡ 8
    eight_bytes = refl

cut_short : (limit : ℕ) (bytes : List ℕ) (text : List ℕ) (before after : Option (List ℕ)) → (text ≡ []) ⊎ ResumesInto (take limit bytes) text → GrowsByPrefix before after text → (other : List ℕ) × GetsTo Resume limit bytes other × GrowsByPrefix before after other
cut_short limit bytes text before after (inl none) written = ([], inl (0, no_bytes), nothing_is_prefix before after text [] none written)
cut_short limit bytes text before after (inr into) written = (text, gets limit bytes into.records into.left into.new text into.first, written)

owns : (why : Unfit) → IsOwn (unfit_status why)
owns (Illegal number) = tt
owns NoCheckpoint = tt

pub resume_form : IsForm resuming Resume unfit_status Unwritten
resume_form = record {
  to = λ limit bytes ended text comes. (ended, comes, refl);
  so_far = λ limit bytes n text before after begun written same. ([], refl, rw same (Grows-nothing before));
  gets = λ limit bytes n text before after begun written. cut_short limit bytes text before after begun written;
  lacks = lacks;
  out = λ limit bytes text short. short;
  owns = owns;
  most = λ limit. refl;
  left = λ bytes. refl;
}
