-- A resumption after a journal and one after a checkpoint of its market are alike.
use Rattle.std.proofs.Common.{◌≡◌, ◌≢◌, ◌⊎◌, ◌+◌, ◌^◌, ◌<◌, ◌≤◌, ℕ, List, [], ◌++◌, length, take, Ok, Err, length-append, refl, sym, ap, subst, ◌∙◌, inl, inr, arith}
use Rattle.std.proofs.lemmas.List.{take_all}
use Rattle.wire_records.specs.Records.{Record}
use Rattle.wire_records.specs.Commands.{Pair}
use Rattle.wire_records.specs.Grammars.{BeginsWithNone, encode_all}
use Rattle.wire_records.specs.Reading.{Ending, End, Torn, TooLong, EndsAs}
use Rattle.wire_records.specs.Formats.{commands, command_magic_of}
use Rattle.wire_records.specs.declared.version.Version.{Version}
use Rattle.wire_records.proofs.CodeLaws.{values_unique}
use Rattle.wire_records.proofs.RecordCode.{commands_readable}
use Rattle.flow_orders.specs.Outcomes.{Outcome}
use Rattle.journal_records.specs.Formats.{journals, journal_in}
use Rattle.market_rules.specs.Market.{Market}
use Rattle.market_snapshot.specs.Checkpoints.{IsCheckpoint, HasCheckpointMagic}
use Rattle.batch_audit.specs.Legal.{IsLegalJournal}
use Rattle.word_driver.specs.Ended.{Ended}
use Rattle.word_driver.specs.declared.fault.Fault.TheVariants as fault
use Rattle.session_resume.specs.declared.first.Origin.{Origin}
use Rattle.session_resume.specs.declared.first.Origin.TheVariants as origin
use Rattle.session_resume.specs.declared.first.Unfit.{Unfit}
use Rattle.session_resume.specs.Firsts.{First, Whole, IsFirst}
use Rattle.session_resume.specs.Rests.{Rest, Cut, Nothing, Commands, Other, IsRest, RestComesTo, IsNoFile, ServesAll, ended_by}
use Rattle.session_resume.specs.Resuming.{FirstComesTo, Resumes}
use Rattle.session_resume.proofs.OneFirst.{one_first, one_rest}
use Rattle.session_resume.proofs.OneResumption.{continues_one}
use Rattle.flow_exchange.specs.declared.form.Form.TheVariants.{Checkpoint, Resume}
use Rattle.exit_status.specs.declared.status.Status.{Status}
use Rattle.exit_status.specs.declared.status.Status.TheVariants as answer
use Rattle.flow_exchange.specs.Statuses.{ended_status, unfit_status}
use Rattle.flow_exchange.specs.Program.{ComesTo}
use Rattle.flow_laws.specs.Laws.{NewRecords, IsWrittenAfter, EndAlike, GoOnAlike}
use Rattle.flow_laws.proofs.CheckpointLaws.{checkpoints_of_histories, legal_journals_have_checkpoints}
use Rattle.flow_laws.proofs.AuditLaws.{history_journal}
use Rattle.flow_laws.proofs.Resumed.{goes_from}

-- ---- the entries

-- there is one list of new records
new_one : (version : Version) (rest : List ℕ) (records others : List Record) → NewRecords version rest records → NewRecords version rest others → records ≡ others
new_one version rest records others (inl a) (inl b) =
    let magic = command_magic_of version in
    let parts = commands_readable.magics.one version version (encode_all commands.units records ++ a.left) (encode_all commands.units others ++ b.left) tt tt (sym a.whole ∙ b.whole) in
    (values_unique commands.units commands_readable.units records others a.left b.left a.each b.each a.last b.last parts.1).0
new_one version rest records others (inl a) (inr b) = absurd (b.0 (encode_all commands.units records ++ a.left) a.whole)
new_one version rest records others (inr a) (inl b) = absurd (a.0 (encode_all commands.units others ++ b.left) b.whole)
new_one version rest records others (inr a) (inr b) = a.1 ∙ sym b.1

text_one : (market : Market) (rest x y : List ℕ) → IsWrittenAfter market rest x → IsWrittenAfter market rest y → x ≡ y
text_one market rest x y a b =
    (continues_one market a.new b.new a.records b.records x y (new_one market.version rest a.records b.records a.are_new b.are_new) a.continues b.continues).1

-- ---- the ends

-- two ends are alike, relative to these places
abbrev Alike : ℕ → ℕ → Ended Unfit → Ended Unfit → Type 0
Alike here there e f = ((e ≡ Ok tt) × (f ≡ Ok tt)) ⊎ ((n : ℕ) × (e ≡ Err (fault.Torn (here + n))) × (f ≡ Err (fault.Torn (there + n))))

-- what is read in the same way from two places ends alike, if there is no more
module _ (M N : Type 0) (not_here : ¬ M) (not_there : ¬ N) (rest : List ℕ) where
  endings_alike : (here there : ℕ) (e f : Ending) → EndsAs commands M rest here e → EndsAs commands N rest there f → ((e ≡ End) × (f ≡ End)) ⊎ ((e ≡ Torn here) × (f ≡ Torn there))
  endings_alike here there End End a b = inl (refl, refl)
  endings_alike here there End (Torn n) a b = absurd (elim b.1 [ inl over ↦ a.0 over | inr short ↦ short.1 a.2 ])
  endings_alike here there End TooLong a b = absurd (not_there b.1)
  endings_alike here there (Torn n) End a b = absurd (elim a.1 [ inl over ↦ b.0 over | inr short ↦ short.1 b.2 ])
  endings_alike here there (Torn n) (Torn m) a b = inr (ap Torn a.0, ap Torn b.0)
  endings_alike here there (Torn n) TooLong a b = absurd (not_there b.1)
  endings_alike here there TooLong f a b = absurd (not_here a.1)

-- places after a magic
after_magic : (place count : ℕ) → place + 8 + count ≡ place + (8 + count)
after_magic place count = omega arith

module _ (market : Market) (M N : Type 0) (not_here : ¬ M) (not_there : ¬ N) (here there : ℕ) (rest : List ℕ) where
  serves_alike : (body : List ℕ) (e f : Ended Unfit) (x y : List ℕ) → ServesAll market M (here + 8) body e x → ServesAll market N (there + 8) body f y → Alike here there e f
  serves_alike body e f x y a b =
      let parts = values_unique commands.units commands_readable.units a.records b.records a.reads.rest b.reads.rest a.reads.each b.reads.each a.reads.none b.reads.none (sym a.reads.whole ∙ b.reads.whole) in
      let count = length (encode_all commands.units a.records) in
      let other : EndsAs commands N a.reads.rest (there + 8 + count) b.ending =
      subst (λ (rs : List Record). EndsAs commands N a.reads.rest (there + 8 + length (encode_all commands.units rs)) b.ending) (sym parts.0)
      (subst (λ (xs : List ℕ). EndsAs commands N xs (there + 8 + length (encode_all commands.units b.records)) b.ending) (sym parts.1) b.reads.ends)
      in
      elim (endings_alike M N not_here not_there a.reads.rest (here + 8 + count) (there + 8 + count) a.ending b.ending a.reads.ends other) [
        | inl done ↦ inl (a.ends ∙ ap ended_by done.0, b.ends ∙ ap ended_by done.1)
        | inr torn ↦
            inr (
              8 + count,
              a.ends ∙ ap ended_by torn.0 ∙ ap (λ (k : ℕ). torn_at k) (after_magic here count),
              b.ends ∙ ap ended_by torn.1 ∙ ap (λ (k : ℕ). torn_at k) (after_magic there count),
            )
      ]
    where
      torn_at : ℕ → Ended Unfit
      torn_at k = Err (fault.Torn k)

  -- another rest is torn at its first byte
  other_torn : (kind : Origin) (More : Type 0) (place : ℕ) (e : Ended Unfit) → (¬ More) → rest ≢ [] → IsNoFile kind More place rest e → e ≡ Err (fault.Torn (place + 0))
  other_torn origin.Journal More place e without some (End, ends, is) = absurd (some ends.2)
  other_torn origin.Journal More place e without some (Torn n, ends, is) = is ∙ ap (λ (k : ℕ). ended_by (Torn k)) (ends.0 ∙ omega arith)
  other_torn origin.Journal More place e without some (TooLong, ends, is) = absurd (without ends.1)
  other_torn origin.Checkpoint More place e without some is = is ∙ ap (λ (k : ℕ). ended_by (Torn k)) (omega arith)

  rests_alike : (kind other : Origin) (what : Rest) (e f : Ended Unfit) (x y : List ℕ) → IsRest market.version M rest what → RestComesTo kind market M here rest what e x → RestComesTo other market N there rest what f y → Alike here there e f
  rests_alike kind other Cut e f x y is a b = absurd (not_here is.1)
  rests_alike kind other Nothing e f x y is a b = inl (a.0, b.0)
  rests_alike kind other (Commands body) e f x y is a b = serves_alike body e f x y a b
  rests_alike kind other Other e f x y is a b = inr (0, other_torn kind M here e not_here is.1 a.0, other_torn other N there f not_there is.1 b.0)

  -- what the rest is, if there is no more
  rest_without : (what : Rest) → IsRest market.version N rest what → IsRest market.version M rest what
  rest_without Cut is = absurd (not_there is.1)
  rest_without Nothing is = (is.0, not_here)
  rest_without (Commands body) is = is
  rest_without Other is = (λ cut. not_here cut.1, is.1, is.2)

  ends_alike : (kind other : Origin) (e f : Ended Unfit) (x y : List ℕ) → FirstComesTo M (Whole kind market here rest) e x → FirstComesTo N (Whole other market there rest) f y → Alike here there e f
  ends_alike kind other e f x y a b =
      let same = one_rest market.version M rest b.0 a.0 (rest_without b.0 b.1) a.1 in
      rests_alike kind other a.0 e f x y a.1 a.2 (subst (λ (what : Rest). RestComesTo other market N there rest what f y) same b.2)

comes_from : (More : Type 0) (bytes : List ℕ) (ended : Ended Unfit) (text : List ℕ) (first : First) → IsFirst bytes first → Resumes More bytes ended text → FirstComesTo More first ended text
comes_from More bytes ended text first stands all = subst (λ (f : First). FirstComesTo More f ended text) (one_first bytes all.first first all.stands stands) all.comes

status_alike : (here there limit most : ℕ) (e f : Ended Unfit) (s t : Status) → Alike here there e f → s ≡ ended_status limit unfit_status e → t ≡ ended_status most unfit_status f → EndAlike here there s t
status_alike here there limit most e f s t (inl done) a b = inl (a ∙ ap (ended_status limit unfit_status) done.0, b ∙ ap (ended_status most unfit_status) done.1)
status_alike here there limit most e f s t (inr (n, torn, other)) a b = inr (n, a ∙ ap (ended_status limit unfit_status) torn, b ∙ ap (ended_status most unfit_status) other)

-- ---- a journal and a checkpoint

module _ (version : Version) (pairs : List (Pair Record Outcome)) (market : Market) (checkpoint rest : List ℕ) (legal : IsLegalJournal version pairs market) (last : BeginsWithNone journals.units rest) (is_one : IsCheckpoint market checkpoint) where
  abbrev journal : List ℕ
  journal = journal_in version pairs

  journal_first : (bytes : List ℕ) → bytes ≡ journal ++ rest → IsFirst bytes (Whole origin.Journal market (length journal) rest)
  journal_first bytes whole = record { version = version; pairs = pairs; legal = legal; whole = whole; last = last; ends = refl }

  checkpoint_first : (bytes : List ℕ) → bytes ≡ checkpoint ++ rest → IsFirst bytes (Whole origin.Checkpoint market (length checkpoint) rest)
  checkpoint_first bytes whole = record { checkpoint = checkpoint; is_one = is_one; whole = whole; ends = refl }

  texts : (limit most : ℕ) (bytes others x y : List ℕ) (s t : Status) → take limit bytes ≡ journal ++ rest → take most others ≡ checkpoint ++ rest → ComesTo Resume limit bytes s x → ComesTo Resume most others t y → x ≡ y
  texts limit most bytes others x y s t here there a b =
      text_one market rest x y
      (goes_from (limit < length bytes) (take limit bytes) a.0 x origin.Journal market (length journal) rest (journal_first (take limit bytes) here) a.1)
      (goes_from (most < length others) (take most others) b.0 y origin.Checkpoint market (length checkpoint) rest (checkpoint_first (take most others) there) b.1)

  ends : (limit most : ℕ) (x y : List ℕ) (s t : Status) → length (journal ++ rest) ≤ limit → length (checkpoint ++ rest) ≤ most → ComesTo Resume limit (journal ++ rest) s x → ComesTo Resume most (checkpoint ++ rest) t y
      → (x ≡ y) × EndAlike (length journal) (length checkpoint) s t
  ends limit most x y s t here there a b =
      let bytes = journal ++ rest in
      let others = checkpoint ++ rest in
      let prefix = take_all limit bytes here in
      let back = take_all most others there in (
        texts limit most bytes others x y s t prefix back a b,
        status_alike (length journal) (length checkpoint) limit most a.0 b.0 s t
            (ends_alike market (limit < length bytes) (most < length others) (λ more. omega (arith, more, here)) (λ more. omega (arith, more, there)) (length journal) (length checkpoint) rest origin.Journal origin.Checkpoint a.0 b.0 x y
            (comes_from (limit < length bytes) (take limit bytes) a.0 x (Whole origin.Journal market (length journal) rest) (journal_first (take limit bytes) prefix) a.1)
            (comes_from (most < length others) (take most others) b.0 y (Whole origin.Checkpoint market (length checkpoint) rest) (checkpoint_first (take most others) back) b.1))
            a.2
            b.2,
      )

written : (limit most within : ℕ) (journal checkpoint rest x y : List ℕ) (s t : Status) → ComesTo Checkpoint within journal answer.Done checkpoint → (¬ HasCheckpointMagic journal) → BeginsWithNone journals.units rest → limit < 2 ^ 64 → length (journal ++ rest) ≤ limit → length (checkpoint ++ rest) ≤ most
    → ComesTo Resume limit (journal ++ rest) s x → ComesTo Resume most (checkpoint ++ rest) t y → (x ≡ y) × EndAlike (length journal) (length checkpoint) s t
written limit most within journal checkpoint rest x y s t done not last wide here there a b =
    let of = (checkpoints_of_histories.done within journal checkpoint).0 done in
    let pairs = of.1 in
    let market = of.2 in
    let is = history_journal within journal of.0 pairs market of.3 not in
    let version = is.0 in
    let legal = is.1 in
    let short : length (journal_in version pairs) < 2 ^ 64 = omega (arith, ap length legal.encoded, length-append journal rest, here, wide) in
    let is_one : IsCheckpoint market checkpoint = subst (IsCheckpoint market) (sym of.4) (legal_journals_have_checkpoints version pairs market legal.journal short) in
    let encoded = legal.encoded in
    let so = ends version pairs market checkpoint rest legal.journal last is_one limit most x y s t
    (subst (λ (j : List ℕ). length (j ++ rest) ≤ limit) encoded here) there (subst (λ (j : List ℕ). ComesTo Resume limit (j ++ rest) s x) encoded a) b in
    (so.0, subst (λ (j : List ℕ). EndAlike (length j) (length checkpoint) s t) (sym encoded) so.1)

pub go_on_alike : GoOnAlike
go_on_alike = record {
  texts = λ limit most bytes others checkpoint rest x y version pairs market status other legal last is_one here there a b.
      texts version pairs market checkpoint rest legal last is_one limit most bytes others x y status other here there a b;
  ends = λ limit most checkpoint rest x y version pairs market status other legal last is_one here there a b.
      ends version pairs market checkpoint rest legal last is_one limit most x y status other here there a b;
  written = written;
}
