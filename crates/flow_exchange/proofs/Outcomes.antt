-- Bytes determine one status and one text, in which a call results that no fault broke off.
use Rattle.std.proofs.Common.{◌≡◌, ◌≢◌, ◌+◌, ◌<◌, ℕ, List, [], ◌∷◌, ◌++◌, length, take, get_or, inl, inr, Option, Some, None, IfSome, sym, ap, subst, ◌∙◌, arith}
use Rattle.std.specs.Prelude.{decimal, nat_eq, if◌then◌else◌}
use Rattle.std.specs.Str.Parse.{digits_value}
use Rattle.std.proofs.lemmas.Fmt.{decimal_is_IsNumeral}
use Rattle.wire_records.specs.Records.{Record}
use Rattle.wire_records.specs.Versions.{IsReadAs}
use Rattle.wire_records.specs.Commands.{Pair}
use Rattle.wire_records.specs.Reading.{Reading, NotFlow, File}
use Rattle.wire_records.specs.declared.version.Version.{Version}
use Rattle.wire_records.specs.Formats.{commands}
use Rattle.wire_records.proofs.Readings.{reading_unique}
use Rattle.wire_records.proofs.ReadingLaws.{reads_one}
use Rattle.wire_records.proofs.RecordCode.{commands_readable}
use Rattle.flow_orders.specs.Outcomes.{Outcome}
use Rattle.journal_records.specs.Formats.{journal_in, records_of}
use Rattle.market_rules.specs.Market.{Market}
use Rattle.market_rules.proofs.LawProofs.{market_is_determined}
use Rattle.batch_report.specs.Reports.{IsReport}
use Rattle.batch_report.proofs.OneReport.{one_report}
use Rattle.canonical_journals.proofs.OneCanonicalJournal.{one_canonical_journal}
use Rattle.exchange_session.specs.Journals.{Journals}
use Rattle.journal_words.proofs.JournalLaws.{one_line}
use Rattle.wire_records.specs.declared.version.Version.TheVariants.{One, Two, Three, Four}
use Rattle.flow_exchange.specs.declared.form.Form.{Form}
use Rattle.flow_exchange.specs.declared.form.Form.TheVariants.{Run, Audit, Explain, Report, Encode, Sample, Statement, Checkpoint, Resume}
use Rattle.exit_status.specs.declared.status.Status.{Status}
use Rattle.exit_status.specs.declared.status.Status.TheVariants as answer
use Rattle.exit_status.specs.Statuses.{reading_status}
use Rattle.flow_exchange.specs.Statuses.{ended_status, unencoded, unfit_status}
use Rattle.wire_records.specs.Grammars.{BeginsWithNone}
use Rattle.market_history.specs.Histories.{market_of, starts}
use Rattle.flow_exchange.specs.HistoryFiles.{History, history_status, IsNoHistory, HistoryTo}
use Rattle.flow_exchange.specs.Auditing.{audit_text}
use Rattle.flow_exchange.specs.Explaining.{Explains}
use Rattle.flow_exchange.specs.Reporting.{AreReported}
use Rattle.encode_word.proofs.Encoding.{encodes_one}
use Rattle.sample_summary.proofs.OneSummary.{one_summary}
use Rattle.flow_exchange.specs.Sampling.{SamplesTo}
use Rattle.flow_exchange.specs.Stating.{statement_status, statement_text, States}
use Rattle.statement_rules.proofs.ViewLaws.{one_view}
use Rattle.flow_exchange.specs.Running.{WritesOf, RunsTo}
use Rattle.flow_exchange.specs.Checkpointing.{checkpoint_text}
use Rattle.flow_exchange.specs.Resuming.{ResumesTo}
use Rattle.session_resume.proofs.OneResumption.{one_end_of}
use Rattle.flow_exchange.specs.Forms.{Asks}
use Rattle.flow_exchange.specs.Program.{ComesTo, Determines, Meets}
use Rattle.flow_exchange.specs.Laws.{OneForm, OneEnd, OneIfMore, FaultlessIsDetermined}
use Rattle.flow_exchange.proofs.HistoryOf.{one_history}

-- ---- arguments ask for one form: it is a function of them

-- a number that tells the first arguments apart
abbrev mark : List ℕ → ℕ
mark word = length word + get_or word 0 0 + get_or word 2 0

-- the version that the argument after `encode` names
abbrev version_in : List ℕ → Version
version_in second =
    if nat_eq (get_or second 0 0) 0 then One else
    (if nat_eq (get_or second 0 0) 50 then Two else
    (if nat_eq (get_or second 0 0) 51 then Three else Four))

-- the form, by the mark of the first argument
abbrev form_by : ℕ → List ℕ → List ℕ → Option Form
form_by first second third =
    if nat_eq first 227 then Some Run else
    (if nat_eq first 202 then Some Audit else
    (if nat_eq first 220 then Some Explain else
    (if nat_eq first 232 then Some Report else
    (if nat_eq first 206 then Some (Encode (version_in second)) else
    (if nat_eq first 230 then Some (Sample (digits_value 10 second) (digits_value 10 third)) else
    (if nat_eq first 221 then Some (Statement (digits_value 10 second)) else
    (if nat_eq first 210 then Some Checkpoint else
    (if nat_eq first 235 then Some Resume else None))))))))

abbrev form_in : List (List ℕ) → Option Form
form_in words = form_by (mark (get_or words 0 [])) (get_or words 1 []) (get_or words 2 [])

-- this form is the one that the arguments ask for
form_is : (words : List (List ℕ)) (form : Form) → Asks words form → form_in words ≡ Some form
form_is words Run asks = ap form_in asks
form_is words Audit asks = ap form_in asks
form_is words Explain asks = ap form_in asks
form_is words Report asks = ap form_in asks
form_is words (Encode One) asks = ap form_in asks
form_is words (Encode Two) asks = ap form_in asks
form_is words (Encode Three) asks = ap form_in asks
form_is words (Encode Four) asks = ap form_in asks
form_is words (Sample n p) asks =
    ap form_in asks.are ∙ ap (λ k. Some (Sample k (digits_value 10 (decimal p)))) (decimal_is_IsNumeral n asks.number_fits).1
    ∙ ap (λ k. Some (Sample n k)) (decimal_is_IsNumeral p (omega (arith, asks.few))).1
form_is words (Statement n) asks = ap form_in asks.are ∙ ap (λ k. Some (Statement k)) (decimal_is_IsNumeral n asks.number_fits).1
form_is words Checkpoint asks = ap form_in asks
form_is words Resume asks = ap form_in asks

some_one : (f g : Form) → Some f ≡ Some g → f ≡ g
some_one f g e = cc

pub one_form : OneForm
one_form words f g a b = some_one f g (sym (form_is words f a) ∙ form_is words g b)

-- ---- bytes result in one status and one text

-- records have one journal, and so one text
journals_one : (version : Version) (records : List Record) (m n : Market) (x y : List ℕ) → Journals version records m x → Journals version records n y → x ≡ y
journals_one version records m n x y a b =
    let one = one_canonical_journal IsReadAs reading_unique version records a.pairs b.pairs m n a.journal_of b.journal_of in
    a.encoded ∙ ap (journal_in version) one.0 ∙ sym b.encoded

-- one text is written for a reading
writes_one : (reading : Reading Version Record) (x y : List ℕ) → WritesOf reading x → WritesOf reading y → x ≡ y
writes_one NotFlow x y a b = a ∙ sym b
writes_one (File version records ending) x y a b = journals_one version records a.0 b.0 x y a.1 b.1

-- a run results in one status and one text
runs_one : (limit : ℕ) (bytes : List ℕ) (s t : Status) (x y : List ℕ) → RunsTo limit bytes s x → RunsTo limit bytes t y → (s ≡ t) × (x ≡ y)
runs_one limit bytes s t x y a b =
    let one = reads_one commands commands_readable limit bytes a.reading b.reading a.reads b.reads in
    (a.ends ∙ ap (reading_status limit) one ∙ sym b.ends, writes_one b.reading x y (rw (← one) a.writes) b.writes)

-- bytes that begin no history have one status
no_history_one : (bytes : List ℕ) (s t : Status) → IsNoHistory bytes s → IsNoHistory bytes t → s ≡ t
no_history_one bytes s t (inl a) (inl b) = a.1 ∙ sym b.1
no_history_one bytes s t (inl a) (inr b) = absurd (a.0.1 b.0.1)
no_history_one bytes s t (inr a) (inl b) = absurd (b.0.1 a.0.1)
no_history_one bytes s t (inr a) (inr b) = a.1 ∙ sym b.1

begins_none : (bytes : List ℕ) (s : Status) → IsNoHistory bytes s → BeginsWithNone starts bytes
begins_none bytes s (inl other) = other.0.0
begins_none bytes s (inr unsound) = unsound.0.0

-- a subcommand over a history makes one status of it, and one text if it makes one of each history
history_one : (judge : History → Status) (Writes : History → List ℕ → Type 0) → ((history : History) (x y : List ℕ) → Writes history x → Writes history y → x ≡ y) → (limit : ℕ) (bytes : List ℕ) (s t : Status) (x y : List ℕ)
    → HistoryTo judge Writes limit bytes s x → HistoryTo judge Writes limit bytes t y → (s ≡ t) × (x ≡ y)
history_one judge Writes one limit bytes s t x y (inl a) (inl b) = (no_history_one (take limit bytes) s t a.0 b.0, a.1 ∙ sym b.1)
history_one judge Writes one limit bytes s t x y (inl a) (inr b) = let reads = b.1.reads in absurd (begins_none (take limit bytes) s a.0 b.0.start reads.0 reads.1.0 reads.1.1)
history_one judge Writes one limit bytes s t x y (inr a) (inl b) = let reads = a.1.reads in absurd (begins_none (take limit bytes) t b.0 a.0.start reads.0 reads.1.0 reads.1.1)
history_one judge Writes one limit bytes s t x y (inr a) (inr b) =
    let same = one_history limit bytes a.0 b.0 a.1 b.1 in
    (a.2 ∙ ap judge same ∙ sym b.2, one b.0 x y (subst (λ (h : History). Writes h x) same a.3) b.3)

-- an explanation writes one line of a journal
explained_once : (market : Market) (legal : List (Pair Record Outcome)) (following : List (Record × Record)) (line x y : List ℕ) → Explains market legal following line x → Explains market legal following line y → x ≡ y
explained_once market legal [] line x y a b = a ∙ sym b
explained_once market legal (bad ∷ more) line x y a b = one_line market (length legal + 1) bad x y a b

-- entries have one text, and lead to one market
one_text : (old : Market) (number : ℕ) (pairs : List (Pair Record Outcome)) (m n : Market) (x y : List ℕ) → AreReported old number pairs m x → AreReported old number pairs n y → x ≡ y
one_text old number [] m n x y a b = a.1 ∙ sym b.1
one_text old number (pair ∷ pairs) m n x y a b =
    let same = market_is_determined old pair.asked pair.answer a.0 b.0 a.3 b.3 in
    let here = subst (λ (next : Market). IsReport next number (records_of pair) a.1) same a.4 in
    let first = one_report b.0 number (records_of pair) a.1 b.1 here b.4 in
    let rest = one_text b.0 (number + 1) pairs m n a.2 b.2 (subst (λ (next : Market). AreReported next (number + 1) pairs m a.2) same a.5) b.5 in
    a.6 ∙ ap (λ xs. xs ++ a.2) first ∙ ap (λ xs. b.1 ++ xs) rest ∙ sym b.6

-- what an account sees of a history has one text
stated_once : (account : ℕ) (history : History) (x y : List ℕ) → States account history x → States account history y → x ≡ y
stated_once account history x y a b =
    let view = one_view.one account (market_of history.start) history.legal a.view b.view history.market history.market a.sees b.sees in
    a.writes ∙ ap (statement_text account history) view ∙ sym b.writes

-- an encoding results in one status and one text
lines_one : (version : Version) (limit : ℕ) (bytes : List ℕ) (s t : Status) (x y : List ℕ) → ComesTo (Encode version) limit bytes s x → ComesTo (Encode version) limit bytes t y → (s ≡ t) × (x ≡ y)
lines_one version limit bytes s t x y a b =
    let one = encodes_one version (limit < length bytes) (take limit bytes) a.0 b.0 x y a.1 b.1 in
    (a.2 ∙ ap (ended_status limit unencoded) one.0 ∙ sym b.2, one.1)

-- a sample results in one line
samples_one : (number orders : ℕ) (s t : Status) (x y : List ℕ) → SamplesTo number orders s x → SamplesTo number orders t y → (s ≡ t) × (x ≡ y)
samples_one number orders s t x y a b = (a.0 ∙ sym b.0, one_summary number orders x y a.1 b.1)

-- a resumption results in one status and one text
resumes_one : (limit : ℕ) (bytes : List ℕ) (s t : Status) (x y : List ℕ) → ResumesTo limit bytes s x → ResumesTo limit bytes t y → (s ≡ t) × (x ≡ y)
resumes_one limit bytes s t x y a b =
    let one = one_end_of (limit < length bytes) (take limit bytes) a.0 b.0 x y a.1 b.1 in
    (a.2 ∙ ap (ended_status limit unfit_status) one.0 ∙ sym b.2, one.1)

pub one_end : OneEnd
one_end Run limit bytes s t x y a b = runs_one limit bytes s t x y a b
one_end Audit limit bytes s t x y a b = history_one (history_status limit) (λ history text. text ≡ audit_text history) (λ history x y a b. a ∙ sym b) limit bytes s t x y a b
one_end Explain limit bytes s t x y a b =
    history_one (history_status limit) (λ history text. Explains history.market history.legal history.following (audit_text history) text) (λ history x y a b. explained_once history.market history.legal history.following (audit_text history) x y a b) limit bytes s t x y a b
one_end Report limit bytes s t x y a b =
    history_one (history_status limit) (λ history text. AreReported (market_of history.start) 1 history.legal history.market text)
    (λ history x y a b. one_text (market_of history.start) 1 history.legal history.market history.market x y a b) limit bytes s t x y a b
one_end (Encode version) limit bytes s t x y a b = lines_one version limit bytes s t x y a b
one_end (Sample number orders) limit bytes s t x y a b = samples_one number orders s t x y a b
one_end (Statement number) limit bytes s t x y a b = history_one (statement_status number limit) (States number) (stated_once number) limit bytes s t x y a b
one_end Checkpoint limit bytes s t x y a b = history_one (history_status limit) (λ history text. text ≡ checkpoint_text history) (λ history x y a b. a ∙ sym b) limit bytes s t x y a b
one_end Resume limit bytes s t x y a b = resumes_one limit bytes s t x y a b

-- first bytes result in one text if more follow
pub one_if_more : OneIfMore
one_if_more form bytes x y a b = (one_end form (length bytes) (bytes ++ 0 ∷ []) (a 0 []).0 (b 0 []).0 x y (a 0 []).1 (b 0 []).1).1

-- ---- if no count rose and memory didn't run out, the bytes determine what a form did

completes : (told left : Option (List ℕ)) (form : Form) (limit : ℕ) (status : Status) (before after : Option (List ℕ)) → IfSome told (λ bytes. Meets form limit bytes left status before after)
    → status ≢ answer.ReadFault → status ≢ answer.WriteFault → status ≢ answer.NoMemory → IfSome told (λ bytes. Determines form limit bytes status before after)
completes None left form limit status before after meets r w m = tt
completes (Some bytes) left form limit status before after meets r w m = meets.determined r w m

pub faultless_is_determined : FaultlessIsDetermined
faultless_is_determined form limit status source out does no_read no_write memory =
    completes source.before source.after form limit status out.before out.after does.meets (λ e. no_read (does.reads.rose e)) (λ e. no_write (does.writes.rose e)) memory
