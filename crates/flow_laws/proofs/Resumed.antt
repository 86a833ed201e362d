-- What is written after a journal, or after a checkpoint of its market, continues the market, and makes with the journal one valid journal.
use Rattle.std.proofs.Common.{◌≡◌, ◌≢◌, ◌^◌, ◌<◌, ◌≤◌, ℕ, List, [], ◌++◌, length, take, length-append, refl, sym, ap, subst, ◌∙◌, inl, inr, arith}
use Rattle.std.proofs.lemmas.List.Elements.{All-nil}
use Rattle.wire_records.specs.Records.{Record}
use Rattle.wire_records.specs.Commands.{Pair}
use Rattle.wire_records.specs.Versions.{IsReadAs}
use Rattle.wire_records.specs.Formats.{command_magic_of}
use Rattle.wire_records.specs.declared.version.Version.{Version}
use Rattle.wire_records.proofs.Readings.{read_own}
use Rattle.flow_orders.specs.Outcomes.{Outcome, IsAdmissibleOutcome}
use Rattle.journal_records.specs.Pairs.{IsPair}
use Rattle.journal_records.specs.Formats.{journal_in}
use Rattle.market_rules.specs.Market.{Market, IsConsistent, empty_market}
use Rattle.market_rules.specs.Deposits.{HoldsDeposits}
use Rattle.market_rules.specs.Laws.{Leads}
use Rattle.market_rules.proofs.LawProofs.{journals_hold_deposits, journals_stay_consistent, sequences_compose}
use Rattle.canonical_journals.proofs.CanonicalIsLegal.{canonical_follows_are_admissible}
use Rattle.market_rules.proofs.Versions.{follows_version}
use Rattle.batch_audit.specs.Legal.{IsLegalJournal}
use Rattle.word_driver.specs.Ended.{Ended}
use Rattle.session_resume.specs.declared.first.Origin.{Origin}
use Rattle.session_resume.specs.declared.first.Origin.TheVariants as origin
use Rattle.session_resume.specs.declared.first.Unfit.{Unfit}
use Rattle.session_resume.specs.Continuing.{Continues}
use Rattle.session_resume.specs.Firsts.{First, Whole, IsFirst}
use Rattle.session_resume.specs.Rests.{Rest, Cut, Nothing, Commands, Other, IsRest, RestComesTo}
use Rattle.session_resume.specs.Resuming.{FirstComesTo, Resumes, ResumesFirst}
use Rattle.wire_records.proofs.RecordCode.{eight}
use Rattle.session_resume.proofs.OneFirst.{one_first}
use Rattle.flow_exchange.specs.declared.form.Form.TheVariants.{Audit}
use Rattle.exit_status.specs.declared.status.Status.TheVariants.{Done}
use Rattle.flow_exchange.specs.Auditing.{legal_line}
use Rattle.flow_exchange.specs.Program.{ComesTo}
use Rattle.flow_exchange.proofs.CanonicallyKept.{are_own_kept, consistent_first}
use Rattle.flow_laws.specs.Laws.{NewRecords, IsWrittenAfter, BeginsWithKept, JoinsJournal, ResumptionsGoOn, ResumptionsKeepPromises}
use Rattle.flow_laws.proofs.ResumeCuts.{cut_into}
use Rattle.flow_laws.proofs.GoingOn.{one_journal, canonical_journal, same_journal}

-- ---- resuming

-- no records are answered
pub none_continues : (market : Market) → Continues market [] market []
none_continues market = record { pairs = []; answered = record { asked = refl; steps = refl }; fits = λ few. All-nil IsPair; encoded = refl }

none : (market : Market) (rest text : List ℕ) → ((body : List ℕ) → rest ≢ command_magic_of market.version ++ body) → text ≡ [] → IsWrittenAfter market rest text
none market rest text no_file empty = record { records = []; new = market; are_new = inr (no_file, refl); continues = subst (Continues market [] market) (sym empty) (none_continues market) }

few_bytes : (version : Version) (rest body : List ℕ) → length rest < 8 → rest ≢ command_magic_of version ++ body
few_bytes version rest body few magic = omega (arith, few, ap length magic, length-append (command_magic_of version) body, eight version)

module _ (kind : Origin) (market : Market) (More : Type 0) (place : ℕ) (rest : List ℕ) where
  goes : (following : Rest) (ended : Ended Unfit) (text : List ℕ) → IsRest market.version More rest following → RestComesTo kind market More place rest following ended text → IsWrittenAfter market rest text
  goes Cut ended text is comes = none market rest text (λ body. few_bytes market.version rest body is.0) comes.1
  goes Nothing ended text is comes = none market rest text (λ body. few_bytes market.version rest body (rw is.0 (omega arith))) comes.1
  goes (Commands body) ended text is comes = record {
    records = comes.records;
    new = comes.new;
    are_new = inl (record { left = comes.reads.rest; whole = is ∙ ap (λ xs. command_magic_of market.version ++ xs) comes.reads.whole; each = comes.reads.each; last = comes.reads.none });
    continues = comes.writes;
  }
  goes Other ended text is comes = none market rest text is.2 comes.1

-- the beginning of the input decides what is resumed from
pub goes_from : (More : Type 0) (bytes : List ℕ) (ended : Ended Unfit) (text : List ℕ) (kind : Origin) (market : Market) (place : ℕ) (rest : List ℕ) → IsFirst bytes (Whole kind market place rest) → Resumes More bytes ended text → IsWrittenAfter market rest text
goes_from More bytes ended text kind market place rest stands all =
    let same = one_first bytes all.first (Whole kind market place rest) all.stands stands in
    let comes : FirstComesTo More (Whole kind market place rest) ended text = subst (λ (first : First). FirstComesTo More first ended text) same all.comes in
    goes kind market More place rest comes.0 ended text comes.1 comes.2

after_each : (old new : Market) (records : List Record) (text : List ℕ) (writes : Continues old records new text) (before after : List (Pair Record Outcome)) → IsConsistent old
    → writes.pairs ≡ before ++ after → (market : Market) × Leads old before market × IsConsistent market × HoldsDeposits IsReadAs old before market
after_each old new records text writes before after consistent parts =
    let legal = canonical_follows_are_admissible IsReadAs read_own old writes.pairs new consistent writes.answered.steps in
    let apart = sequences_compose.apart old new before after (rw parts at legal) in
    (apart.0, apart.1, journals_stay_consistent old before apart.0 consistent apart.1, journals_hold_deposits old before apart.0 consistent apart.1)

pub resumptions_keep_promises : ResumptionsKeepPromises
resumptions_keep_promises = record {
  goes_on = λ limit place bytes rest text kind market status first comes.
      (consistent_first (take limit bytes) kind market place rest first, goes_from (limit < length bytes) (take limit bytes) comes.0 text kind market place rest first comes.1);
  keeps = λ old new records text writes consistent. are_own_kept old new writes.pairs consistent writes.answered.steps;
  after_each = after_each;
}

-- ---- joining a journal

-- the bytes begin with what keeps the market of entries
record StandsFirst (bytes : List ℕ) (market : Market) (rest : List ℕ) : Type 0 where
  kind : Origin
  place : ℕ
  first : IsFirst bytes (Whole kind market place rest)

stands_first : (version : Version) (pairs : List (Pair Record Outcome)) (market : Market) (bytes rest : List ℕ) → IsLegalJournal version pairs market → BeginsWithKept version pairs market bytes rest → StandsFirst bytes market rest
stands_first version pairs market bytes rest legal (inl (whole, last)) = record {
  kind = origin.Journal;
  place = length (journal_in version pairs);
  first = record { version = version; pairs = pairs; legal = legal; whole = whole; last = last; ends = refl };
}
stands_first version pairs market bytes rest legal (inr (checkpoint, is_one, whole)) = record {
  kind = origin.Checkpoint;
  place = length checkpoint;
  first = record { checkpoint = checkpoint; is_one = is_one; whole = whole; ends = refl };
}

-- the market of a valid journal is of its version
of_version : (version : Version) (pairs : List (Pair Record Outcome)) (market : Market) → IsLegalJournal version pairs market → market.version ≡ version
of_version version pairs market legal = follows_version IsAdmissibleOutcome IsReadAs (empty_market version) pairs market legal.steps

module _ (most : ℕ) (version : Version) (pairs : List (Pair Record Outcome)) (market : Market) (legal : IsLegalJournal version pairs market) (wide : most < 2 ^ 64) where
  abbrev journal : List ℕ
  journal = journal_in version pairs

  joins : (rest text : List ℕ) → IsWrittenAfter market rest text → length (journal ++ text) ≤ most → JoinsJournal most version pairs market rest text
  joins rest text on within =
      let so = on.continues in
      record {
        records = on.records;
        new = on.new;
        are_new = subst (λ (v : Version). NewRecords v rest on.records) (of_version version pairs market legal) on.are_new;
        one = one_journal most version pairs journal text market on.new on.records legal refl so wide within;
        own = λ first writes. canonical_journal most version journal text market on.new first on.records writes so wide within;
        same = λ first last whole writes other. same_journal most version journal text market on.new first on.records writes so wide within whole last other;
      }

  -- what was written so far joins the journal too
  audited : (new : Market) (records : List Record) (text : List ℕ) → Continues market records new text → length (journal ++ text) ≤ most → (line : List ℕ) × ComesTo Audit most (journal ++ text) Done line
  audited new records text writes within =
      let one = one_journal most version pairs journal text market new records legal refl writes wide within in
      (legal_line (one.pairs ++ one.more), one.audited)

  nothing_yet : (text : List ℕ) → text ≡ [] → length (journal ++ text) ≤ most → (line : List ℕ) × ComesTo Audit most (journal ++ text) Done line
  nothing_yet text empty within =
      audited market [] text (subst (Continues market [] market) (sym empty) (none_continues market)) within

  so_far : (bytes rest text : List ℕ) (records : List Record) (left : List ℕ) (new : Market) → StandsFirst bytes market rest → ResumesFirst bytes records left new text → length (journal ++ text) ≤ most
      → (line : List ℕ) × ComesTo Audit most (journal ++ text) Done line
  so_far bytes rest text records left new stands first within =
      let same = one_first bytes (Whole first.origin first.market first.place first.rest) (Whole stands.kind market stands.place rest) first.stands stands.first in
      audited new records text (subst (λ (m : Market). Continues m records new text) (same_market first.origin stands.kind first.market market first.place stands.place first.rest rest same) first.writes) within
    where
      same_market : (a b : Origin) (m n : Market) (p q : ℕ) (r s : List ℕ) → Whole a m p r ≡ Whole b n q s → m ≡ n
      same_market a b m n p q r s e = cc

pub resumptions_go_on : ResumptionsGoOn
resumptions_go_on = record {
  whole = λ limit most bytes rest text version pairs market status legal keeps comes wide within.
      let stands = stands_first version pairs market (take limit bytes) rest legal keeps in
      joins most version pairs market legal wide rest text (goes_from (limit < length bytes) (take limit bytes) comes.0 text stands.kind market stands.place rest stands.first comes.1) within;
  begun = λ limit most bytes rest text version pairs market legal keeps begun wide within.
      let stands = stands_first version pairs market (take limit bytes) rest legal keeps in
      elim begun [
        | inl (n, more) ↦
            elim (cut_into limit bytes n text more) [
              | inl empty ↦ nothing_yet most version pairs market legal wide text empty within
              | inr into ↦ so_far most version pairs market legal wide (take limit bytes) rest text into.records into.left into.new stands into.first within
            ]
        | inr (status, comes) ↦
            let on = goes_from (limit < length bytes) (take limit bytes) comes.0 text stands.kind market stands.place rest stands.first comes.1 in
            audited most version pairs market legal wide on.new on.records text on.continues within
      ];
}
