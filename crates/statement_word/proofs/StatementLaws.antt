-- A statement results in one end and one text, keeps a journal, and has an end for all bytes.
use Rattle.std.proofs.Common.{◌≡◌, ◌⊎◌, ◌+◌, ◌≤◌, ◌^◌, ℕ, true, false, List, [], Result, inl, inr, refl, sym, ap, subst, ◌∙◌, arith}
use Rattle.std.proofs.lemmas.Bool.{cases_Bool, false_from_ne_true}
use Rattle.wire_records.specs.Records.{Record}
use Rattle.wire_records.specs.Commands.{Command, Answer}
use Rattle.wire_records.specs.Versions.{IsReadAs}
use Rattle.wire_records.specs.declared.command.BodyFault.{BodyFault}
use Rattle.wire_records.specs.declared.version.Version.{Version}
use Rattle.wire_records.proofs.Readings.{reading_unique}
use Rattle.flow_accounts.specs.Balances.{IsAccount}
use Rattle.flow_orders.specs.Outcomes.{Outcome, IsAdmissibleOutcome}
use Rattle.journal_records.proofs.Encoded.{answer_unique}
use Rattle.market_rules.specs.Market.{Market, IsConsistent}
use Rattle.market_rules.proofs.LawProofs.{steps_keep_consistency}
use Rattle.market_rules.proofs.Versions.{step_version}
use Rattle.batch_audit.specs.Legal.{IsLegalPair}
use Rattle.statement_rules.specs.Views.{is_there, seen}
use Rattle.statement_rules.specs.Holdings.{held_in}
use Rattle.statement_rules.specs.Statements.{lines_from, end_lines}
use Rattle.statement_rules.proofs.Told.{told, there_is, is_account}
use Rattle.statement_rules.proofs.Texts.{quiet}
use Rattle.statement_rules.proofs.FromMarkets.{held_there}
use Rattle.word_driver.specs.Laws.{IsExact, HasNext}
use Rattle.word_driver.proofs.Denying.{not_denied}
use Rattle.journal_words.specs.Watching.{Watched}
use Rattle.journal_words.proofs.JournalLaws.{IsExactWatch, HasSight, over_pairs_is_exact, over_pairs_has_next}
use Rattle.statement_word.specs.declared.no_statement.NoStatement.{NoStatement}
use Rattle.statement_word.specs.declared.no_statement.NoStatement.TheVariants.{Rejected, NoAccount}
use Rattle.statement_word.specs.Stating.{Stated, TellsOwn, stating, statement}

-- an entry has one text
one_text : (account : ℕ) (version : Version) (old : Market) (pair : Record × Record) (x y : List ℕ) → TellsOwn account version old pair x → TellsOwn account version old pair y → x ≡ y
one_text account version old pair x y a b =
    let read = reading_unique version pair.0 a.read b.read a.reads b.reads in
    let answer = answer_unique a.answer b.answer a.encoded.fits b.encoded.fits (sym a.encoded.encoded ∙ b.encoded.encoded) in
    a.lines ∙ ap (λ (r : Result Command BodyFault). lines_from (held_in account old) (seen account old r a.answer)) read
    ∙ ap (λ (w : Answer Outcome). lines_from (held_in account old) (seen account old b.read w)) answer ∙ sym b.lines

stating_is_exact : IsExactWatch stating
stating_is_exact = record {
  one_sight = λ m n pair s t r x y a b. (a.0 ∙ sym b.0, one_text s.account m.version s.market pair x y a.1 b.1);
  one_reject = λ m n pair s b c x y p q. (p.0 ∙ sym q.0, p.1 ∙ sym q.1);
  one_close = λ m n s x y a b. a.1 ∙ sym b.1;
  one_stop = λ m n s b c x y p q. (p.1 ∙ sym q.1, p.2 ∙ sym q.2);
  closes_or_stops = λ m n s b x y closes stops. stops.0 closes.0;
}

pub statement_is_exact : IsExact statement
statement_is_exact = over_pairs_is_exact stating stating_is_exact

-- each valid entry has a text
some_lines : (old new : Market) (n : ℕ) (pair : Record × Record) (s : Stated) → IsLegalPair old pair new → (t : Stated) × (x : List ℕ) × stating.Sees new n pair s t x
some_lines old new n pair s legal =
    let step = legal.step in (
      record { account = s.account; market = new },
      lines_from (held_in s.account s.market) (seen s.account s.market step.read legal.answer),
      (
        refl,
        record {
          read = step.read;
          answer = legal.answer;
          reads = subst (λ (v : Version). IsReadAs v pair.0 step.read) (sym (step_version IsAdmissibleOutcome IsReadAs old pair.0 legal.answer new step)) step.encoded;
          encoded = legal.encoded;
          lines = refl;
        },
      ),
    )

-- the account is there, or it isn't
there_or_not : (m : Market) (account : ℕ) → IsAccount m.balances account ⊎ (IsAccount m.balances account → ⊥)
there_or_not m account =
    elim (cases_Bool (is_there m account)) [
      | inl there ↦ inl (is_account m account there)
      | inr not_there ↦ inr (λ there. absurd (let e : true ≡ false = sym (there_is m account there) ∙ not_there in cc))
    ]

some_close : (m : Market) (n : ℕ) (s : Stated) → ((x : List ℕ) × stating.Closes m n s x) ⊎ ((why : NoStatement) × (x : List ℕ) × stating.Stops m n s why x)
some_close m n s =
    elim (there_or_not m s.account) [
      | inl there ↦ inl (end_lines (held_in s.account m), (there, refl))
      | inr absent ↦ inr (NoAccount s.account, [], (absent, refl, refl))
    ]

stating_has_sight : HasSight stating
stating_has_sight = record {
  some_sight = some_lines;
  some_reject = λ m n pair s consistent illegal. not_denied (Rejected (n + 1), [], (refl, refl));
  some_close = some_close;
}

pub statement_has_next : (start : Version → Watched Stated) → ((version : Version) → IsConsistent (start version).market) → HasNext statement start
statement_has_next start consistent = over_pairs_has_next stating stating_has_sight start consistent

-- ---- accounts of numbers that no market has

-- no consistent market has so many accounts
pub not_there : (account : ℕ) (m : Market) → IsConsistent m → 2 ^ 32 ≤ account → is_there m account ≡ false
not_there account m consistent far = false_from_ne_true (is_there m account) (λ there. let is = is_account m account there in omega (arith, is.1, consistent.few_accounts, far))

-- such an account sees nothing of a valid entry that has a line
pub far_is_quiet : (account : ℕ) (old new : Market) (pair : Record × Record) → IsConsistent old → 2 ^ 32 ≤ account → (legal : IsLegalPair old pair new)
    → lines_from (held_in account old) (seen account old legal.step.read legal.answer) ≡ []
far_is_quiet account old new pair consistent far legal =
    let step = legal.step in
    let consistent_new = (steps_keep_consistency.1 old pair.0 legal.answer new consistent step).0 in
    let held = told account old (held_in account old) consistent (held_there account old) step.read legal.answer new step.served in
    quiet account old (held_in account old) step.read legal.answer (not_there account old consistent far) (held.opened ∙ not_there account new consistent_new far)
