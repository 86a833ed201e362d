-- Statements of histories: when they are done, that they are told by what the account has at the start and sees alone, and how they go on.
use Rattle.std.proofs.Common.{◌≡◌, ◌⊎◌, ◌↔◌, ℕ, ◌+◌, Bool, true, false, if◌then◌else◌, List, [], ◌∷◌, ◌++◌, length, inl, inr, refl, sym, ap, subst, ◌∙◌}
use Rattle.std.specs.List.{flat_map}
use Rattle.std.proofs.lemmas.Bool.{cases_Bool, false_from_ne_true, true≢false}
use Rattle.wire_records.specs.Records.{Record}
use Rattle.wire_records.specs.Commands.{Pair}
use Rattle.wire_records.specs.Reading.{Ending, End}
use Rattle.wire_records.specs.Reading as reading
use Rattle.wire_records.specs.declared.version.Version.{Version}
use Rattle.flow_accounts.specs.Balances.{IsAccount}
use Rattle.flow_orders.specs.Outcomes.{Outcome}
use Rattle.journal_records.specs.Pairs.{pair_encoding}
use Rattle.market_rules.specs.Market.{Market, IsConsistent, empty_market}
use Rattle.market_snapshot.specs.Checkpoints.{HasCheckpointMagic}
use Rattle.market_history.specs.Histories.{Start, Empty, Kept, market_of}
use Rattle.market_history.proofs.Starting.{kept_magic}
use Rattle.statement_rules.specs.Views.{Event, Sees, is_there}
use Rattle.statement_rules.specs.Holdings.{after_all, held_in, IsHeld}
use Rattle.statement_rules.specs.Statements.{statement, carried_lines, text_from, statement_from}
use Rattle.statement_rules.proofs.Told.{there_is, is_account, isn't_account}
use Rattle.statement_rules.proofs.ViewLaws.{one_view, views_compose, views_tell_holdings}
use Rattle.statement_rules.proofs.FromMarkets.{held_there, journals_carry_nothing, equal_starts_equal_statements, statements_join}
use Rattle.statement_rules.proofs.Texts.{all_stay}
use Rattle.flow_exchange.specs.declared.form.Form.TheVariants.{Statement}
use Rattle.exit_status.specs.declared.status.Status.{Status}
use Rattle.exit_status.specs.declared.status.Status.TheVariants as answer
use Rattle.flow_exchange.specs.JournalFiles.{if_whole, audit_status}
use Rattle.flow_exchange.specs.HistoryFiles.{History, IsHistory}
use Rattle.flow_exchange.specs.Stating.{statement_status, States}
use Rattle.flow_exchange.specs.Program.{ComesTo}
use Rattle.flow_exchange.proofs.HistoryOf.{history_of, makes_by, consistent_start}
use Rattle.flow_exchange.proofs.Outcomes.{one_end}
use Rattle.flow_laws.specs.Laws.{EncodesHistory, EncodesLegal, StatementsOfHistories, StatementsOfLegalJournals, OneViewOneStatement, StatementsGoOn}
use Rattle.flow_laws.proofs.AuditLaws.{all_made, to_end, from_end, journal_history}

-- the status, by whether the account is there
abbrev by_there : ℕ → Bool → Status
by_there account there = if there then answer.Done else answer.NoAccount account

-- the text, by whether the account is there
abbrev text_there : List ℕ → Bool → List ℕ
text_there text there = if there then text else []

-- what a valid history results in
made : (account limit : ℕ) (bytes : List ℕ) (start : Start) (pairs : List (Pair Record Outcome)) (market : Market) (view : List Event) → EncodesHistory limit bytes start pairs market → Sees account (market_of start) pairs view market
    → ComesTo (Statement account) limit bytes (by_there account (is_there market account)) (text_there (statement_from account (market_of start) view) (is_there market account))
made account limit bytes start pairs market view so sees =
    makes_by (statement_status account limit) (States account) limit bytes (by_there account (is_there market account)) (text_there (statement_from account (market_of start) view) (is_there market account))
    (history_of start pairs market [] End) (from_end limit bytes start pairs market so) refl (record { view = view; sees = sees; writes = refl })

-- where the account is there, and where it isn't
made_there : (account limit : ℕ) (bytes : List ℕ) (start : Start) (pairs : List (Pair Record Outcome)) (market : Market) (view : List Event) → EncodesHistory limit bytes start pairs market → Sees account (market_of start) pairs view market
    → IsAccount market.balances account → ComesTo (Statement account) limit bytes answer.Done (statement_from account (market_of start) view)
made_there account limit bytes start pairs market view so sees there =
    subst (λ (b : Bool). ComesTo (Statement account) limit bytes (by_there account b) (text_there (statement_from account (market_of start) view) b)) (there_is market account there) (made account limit bytes start pairs market view so sees)

made_absent : (account limit : ℕ) (bytes : List ℕ) (start : Start) (pairs : List (Pair Record Outcome)) (market : Market) (view : List Event) → EncodesHistory limit bytes start pairs market → Sees account (market_of start) pairs view market
    → (IsAccount market.balances account → ⊥) → ComesTo (Statement account) limit bytes (answer.NoAccount account) []
made_absent account limit bytes start pairs market view so sees absent =
    let not_there = false_from_ne_true (is_there market account) (λ there. absent (is_account market account there)) in
    subst (λ (b : Bool). ComesTo (Statement account) limit bytes (by_there account b) (text_there (statement_from account (market_of start) view) b)) not_there (made account limit bytes start pairs market view so sees)

-- ---- when they are done

-- a status by whether the account is there is that of a history whose entries are all valid
all_legal : (account limit number : ℕ) (m : Market) (ending : Ending) (pairs : List (Pair Record Outcome)) (following : List (Record × Record)) (status : Status)
    → (status ≡ answer.Done) ⊎ (status ≡ answer.NoAccount number) → status ≡ if_whole following ending (by_there account (is_there m account)) (audit_status limit ending pairs following) → (following ≡ []) × (ending ≡ End)
all_legal account limit number m End pairs [] status is e = (refl, refl)
all_legal account limit number m (reading.Torn place) pairs [] status (inl is) e = absurd (let no : answer.Done ≡ answer.Torn place = sym is ∙ e in cc)
all_legal account limit number m (reading.Torn place) pairs [] status (inr is) e = absurd (let no : answer.NoAccount number ≡ answer.Torn place = sym is ∙ e in cc)
all_legal account limit number m reading.TooLong pairs [] status (inl is) e = absurd (let no : answer.Done ≡ answer.TooLong limit = sym is ∙ e in cc)
all_legal account limit number m reading.TooLong pairs [] status (inr is) e = absurd (let no : answer.NoAccount number ≡ answer.TooLong limit = sym is ∙ e in cc)
all_legal account limit number m ending pairs (bad ∷ more) status (inl is) e = absurd (let no : answer.Done ≡ answer.Rejected (length pairs + 1) = sym is ∙ e in cc)
all_legal account limit number m ending pairs (bad ∷ more) status (inr is) e = absurd (let no : answer.NoAccount number ≡ answer.Rejected (length pairs + 1) = sym is ∙ e in cc)

there_so : (account : ℕ) (b : Bool) → answer.Done ≡ by_there account b → b ≡ true
there_so account true e = refl
there_so account false e = absurd cc

absent_so : (account number : ℕ) (b : Bool) → answer.NoAccount number ≡ by_there account b → (b ≡ false) × (number ≡ account)
absent_so account number true e = absurd cc
absent_so account number false e = (refl, cc)

-- a history whose entries are all valid
legal_file : (account limit number : ℕ) (bytes : List ℕ) (status : Status) (text : List ℕ) (file : (history : History) × IsHistory limit bytes history × (status ≡ statement_status account limit history) × States account history text) → (status ≡ answer.Done) ⊎ (status ≡ answer.NoAccount number)
    → EncodesHistory limit bytes file.0.start file.0.legal file.0.market
    × (status ≡ by_there account (is_there file.0.market account)) × (text ≡ text_there (statement_from account (market_of file.0.start) file.3.view) (is_there file.0.market account))
legal_file account limit number bytes status text file is =
    let h = file.0 in
    let all = all_legal account limit number h.market h.ending h.legal h.following status is file.2 in
    let whole = text_there (statement_from account (market_of h.start) file.3.view) (is_there h.market account) in (
      to_end limit bytes h all file.1,
      file.2 ∙ all_made h.following h.ending (by_there account (is_there h.market account)) (audit_status limit h.ending h.legal h.following) all,
      file.3.writes ∙ all_made h.following h.ending whole (text_from account (market_of h.start) file.3.view) all,
    )

pub statements_of_histories : StatementsOfHistories
statements_of_histories = record {
  done = λ account limit bytes text. (
    λ comes.
        elim comes [
          | inl none ↦ elim none.0 [ inl other ↦ absurd (let no : answer.Done ≡ answer.NotFlow = other.1 in cc) | inr unsound ↦ absurd (let no : answer.Done ≡ answer.BadCheckpoint = unsound.1 in cc) ]
          | inr file ↦
              let h = file.0 in
              let legal = legal_file account limit 0 bytes answer.Done text file (inl refl) in
              let there = there_so account (is_there h.market account) legal.1 in
              (h.start, h.legal, h.market, file.3.view, legal.0, file.3.sees, is_account h.market account there, legal.2 ∙ ap (text_there (statement_from account (market_of h.start) file.3.view)) there)
        ],
    λ (start, pairs, market, view, so, sees, there, is).
        subst (λ (x : List ℕ). ComesTo (Statement account) limit bytes answer.Done x) (sym is) (made_there account limit bytes start pairs market view so sees there),
  );
  absent = λ account number limit bytes text. (
    λ comes.
        elim comes [
          | inl none ↦ elim none.0 [ inl other ↦ absurd (let no : answer.NoAccount number ≡ answer.NotFlow = other.1 in cc) | inr unsound ↦ absurd (let no : answer.NoAccount number ≡ answer.BadCheckpoint = unsound.1 in cc) ]
          | inr file ↦
              let h = file.0 in
              let legal = legal_file account limit number bytes (answer.NoAccount number) text file (inr refl) in
              let so = absent_so account number (is_there h.market account) legal.1 in
              (h.start, h.legal, h.market, legal.0, λ there. isn't_account h.market account so.0 there, so.1, legal.2 ∙ ap (text_there (statement_from account (market_of h.start) file.3.view)) so.0)
        ],
    λ (start, pairs, market, so, absent, number_is, none).
        let view = one_view.some account (market_of start) pairs market so.legal.steps in
        subst (λ (x : List ℕ). ComesTo (Statement account) limit bytes (answer.NoAccount number) x) (sym none)
        (subst (λ (k : ℕ). ComesTo (Statement account) limit bytes (answer.NoAccount k) []) (sym number_is) (made_absent account limit bytes start pairs market view.0 so view.1 absent)),
  );
}

-- what a history of a journal is
pub statements_of_legal : StatementsOfLegalJournals
statements_of_legal = record {
  done = λ account limit bytes version pairs market view legal sees there.
      subst (λ (x : List ℕ). ComesTo (Statement account) limit bytes answer.Done x) (journals_carry_nothing.whole account version view)
      (made_there account limit bytes (Empty version) pairs market view (journal_history limit bytes version pairs market legal) sees there);
  only = λ account limit bytes text not comes.
      let (start, pairs, market, view, so, sees, there, is) = (statements_of_histories.done account limit bytes text).0 comes in
      of_journal account limit bytes text start pairs market view so sees there is not;
}
  where
    of_journal : (account limit : ℕ) (bytes text : List ℕ) (start : Start) (pairs : List (Pair Record Outcome)) (market : Market) (view : List Event) → EncodesHistory limit bytes start pairs market → Sees account (market_of start) pairs view market
        → IsAccount market.balances account → text ≡ statement_from account (market_of start) view → (HasCheckpointMagic bytes → ⊥)
        → (version : Version) × (pairs' : List (Pair Record Outcome)) × (market' : Market) × (view' : List Event) × EncodesLegal limit bytes version pairs' market' × Sees account (empty_market version) pairs' view' market' × IsAccount market'.balances account × (text ≡ statement view')
    of_journal account limit bytes text (Empty version) pairs market view so sees there is not =
        (version, pairs, market, view, record { journal = record { each = so.legal.each; steps = so.legal.steps }; encoded = so.encoded; within = so.within }, sees, there, is ∙ journals_carry_nothing.whole account version view)
    of_journal account limit bytes text (Kept kept) pairs market view so sees there is not = absurd (not (kept_magic kept bytes (flat_map pair_encoding pairs) so.encoded))

-- ---- one view, one statement

one_of_histories : (account limit most : ℕ) (bytes others x y : List ℕ) (one other : Start) (pairs more : List (Pair Record Outcome)) (view : List Event) (m n : Market) (s t : Status)
    → EncodesHistory limit bytes one pairs m → EncodesHistory most others other more n → IsHeld account (market_of other) (held_in account (market_of one))
    → Sees account (market_of one) pairs view m → Sees account (market_of other) more view n
    → ComesTo (Statement account) limit bytes s x → ComesTo (Statement account) most others t y → (s ≡ t) × (x ≡ y)
one_of_histories account limit most bytes others x y one other pairs more view m n s t so so_too held sees sees_too a b =
    let text = statement_from account (market_of one) view in
    let words = statement_from account (market_of other) view in
    let here = one_end (Statement account) limit bytes s (by_there account (is_there m account)) x (text_there text (is_there m account)) a (made account limit bytes one pairs m view so sees) in
    let there = one_end (Statement account) most others t (by_there account (is_there n account)) y (text_there words (is_there n account)) b (made account most others other more n view so_too sees_too) in
    let consistent = consistent_start one so.begins in
    let consistent_too = consistent_start other so_too.begins in
    let opened : is_there m account ≡ is_there n account =
    sym (views_tell_holdings.steps account (market_of one) pairs view m (held_in account (market_of one)) consistent (held_there account (market_of one)) sees).opened
    ∙ (views_tell_holdings.steps account (market_of other) more view n (held_in account (market_of one)) consistent_too held sees_too).opened in
    (here.0 ∙ ap (by_there account) opened ∙ sym there.0, here.1 ∙ ap (text_there text) opened ∙ same (cases_Bool (is_there n account)) ∙ sym there.1)
  where
    same : (is_there n account ≡ true) ⊎ (is_there n account ≡ false) → text_there (statement_from account (market_of one) view) (is_there n account) ≡ text_there (statement_from account (market_of other) view) (is_there n account)
    same (inl is) = ap (λ z. text_there z (is_there n account)) (equal_starts_equal_statements.whole account (market_of one) (market_of other) pairs more view view m n (consistent_start other so_too.begins) held sees sees_too refl (is_account n account is))
    same (inr not) = ap (text_there (statement_from account (market_of one) view)) not ∙ sym (ap (text_there (statement_from account (market_of other) view)) not)

-- of empty markets an account has the same
empty_alike : (account : ℕ) (one other : Version) → IsHeld account (empty_market other) (held_in account (empty_market one))
empty_alike account one other = record { tickers = refl; opened = refl; money = λ some. refl; units = λ some asset is. refl; orders = refl }

pub one_view_one_statement : OneViewOneStatement
one_view_one_statement = record {
  histories = one_of_histories;
  journals = λ account limit most bytes others x y one other pairs more view m n s t legal legal_too sees sees_too a b.
      one_of_histories account limit most bytes others x y (Empty one) (Empty other) pairs more view m n s t (journal_history limit bytes one pairs m legal) (journal_history most others other more n legal_too)
      (empty_alike account one other) sees sees_too a b;
}

-- ---- a history that is cut in two

module _ (account limit most within : ℕ) (whole first second : List ℕ) (start : Start) (pairs more : List (Pair Record Outcome)) (mid new : Market)
    (all : EncodesHistory limit whole start (pairs ++ more) new) (before : EncodesHistory most first start pairs mid) (after : EncodesHistory within second (Kept mid) more new) where
  v : (view : List Event) × Sees account (market_of start) pairs view mid
  v = one_view.some account (market_of start) pairs mid before.legal.steps

  w : (view : List Event) × Sees account mid more view new
  w = one_view.some account mid more new after.legal.steps

  both : Sees account (market_of start) (pairs ++ more) (v.0 ++ w.0) new
  both = views_compose account (market_of start) mid new pairs more v.0 w.0 v.1 w.1

  consistent : IsConsistent (market_of start)
  consistent = consistent_start start before.begins

  -- an account that is there stays
  on_there : IsAccount mid.balances account → IsAccount new.balances account
  on_there there = by (cases_Bool (is_there new account))
    where
      held : IsHeld account new (after_all (held_in account mid) w.0)
      held = views_tell_holdings.steps account mid more w.0 new (held_in account mid) (consistent_start (Kept mid) after.begins) (held_there account mid) w.1

      by : (is_there new account ≡ true) ⊎ (is_there new account ≡ false) → IsAccount new.balances account
      by (inl is) = is_account new account is
      by (inr not) = absurd (true≢false (sym (there_is mid account there) ∙ all_stay w.0 (held_in account mid) (held.opened ∙ not)))

  go_on : IsAccount mid.balances account → (prefix : List ℕ) × (carried : List ℕ) × (rest : List ℕ) × ComesTo (Statement account) most first answer.Done (prefix ++ carried)
      × ComesTo (Statement account) within second answer.Done (carried ++ rest) × ComesTo (Statement account) limit whole answer.Done (prefix ++ rest)
  go_on there =
      let at_end = on_there there in
      let parts = statements_join.whole account (market_of start) mid new pairs more v.0 w.0 consistent v.1 w.1 at_end in
      let last = statements_join.carried account (market_of start) mid pairs v.0 consistent v.1 there in (
        text_from account (market_of start) v.0,
        carried_lines account mid,
        parts.0,
        subst (λ (x : List ℕ). ComesTo (Statement account) most first answer.Done x) (ap (λ l. text_from account (market_of start) v.0 ++ l) last) (made_there account most first start pairs mid v.0 before v.1 there),
        subst (λ (x : List ℕ). ComesTo (Statement account) within second answer.Done x) parts.1 (made_there account within second (Kept mid) more new w.0 after w.1 at_end),
        subst (λ (x : List ℕ). ComesTo (Statement account) limit whole answer.Done x) parts.2 (made_there account limit whole start (pairs ++ more) new (v.0 ++ w.0) all both at_end),
      )

  -- where the account isn't there at the cut, the second part and the whole come to the same
  alike : (IsAccount mid.balances account → ⊥) → text_there (statement_from account mid w.0) (is_there new account) ≡ text_there (statement_from account (market_of start) (v.0 ++ w.0)) (is_there new account)
  alike absent = by (cases_Bool (is_there new account))
    where
      by : (is_there new account ≡ true) ⊎ (is_there new account ≡ false) → text_there (statement_from account mid w.0) (is_there new account) ≡ text_there (statement_from account (market_of start) (v.0 ++ w.0)) (is_there new account)
      by (inl is) =
          let none = statements_join.absent account (market_of start) mid pairs v.0 consistent v.1 absent in
          let parts = statements_join.whole account (market_of start) mid new pairs more v.0 w.0 consistent v.1 w.1 (is_account new account is) in
          ap (λ z. text_there z (is_there new account)) (parts.1 ∙ ap (λ l. l ++ parts.0) (none.1 ∙ sym none.0) ∙ sym parts.2)
      by (inr not) = ap (text_there (statement_from account mid w.0)) not ∙ sym (ap (text_there (statement_from account (market_of start) (v.0 ++ w.0))) not)

  none_before : (IsAccount mid.balances account → ⊥) → ComesTo (Statement account) most first (answer.NoAccount account) []
      × ((status : Status) (text : List ℕ) → ComesTo (Statement account) within second status text ↔ ComesTo (Statement account) limit whole status text)
  none_before absent =
      let later = made account within second (Kept mid) more new w.0 after w.1 in
      let entire = made account limit whole start (pairs ++ more) new (v.0 ++ w.0) all both in
      let b = is_there new account in
      let same = alike absent in (
        made_absent account most first start pairs mid v.0 before v.1 absent,
        λ status text. (
          λ comes.
              let is = one_end (Statement account) within second status (by_there account b) text (text_there (statement_from account mid w.0) b) comes later in
              subst (λ (s : Status). ComesTo (Statement account) limit whole s text) (sym is.0) (subst (λ (x : List ℕ). ComesTo (Statement account) limit whole (by_there account b) x) (sym (is.1 ∙ same)) entire),
          λ comes.
              let is = one_end (Statement account) limit whole status (by_there account b) text (text_there (statement_from account (market_of start) (v.0 ++ w.0)) b) comes entire in
              subst (λ (s : Status). ComesTo (Statement account) within second s text) (sym is.0) (subst (λ (x : List ℕ). ComesTo (Statement account) within second (by_there account b) x) (sym (is.1 ∙ sym same)) later),
        ),
      )

pub statements_go_on : StatementsGoOn
statements_go_on = record { there = go_on; absent = none_before }
