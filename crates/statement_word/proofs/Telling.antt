-- What is kept of a statement belongs to its account, from entry to entry and at the end.
use Rattle.std.proofs.Common.{◌≡◌, ◌≤◌, ◌+◌, ◌^◌, ℕ, true, false, List, [], ◌++◌, Option, Some, None, Result, refl, sym, ap, subst, ◌∙◌}
use Rattle.std.proofs.lemmas.Bool.{true≢false, false_from_ne_true}
use Rattle.wire_records.specs.Records.{Record}
use Rattle.wire_records.specs.Versions.{IsReadAs}
use Rattle.wire_records.specs.declared.version.Version.{Version}
use Rattle.flow_accounts.specs.Balances.{IsAccount}
use Rattle.flow_orders.specs.Outcomes.{IsAdmissibleOutcome}
use Rattle.market_rules.specs.Market.{Market, IsConsistent}
use Rattle.market_rules.proofs.Versions.{step_version}
use Rattle.batch_audit.specs.Legal.{IsLegalPair}
use Rattle.batch_audit.specs.Judging.{IsChangeOf}
use Rattle.batch_audit.specs.declared.change.Change.{Change}
use Rattle.statement_rules.specs.Views.{seen, is_there}
use Rattle.statement_rules.specs.Holdings.{held_in, IsHeld}
use Rattle.statement_rules.specs.Statements.{lines_from, end_lines, carried_lines}
use Rattle.statement_rules.proofs.Told.{there_is, is_account}
use Rattle.statement_rules.proofs.FromMarkets.{carried_there, carried_not}
use Rattle.account_statement.specs.Telling.{Statement, holding_of, Agrees, IsTold}
use Rattle.word_driver.specs.declared.fault.Halt.{Halt}
use Rattle.journal_words.specs.Watching.{SeesOne}
use Rattle.journal_words.specs.Private.{IsClosedBy}
use Rattle.statement_word.specs.declared.no_statement.NoStatement.{NoStatement}
use Rattle.statement_word.specs.Stating.{stating}
use Rattle.statement_word.specs.Private.{IsOf, HasTold, at_work}
use Rattle.statement_word.proofs.Held.{lines_are, ends_are}
use Rattle.statement_word.proofs.StatementLaws.{not_there, far_is_quiet}

some_is : (s t : Statement) → ◌≡◌ {A = Option Statement} (Some s) (Some t) → s ≡ t
some_is s t e = cc

not_none : (s : Statement) → ◌≡◌ {A = Option Statement} (Some s) None → ⊥
not_none s e = cc

-- a statement of an account, and none
pub made_of : (number : ℕ) (m : Market) (s : Statement) → s.account ≡ number → Agrees m s → IsOf number m (Some s)
made_of number m s account agrees = (λ t is. subst (λ (u : Statement). (u.account ≡ number) × Agrees m u) (some_is s t is) (account, agrees), λ none. absurd (not_none s none))

pub far_of : (number : ℕ) (m : Market) → 2 ^ 32 ≤ number → IsOf number m None
far_of number m far = (λ s none. absurd (not_none s (sym none)), λ same. far)

-- it holds what the account of the number has
held_of : (number : ℕ) (m : Market) (s : Statement) → IsOf number m (Some s) → IsHeld number m (holding_of s)
held_of number m s of = let at = of.0 s refl in subst (λ (k : ℕ). IsHeld k m (holding_of s)) at.0 at.1

-- the lines of an entry were written
pub told_pair : (number : ℕ) (m : Market) (pair : Record × Record) (old new : Statement) (before now : List ℕ) (next : Market) (legal : IsLegalPair m pair next)
    → IsOf number m (Some old) → new.account ≡ old.account → before ≡ [] → IsTold m pair old new before now next legal → HasTold number m pair (Some new) now next legal
told_pair number m pair old new before now next legal of account none told =
    let step = legal.step in
    let named : old.account ≡ number = (of.0 old refl).0 in
    record {
      is_of = made_of number next new (account ∙ named) told.agrees;
      lines = told.text ∙ ap (λ (l : List ℕ). l ++ lines_from (holding_of old) (seen old.account m step.read legal.answer)) none
          ∙ ap (λ (k : ℕ). lines_from (holding_of old) (seen k m step.read legal.answer)) named ∙ lines_are number m (holding_of old) (held_of number m old of) step.read legal.answer;
    }

-- if no account can have the number, there is nothing to write
pub untold_pair : (number : ℕ) (m : Market) (pair : Record × Record) (text : List ℕ) (next : Market) (legal : IsLegalPair m pair next)
    → IsConsistent m → 2 ^ 32 ≤ number → text ≡ [] → HasTold number m pair None text next legal
untold_pair number m pair text next legal consistent far none = record { is_of = far_of number next far; lines = none ∙ sym (far_is_quiet number m next pair consistent far legal) }

-- the account is there if its opening was seen
pub open_is_there : (number : ℕ) (m : Market) (s : Statement) → IsOf number m (Some s) → s.is_open ≡ true → IsAccount m.balances number
open_is_there number m s of open_is = is_account m number (sym (held_of number m s of).opened ∙ open_is)

pub shut_is_absent : (number : ℕ) (m : Market) (s : Statement) → IsOf number m (Some s) → s.is_open ≡ false → IsAccount m.balances number → ⊥
shut_is_absent number m s of shut there = true≢false (sym (there_is m number there) ∙ sym (held_of number m s of).opened ∙ shut)

pub far_is_absent : (number : ℕ) (m : Market) → IsConsistent m → 2 ^ 32 ≤ number → IsAccount m.balances number → ⊥
far_is_absent number m consistent far there = true≢false (sym (there_is m number there) ∙ not_there number m consistent far)

-- the last lines
pub last_lines : (number : ℕ) (m : Market) (s : Statement) (before now : List ℕ) → IsConsistent m → IsOf number m (Some s) → s.is_open ≡ true → before ≡ [] → now ≡ before ++ end_lines (holding_of s)
    → now ≡ end_lines (held_in number m)
last_lines number m s before now consistent of open_is none is =
    is ∙ ap (λ (l : List ℕ). l ++ end_lines (holding_of s)) none ∙ ends_are number m (holding_of s) consistent (open_is_there number m s of open_is) (held_of number m s of)

-- the lines that are carried forward are the last lines if the account is there, and else none
pub carried_open : (number : ℕ) (m : Market) (s : Statement) (before now : List ℕ) → IsConsistent m → IsOf number m (Some s) → s.is_open ≡ true → before ≡ [] → now ≡ before ++ end_lines (holding_of s)
    → now ≡ carried_lines number m
carried_open number m s before now consistent of open_is none is =
    last_lines number m s before now consistent of open_is none is ∙ sym (carried_there number m (open_is_there number m s of open_is))

pub carried_shut : (number : ℕ) (m : Market) (text : List ℕ) → (IsAccount m.balances number → ⊥) → text ≡ [] → text ≡ carried_lines number m
carried_shut number m text absent none = none ∙ sym (carried_not number m (false_from_ne_true (is_there m number) (λ there. absent (is_account m number there))))

-- ---- an entry of the subcommand, and its end

-- what is kept belongs to an equal market too
pub carried : (number other : ℕ) (m n : Market) (kept later : Option Statement) → other ≡ number → n ≡ m → later ≡ kept → IsOf number m kept → IsOf other n later
carried number other m n kept later named moved same of =
    subst (λ (k : ℕ). IsOf k n later) (sym named) (subst (λ (k : Market). IsOf number k later) (sym moved) (subst (λ (o : Option Statement). IsOf number m o) (sym same) of))

-- a change of a market is one of an equal market
pub change_at : (m at : Market) (pair : Record × Record) (change : Change) → at ≡ m → IsChangeOf m pair change → IsChangeOf at pair change
change_at m at pair change moved is = subst (λ (k : Market). IsChangeOf k pair change) (sym moved) is

-- the lines of an entry were written, and its change made
pub pair_done : (number other : ℕ) (m at next : Market) (pair : Record × Record) (kept : Option Statement) (text : List ℕ) (pairs : ℕ) → other ≡ number → at ≡ m
    → ((new : Market) (legal : IsLegalPair at pair new) → HasTold number at pair kept text new legal) → IsLegalPair m pair next
    → IsOf other next kept × SeesOne stating (at_work number m pairs) pair (at_work other next (pairs + 1)) text
pair_done number other m at next pair kept text pairs named moved has legal =
    let told = subst (λ (k : Market). (new : Market) (l : IsLegalPair k pair new) → HasTold number k pair kept text new l) moved has next legal in
    let step = legal.step in (
      subst (λ (k : ℕ). IsOf k next kept) (sym named) told.is_of,
      record {
        legal = legal;
        counted = refl;
        sees = (
          ap (λ (k : ℕ). record { account = k; market = next }) named,
          record {
            read = step.read;
            answer = legal.answer;
            reads = subst (λ (v : Version). IsReadAs v pair.0 step.read) (sym (step_version IsAdmissibleOutcome IsReadAs m pair.0 legal.answer next step)) step.encoded;
            encoded = legal.encoded;
            lines = told.lines;
          },
        );
      },
    )

-- what is done at the end, in an equal market
pub closed_at : (number : ℕ) (m at : Market) (pairs : ℕ) (result : Result (Unit {0}) (Halt NoStatement)) (text : List ℕ) → at ≡ m → IsClosedBy stating at pairs (record { account = number; market = at }) result text
    → IsClosedBy stating m pairs (record { account = number; market = m }) result text
closed_at number m at pairs result text moved = subst (λ (k : Market). IsClosedBy stating k pairs (record { account = number; market = k }) result text) moved
