-- Which messages of an entry are to an account.
use Rattle.std.proofs.Common.{◌≡◌, ◌≢◌, ◌⊎◌, inl, inr, ℕ, zero, suc, ◌+◌, ◌<◌, ◌≤◌, Bool, true, false, ◌&&◌, List, [], ◌∷◌, ◌++◌, length, Option, Some, None, refl, sym, ap, subst, ◌∙◌, arith}
use Rattle.std.specs.Prelude.{◌==◌}
use Rattle.std.specs.List.{flat_map, range_with_len}
use Rattle.std.proofs.lemmas.Bool.{cases_Bool, ne_eqb, eq-eqb, eqb-true, and_cases, and_parts, true≢false}
use Rattle.std.proofs.lemmas.Bool.Decides.{eqb_tells}
use Rattle.std.proofs.lemmas.List.{append-nil}
use Rattle.std.proofs.lemmas.List.Elements.{filter-append}
use Rattle.wire_records.specs.Commands.{Command}
use Rattle.flow_accounts.specs.Balances.{account_count}
use Rattle.market_rules.specs.Market.{Market}
use Rattle.answer_text.specs.declared.header.Recipient.{Recipient}
use Rattle.answer_text.specs.declared.header.Recipient.TheVariants.{Operator, Desk, All}
use Rattle.answer_text.specs.declared.fills.FillCost.{FillCost}
use Rattle.statement_rules.specs.Views.{is_there}
use Rattle.statement_rules.proofs.Told.{there_is}
use Rattle.desk_messages.specs.Desks.{Desks}
use Rattle.desk_messages.specs.Messages.{Message, reply_to, notice_to, has_account, notices, fill_message}
use Rattle.desk_lines.specs.Rights.{MayAsk, owner_of}
use Rattle.desk_privacy.specs.Knowing.{CountsAll}
use Rattle.desk_privacy.proofs.Learning.{Knows, line_if, told_line, told_it}
use Rattle.desk_privacy.proofs.Numbering.{IsIn, mine}

-- Whose line it is that asks for a command, as the account knows it: its own, of which commands are left, or another's, and then none of its own are.
abbrev pub IsTurn : ℕ → Knows → Recipient → ℕ → Type 0
IsTurn account k Operator line = k.left ≡ 0
IsTurn account k (Desk sender) line = ((sender ≡ account) × (0 < k.left) × (line ≡ k.own.lines)) ⊎ ((sender ≢ account) × (k.left ≡ 0))
IsTurn account k All line = ⊥

-- a command of a sender names this account: its own, if it isn't the operator's
abbrev pub NamesOwn : Recipient → ℕ → Type 0
NamesOwn Operator named = Unit {0}
NamesOwn (Desk sender) named = named ≡ sender
NamesOwn All named = Unit {0}

pub names_own : (s : Recipient) (c : Command) (named : ℕ) → ((x : ℕ) → owner_of c ≡ Some x → named ≡ x) → MayAsk s c → NamesOwn s named
names_own Operator c named own may = tt
names_own (Desk sender) c named own may = own sender may
names_own All c named own may = absurd may

-- the line that a message answers
pub line_none : (left line : ℕ) → left ≡ 0 → line_if left line ≡ None
line_none left line is = ap (λ z. line_if z line) is

pub line_some : (left line : ℕ) → 0 < left → line_if left line ≡ Some line
line_some zero line some = absurd (omega (arith, some))
line_some (suc left) line some = refl

module _ (account : ℕ) (some : 0 < account) (m : Market) (d : Desks) (k : Knows) (counts : CountsAll m d) where
  abbrev pub is_seen : ℕ → Bool
  is_seen named = is_there m account && (named == account)

  -- an account is counted if it is there
  has_is : has_account (length d.accounts) account ≡ is_there m account
  has_is = ap (λ (n : ℕ). has_account n account) counts

  pub seen_there : (named : ℕ) → is_seen named ≡ true → (is_there m account ≡ true) × (named ≡ account) × ((named == account) ≡ true)
  seen_there named is =
      let parts = and_parts (is_there m account) (named == account) is in
      (parts.0, eqb-true named account parts.1, parts.1)

  pub there_seen : (named : ℕ) → is_there m account ≡ true → named ≡ account → is_seen named ≡ false → ⊥
  there_seen named there same unseen =
      elim (and_cases (is_there m account) (named == account) unseen) [
        | inl not_there ↦ true≢false (sym there ∙ not_there)
        | inr differs ↦ true≢false (sym (eq-eqb named account same) ∙ differs)
      ]

  -- ---- the operator's commands

  notice_seen : (named : ℕ) (members : List ℕ) → k.left ≡ 0 → is_seen named ≡ true → mine account (notices (length d.accounts) Operator (Some named) members) ≡ told_it account k members
  notice_seen named members left is =
      let seen = seen_there named is in
      let has : has_account (length d.accounts) named ≡ true = ap (has_account (length d.accounts)) seen.1 ∙ has_is ∙ seen.0 in
      rw (has, seen.2) (ap (λ a. notice_to (Desk a) members ∷ []) seen.1
      ∙ ap (λ (l : Option ℕ). told_line account l members) (sym (line_none k.left k.own.lines left)))

  notice_unseen : (named : ℕ) (members : List ℕ) → is_seen named ≡ false → mine account (notices (length d.accounts) Operator (Some named) members) ≡ []
  notice_unseen named members is = by (cases_Bool (has_account (length d.accounts) named)) (eqb_tells named account)
    where
      by : (has_account (length d.accounts) named ≡ true) ⊎ (has_account (length d.accounts) named ≡ false)
          → (((named == account) ≡ true) × (named ≡ account)) ⊎ (((named == account) ≡ false) × (named ≢ account)) → mine account (notices (length d.accounts) Operator (Some named) members) ≡ []
      by (inl has) (inl same) = absurd (there_seen named (sym has_is ∙ ap (has_account (length d.accounts)) (sym same.1) ∙ has) same.1 is)
      by (inl has) (inr other) = rw (has, other.0) refl
      by (inr has_not) same = rw has_not refl

  -- ---- any sender's

  -- the messages of a command that names an account, without those to all
  abbrev pub named_messages : Recipient → (line entry : ℕ) → ℕ → List ℕ → List Message
  named_messages s line entry named members = (reply_to s line entry members ∷ (notices (length d.accounts) s (Some named) members ++ [])) ++ []

  shorter : (x : List Message) → mine account ((x ++ []) ++ []) ≡ mine account x
  shorter x = ap (mine account) (append-nil (x ++ []) ∙ append-nil x)

  pub named_seen : (s : Recipient) (line entry named : ℕ) (members : List ℕ) → IsTurn account k s line → NamesOwn s named → is_seen named ≡ true
      → mine account (named_messages s line entry named members) ≡ told_it account k members
  named_seen Operator line entry named members turn own is = shorter (notices (length d.accounts) Operator (Some named) members) ∙ notice_seen named members turn is
  named_seen (Desk sender) line entry named members (inl turn) own is =
      rw (eq-eqb sender account turn.0)
      (ap (λ a. reply_to (Desk a) line entry members ∷ []) turn.0
      ∙ ap (λ (l : Option ℕ). told_line account l members) (ap Some turn.2 ∙ sym (line_some k.left k.own.lines turn.1)))
  named_seen (Desk sender) line entry named members (inr turn) own is = absurd (turn.0 (sym own ∙ (seen_there named is).1))
  named_seen All line entry named members turn own is = absurd turn

  pub named_unseen : (s : Recipient) (line entry named : ℕ) (members : List ℕ) → IsTurn account k s line → NamesOwn s named → IsIn (length d.accounts) s → is_seen named ≡ false
      → (mine account (named_messages s line entry named members) ≡ []) × (k.left ≡ 0)
  named_unseen Operator line entry named members turn own there is = (shorter (notices (length d.accounts) Operator (Some named) members) ∙ notice_unseen named members is, turn)
  named_unseen (Desk sender) line entry named members (inl turn) own there is =
      let here : is_there m account ≡ true = there_is m account (some, subst (λ a. a ≤ account_count m.balances) turn.0 (omega (arith, there.1, counts))) in
      absurd (there_seen named here (own ∙ turn.0) is)
  named_unseen (Desk sender) line entry named members (inr turn) own there is = (rw (ne_eqb sender account turn.0) refl, turn.1)
  named_unseen All line entry named members turn own there is = absurd turn

-- ---- fills

module _ (account batch : ℕ) (costs : ℕ → List FillCost) where
  abbrev pub fills : ℕ → ℕ → List Message
  fills from count = flat_map (λ a. fill_message batch a (costs a)) (range_with_len from count)

  own_fill : (own : List FillCost) → mine account (fill_message batch account own) ≡ fill_message batch account own
  own_fill [] = refl
  own_fill (fill ∷ more) = rw (eq-eqb account account refl) refl

  other_fill : (other : ℕ) (own : List FillCost) → other ≢ account → mine account (fill_message batch other own) ≡ []
  other_fill other [] differs = refl
  other_fill other (fill ∷ more) differs = rw (ne_eqb other account differs) refl

  parts : (one other : List Message) → mine account (one ++ other) ≡ mine account one ++ mine account other
  parts one other = filter-append _ one other

  pub no_fills : (count from : ℕ) → (account < from) ⊎ (from + count ≤ account) → mine account (fills from count) ≡ []
  no_fills zero from outside = refl
  no_fills (suc count) from outside =
      parts (fill_message batch from (costs from)) (fills (from + 1) count)
      ∙ ap (λ (l : List Message). l ++ mine account (fills (from + 1) count)) (other_fill from (costs from) (differs outside))
      ∙ no_fills count (from + 1) (further outside)
    where
      differs : (account < from) ⊎ (from + suc count ≤ account) → from ≢ account
      differs (inl below) e = omega (arith, below, e)
      differs (inr above) e = omega (arith, above, e)

      further : (account < from) ⊎ (from + suc count ≤ account) → (account < from + 1) ⊎ ((from + 1) + count ≤ account)
      further (inl below) = inl (omega (arith, below))
      further (inr above) = inr (omega (arith, above))

  pub own_fills : (count from : ℕ) → from ≤ account → account < from + count → mine account (fills from count) ≡ fill_message batch account (costs account)
  own_fills zero from low high = absurd (omega (arith, low, high))
  own_fills (suc count) from low high = by (own_fills count (from + 1)) (eqb_tells from account)
    where
      by : (from + 1 ≤ account → account < (from + 1) + count → mine account (fills (from + 1) count) ≡ fill_message batch account (costs account))
          → (((from == account) ≡ true) × (from ≡ account)) ⊎ (((from == account) ≡ false) × (from ≢ account)) → mine account (fills from (suc count)) ≡ fill_message batch account (costs account)
      by rest (inl same) =
          parts (fill_message batch from (costs from)) (fills (from + 1) count)
          ∙ ap (λ (l : List Message). mine account (fill_message batch from (costs from)) ++ l) (no_fills count (from + 1) (inl (omega (arith, same.1))))
          ∙ append-nil (mine account (fill_message batch from (costs from)))
          ∙ ap (λ a. mine account (fill_message batch a (costs a))) same.1 ∙ own_fill (costs account)
      by rest (inr other) =
          parts (fill_message batch from (costs from)) (fills (from + 1) count)
          ∙ ap (λ (l : List Message). l ++ mine account (fills (from + 1) count)) (other_fill from (costs from) other.1)
          ∙ rest (omega (arith, low, other.1)) (omega (arith, high))
