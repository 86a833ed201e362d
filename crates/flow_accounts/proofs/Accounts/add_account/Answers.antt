use Rattle.std.proofs.Common.{◌≡◌, ℕ, ◌<◌, ◌≤◌, ◌++◌, [], ◌∷◌, pos, Bool, false, true≢false, IsTrue, ◌↔◌, sym, ap, ◌∙◌, arith}
use Rattle.flow_accounts.specs.Balances.{open_account}
use Rattle.flow_accounts.specs.Lawful.{most_accounts}
use Rattle.flow_accounts.specs.Lines.{Table, new_line}
use Rattle.flow_accounts.proofs.Added.{account_opened}
use Rattle.flow_accounts.proofs.Standing.{StandsFor}
use Rattle.flow_accounts.proofs.Accounts.add_account.Goals as goal

not_full : (count : ℕ) (full : Bool) → count ≤ most_accounts → IsTrue full ↔ (count ≡ most_accounts) → full ≡ false → count < most_accounts
not_full count full few is none = omega (arith, few, λ (reached : count ≡ most_accounts). true≢false (sym (is.1 reached) ∙ none))

opened : (c : goal.After-push) → StandsFor (record (c.self.inside) { holdings = c.push.new.self; credits = c.add.new.self }) (open_account c.args.self.now)
opened c =
    account_opened c.self.inside _ c.push.new.self c.add.new.self c.self.invariant c.self.view_is (not_full _ _ c.is_full.ensures.lawful.few_accounts c.is_full.ensures.full c.if-is_full.false)
    (c.push.ensures.added ∙ ap (λ (t : Table _ _). record t { lines = t.lines ++ new_line t.assets (pos 0) t.none ∷ []; room = c.push.new.self.room }) c.in_ok-reserve.ensures.stays) c.in_ok-add.ensures.added

pub invariant_of-self-2 : goal.invariant_of-self-2
invariant_of-self-2 c = (opened c).kept

pub returns-clause-not_full : goal.returns-clause-not_full
returns-clause-not_full c = not_full _ _ c.is_full.ensures.lawful.few_accounts c.is_full.ensures.full c.if-is_full.false

pub returns-clause-ok : goal.returns-clause-ok
returns-clause-ok c = (opened c).shown

pub returns-clause-lawful : goal.returns-clause-lawful
returns-clause-lawful c = (opened c).kept.lawful
