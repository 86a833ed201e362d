-- Texts that are continued, accounts that aren't there, and the rates of own orders.
use Rattle.std.proofs.Common.{◌≡◌, ℕ, Bool, true, false, ◌&&◌, ℤ, neg_ℤ, List, [], ◌∷◌, ◌++◌, Option, Some, None, Result, Ok, Err, refl, sym, ap, ◌∙◌}
use Rattle.std.specs.Prelude.{◌==◌}
use Rattle.std.proofs.lemmas.Bool.{true≢false, false_from_ne_true}
use Rattle.std.proofs.lemmas.List.{append_assoc}
use Rattle.wire_records.specs.Records.{Record}
use Rattle.wire_records.specs.Commands.{Command, AddAsset, OpenAccount, RunBatch, Answer, Plain, Batch, Pair}
use Rattle.wire_records.specs.declared.command.BodyFault.{BodyFault}
use Rattle.wire_records.specs.declared.reply.Reply.{Reply}
use Rattle.wire_records.specs.declared.reply.Reply.TheVariants.{Done, Asset, Account, Order, Refused}
use Rattle.flow_accounts.specs.Balances.{value_of}
use Rattle.flow_orders.specs.Outcomes.{Outcome, Cleared, Skipped}
use Rattle.market_rules.specs.Market.{Market, IsConsistent, empty_market}
use Rattle.market_rules.proofs.Consistency.{consistent-empty}
use Rattle.statement_rules.specs.Views.{Sees, Event, Opens, Deposits, Withdraws, is_there, event_if, seen, seen_plain}
use Rattle.statement_rules.specs.Holdings.{Holding, nothing, changed, after, after_all, IsHeld}
use Rattle.statement_rules.specs.Statements.{event_lines, lines_from}
use Rattle.statement_rules.specs.Laws.{TextsGoOn, AbsentAccountsHaveNoText}
use Rattle.statement_rules.proofs.Told.{told, is_account}
use Rattle.statement_rules.proofs.ViewLaws.{empty_held, after_both, consistent_after, told_all}

pub lines_both : (v : List Event) (h : Holding) (w : List Event) → lines_from h (v ++ w) ≡ lines_from h v ++ lines_from (after_all h v) w
lines_both [] h w = refl
lines_both (event ∷ v) h w = ap (λ l. event_lines h event ++ l) (lines_both v (after h event) w) ∙ sym (append_assoc (event_lines h event) (lines_from (after h event) v) (lines_from (after_all (after h event) v) w))

pub texts_go_on : TextsGoOn
texts_go_on v w = lines_both v nothing w

-- ---- an account that was opened stays there

changed_stays : (h : Holding) (kind : Option ℕ) (amount : ℤ) → (changed h kind amount).is_open ≡ h.is_open
changed_stays h None amount = refl
changed_stays h (Some asset) amount = refl

stays : (h : Holding) (event : Event) → (after h event).is_open ≡ false → h.is_open ≡ false
stays h (Opens account) closed = absurd (true≢false closed)
stays h (Deposits kind count) closed = sym (changed_stays h kind (value_of kind count)) ∙ closed
stays h (Withdraws kind count) closed = sym (changed_stays h kind (neg_ℤ (value_of kind count))) ∙ closed
stays h event closed = closed

pub all_stay : (v : List Event) (h : Holding) → (after_all h v).is_open ≡ false → h.is_open ≡ false
all_stay [] h closed = closed
all_stay (event ∷ v) h closed = stays h event (all_stay v (after h event) closed)

-- ---- what isn't seen has no lines

not_seen : (h : Holding) (b : Bool) (event : Event) → b ≡ false → lines_from h (event_if b event) ≡ []
not_seen h true event closed = absurd (true≢false closed)
not_seen h false event closed = refl

not_own : (there own : Bool) → there ≡ false → (there && own) ≡ false
not_own there own closed = ap (λ b. b && own) closed

no_opening : (h : Holding) (b : Bool) (account : ℕ) → (after_all h (event_if b (Opens account))).is_open ≡ false → lines_from h (event_if b (Opens account)) ≡ []
no_opening h true account closed = absurd (true≢false closed)
no_opening h false account closed = refl

no_asset : (account : ℕ) (h : Holding) (there : Bool) (ticker : List ℕ) (reply : Reply) → lines_from h (seen_plain account there (AddAsset ticker) reply) ≡ []
no_asset account h there ticker Done = refl
no_asset account h there ticker (Asset n) = refl
no_asset account h there ticker (Account n) = refl
no_asset account h there ticker (Order n) = refl
no_asset account h there ticker (Refused refusal) = refl

not_opened : (account : ℕ) (h : Holding) (there : Bool) (reply : Reply) → (after_all h (seen_plain account there OpenAccount reply)).is_open ≡ false → lines_from h (seen_plain account there OpenAccount reply) ≡ []
not_opened account h there Done closed = no_opening h (0 == account) account closed
not_opened account h there (Asset n) closed = no_opening h (n == account) account closed
not_opened account h there (Account n) closed = no_opening h (n == account) account closed
not_opened account h there (Order n) closed = no_opening h (n == account) account closed
not_opened account h there (Refused refusal) closed = refl

no_lines : (account : ℕ) (h : Holding) (there : Bool) (c : Command) (reply : Reply) → there ≡ false → (after_all h (seen_plain account there c reply)).is_open ≡ false → lines_from h (seen_plain account there c reply) ≡ []
no_lines account h there (AddAsset ticker) reply not_there closed = no_asset account h there ticker reply
no_lines account h there OpenAccount reply not_there closed = not_opened account h there reply closed
no_lines account h there (RunBatch budget) reply not_there closed = refl
no_lines account h there command reply not_there closed = not_seen h _ _ (not_own there _ not_there)

pub quiet : (account : ℕ) (m : Market) (h : Holding) (read : Result Command BodyFault) (a : Answer Outcome) → is_there m account ≡ false → (after_all h (seen account m read a)).is_open ≡ false → lines_from h (seen account m read a) ≡ []
quiet account m h (Ok c) (Plain reply) not_there closed = no_lines account h (is_there m account) c reply not_there closed
quiet account m h (Ok c) (Batch batch (Cleared k)) not_there closed = not_seen h (is_there m account) _ not_there
quiet account m h (Ok c) (Batch batch (Skipped s)) not_there closed = not_seen h (is_there m account) _ not_there
quiet account m h (Err why) a not_there closed = refl

pub no_text : (account : ℕ) (old : Market) (pairs : List (Pair Record Outcome)) (view : List Event) (new : Market) (h : Holding) → IsConsistent old → IsHeld account old h → Sees account old pairs view new
    → (after_all h view).is_open ≡ false → lines_from h view ≡ []
no_text account old [] view new h consistent held sees closed = ap (lines_from h) sees.0
no_text account old (pair ∷ pairs) view new h consistent held (next, read, rest, reads, serves, more, is) closed =
    let first = seen account old read pair.answer in
    let here = told account old h consistent held read pair.answer next serves in
    let all : (after_all (after_all h first) rest).is_open ≡ false = ap (λ (x : Holding). x.is_open) (sym (ap (after_all h) is ∙ after_both first h rest)) ∙ closed in
    let following = no_text account next pairs rest new (after_all h first) (consistent_after old pair.asked pair.answer next read consistent reads serves) here more all in
    let closed_here = all_stay rest (after_all h first) all in
    let not_there : is_there old account ≡ false = sym held.opened ∙ all_stay first h closed_here in
    ap (lines_from h) is ∙ lines_both first h rest ∙ ap (λ l. l ++ lines_from (after_all h first) rest) (quiet account old h read pair.answer not_there closed_here) ∙ following

pub absent_accounts_have_no_text : AbsentAccountsHaveNoText
absent_accounts_have_no_text account version pairs view m sees absent =
    let held = told_all account version pairs view m sees in
    no_text account (empty_market version) pairs view m nothing (consistent-empty version) (empty_held account version) sees
    (held.opened ∙ false_from_ne_true (is_there m account) (λ there. absent (is_account m account there)))
