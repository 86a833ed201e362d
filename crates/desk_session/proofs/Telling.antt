-- All that is told of an entry, and one more text.
use Rattle.std.proofs.Common.{◌≡◌, ℕ, ◌+◌, ◌≤◌, List, [], ◌∷◌, ◌++◌, length, Result, Ok, Err, OnOk, OnErr, refl, sym, ap, subst, ◌∙◌, arith}
use Rattle.std.specs.Prelude.{IsOk}
use Rattle.std.proofs.lemmas.Bool.{false≢true}
use Rattle.std.proofs.lemmas.List.{length-append}
use Rattle.out_of_memory.specs.declared.Memory.{Memory}
use Rattle.wire_records.specs.Commands.{Command, Answer, Plain, Batch}
use Rattle.wire_records.specs.declared.reply.Reply.TheVariants.{Done, Asset, Account, Order, Refused}
use Rattle.flow_orders.specs.Orders as book
use Rattle.flow_orders.specs.Outcomes.{Clearing, Outcome, Cleared}
use Rattle.answer_text.specs.declared.header.Recipient.{Recipient}
use Rattle.answer_text.specs.Answers.{echo_members}
use Rattle.desk_messages.specs.Desks.{Desks}
use Rattle.desk_messages.specs.Messages.{Message, Tells, texts_of, concerned, notices, announced, opened_by, with_opened, served_messages, fill_messages}
use Rattle.desk_messages.proofs.Telling.{tells_more, tells_accounts, tells_total, notices_few}
use Rattle.desk_session.specs.Talks.{Talk, says}
use Rattle.desk_session.specs.Lines.{told_of_fills}
use Rattle.desk_session.specs.Private.{segments, EndAt}
use Rattle.desk_session.proofs.Parts.{one_more_part, one_more_end}

-- all hear of a command by one message at most
announced_few : (tickers : List (List ℕ)) (command : Command) (answer : Answer Outcome) → length (announced tickers command answer) ≤ 1
announced_few tickers command (Plain Done) = omega arith
announced_few tickers command (Plain (Asset number)) = omega arith
announced_few tickers command (Plain (Account number)) = omega arith
announced_few tickers command (Plain (Order number)) = omega arith
announced_few tickers command (Plain (Refused refusal)) = omega arith
announced_few tickers command (Batch batch outcome) = omega arith

-- a command that was served is told by three messages at most
pub served_few : (accounts : ℕ) (sender : Recipient) (line entry : ℕ) (tickers : List (List ℕ)) (command : Command) (answer : Answer Outcome)
    → length (served_messages accounts sender line entry tickers command answer) ≤ 3
served_few accounts sender line entry tickers command answer =
    let members = echo_members tickers command answer in
    let noticed = notices_few accounts sender (concerned command answer) members in
    let all = announced_few tickers command answer in
    let both = length-append (notices accounts sender (concerned command answer) members) (announced tickers command answer) in
    omega (arith, noticed, all, both)

-- the counts after that, if no account was opened
pub after_served : (old mid : Desks) (before after : List ℕ) (sender : Recipient) (line entry : ℕ) (tickers : List (List ℕ)) (command : Command) (answer : Answer Outcome)
    → Tells old mid before after (served_messages (length old.accounts) sender line entry tickers command answer)
    → (length mid.accounts ≡ length old.accounts) × (mid.total.messages ≤ old.total.messages + 3)
after_served old mid before after sender line entry tickers command answer tells = (
  tells_accounts old mid before after _ tells,
  omega (arith, tells_total old mid before after _ tells, served_few (length old.accounts) sender line entry tickers command answer),
)

-- and then what accounts are told of a batch
pub with_fills : (old mid new : Desks) (before between after : List ℕ) (served : List Message) (orders : List book.Order) (batch : ℕ) (c : Clearing)
    → Tells old mid before between served → Tells mid new between after (fill_messages (length mid.accounts) orders batch c)
    → Tells old new before after (served ++ fill_messages (length old.accounts) orders batch c)
with_fills old mid new before between after served orders batch c first second =
    tells_more old mid new before between after served (fill_messages (length old.accounts) orders batch c) first
    (subst (λ n. Tells mid new between after (fill_messages n orders batch c)) (tells_accounts old mid before between served first) second)

-- all that is told of a batch that cleared
pub cleared_told : (old mid new : Desks) (before between after : List ℕ) (sender : Recipient) (line entry : ℕ) (lent tickers : List (List ℕ)) (live orders : List book.Order) (command : Command) (a : Answer Outcome)
    (batch : ℕ) (c : Clearing) → a ≡ Batch batch (Cleared c) → lent ≡ tickers → live ≡ orders
    → Tells (with_opened (opened_by a) old) mid before between (served_messages (length (with_opened (opened_by a) old).accounts) sender line entry lent command a)
    → Tells mid new between after (fill_messages (length mid.accounts) live batch c)
    → Tells (with_opened (opened_by a) old) new before after
    (served_messages (length (with_opened (opened_by a) old).accounts) sender line entry tickers command a ++ told_of_fills (length (with_opened (opened_by a) old).accounts) orders a)
cleared_told old mid new before between after sender line entry lent tickers live orders command a batch c is same_tickers same_orders served filled =
    let d = with_opened (opened_by a) old in
    let first : Tells d mid before between (served_messages (length d.accounts) sender line entry tickers command a) =
    subst (λ ts. Tells d mid before between (served_messages (length d.accounts) sender line entry ts command a)) same_tickers served in
    let second : Tells mid new between after (fill_messages (length mid.accounts) orders batch c) = subst (λ os. Tells mid new between after (fill_messages (length mid.accounts) os batch c)) same_orders filled in
    subst (λ x. Tells d new before after (served_messages (length d.accounts) sender line entry tickers command a ++ told_of_fills (length d.accounts) orders x)) (sym is)
    (with_fills d mid new before between after (served_messages (length d.accounts) sender line entry tickers command a) orders batch c first second)

-- ---- one more text

-- a text that was told was ended
pub on_both : (result ended : Result (Unit {0}) Memory) {P Q R S : Type 0} → OnOk result (OnOk ended P) → OnOk result (IsOk ended) → OnOk ended Q → OnOk result S → (P → Q → S → R) → OnOk result R
on_both (Ok x) (Ok y) p right q s follows = follows p q s
on_both (Ok x) (Err y) p right q s follows = absurd (false≢true right)
on_both (Err x) ended p right q s follows = tt

-- the text of messages that were told, after others
module _ (d new_d : Desks) (bytes ends before new_bytes new_ends start after : List ℕ) (messages : List Message) (ascend : EndAt 0 ends bytes) (same : before ≡ bytes) (empty : start ≡ []) where
  text_is : new_bytes ≡ before ++ after → Tells d new_d start after messages → new_bytes ≡ bytes ++ texts_of d messages
  text_is written tells = written ∙ ap (λ x. x ++ after) same ∙ ap (λ x. bytes ++ x) (tells.put ∙ ap (λ x. x ++ texts_of d messages) empty)

  ends_are : new_bytes ≡ bytes ++ texts_of d messages → new_ends ≡ ends ++ length new_bytes ∷ [] → new_ends ≡ ends ++ length (bytes ++ texts_of d messages) ∷ []
  ends_are is ended = ended ∙ ap (λ x. ends ++ length x ∷ []) is

  pub one_said : new_bytes ≡ before ++ after → Tells d new_d start after messages → new_ends ≡ ends ++ length new_bytes ∷ []
      → ◌≡◌ {A = Talk} (record { desks = new_d; texts = segments 0 new_ends new_bytes }) (says (record { desks = d; texts = segments 0 ends bytes }) messages)
  one_said written tells ended =
      let is = text_is written tells in
      rw (tells.counted, ends_are is ended, is, one_more_part 0 ends bytes (texts_of d messages) ascend) refl

-- the ends ascend still, whether the text was told or taken back
pub still_ascend : (result ended : Result (Unit {0}) Memory) (bytes ends before new_bytes new_ends after : List ℕ) → EndAt 0 ends bytes → before ≡ bytes
    → OnOk result (OnOk ended (new_bytes ≡ before ++ after)) → OnOk result (IsOk ended) → OnOk result (new_ends ≡ ends ++ length new_bytes ∷ [])
    → OnErr result ((new_bytes ≡ before) × (new_ends ≡ ends)) → EndAt 0 new_ends new_bytes
still_ascend (Ok x) (Ok y) bytes ends before new_bytes new_ends after ascend same written right ended back =
    let is : new_bytes ≡ bytes ++ after = written ∙ ap (λ l. l ++ after) same in
    let at : new_ends ≡ ends ++ length (bytes ++ after) ∷ [] = ended ∙ ap (λ l. ends ++ length l ∷ []) is in
    rw (at, is) (one_more_end 0 ends bytes after ascend)
still_ascend (Ok x) (Err y) bytes ends before new_bytes new_ends after ascend same written right ended back = absurd (false≢true right)
still_ascend (Err x) ended_by bytes ends before new_bytes new_ends after ascend same written right ended back = rw (back.1, back.0, same) ascend
