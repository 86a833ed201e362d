-- Messages that were appended one after the other.
use Rattle.std.proofs.Common.{◌≡◌, ℕ, Bool, true, false, if◌then◌else◌, Option, Some, None, ◌+◌, ◌-◌, ◌≤◌, List, [], ◌∷◌, ◌++◌, length, codes, refl, sym, ap, subst, ◌∙◌, arith}
use Rattle.std.specs.List.{flat_map, range_with_len}
use Rattle.std.proofs.lemmas.List.{append_assoc, append-nil, length-set, flat_map_more, map-id}
use Rattle.std.proofs.lemmas.List.FromFn.{map-range_with_len_more}
use Rattle.wire_records.specs.Commands.{Command, Answer}
use Rattle.flow_orders.specs.Outcomes.{Outcome}
use Rattle.pair_text.proofs.Joining.{joined}
use Rattle.answer_text.specs.declared.header.Recipient.{Recipient}
use Rattle.answer_text.specs.declared.header.Recipient.TheVariants.{Operator, Desk, All}
use Rattle.answer_text.specs.declared.fills.FillCost.{FillCost}
use Rattle.answer_text.specs.Answers.{answer_head, echo_members, fills_members}
use Rattle.desk_messages.specs.Desks.{Desks, IsThere, tally_of, with_message}
use Rattle.desk_messages.specs.Messages.{Message, Tells, text_of, texts_of, told, reply_to, notice_to, has_account, concerned, notices, with_opened, announced, served_messages, fill_message}

-- the lines of the first messages, and then those of the others
pub texts_joined : (d : Desks) (one other : List Message) → texts_of d (one ++ other) ≡ texts_of d one ++ texts_of (told d one) other
texts_joined d [] other = refl
texts_joined d (m ∷ more) other =
    ap (λ x. text_of d m ++ x) (texts_joined (with_message d m.to) more other)
    ∙ sym (append_assoc (text_of d m) (texts_of (with_message d m.to) more) (texts_of (told (with_message d m.to) more) other))

-- the counts after the first messages, and then after the others
pub told_joined : (d : Desks) (one other : List Message) → told d (one ++ other) ≡ told (told d one) other
told_joined d [] other = refl
told_joined d (m ∷ more) other = told_joined (with_message d m.to) more other

-- no message
pub tells_none : (d : Desks) (text : List ℕ) → Tells d d text text []
tells_none d text = record { counted = refl; put = sym (append-nil text) }

-- some messages, and then others
pub tells_more : (old mid new : Desks) (before between after : List ℕ) (one other : List Message)
    → Tells old mid before between one → Tells mid new between after other → Tells old new before after (one ++ other)
tells_more old mid new before between after one other first second = record {
  counted = second.counted ∙ ap (λ d. told d other) first.counted ∙ sym (told_joined old one other);
  put =
      joined before (texts_of old one) (texts_of (told old one) other) between after first.put
      (second.put ∙ ap (λ d. between ++ texts_of d other) first.counted)
      ∙ ap (λ x. before ++ x) (sym (texts_joined old one other));
}

-- one message, whose head, members and end were appended
pub tells_one : (old new : Desks) (m : Message) (before head after : List ℕ) → new ≡ with_message old m.to
    → head ≡ before ++ answer_head (record { to = m.to; number = (tally_of old m.to).messages + 1; line = m.line; entry = m.entry })
    → after ≡ head ++ (m.members ++ codes "}\n") → Tells old new before after (m ∷ [])
tells_one old new m before head after counted first rest = record {
  counted = counted;
  put = joined before _ _ head after first rest ∙ ap (λ x. before ++ x) (sym (append-nil (text_of old m)));
}

-- a message adds no account
with_message_accounts : (d : Desks) (to : Recipient) → length (with_message d to).accounts ≡ length d.accounts
with_message_accounts d Operator = refl
with_message_accounts d (Desk account) = length-set d.accounts (account - 1) _
with_message_accounts d All = refl

with_message_total : (d : Desks) (to : Recipient) → (with_message d to).total.messages ≡ d.total.messages + 1
with_message_total d Operator = refl
with_message_total d (Desk account) = refl
with_message_total d All = refl

pub told_accounts : (d : Desks) (messages : List Message) → length (told d messages).accounts ≡ length d.accounts
told_accounts d [] = refl
told_accounts d (m ∷ more) = told_accounts (with_message d m.to) more ∙ with_message_accounts d m.to

pub told_total : (d : Desks) (messages : List Message) → (told d messages).total.messages ≡ d.total.messages + length messages
told_total d [] = omega arith
told_total d (m ∷ more) = omega (arith, told_total (with_message d m.to) more, with_message_total d m.to)

-- messages add no account, and each is counted
pub tells_accounts : (old new : Desks) (before after : List ℕ) (messages : List Message) → Tells old new before after messages → length new.accounts ≡ length old.accounts
tells_accounts old new before after messages tells = ap (λ d. length d.accounts) tells.counted ∙ told_accounts old messages

pub tells_total : (old new : Desks) (before after : List ℕ) (messages : List Message) → Tells old new before after messages → new.total.messages ≡ old.total.messages + length messages
tells_total old new before after messages tells = ap (λ d. d.total.messages) tells.counted ∙ told_total old messages

-- what is told of a command that was served, in three parts
pub served_told : (mid one two new : Desks) (before first second after : List ℕ) (sender : Recipient) (line entry : ℕ) (tickers : List (List ℕ)) (command : Command) (answer : Answer Outcome)
    → Tells mid one before first (reply_to sender line entry (echo_members tickers command answer) ∷ [])
    → Tells one two first second (notices (length one.accounts) sender (concerned command answer) (echo_members tickers command answer))
    → Tells two new second after (announced tickers command answer)
    → Tells mid new before after (served_messages (length mid.accounts) sender line entry tickers command answer)
served_told mid one two new before first second after sender line entry tickers command answer replied noticed last =
    let here : Tells one two first second (notices (length mid.accounts) sender (concerned command answer) (echo_members tickers command answer)) =
    subst (λ n. Tells one two first second (notices n sender (concerned command answer) (echo_members tickers command answer))) (tells_accounts mid one before first _ replied) noticed in
    tells_more mid one new before first after _ _ replied (tells_more one two new first second after _ _ here last)

-- an account that was opened is told nothing by that
pub opened_total : (o : Option ℕ) (d : Desks) → (with_opened o d).total.messages ≡ d.total.messages
opened_total None d = refl
opened_total (Some account) d = refl

-- a command of the operator is told to one account at most
pub notices_few : (accounts : ℕ) (sender : Recipient) (named : Option ℕ) (members : List ℕ) → length (notices accounts sender named members) ≤ 1
notices_few accounts Operator None members = omega arith
notices_few accounts Operator (Some account) members = by (has_account accounts account)
  where
    by : (there : Bool) → length (if there then notice_to (Desk account) members ∷ [] else []) ≤ 1
    by true = omega arith
    by false = omega arith
notices_few accounts (Desk account) named members = omega arith
notices_few accounts All named members = omega arith

-- how many messages there are after one at most, and one more at most
pub told_two : (old mid one two : Desks) (before first second : List ℕ) (messages more : List Message) → mid.total.messages ≡ old.total.messages
    → Tells mid one before first messages → Tells one two first second more → length messages ≤ 1 → length more ≤ 1 → two.total.messages ≤ old.total.messages + 2
told_two old mid one two before first second messages more same told then_told few also_few =
    omega (arith, same, tells_total mid one before first messages told, tells_total one two first second more then_told, few, also_few)

-- whoever is there still is
pub there_still : (old new : Desks) (who : Recipient) → length new.accounts ≡ length old.accounts → IsThere old who → IsThere new who
there_still old new Operator same there = there
there_still old new (Desk account) same there = (there.0, omega (arith, same, there.1))
there_still old new All same there = there

-- whoever has orders is told of them
pub fills_told : (batch account : ℕ) (own : List FillCost) → (length own ≡ 0 → ⊥) → fill_message batch account own ≡ notice_to (Desk account) (fills_members batch own) ∷ []
fills_told batch account [] some = absurd (some refl)
fills_told batch account (fill ∷ fills) some = refl

-- nobody without orders is
pub none_told : (batch account : ℕ) (own : List FillCost) → length own ≡ 0 → fill_message batch account own ≡ []
none_told batch account [] none = refl
none_told batch account (fill ∷ fills) none = absurd (omega (arith, none))

-- each account is told by one message at most
pub fills_few : (batch account : ℕ) (own : List FillCost) → length (fill_message batch account own) ≤ 1
fills_few batch account [] = omega arith
fills_few batch account (fill ∷ fills) = omega arith

-- what is told to one more account
range_more : (n : ℕ) → range_with_len 1 (n + 1) ≡ range_with_len 1 n ++ (n + 1) ∷ []
range_more n =
    let last : 1 + n ≡ n + 1 = omega arith in
    sym (map-id (range_with_len 1 (n + 1))) ∙ map-range_with_len_more (λ x. x) 1 n (n + 1) last ∙ ap (λ ys. ys ++ (n + 1) ∷ []) (map-id (range_with_len 1 n))

pub one_more_account : (f : ℕ → List Message) (n : ℕ) → flat_map f (range_with_len 1 n) ++ f (n + 1) ≡ flat_map f (range_with_len 1 (n + 1))
one_more_account f n = flat_map_more f [] (range_with_len 1 n) (n + 1) ∙ ap (flat_map f) (sym (range_more n))

-- the first accounts, so many, were told
pub record HasTold (f : ℕ → List Message) (n : ℕ) (old now : Desks) (before after : List ℕ) : Type 0 where
  pub tells : Tells old now before after (flat_map f (range_with_len 1 n))
  pub accounts : length now.accounts ≡ length old.accounts
  pub few : now.total.messages ≤ old.total.messages + n

pub none_yet : (f : ℕ → List Message) (old : Desks) (text : List ℕ) → HasTold f 0 old old text text
none_yet f old text = record { tells = tells_none old text; accounts = refl; few = omega arith }

pub one_more_told : (f : ℕ → List Message) (n : ℕ) (old now new : Desks) (before between after : List ℕ) → HasTold f n old now before between → Tells now new between after (f (n + 1)) → length (f (n + 1)) ≤ 1
    → HasTold f (n + 1) old new before after
one_more_told f n old now new before between after so_far told few = record {
  tells = subst (Tells old new before after) (one_more_account f n) (tells_more old now new before between after (flat_map f (range_with_len 1 n)) (f (n + 1)) so_far.tells told);
  accounts = tells_accounts now new between after (f (n + 1)) told ∙ so_far.accounts;
  few = omega (arith, tells_total now new between after (f (n + 1)) told, few, so_far.few);
}
