-- How many lines of each sender are counted, whatever is told.
use Rattle.std.proofs.Common.{◌≡◌, ◌≢◌, ◌⊎◌, inl, inr, ℕ, zero, suc, Bool, ◌==◌, if◌then◌else◌, ◌+◌, ◌-◌, ◌<◌, ◌≤◌, Option, Some, None, List, [], ◌∷◌, ◌++◌, length, get_or, set, replicate, refl, sym, ap, ◌∙◌, arith}
use Rattle.std.proofs.lemmas.Bool.{cases_lt, cases_eq, ne_eqb, eq-eqb}
use Rattle.std.proofs.lemmas.List.{get_or-set_same, get_or-set_other, get_or_past, get_or_append_left, get_or-replicate, set_past, length-replicate}
use Rattle.std.proofs.Math.Seq.{get_or-append_right}
use Rattle.answer_text.specs.declared.header.Recipient.{Recipient}
use Rattle.answer_text.specs.declared.header.Recipient.TheVariants.{Operator, Desk, All}
use Rattle.desk_messages.specs.declared.counts.Tally.{Tally}
use Rattle.desk_messages.specs.Desks.{Desks, nothing, IsThere, recipient_of, tally_of, with_tally, with_read, with_line, with_message, no_desks}
use Rattle.desk_messages.specs.Messages.{Message, told, with_opened}
use Rattle.desk_laws.specs.Heard.{is_sender}

-- the lines of a sender that are counted
abbrev pub lines_of : Desks → Recipient → ℕ
lines_of d sender = (tally_of d sender).lines

-- ---- accounts in a list

-- an account's counts after those at a place were replaced by some with as many lines
same_lines : (ts : List Tally) (i j : ℕ) (t : Tally) → t.lines ≡ (get_or ts i nothing).lines → (get_or (set ts i t) j nothing).lines ≡ (get_or ts j nothing).lines
same_lines ts i j t same = by (cases_eq j i) (cases_lt i (length ts))
  where
    by : (j ≡ i) ⊎ (j ≢ i) → (i < length ts) ⊎ (length ts ≤ i) → (get_or (set ts i t) j nothing).lines ≡ (get_or ts j nothing).lines
    by (inr other) inside = ap (λ (x : Tally). x.lines) (get_or-set_other ts i j t nothing other)
    by (inl is) (inl inside) = rw is (ap (λ (x : Tally). x.lines) (get_or-set_same ts i t nothing inside) ∙ same)
    by (inl is) (inr past) = ap (λ xs. (get_or xs j nothing).lines) (set_past ts i t past)

-- a new account has no lines, and was counted as such before
new_account : (ts : List Tally) (j : ℕ) → (get_or (ts ++ nothing ∷ []) j nothing).lines ≡ (get_or ts j nothing).lines
new_account ts j = by (cases_lt j (length ts))
  where
    last : (k : ℕ) → (get_or (nothing ∷ []) k nothing).lines ≡ 0
    last zero = refl
    last (suc k) = refl

    by : (j < length ts) ⊎ (length ts ≤ j) → (get_or (ts ++ nothing ∷ []) j nothing).lines ≡ (get_or ts j nothing).lines
    by (inl inside) = ap (λ (x : Tally). x.lines) (get_or_append_left ts (nothing ∷ []) nothing j inside)
    by (inr past) =
        ap (λ (x : Tally). x.lines) (get_or-append_right ts (nothing ∷ []) j nothing past) ∙ last (j - length ts)
        ∙ sym (ap (λ (x : Tally). x.lines) (get_or_past ts j nothing past))

-- ---- messages and accounts that are opened

-- other counts of a recipient with as many lines
with_same : (d : Desks) (to who : Recipient) (t : Tally) → t.lines ≡ lines_of d to → lines_of (with_tally d to t) who ≡ lines_of d who
with_same d Operator Operator t same = same
with_same d Operator (Desk account) t same = refl
with_same d Operator All t same = refl
with_same d (Desk named) Operator t same = refl
with_same d (Desk named) (Desk account) t same = same_lines d.accounts (named - 1) (account - 1) t same
with_same d (Desk named) All t same = refl
with_same d All Operator t same = refl
with_same d All (Desk account) t same = refl
with_same d All All t same = same

-- the total is nobody's
without_total : (d : Desks) (t : Tally) (who : Recipient) → lines_of (record d { total = t }) who ≡ lines_of d who
without_total d t Operator = refl
without_total d t (Desk account) = refl
without_total d t All = refl

-- a message counts no line
message_lines : (d : Desks) (to who : Recipient) → lines_of (with_message d to) who ≡ lines_of d who
message_lines d to who =
    let t : Tally = record (tally_of d to) { messages = (tally_of d to).messages + 1 } in
    without_total (with_tally d to t) (record ((with_tally d to t).total) { messages = d.total.messages + 1 }) who ∙ with_same d to who t refl

-- nor do several
pub told_lines : (d : Desks) (messages : List Message) (who : Recipient) → lines_of (told d messages) who ≡ lines_of d who
told_lines d [] who = refl
told_lines d (m ∷ more) who = told_lines (with_message d m.to) more who ∙ message_lines d m.to who

-- nor does an account that is opened
pub opened_lines : (o : Option ℕ) (d : Desks) (who : Recipient) → lines_of (with_opened o d) who ≡ lines_of d who
opened_lines None d who = refl
opened_lines (Some account) d Operator = refl
opened_lines (Some account) d (Desk named) = new_account d.accounts (named - 1)
opened_lines (Some account) d All = refl

-- nor a line of the input that is nobody's
pub read_lines : (d : Desks) (who : Recipient) → lines_of (with_read d) who ≡ lines_of d who
read_lines d who = without_total d (record (d.total) { lines = d.total.lines + 1 }) who

-- ---- a line that is counted

-- the counts of a sender with one line more
more_lines : (ts : List Tally) (i j : ℕ) → (get_or ts j nothing).lines ≤ (get_or (set ts i (record (get_or ts i nothing) { lines = (get_or ts i nothing).lines + 1 })) j nothing).lines
more_lines ts i j = by (cases_eq j i) (cases_lt i (length ts))
  where
    t : Tally
    t = record (get_or ts i nothing) { lines = (get_or ts i nothing).lines + 1 }

    by : (j ≡ i) ⊎ (j ≢ i) → (i < length ts) ⊎ (length ts ≤ i) → (get_or ts j nothing).lines ≤ (get_or (set ts i t) j nothing).lines
    by (inr other) inside = let same = ap (λ (x : Tally). x.lines) (get_or-set_other ts i j t nothing other) in omega (arith, same)
    by (inl is) (inl inside) =
        let one : (get_or (set ts i t) j nothing).lines ≡ (get_or ts j nothing).lines + 1 = rw is (ap (λ (x : Tally). x.lines) (get_or-set_same ts i t nothing inside)) in
        omega (arith, one)
    by (inl is) (inr past) = let same = ap (λ xs. (get_or xs j nothing).lines) (set_past ts i t past) in omega (arith, same)

-- no sender has fewer lines after a line was counted
pub line_more : (d : Desks) (sender who : Recipient) → lines_of d who ≤ lines_of (with_line d sender) who
line_more d Operator Operator = omega arith
line_more d Operator (Desk account) = omega arith
line_more d Operator All = omega arith
line_more d (Desk named) Operator = omega arith
line_more d (Desk named) (Desk account) = more_lines d.accounts (named - 1) (account - 1)
line_more d (Desk named) All = omega arith
line_more d All Operator = omega arith
line_more d All (Desk account) = omega arith
line_more d All All = omega arith

-- its sender, who is there, has one more
pub line_own : (d : Desks) (sender : Recipient) → IsThere d sender → lines_of (with_line d sender) sender ≡ lines_of d sender + 1
line_own d Operator there = refl
line_own d (Desk account) there = ap (λ (t : Tally). t.lines) (get_or-set_same d.accounts (account - 1) _ _ (omega (arith, there.0, there.1)))
line_own d All there = refl

-- how many lines one line is
abbrev pub one_if : Bool → ℕ
one_if yes_it_is = if yes_it_is then 1 else 0

-- what a line of an account adds to the lines of an account
desk_adds : (d : Desks) (from who : ℕ) → from ≢ 0 → who ≢ 0 → IsThere d (Desk from) → lines_of (with_line d (Desk from)) (Desk who) ≡ lines_of d (Desk who) + one_if (who == from)
desk_adds d from who some other there = by (cases_eq who from)
  where
    by : (who ≡ from) ⊎ (who ≢ from) → lines_of (with_line d (Desk from)) (Desk who) ≡ lines_of d (Desk who) + one_if (who == from)
    by (inl is) = rw (eq-eqb who from is) (rw is (line_own d (Desk from) there))
    by (inr differs) =
        rw (ne_eqb who from differs)
        (let same = ap (λ (t : Tally). t.lines) (get_or-set_other d.accounts (from - 1) (who - 1) (record (get_or d.accounts (from - 1) nothing) { lines = (get_or d.accounts (from - 1) nothing).lines + 1 }) nothing
        (λ e. differs (omega (arith, e, some, other)))) in
        omega (arith, same))

-- what a line that was counted adds to the lines of any sender
pub line_adds : (d : Desks) (from who : ℕ) → IsThere d (recipient_of from)
    → lines_of (with_line d (recipient_of from)) (recipient_of who) ≡ lines_of d (recipient_of who) + one_if (is_sender who (recipient_of from))
line_adds d from who there = by (cases_eq from 0) (cases_eq who 0)
  where
    by : (from ≡ 0) ⊎ (from ≢ 0) → (who ≡ 0) ⊎ (who ≢ 0)
        → lines_of (with_line d (recipient_of from)) (recipient_of who) ≡ lines_of d (recipient_of who) + one_if (is_sender who (recipient_of from))
    by (inl operator) (inl none) = rw (operator, none) refl
    by (inl operator) (inr some) = rw (operator, ne_eqb who 0 some) (omega arith)
    by (inr other) (inl none) = rw (none, ne_eqb from 0 other, ne_eqb 0 from (λ e. other (sym e))) (omega arith)
    by (inr other) (inr some) = rw (ne_eqb from 0 other, ne_eqb who 0 some) (desk_adds d from who other some (rw (ne_eqb from 0 other) at there))

-- nothing was counted before the first line
pub no_lines : (accounts : ℕ) (who : Recipient) → lines_of (no_desks accounts) who ≡ 0
no_lines accounts Operator = refl
no_lines accounts All = refl
no_lines accounts (Desk account) = by (cases_lt (account - 1) accounts)
  where
    by : (account - 1 < accounts) ⊎ (accounts ≤ account - 1) → (get_or (replicate accounts nothing) (account - 1) nothing).lines ≡ 0
    by (inl inside) = ap (λ (t : Tally). t.lines) (get_or-replicate accounts (account - 1) nothing nothing inside)
    by (inr past) = ap (λ (t : Tally). t.lines) (get_or_past (replicate accounts nothing) (account - 1) nothing (omega (arith, past, length-replicate accounts nothing)))
