-- The letters to an account and to all are numbered by what was counted of these alone.
use Rattle.std.proofs.Common.{◌≡◌, ◌≢◌, ◌⊎◌, inl, inr, ℕ, ◌+◌, ◌-◌, ◌<◌, ◌≤◌, true, false, List, [], ◌∷◌, ◌++◌, length, Option, refl, sym, ap, subst, ◌∙◌, arith}
use Rattle.std.specs.Prelude.{◌==◌}
use Rattle.std.specs.List.{filter}
use Rattle.std.proofs.lemmas.Bool.Decides.{eqb_tells}
use Rattle.std.proofs.lemmas.List.{length-set, get_or-set_same, get_or-set_other}
use Rattle.answer_text.specs.declared.header.Recipient.{Recipient}
use Rattle.answer_text.specs.declared.header.Recipient.TheVariants.{Operator, Desk, All}
use Rattle.desk_messages.specs.declared.counts.Tally.{Tally}
use Rattle.desk_messages.specs.Desks.{Desks, nothing, tally_of, with_message}
use Rattle.desk_messages.specs.Messages.{Message, told}
use Rattle.desk_privacy.specs.Letters.{Letter, letters_of, is_for, letters_for}
use Rattle.desk_privacy.proofs.Learning.{Knows, IsCounted, counted, tell, line_of, letter_at, numbered}

-- a recipient is there, if so many accounts are
abbrev pub IsIn : ℕ → Recipient → Type 0
IsIn n Operator = Unit {0}
IsIn n (Desk named) = (0 < named) × (named ≤ n)
IsIn n All = Unit {0}

-- all recipients of messages are there
abbrev pub AllIn : ℕ → List Message → Type 0
AllIn n [] = Unit {0}
AllIn n (m ∷ more) = IsIn n m.to × AllIn n more

pub all_in_both : (n : ℕ) (one other : List Message) → AllIn n one → AllIn n other → AllIn n (one ++ other)
all_in_both n [] other first second = second
all_in_both n (m ∷ one) other first second = (first.0, all_in_both n one other first.1 second)

-- the messages to an account and to all
abbrev pub mine : ℕ → List Message → List Message
mine account messages = filter (λ (m : Message). is_for account m.to) messages

module _ (account : ℕ) (some : 0 < account) where
  abbrev Are : List Message → Desks → Knows → Type 0
  Are messages d k = (letters_for account (letters_of d messages) ≡ numbered k (mine account messages)) × IsCounted account (told d messages) (tell k (mine account messages))

  one_more : (to : Recipient) (line entry : Option ℕ) (members : List ℕ) (more : List Message) (d : Desks) (k : Knows)
      → ((e : Desks) (j : Knows) → AllIn (length e.accounts) more → IsCounted account e j → Are more e j)
      → IsIn (length d.accounts) to → AllIn (length d.accounts) more → IsCounted account d k → Are (record { to = to; line = line; entry = entry; members = members } ∷ more) d k
  one_more Operator line entry members more d k rest is_in all is = rest (with_message d Operator) k all (record { own = is.own; all = is.all })
  one_more (Desk named) line entry members more d k rest is_in all is = by (eqb_tells named account)
    where
      m : Message
      m = record { to = Desk named; line = line; entry = entry; members = members }

      all_then : AllIn (length (with_message d (Desk named)).accounts) more
      all_then = subst (λ n. AllIn n more) (sym (length-set d.accounts (named - 1) _)) all

      by : (((named == account) ≡ true) × (named ≡ account)) ⊎ (((named == account) ≡ false) × (named ≢ account)) → Are (m ∷ more) d k
      by (inl same) =
          let own_is : k.own ≡ tally_of d (Desk named) = is.own ∙ ap (λ a. tally_of d (Desk a)) (sym same.1) in
          let place : named - 1 < length d.accounts = omega (arith, is_in.0, is_in.1) in
          let set_is : tally_of (with_message d (Desk named)) (Desk account) ≡ record (tally_of d (Desk named)) { messages = (tally_of d (Desk named)).messages + 1 } =
          ap (λ a. tally_of (with_message d (Desk named)) (Desk a)) (sym same.1) ∙ get_or-set_same d.accounts (named - 1) _ nothing place in
          let j = counted (Desk named) k in
          let own_then : j.own ≡ tally_of (with_message d (Desk named)) (Desk account) = ap (λ (t : Tally). record t { messages = t.messages + 1 }) own_is ∙ sym set_is in
          let following = rest (with_message d (Desk named)) j all_then (record { own = own_then; all = is.all }) in
          rw same.0 (
            ap (λ (t : Tally). letter_at (Desk named) line entry members t.messages ∷ (letters_for account (letters_of (with_message d (Desk named)) more))) (sym own_is)
                ∙ ap (λ (l : List Letter). record { to = Desk named; line = line_of k m } ∷ l) following.0,
            following.1,
          )
      by (inr other) =
          let kept : tally_of (with_message d (Desk named)) (Desk account) ≡ tally_of d (Desk account) =
          get_or-set_other d.accounts (named - 1) (account - 1) _ nothing (λ e. other.1 (omega (arith, e, some, is_in.0))) in
          let following = rest (with_message d (Desk named)) k all_then (record { own = is.own ∙ sym kept; all = is.all }) in
          rw other.0 following
  one_more All line entry members more d k rest is_in all is =
      let m : Message = record { to = All; line = line; entry = entry; members = members } in
      let j = counted All k in
      let following = rest (with_message d All) j all (record { own = is.own; all = ap (λ (t : Tally). record t { messages = t.messages + 1 }) is.all }) in (
        ap (λ (t : Tally). letter_at All line entry members t.messages ∷ (letters_for account (letters_of (with_message d All) more))) (sym is.all)
            ∙ ap (λ (l : List Letter). record { to = All; line = line_of k m } ∷ l) following.0,
        following.1,
      )

  -- the letters of messages, and the counts after them
  pub numbered_mine : (messages : List Message) (d : Desks) (k : Knows) → AllIn (length d.accounts) messages → IsCounted account d k
      → (letters_for account (letters_of d messages) ≡ numbered k (mine account messages)) × IsCounted account (told d messages) (tell k (mine account messages))
  numbered_mine [] d k all is = (refl, is)
  numbered_mine (m ∷ more) d k all is = one_more m.to m.line m.entry m.members more d k (numbered_mine more) all.0 all.1 is
