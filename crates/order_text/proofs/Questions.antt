-- What an object with a text at `ask` asks.
use Rattle.std.proofs.Common.{◌≡◌, ℕ, List, [], ◌∷◌, length, drop, Option, Some, None, IfSome, refl, sym, ap, subst, ◌∙◌, rules}
use Rattle.std.specs.Prelude.{codes, unwrap_or, IfNone}
use Rattle.std.proofs.lemmas.List.Elements.{All-from_recursion, recursion_from_All}
use Rattle.serde_json.specs.Data.{Data}
use Rattle.serde_json.specs.Read.{read}
use Rattle.order_text.specs.declared.question.Question.{Question}
use Rattle.order_text.specs.declared.question.Question.TheVariants.{Market, Own, Account, Exchange}
use Rattle.order_text.specs.Lines.{HasKeys, Text, Small, HasAt, HasMembers}
use Rattle.order_text.specs.Questions.{question_members, AsksQuestion}
use Rattle.order_text.specs.Private.{text_at, Has, asked_in, FitsQuestion, FindsQuestion}
use Rattle.order_text.proofs.AskedFor.{text_of, text_where}

-- no value is none
none_is_some : {A : Type 0} (a : A) → None ≡ Some a → ⊥
none_is_some a is = absurd cc

-- the members of a question begin with the text at `ask`
ask_first : (question : Question) → question_members question ≡ (codes "ask", Text (asked_in question)) ∷ drop 1 (question_members question)
ask_first Market = refl
ask_first Own = refl
ask_first (Account number) = refl
ask_first Exchange = refl

-- a question with the text `account` is about an account
account_is : (question : Question) → asked_in question ≡ codes "account" → (length (question_members question) ≡ 1 → ⊥) → (number : ℕ) × (question ≡ Account number)
account_is Market is other = absurd cc
account_is Own is other = absurd (other refl)
account_is (Account number) is other = (number, refl)
account_is Exchange is other = absurd cc

module _ (d : Data) where
  -- an object has the members of a question
  abbrev pub Asks : Question → Type 0
  Asks question = HasMembers [] d (question_members question)

  -- an object that asks a question has its text at `ask`, and the other members
  asks_parts : (question : Question) → Asks question → (text_at (codes "ask") d ≡ Some (asked_in question)) × FitsQuestion d question
  asks_parts question asks =
      let all = subst (Has [] d) (ask_first question) (recursion_from_All (λ m. HasAt [] d m.0 m.1) (question_members question) asks.0) in
      (text_of [] d (codes "ask") (asked_in question) all.0, (all.1, asks.1))

  -- an object without a text at `ask` asks nothing
  pub none_asked : (o : Option Question) → None ≡ text_at (codes "ask") d → IfNone o ((question : Question) → ¬ Asks question)
  none_asked None is = λ question asks. none_is_some (asked_in question) (is ∙ (asks_parts question asks).0)
  none_asked (Some question) is = tt

  -- an object with a text at `ask` that is no question's asks nothing
  pub other_asked : (text : List ℕ) → Some text ≡ text_at (codes "ask") d → (text ≡ codes "market" → ⊥) → (text ≡ codes "account" → ⊥) → (text ≡ codes "exchange" → ⊥) → (question : Question) → ¬ Asks question
  other_asked text is market account exchange question asks = by question (ap (λ o. unwrap_or o []) (is ∙ (asks_parts question asks).0))
    where
      by : (q : Question) → text ≡ asked_in q → ⊥
      by Market same = market same
      by Own same = account same
      by (Account number) same = account same
      by Exchange same = exchange same

  -- what is found by the text at `ask` is what is asked
  pub found_asked : (text : List ℕ) (o : Option Question) → Some text ≡ text_at (codes "ask") d → FindsQuestion text d o → IfSome o (λ question. Asks question)
  found_asked text (Some question) is found =
      (All-from_recursion (λ m. HasAt [] d m.0 m.1) (question_members question) (subst (Has [] d) (sym (ask_first question)) (text_where [] d (codes "ask") (asked_in question) (sym is ∙ ap Some (sym found.0)), found.1.0)), found.1.1)
  found_asked text None is found = tt

  pub none_found : (text : List ℕ) (o : Option Question) → Some text ≡ text_at (codes "ask") d → FindsQuestion text d o → IfNone o ((question : Question) → ¬ Asks question)
  none_found text (Some question) is found = tt
  none_found text None is found = λ question asks.
      let parts = asks_parts question asks in
      found question (ap (λ o. unwrap_or o []) (sym parts.0 ∙ sym is)) parts.1

  -- an object with more than one key and without the number of an account asks nothing about accounts
  pub no_account : (o : Option Question) → o ≡ None → (HasKeys 1 d → ⊥) → ((number : ℕ) → ¬ HasAt [] d (codes "account") (Small number)) → FindsQuestion (codes "account") d o
  no_account o is one none = subst (FindsQuestion (codes "account") d) (sym is) by
    where
      by : (question : Question) → asked_in question ≡ codes "account" → ¬ FitsQuestion d question
      by Market same fits = absurd cc
      by Own same fits = one fits.1
      by (Account number) same fits = none number fits.0.0
      by Exchange same fits = absurd cc

-- a text whose value asks nothing is no question
pub no_question : (text : List ℕ) (d : Data) → read text ≡ Some d → ((question : Question) → ¬ Asks d question) → (question : Question) → ¬ AsksQuestion text question
no_question text d reads none question asks = none question (subst (λ v. Asks v question) (ap (λ o. unwrap_or o d) (sym asks.reads ∙ reads)) asks.members)
