-- A text asks for commands or one question, and never for both.
use Rattle.std.proofs.Common.{◌≡◌, ◌⊎◌, inl, inr, ℕ, List, [], length, Ordering, Less, Equal, Greater, Some, None, refl, sym, ap, subst, ◌∙◌, ⊎_elim, arith}
use Rattle.std.specs.Prelude.{codes, unwrap_or}
use Rattle.std.specs.Ordering.{nat_cmp, match_ordering, is_eq}
use Rattle.std.specs.Cmp.Lexicographic.{slice_cmp}
use Rattle.std.proofs.lemmas.Map.Text.{is_eq-slice_cmp}
use Rattle.std.proofs.lemmas.Slice.Eq.{bytes_eq-Decides}
use Rattle.std.proofs.lemmas.List.Elements.{recursion_from_All}
use Rattle.serde_json.specs.Data.{Data, null, boolean, number, string, array, object, Members, no_members, member}
use Rattle.serde_json.specs.Find.{get_member, as_str}
use Rattle.serde_json.specs.Events.{members_len}
use Rattle.wire_records.specs.declared.version.Version.{Version}
use Rattle.order_text.specs.declared.question.Question.{Question}
use Rattle.order_text.specs.declared.question.Question.TheVariants.{Market, Own, Account, Exchange}
use Rattle.order_text.specs.Lines.{Text, Small, HasAt, HasMembers, Asked, Alone, OfLadder, ObjectAsks, LineAsks, whole_of}
use Rattle.order_text.specs.Questions.{question_members, AsksQuestion}
use Rattle.order_text.specs.Private.{word_of, asked_in}
use Rattle.order_text.proofs.AskedFor.{word_asked, text_where}
use Rattle.order_text.proofs.Ladders.{ladder_asked}

-- ---- keys of small objects
-- members have a value at a key
abbrev HasKey : List ℕ → Members → Type 0
HasKey key ms = (value : Data) × (get_member key ms ≡ Some value)

same_key : (key name : List ℕ) → slice_cmp nat_cmp key name ≡ Equal → key ≡ name
same_key key name is = (bytes_eq-Decides key name).0 (sym (is_eq-slice_cmp key name) ∙ ap is_eq is)

-- a key is that of the first member, or one of the others has it
first_or_later : (key name : List ℕ) (d : Data) (ms : Members) → HasKey key (member name d ms) → (key ≡ name) ⊎ HasKey key ms
first_or_later key name d ms has = by (slice_cmp nat_cmp key name) refl has.1
  where
    by : (o : Ordering) → slice_cmp nat_cmp key name ≡ o → match_ordering o (get_member key ms) (Some d) (get_member key ms) ≡ Some has.0 → (key ≡ name) ⊎ HasKey key ms
    by Less is there = inr (has.0, there)
    by Equal is there = inl (same_key key name is)
    by Greater is there = inr (has.0, there)

-- no value is none
none_is_some : {A : Type 0} (a : A) → None ≡ Some a → ⊥
none_is_some a is = absurd cc

-- the only member has the key
only : (key name : List ℕ) (d : Data) → HasKey key (member name d no_members) → key ≡ name
only key name d has = ⊎_elim (λ is. is) (λ later. absurd (none_is_some later.0 later.1)) (first_or_later key name d no_members has)

-- two keys don't fit in one member
two_in_one : (a b : List ℕ) → (a ≡ b → ⊥) → (ms : Members) → members_len ms ≡ 1 → HasKey a ms → HasKey b ms → ⊥
two_in_one a b differ no_members one has_a has_b = none_is_some has_a.0 has_a.1
two_in_one a b differ (member name d no_members) one has_a has_b = differ (only a name d has_a ∙ sym (only b name d has_b))
two_in_one a b differ (member name d (member other e ms)) one has_a has_b = absurd (omega (arith, one))

-- three keys don't fit in two members
three_in_two : (a b c : List ℕ) → (a ≡ b → ⊥) → (a ≡ c → ⊥) → (b ≡ c → ⊥) → (ms : Members) → members_len ms ≡ 2 → HasKey a ms → HasKey b ms → HasKey c ms → ⊥
three_in_two a b c ab ac bc no_members two has_a has_b has_c = none_is_some has_a.0 has_a.1
three_in_two a b c ab ac bc (member name d ms) two has_a has_b has_c =
    let rest : members_len ms ≡ 1 = omega (arith, two) in
    ⊎_elim
    (λ is_a. ⊎_elim
    (λ is_b. ab (is_a ∙ sym is_b))
    (λ later_b. ⊎_elim
    (λ is_c. ac (is_a ∙ sym is_c))
    (λ later_c. two_in_one b c bc ms rest later_b later_c)
    (first_or_later c name d ms has_c))
    (first_or_later b name d ms has_b))
    (λ later_a. ⊎_elim
    (λ is_b. ⊎_elim
    (λ is_c. bc (is_b ∙ sym is_c))
    (λ later_c. two_in_one a c ac ms rest later_a later_c)
    (first_or_later c name d ms has_c))
    (λ later_b. two_in_one a b ab ms rest later_a later_b)
    (first_or_later b name d ms has_b))
    (first_or_later a name d ms has_a)

ask_do : codes "ask" ≡ codes "do" → ⊥
ask_do is = absurd cc

account_do : codes "account" ≡ codes "do" → ⊥
account_do is = absurd cc

ask_account : codes "ask" ≡ codes "account" → ⊥
ask_account is = absurd cc

-- ---- what an object asks
count_is : (a b : ℕ) → Some a ≡ Some b → a ≡ b
count_is a b is = ap (λ o. unwrap_or o 0) is

-- an object that asks a question has no other member
no_do : (d : Data) (question : Question) → HasMembers [] d (question_members question) → (text : List ℕ) → HasAt [] d (codes "do") (Text text) → ⊥
no_do null question asks text has = none_is_some has.0 has.1
no_do (boolean b) question asks text has = none_is_some has.0 has.1
no_do (number n) question asks text has = none_is_some has.0 has.1
no_do (string s) question asks text has = none_is_some has.0 has.1
no_do (array ds) question asks text has = none_is_some has.0 has.1
no_do (object ms) Market asks text has =
    let all = recursion_from_All (λ m. HasAt [] (object ms) m.0 m.1) (question_members Market) asks.0 in
    two_in_one (codes "ask") (codes "do") ask_do ms (count_is (members_len ms) 1 asks.1) (all.0.0, all.0.1) (has.0, has.1)
no_do (object ms) Own asks text has =
    let all = recursion_from_All (λ m. HasAt [] (object ms) m.0 m.1) (question_members Own) asks.0 in
    two_in_one (codes "ask") (codes "do") ask_do ms (count_is (members_len ms) 1 asks.1) (all.0.0, all.0.1) (has.0, has.1)
no_do (object ms) (Account account) asks text has =
    let all = recursion_from_All (λ m. HasAt [] (object ms) m.0 m.1) (question_members (Account account)) asks.0 in
    three_in_two (codes "ask") (codes "account") (codes "do") ask_account ask_do account_do ms (count_is (members_len ms) 2 asks.1) (all.0.0, all.0.1) (all.1.0.0, all.1.0.1) (has.0, has.1)
no_do (object ms) Exchange asks text has =
    let all = recursion_from_All (λ m. HasAt [] (object ms) m.0 m.1) (question_members Exchange) asks.0 in
    two_in_one (codes "ask") (codes "do") ask_do ms (count_is (members_len ms) 1 asks.1) (all.0.0, all.0.1) (has.0, has.1)

-- an object that asks for commands has the member `do`
has_do : (version : Version) (tickers : List (List ℕ)) (d : Data) (asked : Asked) → ObjectAsks version tickers d asked → (text : List ℕ) × HasAt [] d (codes "do") (Text text)
has_do version tickers d (Alone command) asks = (word_of command, text_where [] d (codes "do") (word_of command) (word_asked version tickers d command asks))
has_do version tickers d (OfLadder commands) asks = (codes "ladder", text_where [] d (codes "do") (codes "ladder") (ladder_asked tickers d commands asks))

-- no text asks for commands and a question
pub not_both : (version : Version) (tickers : List (List ℕ)) (text : List ℕ) (asked : Asked) (question : Question) → LineAsks version tickers text asked → ¬ AsksQuestion text question
not_both version tickers text asked question asks other =
    let value : other.value ≡ asks.value = ap (λ o. unwrap_or o asks.value) (sym other.reads ∙ asks.reads) in
    let word = has_do version tickers asks.value asked asks.asks in
    no_do asks.value question (subst (λ v. HasMembers [] v (question_members question)) value other.members) word.0 word.1

-- ---- one question
-- the text at `ask` and the number at `account`, with how many keys there are
text_is : (a b : List ℕ) → Some a ≡ Some b → a ≡ b
text_is a b is = ap (λ o. unwrap_or o []) is

same_text : (d : Data) (a b : List ℕ) → HasAt [] d (codes "ask") (Text a) → HasAt [] d (codes "ask") (Text b) → a ≡ b
same_text d a b one other =
    let value : one.0 ≡ other.0 = ap (λ o. unwrap_or o one.0) (sym one.1 ∙ other.1) in
    text_is a b (sym one.2 ∙ ap as_str value ∙ other.2)

same_number : (d : Data) (a b : ℕ) → HasAt [] d (codes "account") (Small a) → HasAt [] d (codes "account") (Small b) → a ≡ b
same_number d a b one other =
    let value : one.0 ≡ other.0 = ap (λ o. unwrap_or o one.0) (sym one.1 ∙ other.1) in
    count_is a b (sym one.2.0 ∙ ap whole_of value ∙ other.2.0)

-- an object asks one question
module _ (d : Data) where
  abbrev Asks : Question → Type 0
  Asks question = HasMembers [] d (question_members question)

  text : (question : Question) → Asks question → HasAt [] d (codes "ask") (Text (asked_in question))
  text Market asks = (recursion_from_All (λ m. HasAt [] d m.0 m.1) (question_members Market) asks.0).0
  text Own asks = (recursion_from_All (λ m. HasAt [] d m.0 m.1) (question_members Own) asks.0).0
  text (Account account) asks = (recursion_from_All (λ m. HasAt [] d m.0 m.1) (question_members (Account account)) asks.0).0
  text Exchange asks = (recursion_from_All (λ m. HasAt [] d m.0 m.1) (question_members Exchange) asks.0).0

  numbered : (account : ℕ) → Asks (Account account) → HasAt [] d (codes "account") (Small account)
  numbered account asks = (recursion_from_All (λ m. HasAt [] d m.0 m.1) (question_members (Account account)) asks.0).1.0

  one_for : (a b : Question) → asked_in a ≡ asked_in b → length (question_members a) ≡ length (question_members b) → Asks a → Asks b → a ≡ b
  one_for Market Market words counts one other = refl
  one_for Market Own words counts one other = absurd cc
  one_for Market (Account account) words counts one other = absurd cc
  one_for Market Exchange words counts one other = absurd cc
  one_for Own Market words counts one other = absurd cc
  one_for Own Own words counts one other = refl
  one_for Own (Account account) words counts one other = absurd (omega (arith, counts))
  one_for Own Exchange words counts one other = absurd cc
  one_for (Account account) Market words counts one other = absurd cc
  one_for (Account account) Own words counts one other = absurd (omega (arith, counts))
  one_for (Account account) (Account another) words counts one other = ap Account (same_number d account another (numbered account one) (numbered another other))
  one_for (Account account) Exchange words counts one other = absurd cc
  one_for Exchange Market words counts one other = absurd cc
  one_for Exchange Own words counts one other = absurd cc
  one_for Exchange (Account account) words counts one other = absurd cc
  one_for Exchange Exchange words counts one other = refl

  one_in : (a b : Question) → Asks a → Asks b → a ≡ b
  one_in a b one other = one_for a b (same_text d (asked_in a) (asked_in b) (text a one) (text b other)) (count_is _ _ (sym one.1 ∙ other.1)) one other

-- a text asks one question
pub one_question : (text : List ℕ) (a b : Question) → AsksQuestion text a → AsksQuestion text b → a ≡ b
one_question text a b one other =
    let value : one.value ≡ other.value = ap (λ o. unwrap_or o one.value) (sym one.reads ∙ other.reads) in
    one_in other.value a b (subst (λ v. HasMembers [] v (question_members a)) value one.members) other.members
