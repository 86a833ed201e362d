-- A text of a sender asks for one thing.
use Rattle.std.proofs.Common.{◌≡◌, inl, inr, ℕ, List, ⊎_elim, refl, ap, subst}
use Rattle.std.specs.Prelude.{All}
use Rattle.wire_records.specs.declared.version.Version.{Version}
use Rattle.order_text.specs.Lines.{IsBlank, Asked, commands_of, LineAsks}
use Rattle.order_text.specs.Questions.{AsksQuestion}
use Rattle.order_text.specs.declared.question.Question.{Question}
use Rattle.order_text.proofs.OneAnswers.{one_thing}
use Rattle.answer_text.specs.declared.header.Recipient.{Recipient}
use Rattle.desk_messages.specs.Desks.{Desks}
use Rattle.desk_lines.specs.declared.wishes.TextFault.TheVariants.{NoCommand, NotYours, NoAccount}
use Rattle.desk_lines.specs.Rights.{MayAsk, MayKnow, IsAboutSome}
use Rattle.desk_lines.specs.Wishes.{Wish, Nothing, Serve, Answer, Refuse, IsReadable, IsWish}
use Rattle.desk_lines.specs.Laws.{OneWish, SomeWish}
use Rattle.desk_lines.proofs.Blanks.{no_question}
use Rattle.desk_lines.proofs.Asking.{not_both, one_question}

module _ (version : Version) (tickers : List (List ℕ)) (d : Desks) (sender : Recipient) (text : List ℕ) where
  abbrev Is : Wish → Type 0
  Is wish = IsWish version tickers d sender text wish

  abbrev Asks : Asked → Type 0
  Asks asked = LineAsks version tickers text asked

  -- what asks for nothing that there is, although it is read
  nothing_asked : Is (Refuse NoCommand) → IsReadable text → (¬ IsBlank text) × ((asked : Asked) → ¬ Asks asked) × ((question : Question) → ¬ AsksQuestion text question)
  nothing_asked is readable = ⊎_elim (λ unread. absurd (unread readable)) (λ none. (none.0.written, none.0.no_command, none.1)) is

  -- what isn't the sender's is neither blank, nor commands or a question of the sender's
  not_blank : Is (Refuse NotYours) → ¬ IsBlank text
  not_blank is blank = ⊎_elim (λ asks. asks.1.written blank) (λ asks. no_question text asks.0 blank asks.1) is.1

  not_served : (asked : Asked) → Asks asked → All (MayAsk sender) (commands_of asked) → ¬ Is (Refuse NotYours)
  not_served asked here may is =
      ⊎_elim
      (λ asks. asks.2 (subst (λ a. All (MayAsk sender) (commands_of a)) (one_thing version tickers text asked asks.0 here asks.1) may))
      (λ asks. not_both version tickers text asked asks.0 here asks.1) is.1

  not_answered : (question : Question) → AsksQuestion text question → MayKnow sender question → ¬ Is (Refuse NotYours)
  not_answered question here may is =
      ⊎_elim
      (λ asks. not_both version tickers text asks.0 question asks.1 here)
      (λ asks. asks.2 (subst (MayKnow sender) (one_question text question asks.0 here asks.1) may)) is.1

  -- an account that isn't there
  not_there : (question : Question) → AsksQuestion text question → IsAboutSome d question → ¬ Is (Refuse NoAccount)
  not_there question here some is = is.4 (subst (IsAboutSome d) (one_question text question is.1 here is.2) some)

  one : (a b : Wish) → Is a → Is b → a ≡ b
  one Nothing Nothing x y = refl
  one Nothing (Serve asked) x y = absurd (y.1.written x.1)
  one Nothing (Answer question) x y = absurd (no_question text question x.1 y.1)
  one Nothing (Refuse NoCommand) x y = absurd ((nothing_asked y x.0).0 x.1)
  one Nothing (Refuse NotYours) x y = absurd (not_blank y x.1)
  one Nothing (Refuse NoAccount) x y = absurd (no_question text y.1 x.1 y.2)
  one (Serve asked) Nothing x y = absurd (x.1.written y.1)
  one (Serve asked) (Serve other) x y = ap Serve (one_thing version tickers text asked other x.1 y.1)
  one (Serve asked) (Answer question) x y = absurd (not_both version tickers text asked question x.1 y.1)
  one (Serve asked) (Refuse NoCommand) x y = absurd ((nothing_asked y x.0).1 asked x.1)
  one (Serve asked) (Refuse NotYours) x y = absurd (not_served asked x.1 x.2 y)
  one (Serve asked) (Refuse NoAccount) x y = absurd (not_both version tickers text asked y.1 x.1 y.2)
  one (Answer question) Nothing x y = absurd (no_question text question y.1 x.1)
  one (Answer question) (Serve asked) x y = absurd (not_both version tickers text asked question y.1 x.1)
  one (Answer question) (Answer other) x y = ap Answer (one_question text question other x.1 y.1)
  one (Answer question) (Refuse NoCommand) x y = absurd ((nothing_asked y x.0).2 question x.1)
  one (Answer question) (Refuse NotYours) x y = absurd (not_answered question x.1 x.2 y)
  one (Answer question) (Refuse NoAccount) x y = absurd (not_there question x.1 x.3 y)
  one (Refuse NoCommand) Nothing x y = absurd ((nothing_asked x y.0).0 y.1)
  one (Refuse NoCommand) (Serve asked) x y = absurd ((nothing_asked x y.0).1 asked y.1)
  one (Refuse NoCommand) (Answer question) x y = absurd ((nothing_asked x y.0).2 question y.1)
  one (Refuse NoCommand) (Refuse NoCommand) x y = refl
  one (Refuse NoCommand) (Refuse NotYours) x y =
      absurd (⊎_elim (λ asks. (nothing_asked x y.0).1 asks.0 asks.1) (λ asks. (nothing_asked x y.0).2 asks.0 asks.1) y.1)
  one (Refuse NoCommand) (Refuse NoAccount) x y = absurd ((nothing_asked x y.0).2 y.1 y.2)
  one (Refuse NotYours) Nothing x y = absurd (not_blank x y.1)
  one (Refuse NotYours) (Serve asked) x y = absurd (not_served asked y.1 y.2 x)
  one (Refuse NotYours) (Answer question) x y = absurd (not_answered question y.1 y.2 x)
  one (Refuse NotYours) (Refuse NoCommand) x y =
      absurd (⊎_elim (λ asks. (nothing_asked y x.0).1 asks.0 asks.1) (λ asks. (nothing_asked y x.0).2 asks.0 asks.1) x.1)
  one (Refuse NotYours) (Refuse NotYours) x y = refl
  one (Refuse NotYours) (Refuse NoAccount) x y = absurd (not_answered y.1 y.2 y.3 x)
  one (Refuse NoAccount) Nothing x y = absurd (no_question text x.1 y.1 x.2)
  one (Refuse NoAccount) (Serve asked) x y = absurd (not_both version tickers text asked x.1 y.1 x.2)
  one (Refuse NoAccount) (Answer question) x y = absurd (not_there question y.1 y.3 x)
  one (Refuse NoAccount) (Refuse NoCommand) x y = absurd ((nothing_asked y x.0).2 x.1 x.2)
  one (Refuse NoAccount) (Refuse NotYours) x y = absurd (not_answered x.1 x.2 x.3 y)
  one (Refuse NoAccount) (Refuse NoAccount) x y = refl

  module _ (none : (wish : Wish) → ¬ Is wish) (readable : IsReadable text) where
    not_asked : (asked : Asked) → ¬ Asks asked
    not_asked asked asks = none (Refuse NotYours) (readable, inl (asked, asks, λ may. none (Serve asked) (readable, asks, may)))

    not_questioned : (question : Question) → ¬ AsksQuestion text question
    not_questioned question asks =
        none (Refuse NotYours) (readable, inr (question, asks, λ may. none (Refuse NoAccount) (readable, question, asks, may, λ some. none (Answer question) (readable, asks, may, some))))

  some : ¬ ((wish : Wish) → ¬ Is wish)
  some none =
      none (Refuse NoCommand) (inl (λ readable. none (Refuse NoCommand) (inr (
        record { written = λ blank. none Nothing (readable, blank); no_command = not_asked none readable },
        not_questioned none readable,
      ))))

pub one_wish : OneWish
one_wish = one

pub some_wish : SomeWish
some_wish = some
