-- A line is heard in one way.
use Rattle.std.proofs.Common.{◌≡◌, ℕ, List, refl, sym, ap, subst, ◌∙◌}
use Rattle.envelope_text.specs.Envelopes.{Sent}
use Rattle.envelope_text.proofs.OneEnvelope.{one_envelope}
use Rattle.desk_messages.specs.Desks.{Desks, recipient_of}
use Rattle.desk_lines.specs.Hearing.{Nothing, Noise, Other, From, IsSent, IsNext, IsSilent}
use Rattle.desk_lines.specs.Laws.{OneHearing, SomeHearing}
use Rattle.desk_lines.proofs.Blanks.{no_envelope}

-- a line that says nothing isn't of a sender
silent : (d : Desks) (line : List ℕ) (sent : Sent) → IsSilent line → ¬ IsSent d line sent
silent d line sent nothing is = no_envelope line sent nothing.1 is.envelope

-- a line is of one sender, with one text
same : (d : Desks) (line : List ℕ) (a b : Sent) → IsSent d line a → IsSent d line b → a ≡ b
same d line a b one other = one_envelope line a b one.envelope other.envelope

pub one_hearing : OneHearing
one_hearing d line Nothing Nothing x y = refl
one_hearing d line Nothing Noise x y = absurd (y.0 x)
one_hearing d line Nothing (Other sender) x y = absurd (silent d line y.0 x y.1)
one_hearing d line Nothing (From sender text) x y = absurd (silent d line y.0 x y.1)
one_hearing d line Noise Nothing x y = absurd (x.0 y)
one_hearing d line Noise Noise x y = refl
one_hearing d line Noise (Other sender) x y = absurd (x.1 y.0 y.1)
one_hearing d line Noise (From sender text) x y = absurd (x.1 y.0 y.1)
one_hearing d line (Other sender) Nothing x y = absurd (silent d line x.0 y x.1)
one_hearing d line (Other sender) Noise x y = absurd (y.1 x.0 x.1)
one_hearing d line (Other sender) (Other another) x y =
    ap Other (x.2 ∙ ap (λ s. recipient_of s.from) (same d line x.0 y.0 x.1 y.1) ∙ sym y.2)
one_hearing d line (Other sender) (From another text) x y = absurd (x.3 (subst (IsNext d) (sym (same d line x.0 y.0 x.1 y.1)) y.4))
one_hearing d line (From sender text) Nothing x y = absurd (silent d line x.0 y x.1)
one_hearing d line (From sender text) Noise x y = absurd (y.1 x.0 x.1)
one_hearing d line (From sender text) (Other another) x y = absurd (y.3 (subst (IsNext d) (same d line x.0 y.0 x.1 y.1) x.4))
one_hearing d line (From sender text) (From another other) x y =
    ap (λ s. From s text) (x.2 ∙ ap (λ s. recipient_of s.from) (same d line x.0 y.0 x.1 y.1) ∙ sym y.2)
    ∙ ap (λ t. From another t) (x.3 ∙ ap (λ s. s.text) (same d line x.0 y.0 x.1 y.1) ∙ sym y.3)

pub some_hearing : SomeHearing
some_hearing d line none =
    none Noise (
      λ silent. none Nothing silent,
      λ sent is. none (Other (recipient_of sent.from)) (sent, is, refl, λ next. none (From (recipient_of sent.from) sent.text) (sent, is, refl, refl, next)),
    )
