-- What an account sees, among what it observes, is its view of the entries.
use Rattle.std.proofs.Common.{◌≡◌, ℕ, ◌+◌, Bool, true, false, List, [], ◌∷◌, ◌++◌, length, map, refl, sym, ap, subst, ◌∙◌}
use Rattle.std.specs.List.{flat_map}
use Rattle.std.specs.Prelude.{◌==◌, if◌then◌else◌}
use Rattle.std.proofs.lemmas.Grind.{flat_map-append}
use Rattle.wire_records.specs.Records.{Record}
use Rattle.wire_records.specs.Commands.{Command, Answer, Pair}
use Rattle.flow_orders.specs.Outcomes.{Outcome}
use Rattle.market_rules.specs.Market.{Market}
use Rattle.order_text.specs.Lines.{commands_of}
use Rattle.answer_text.specs.declared.header.Recipient.{Recipient}
use Rattle.answer_text.specs.declared.header.Recipient.TheVariants as recipient
use Rattle.statement_rules.specs.Views.{Event, Sees, seen}
use Rattle.statement_rules.proofs.ViewLaws.{views_compose}
use Rattle.desk_messages.specs.Desks.{Desks, tally_of, with_read, with_line}
use Rattle.desk_messages.specs.Messages.{Message, told, opened_by, with_opened, no_envelope, expected, error_to}
use Rattle.desk_lines.specs.Hearing.{Heard}
use Rattle.desk_lines.specs.Hearing as heard
use Rattle.desk_lines.specs.Wishes.{Wish}
use Rattle.desk_lines.specs.Wishes as wish
use Rattle.desk_session.specs.Lines.{entry_messages, answer_members, fault_word, answer_to}
use Rattle.desk_privacy.specs.Letters.{Letter}
use Rattle.desk_privacy.specs.Observing.{Observation, News, NextLine, OtherLine, ToAll, ToIt, news_of, observed, AreServedTo, SaysAlone, ComesOfWishTo, own_line, ComesTo, AreLinesServedTo}
use Rattle.desk_privacy.specs.Laws.{view_in, ViewsAreObserved}

abbrev Entries : Type 0
Entries = List (Pair Record Outcome)

-- what is seen, of all that is observed
abbrev pub view_of : List Observation → List Event
view_of noted = flat_map view_in noted

no_view : (news : List News) → view_of (map ToAll news) ≡ []
no_view [] = refl
no_view (n ∷ news) = no_view news

same_view : (view : List Event) → view_of (map ToIt view) ≡ view
same_view [] = refl
same_view (event ∷ view) = ap (λ (l : List Event). event ∷ l) (same_view view)

-- what is seen of an entry
pub entry_view : (account : ℕ) (command : Command) (answer : Answer Outcome) (view : List Event) → view_of (observed account command answer view) ≡ view
entry_view account command answer view =
    flat_map-append view_in (map ToAll (news_of command answer)) (map ToIt view) ∙ ap (λ (l : List Event). l ++ view_of (map ToIt view)) (no_view (news_of command answer)) ∙ same_view view

-- nothing is seen of a line itself
line_view : (account : ℕ) (said : Heard) → view_of (own_line account said) ≡ []
line_view account heard.Nothing = refl
line_view account heard.Noise = refl
line_view account (heard.Other recipient.Operator) = refl
line_view account (heard.Other (recipient.Desk sender)) = by (sender == account)
  where
    by : (own : Bool) → view_of (if own then OtherLine ∷ [] else []) ≡ []
    by true = refl
    by false = refl
line_view account (heard.Other recipient.All) = refl
line_view account (heard.From recipient.Operator text) = refl
line_view account (heard.From (recipient.Desk sender) text) = by (sender == account)
  where
    by : (own : Bool) → view_of (if own then NextLine text ∷ [] else []) ≡ []
    by true = refl
    by false = refl
line_view account (heard.From recipient.All text) = refl

module _ (account : ℕ) where
  says_view : (old new : Market) (d later : Desks) (messages : List Message) (pairs : Entries) (letters : List Letter) (noted : List Observation)
      → SaysAlone account old d messages pairs letters noted new later → Sees account old pairs (view_of noted) new
  says_view old new d later messages pairs letters noted is = rw (is.0, is.2) (refl, is.3)

  served_view : (old new : Market) (d later : Desks) (count : ℕ) (sender : Recipient) (line : ℕ) (commands : List Command) (pairs : Entries) (letters : List Letter) (noted : List Observation)
      → AreServedTo account old d count sender line commands pairs letters noted new later → Sees account old pairs (view_of noted) new
  served_view old new d later count sender line [] pairs letters noted is = rw (is.0, is.2) (refl, is.3)
  served_view old new d later count sender line (command ∷ commands) pairs letters noted (pair, next, more, others, rest, asked, step, served, pairs_are, letters_are, noted_are) =
      let d1 = with_opened (opened_by pair.answer) d in
      let following = served_view next new (told d1 (entry_messages d1 old next sender line (count + 1) command pair.answer)) later (count + 1) sender line commands more others rest served in
      let view = seen account old step.read pair.answer in
      let parts : view_of noted ≡ view ++ view_of rest =
      ap view_of noted_are ∙ flat_map-append view_in (observed account command pair.answer view) rest ∙ ap (λ (l : List Event). l ++ view_of rest) (entry_view account command pair.answer view) in
      subst (λ (l : Entries). Sees account old l (view_of noted) new) (sym pairs_are) (next, step.read, view_of rest, step.encoded, step.served, following, parts)

  wish_view : (old new : Market) (d later : Desks) (count : ℕ) (sender : Recipient) (line : ℕ) (w : Wish) (pairs : Entries) (letters : List Letter) (noted : List Observation)
      → ComesOfWishTo account old d count sender line w pairs letters noted new later → Sees account old pairs (view_of noted) new
  wish_view old new d later count sender line wish.Nothing pairs letters noted is = says_view old new d later [] pairs letters noted is
  wish_view old new d later count sender line (wish.Serve asked) pairs letters noted is = served_view old new d later count sender line (commands_of asked) pairs letters noted is
  wish_view old new d later count sender line (wish.Answer q) pairs letters noted is = says_view old new d later (answer_to sender line (answer_members old sender q) ∷ []) pairs letters noted is
  wish_view old new d later count sender line (wish.Refuse why) pairs letters noted is = says_view old new d later (error_to sender line (fault_word why) ∷ []) pairs letters noted is

  comes_view : (old new : Market) (d later : Desks) (count : ℕ) (said : Heard) (pairs : Entries) (letters : List Letter) (noted : List Observation)
      → ComesTo account old d count said pairs letters noted new later → Sees account old pairs (view_of noted) new
  comes_view old new d later count heard.Nothing pairs letters noted is = says_view old new (with_read d) later [] pairs letters noted is
  comes_view old new d later count heard.Noise pairs letters noted is = says_view old new (with_read d) later (no_envelope (d.total.lines + 1) ∷ []) pairs letters noted is
  comes_view old new d later count (heard.Other sender) pairs letters noted is = says_view old new (with_read d) later (expected sender ((tally_of d sender).lines + 1) ∷ []) pairs letters noted is
  comes_view old new d later count (heard.From sender text) pairs letters noted (w, wished, comes) = wish_view old new (with_line d sender) later count sender ((tally_of d sender).lines + 1) w pairs letters noted comes

  lines_view : (old new : Market) (d later : Desks) (count : ℕ) (lines : List (List ℕ)) (pairs : Entries) (letters : List Letter) (noted : List Observation)
      → AreLinesServedTo account old d count lines pairs letters noted new later → Sees account old pairs (view_of noted) new
  lines_view old new d later count [] pairs letters noted is = rw (is.0, is.2) (refl, is.3)
  lines_view old new d later count (line ∷ lines) pairs letters noted (first, own, now, next, between, more, others, rest, (said, after, is, comes, now_is), served, pairs_are, letters_are, noted_are) =
      let here = comes_view old next d between count said first own after comes in
      let following = lines_view next new between later (count + length first) lines more others rest served in
      let parts : view_of noted ≡ view_of after ++ view_of rest =
      ap view_of noted_are ∙ flat_map-append view_in now rest ∙ ap (λ (l : List Event). l ++ view_of rest) (ap view_of now_is ∙ flat_map-append view_in (own_line account said) after
      ∙ ap (λ (l : List Event). l ++ view_of after) (line_view account said)) in
      let all : Sees account old (first ++ more) (view_of after ++ view_of rest) new = views_compose account old next new first more (view_of after) (view_of rest) here following in
      subst (λ (l : Entries). Sees account old l (view_of noted) new) (sym pairs_are) (subst (λ (l : List Event). Sees account old (first ++ more) l new) (sym parts) all)

pub views_are_observed : ViewsAreObserved
views_are_observed account old new d later count lines pairs letters noted is = lines_view account old new d later count lines pairs letters noted is
