-- What an account hears of what it observes of an entry.
use Rattle.std.proofs.Common.{◌≡◌, ℕ, ◌-◌, Bool, true, false, List, [], ◌∷◌, ◌++◌, map, refl, sym, ap, subst, ◌∙◌, arith}
use Rattle.std.proofs.lemmas.List.{append-nil}
use Rattle.market_rules.specs.Market.{Market}
use Rattle.statement_rules.specs.Views.{Event, event_if}
use Rattle.desk_messages.specs.Messages.{Message}
use Rattle.desk_privacy.specs.Letters.{Letter}
use Rattle.desk_privacy.specs.Observing.{Observation, News, ToAll, ToIt}
use Rattle.desk_privacy.proofs.Learning.{Knows, IsLearned, after_event, tell, numbered, event_messages, news_messages, with_event, with_news, Hears, tell_keeps, tell_same, tell_both, numbered_same, numbered_both}

-- An account that knows this observes that of an entry, and hears these messages. Then it knows the market after the entry.
pub record IsToldTo (account : ℕ) (k : Knows) (n : Market) (noted : List Observation) (messages : List Message) : Type 0 where
  pub known : Knows
  pub hears : Hears account k noted (numbered k messages) known
  pub learned : IsLearned account n known.market
  pub own : known.own ≡ (tell k messages).own
  pub all : known.all ≡ (tell k messages).all
  pub left : known.left ≡ k.left - 1

module _ (account : ℕ) where
  -- nothing
  pub none_told : (k : Knows) (n : Market) → k.left ≡ 0 → IsLearned account n k.market → IsToldTo account k n [] []
  none_told k n left learned = record { known = k; hears = (refl, refl); learned = learned; own = refl; all = refl; left = omega (arith, left) }

  -- an event
  pub event_told : (k : Knows) (n : Market) (event : Event) (messages : List Message) → IsLearned account n (after_event k.market event) → messages ≡ event_messages account k event
      → IsToldTo account k n (ToIt event ∷ []) messages
  event_told k n event messages learned is =
      let j : Knows = with_event account k event in
      let own : List Message = event_messages account k event in
      let keeps = tell_keeps own j in
      let same = tell_same own j k (refl, refl) in
      record {
        known = tell j own;
        hears = ([], (refl, refl), ap (numbered k) is ∙ sym (append-nil (numbered k own)));
        learned = subst (IsLearned account n) (sym keeps.0) learned;
        own = same.0 ∙ ap (λ (l : List Message). (tell k l).own) (sym is);
        all = same.1 ∙ ap (λ (l : List Message). (tell k l).all) (sym is);
        left = keeps.1;
      }

  -- what all are told, and then others
  pub news_told : (k : Knows) (n : Market) (news : News) (noted : List Observation) (messages rest : List Message)
      → IsToldTo account (tell (with_news account k news) (news_messages account k news)) n noted rest → messages ≡ news_messages account k news ++ rest → IsToldTo account k n (ToAll news ∷ noted) messages
  news_told k n news noted messages rest told is =
      let all : List Message = news_messages account k news in
      let j : Knows = tell (with_news account k news) all in
      let keeps = tell_keeps all (with_news account k news) in
      let same = tell_same all k (with_news account k news) (refl, refl) in
      let whole : tell k messages ≡ tell (tell k all) rest = ap (tell k) is ∙ tell_both all rest k in
      let then_same = tell_same rest j (tell k all) (sym same.0, sym same.1) in
      record {
        known = told.known;
        hears = (numbered j rest, told.hears, ap (numbered k) is ∙ numbered_both all rest k ∙ ap (λ (l : List Letter). numbered k all ++ l) (numbered_same rest (tell k all) j same));
        learned = told.learned;
        own = told.own ∙ then_same.0 ∙ ap (λ (x : Knows). x.own) (sym whole);
        all = told.all ∙ then_same.1 ∙ ap (λ (x : Knows). x.all) (sym whole);
        left = told.left ∙ ap (λ x. x - 1) keeps.1;
      }

  -- an event that is seen, or isn't
  pub told_if : (b : Bool) (k : Knows) (n : Market) (event : Event) (messages : List Message)
      → (b ≡ true → (messages ≡ event_messages account k event) × IsLearned account n (after_event k.market event))
      → (b ≡ false → (messages ≡ []) × (k.left ≡ 0) × IsLearned account n k.market)
      → IsToldTo account k n (map ToIt (event_if b event)) messages
  told_if true k n event messages seen unseen = event_told k n event messages (seen refl).1 (seen refl).0
  told_if false k n event messages seen unseen = let is = unseen refl in subst (IsToldTo account k n []) (sym is.0) (none_told k n is.1 is.2)
