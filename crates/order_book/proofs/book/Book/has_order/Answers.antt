use Rattle.std.proofs.Common.{◌≡◌, Bool, Option, Some, None, IsTrue, ◌↔◌, is_some, true≢false, sym, ◌∙◌, subst}
use Rattle.std.specs.Prelude.{MatchOption}
use Rattle.order_book.specs.Book.{Book, HasOrder}
use Rattle.order_book.proofs.book.Book.has_order.Goals as goal

there_is : {A : Type 0} {H : Type 0} (found : Option A) (there : Bool) → there ≡ is_some found → MatchOption found (¬ H) (λ _. H) → IsTrue there ↔ H
there_is (Some x) there is has = (λ _. has, λ _. is)
there_is None there is has = (λ true. absurd (true≢false (sym true ∙ is)), λ h. absurd (has h))

pub returns : goal.returns
returns c =
    subst (λ (b : Book). IsTrue c.is_some.result ↔ HasOrder b.orders c.args.account c.args.number) c.self.view_is
    (there_is c.place_in.result c.is_some.result c.is_some.ensures (rw c.deref.ensures.value at c.place_in.ensures.there))
