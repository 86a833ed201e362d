-- What a book is after its orders were listed.
use Rattle.std.specs.Prelude.{◌≡◌, ◌≤◌, ⊤}
use Rattle.std.specs.Borrow.{follows_so, Fml, MutBor}
use mathlib.Core.Option.{none}
use Rattle.order_book.specs.Book.{Book}
use Rattle.order_book.specs.contracts.book.Book.{the_row}

-- the book has the same orders, and no less room
pub record IsAsListed (old new : Book) : Type 0 where
  pub orders : new.orders ≡ old.orders
  pub room : old.room ≤ new.room

-- once the list is no longer borrowed, the book has the same orders and no less room
abbrev pub StaysAsListed : MutBor Book → Fml
StaysAsListed book = follows_so the_row the_row book.ghost_name none (λ _ _. ⊤) (IsAsListed book.now)
