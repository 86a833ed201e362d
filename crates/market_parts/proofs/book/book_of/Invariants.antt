use Rattle.market_parts.proofs.Listing.{AreConsistentFirst}
use Rattle.market_parts.proofs.book.book_of.Given as goal

abbrev pub invariant-loop-place : goal.invariant-loop-place
invariant-loop-place g l = AreConsistentFirst l.version (g.P.AccountParts.balances l.parts) (g.P.MarketParts.parts l.parts) l.place l.before l.book.orders
