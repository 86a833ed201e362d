-- How far counts can be after so many lines and commands.
use Rattle.std.specs.Prelude.{ℕ, ◌+◌, ◌*◌, ◌^◌, ◌≤◌}
use Rattle.desk_session.specs.States.{State}

-- The counts are what `used` lines and commands can have made of them at most. A command is told by three messages and, if it is a batch that cleared,
-- by one to each account; a market holds few enough batches for that.
pub record IsWithin (used : ℕ) (s : State) : Type 0 where
  pub orders : s.market.next_order ≤ used + 2 ^ 63
  pub entries : s.entries ≤ used
  pub lines : s.talk.desks.total.lines ≤ used
  pub messages : s.talk.desks.total.messages ≤ 4 * used + s.market.batches * 2 ^ 32
