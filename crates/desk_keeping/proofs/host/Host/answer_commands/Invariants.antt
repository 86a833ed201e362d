use Rattle.std.proofs.Common.{◌≡◌, ◌≤◌, ◌+◌, ◌*◌, ◌^◌, ◌⊎◌, ℕ, take, map, length}
use Rattle.wire_records.specs.Views.{command_in}
use Rattle.desk_messages.specs.Desks.{IsThere}
use Rattle.desk_session.specs.States.{CountsAccounts}
use Rattle.desk_session.specs.Bounds.{IsWithin}
use Rattle.desk_opening.specs.Openings.{place_of}
use Rattle.desk_keeping.specs.Private.{AnswersAll, CanRead, plain_stored_entry}
use Rattle.desk_keeping.proofs.host.Host.answer_commands.Given as goal

abbrev pub invariant-loop-command : goal.invariant-loop-command
invariant-loop-command g l =
    AnswersAll l.sender l.line (map command_in (take l.command-index l.commands)) l.fn.self l.self (g.D.Disk.state l.fn.disk) (g.D.Disk.state l.disk) (l.disk ≡ l.fn.disk)
    × CountsAccounts l.self.session
    × IsThere l.self.session.talk.desks l.sender
    × ((used : ℕ) → IsWithin used l.fn.self.session → IsWithin (used + l.command-index) l.self.session)
    × CanRead l.self.book (g.D.Disk.state l.disk) l.self.session.market
    × (length l.self.fresh ≤ length l.fn.self.fresh + plain_stored_entry * l.command-index)
    × ((l.self.book ≡ l.fn.self.book) ⊎ (place_of l.self.book ≤ 2 ^ 60))
    × ((g.D.Disk.state l.disk).faults ≡ (g.D.Disk.state l.fn.disk).faults)
