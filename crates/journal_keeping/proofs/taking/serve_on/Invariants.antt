use Rattle.std.proofs.Common.{◌≡◌, ◌≤◌, ◌-◌, ◌+◌, List, [], length, map}
use Rattle.std.specs.Prelude.{vec_capacity}
use Rattle.wire_records.specs.Commands.{Pair}
use Rattle.wire_records.specs.Records.{Record}
use Rattle.wire_records.specs.Formats.{commands}
use Rattle.flow_orders.specs.Outcomes.{Outcome}
use Rattle.file_units.proofs.Gone.{HasGone}
use Rattle.journal_keeping.specs.Outputs.{output, Gains}
use Rattle.journal_keeping.specs.Private.{IsReady, Adds, HasAdded}
use Rattle.journal_keeping.proofs.Lengths.{StaysWithin}
use Rattle.journal_keeping.proofs.taking.serve_on.Given as goal
use Rattle.journal_records.specs.Pairs.{pair_encoding, longest_plain_pair}

abbrev pub invariant-units : goal.invariant-units
invariant-units g l =
    (new : List (Pair Record Outcome))
    × HasGone commands Adds g.S.Source.rest g.S.Source.faults (IsReady l.writer.session l.writer.appender) l.fn.window l.window l.fn.source l.source [] new tt tt
    × HasAdded (g.D.Disk.state l.fn.disk) (g.D.Disk.state l.disk) l.fn.writer.session l.writer.session l.fn.writer.appender l.writer.appender new
    × Gains ⊥ (output g.K.Sink.held g.K.Sink.calls g.K.Sink.faults l.fn.out) (output g.K.Sink.held g.K.Sink.calls g.K.Sink.faults l.out) (map pair_encoding new)
    × ((g.D.Disk.state l.disk).faults ≡ (g.D.Disk.state l.fn.disk).faults)
    × (g.K.Sink.faults l.out ≡ g.K.Sink.faults l.fn.out)
    × (longest_plain_pair ≤ vec_capacity l.writer.pair)
    × StaysWithin l.fn.window (g.S.Source.rest l.fn.source) l.window (g.S.Source.rest l.source) l.fn.writer.appender l.writer.appender (g.D.Disk.state l.fn.disk) (g.D.Disk.state l.disk)

-- the bytes that may still be given up, and those that may be read
abbrev pub decreases-units : goal.decreases-units
decreases-units g l = (l.window.limit - l.window.place) + (l.window.limit - (l.window.place + length l.window.held))
