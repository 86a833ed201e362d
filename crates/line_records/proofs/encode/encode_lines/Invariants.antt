use Rattle.std.proofs.Common.{◌≡◌, ◌-◌, length}
use Rattle.line_records.proofs.Going.{HasGone}
use Rattle.line_records.proofs.encode.encode_lines.Given as goal

abbrev pub invariant-loop-length : goal.invariant-loop-length
invariant-loop-length g l =
    HasGone l.fn.version l.fn.tickers l.fn.text l.place l.number l.encoding.tickers (g.K.Sink.held l.fn.out) (g.K.Sink.held l.out) × (g.K.Sink.faults l.out ≡ g.K.Sink.faults l.fn.out)

abbrev pub decreases-loop-length : goal.decreases-loop-length
decreases-loop-length g l = length l.fn.text - l.place
