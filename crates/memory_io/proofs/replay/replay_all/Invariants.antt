use Rattle.std.proofs.Common.{◌≡◌, ◌+◌, ◌≤◌, length, drop, vec_len, vec_capacity}
use Rattle.memory_io.specs.Disk.{seen, data_of, crash_after}
use Rattle.memory_io.proofs.replay.replay_all.Given as goal

abbrev pub invariant-loop-call : goal.invariant-loop-call
invariant-loop-call l = record {
  image : crash_after l.part l.fill (seen (drop l.call-index l.calls) l.rest) l.replay.held.items l.replay.image.items ≡ crash_after l.part l.fill (seen l.calls l.bytes) l.fn.replay.held.items l.fn.replay.image.items;
  enough : data_of (drop l.call-index l.calls) ≤ length l.rest;
  held : vec_len l.replay.held + length l.rest ≤ vec_capacity l.replay.held;
  same : vec_capacity l.replay.held ≤ vec_capacity l.replay.image;
  long : vec_len l.replay.image + length l.rest ≤ vec_capacity l.replay.held;
  torn : length l.rest ≤ vec_capacity l.replay.torn;
}
