-- The parts of the disk in memory are consistent after one more call.
use Rattle.std.proofs.Common.{◌≡◌, ℕ, ◌+◌, ◌^◌, ◌≤◌, ◌<◌, List, [], ◌∷◌, ◌++◌, length, take, drop, Vec, vec_len, vec_capacity, sym, ap, ◌∙◌, arith, length-append, length-take, length-drop}
use Rattle.std.specs.declared.alloc.Global.{Global}
use Rattle.memory_io.specs.declared.turns.Turns.{Turns}
use Rattle.disk_edge.specs.Images.{written}
use Rattle.memory_io.specs.Disk.{Made, content_of, content_after, bytes_written}
use Rattle.memory_io.specs.Fakes.{one_more}
use Rattle.memory_io.specs.Sound.{IsConsistent}
use Rattle.memory_io.specs.Logs.{LogState}
use Rattle.memory_io.proofs.MemoryCalls.{content_push, bytes_push}

pub length-written : (place : ℕ) (bytes old : List ℕ) → length (written place bytes old) ≤ length old + length bytes
length-written place bytes old = omega (arith, length-append (take place old ++ bytes) (drop (place + length bytes) old), length-append (take place old) bytes, length-take place old, length-drop (place + length bytes) old)

-- a call that is recorded
pub consistent_more : (first content content' : Vec ℕ Global) (log log' : LogState) (calls calls' : Turns) (call : Made) (used : ℕ) → IsConsistent first content log calls
    → log' ≡ record log { made = log.made ++ call ∷ []; used = used; count = log.count + 1 } → used ≡ log.used + bytes_written (call ∷ [])
    → calls'.most ≡ calls.most → calls'.made ≡ one_more calls.made → calls.made < calls.most → calls.most < 2 ^ 32
    → used ≤ log.room → content'.items ≡ content_of call content.items → vec_capacity content' ≡ vec_capacity content → vec_len content' ≤ vec_len content + bytes_written (call ∷ []) → IsConsistent first content' log' calls'
consistent_more first content content' log log' calls calls' call used consistent taken uses most made free small within items capacity long =
    let made_is = ap (λ (t : LogState). t.made) taken in
    let most_is = ap (λ (t : LogState). t.most) taken in
    let room_is = ap (λ (t : LogState). t.room) taken in
    let used_is = ap (λ (t : LogState). t.used) taken in
    let count_is = ap (λ (t : LogState). t.count) taken in
    record {
      there = items ∙ ap (content_of call) consistent.there ∙ sym (content_push log.made call first.items) ∙ ap (λ (l : List Made). content_after l first.items) (sym made_is);
      most = omega (arith, most_is, consistent.most, most);
      count = omega (arith, count_is, consistent.count, made, free, small, most);
      each = omega (arith, ap length made_is, length-append log.made (call ∷ []), consistent.each, count_is);
      used = omega (arith, used_is, uses, consistent.used, bytes_push log.made call, ap bytes_written made_is);
      within = omega (arith, used_is, room_is, within);
      length = omega (arith, used_is, uses, consistent.length, long);
      room = omega (arith, room_is, consistent.room, capacity);
    }

-- a call that isn't recorded
pub consistent_past : (first content : Vec ℕ Global) (log : LogState) (calls calls' : Turns) → IsConsistent first content log calls → calls'.most ≡ calls.most → calls'.made ≡ one_more calls.made → calls.most ≤ calls.made → calls.most < 2 ^ 32 → IsConsistent first content log calls'
consistent_past first content log calls calls' consistent most made past small = record {
  there = consistent.there;
  most = omega (arith, consistent.most, most);
  count = omega (arith, consistent.count, made, past, most, small);
  each = consistent.each;
  used = consistent.used;
  within = consistent.within;
  length = consistent.length;
  room = consistent.room;
}
