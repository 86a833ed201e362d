-- The record of calls grows at its end.
use Rattle.std.proofs.Common.{◌≡◌, ℕ, zero, suc, ◌+◌, ◌-◌, ◌≤◌, ◌<◌, get_or, Bool, true, false, List, [], ◌∷◌, ◌++◌, length, take, drop, refl, sym, ap, ◌∙◌, arith, length-drop}
use Rattle.std.proofs.lemmas.List.{drop-drop, take-append-le, drop-append-le, drop_at, take_all, append-nil, take-take, take_more, drop_more}
use Rattle.memory_io.specs.declared.call_log.Call.{Call}
use Rattle.memory_io.specs.declared.call_log.Call.TheVariants.{Look, Write, Cut, Sync}
use Rattle.memory_io.specs.Disk.{Made, looked, wrote, cut, synced, seen, data_of, content_of, content_after, crash_of, crash_after, made_of, IsStopped}

pub data_of-append : (calls more : List Call) → data_of (calls ++ more) ≡ data_of calls + data_of more
data_of-append [] more = omega arith
data_of-append (Look ∷ calls) more = data_of-append calls more
data_of-append (Write place count done ∷ calls) more = omega (arith, data_of-append calls more)
data_of-append (Cut to done ∷ calls) more = data_of-append calls more
data_of-append (Sync ∷ calls) more = data_of-append calls more

pub seen-append : (calls more : List Call) (bytes : List ℕ) → seen (calls ++ more) bytes ≡ seen calls bytes ++ seen more (drop (data_of calls) bytes)
seen-append [] more bytes = refl
seen-append (Look ∷ calls) more bytes = ap (λ (l : List Made). looked ∷ l) (seen-append calls more bytes)
seen-append (Write place count done ∷ calls) more bytes =
    ap (λ (l : List Made). wrote place (take count bytes) done ∷ l)
    (seen-append calls more (drop count bytes) ∙ ap (λ (l : List ℕ). seen calls (drop count bytes) ++ seen more l) (drop-drop (data_of calls) count bytes))
seen-append (Cut to done ∷ calls) more bytes = ap (λ (l : List Made). cut to done ∷ l) (seen-append calls more bytes)
seen-append (Sync ∷ calls) more bytes = ap (λ (l : List Made). synced ∷ l) (seen-append calls more bytes)

-- bytes after those of the calls don't change the calls
pub seen_longer : (calls : List Call) (bytes more : List ℕ) → data_of calls ≤ length bytes → seen calls (bytes ++ more) ≡ seen calls bytes
seen_longer [] bytes more enough = refl
seen_longer (Look ∷ calls) bytes more enough = ap (λ (l : List Made). looked ∷ l) (seen_longer calls bytes more enough)
seen_longer (Write place count done ∷ calls) bytes more enough =
    let one = take-append-le count bytes more (omega (arith, enough)) in
    let rest = ap (λ (l : List ℕ). seen calls l) (drop-append-le count bytes more (omega (arith, enough))) ∙ seen_longer calls (drop count bytes) more (omega (arith, length-drop count bytes, enough)) in
    ap (λ (l : List ℕ). wrote place l done ∷ seen calls (drop count (bytes ++ more))) one ∙ ap (λ (l : List Made). wrote place (take count bytes) done ∷ l) rest
seen_longer (Cut to done ∷ calls) bytes more enough = ap (λ (l : List Made). cut to done ∷ l) (seen_longer calls bytes more enough)
seen_longer (Sync ∷ calls) bytes more enough = ap (λ (l : List Made). synced ∷ l) (seen_longer calls bytes more enough)

pub seen_wrote : (calls : List Call) (bytes more : List ℕ) (place : ℕ) (done : Bool) → length bytes ≡ data_of calls → seen (calls ++ Write place (length more) done ∷ []) (bytes ++ more) ≡ seen calls bytes ++ wrote place more done ∷ []
seen_wrote calls bytes more place done all =
    seen-append calls (Write place (length more) done ∷ []) (bytes ++ more)
    ∙ ap (λ (l : List Made). l ++ seen (Write place (length more) done ∷ []) (drop (data_of calls) (bytes ++ more))) (seen_longer calls bytes more (omega (arith, all)))
    ∙ ap (λ (l : List ℕ). seen calls bytes ++ wrote place l done ∷ []) (ap (λ (l : List ℕ). take (length more) l) (drop_at bytes more (data_of calls) all) ∙ take_all (length more) more (omega arith))

-- the data of a first call, and of the others
pub data_of-more : (call : Call) (calls : List Call) → data_of (call ∷ calls) ≡ data_of (call ∷ []) + data_of calls
data_of-more Look calls = omega arith
data_of-more (Write place count done) calls = omega arith
data_of-more (Cut to done) calls = omega arith
data_of-more Sync calls = omega arith

-- the first call is made again, and then the others
pub replay_step : (part fill n : ℕ) (call : Call) (calls : List Call) (rest held image now left : List ℕ) → n ≡ data_of (call ∷ []) → now ≡ content_after (seen (call ∷ []) (take n rest)) held → left ≡ crash_after part fill (seen (call ∷ []) (take n rest)) held image → crash_after part fill (seen calls (drop n rest)) now left ≡ crash_after part fill (seen (call ∷ calls) rest) held image
replay_step part fill n Look calls rest held image now left size is leaves = rw (size, is, leaves) refl
replay_step part fill n (Write place count done) calls rest held image now left size is leaves =
    let same : n ≡ count = omega (arith, size) in
    let twice : take count (take n rest) ≡ take count rest = take-take count n rest (omega (arith, same)) in
    let is' : now ≡ content_of (wrote place (take count rest) done) held = is ∙ ap (λ (l : List ℕ). content_of (wrote place l done) held) twice in
    let leaves' : left ≡ crash_of part fill (wrote place (take count rest) done) held image = leaves ∙ ap (λ (l : List ℕ). crash_of part fill (wrote place l done) held image) twice in
    rw (is', leaves', same) refl
replay_step part fill n (Cut to true) calls rest held image now left size is leaves = rw (size, is, leaves) refl
replay_step part fill n (Cut to false) calls rest held image now left size is leaves = rw (size, is, leaves) refl
replay_step part fill n Sync calls rest held image now left size is leaves = rw (size, is, leaves) refl

-- the call at an index, and those after it
module _ (i : ℕ) (calls : List Call) (d : Call) (within : i < length calls) where
  pub data_of-at : (n : ℕ) → n ≡ data_of (get_or calls i d ∷ []) → data_of (drop i calls) ≡ n + data_of (drop (i + 1) calls)
  data_of-at n size = ap data_of (drop_more calls i d within) ∙ data_of-more (get_or calls i d) (drop (i + 1) calls) ∙ ap (λ (k : ℕ). k + data_of (drop (i + 1) calls)) (sym size)

  pub replay_at : (part fill n : ℕ) (rest bytes after held image now left : List ℕ) → n ≡ data_of (get_or calls i d ∷ []) → bytes ≡ take n rest → after ≡ drop n rest
      → now ≡ content_after (seen (get_or calls i d ∷ []) bytes) held → left ≡ crash_after part fill (seen (get_or calls i d ∷ []) bytes) held image
      → crash_after part fill (seen (drop (i + 1) calls) after) now left ≡ crash_after part fill (seen (drop i calls) rest) held image
  replay_at part fill n rest bytes after held image now left size prefix following is leaves =
      let call = get_or calls i d in
      ap (λ (l : List ℕ). crash_after part fill (seen (drop (i + 1) calls) l) now left) following
      ∙ replay_step part fill n call (drop (i + 1) calls) rest held image now left size (is ∙ ap (λ (l : List ℕ). content_after (seen (call ∷ []) l) held) prefix) (leaves ∙ ap (λ (l : List ℕ). crash_after part fill (seen (call ∷ []) l) held image) prefix)
      ∙ ap (λ (l : List Call). crash_after part fill (seen l rest) held image) (sym (drop_more calls i d within))

-- the first calls have no more data than all
pub data_of-take : (n : ℕ) (calls : List Call) → data_of (take n calls) ≤ data_of calls
data_of-take zero calls = omega arith
data_of-take (suc n) [] = omega arith
data_of-take (suc n) (Look ∷ calls) = data_of-take n calls
data_of-take (suc n) (Write place count done ∷ calls) = omega (arith, data_of-take n calls)
data_of-take (suc n) (Cut to done ∷ calls) = data_of-take n calls
data_of-take (suc n) (Sync ∷ calls) = data_of-take n calls

pub seen-take : (n : ℕ) (calls : List Call) (bytes : List ℕ) → seen (take n calls) bytes ≡ take n (seen calls bytes)
seen-take zero calls bytes = refl
seen-take (suc n) [] bytes = refl
seen-take (suc n) (Look ∷ calls) bytes = ap (λ (l : List Made). looked ∷ l) (seen-take n calls bytes)
seen-take (suc n) (Write place count done ∷ calls) bytes = ap (λ (l : List Made). wrote place (take count bytes) done ∷ l) (seen-take n calls (drop count bytes))
seen-take (suc n) (Cut to done ∷ calls) bytes = ap (λ (l : List Made). cut to done ∷ l) (seen-take n calls bytes)
seen-take (suc n) (Sync ∷ calls) bytes = ap (λ (l : List Made). synced ∷ l) (seen-take n calls bytes)

-- a stop comes in the call of this number
module _ (made : List Made) (calls : List Call) (bytes : List ℕ) (number : ℕ) (d : Call) (is : made ≡ seen calls bytes) (first : 1 ≤ number) (within : number ≤ length calls) where
  abbrev data_at : List ℕ
  data_at = drop (data_of (take (number - 1) calls)) bytes

  up_to : (call : Call) → get_or calls (number - 1) d ≡ call → take number made ≡ take (number - 1) made ++ seen (call ∷ []) data_at
  up_to call at =
      let next : number ≡ number - 1 + 1 = omega (arith, first) in
      ap (λ (l : List Made). take number l) is
      ∙ sym (seen-take number calls bytes)
      ∙ ap (λ (l : List Call). seen l bytes) (ap (λ (k : ℕ). take k calls) next ∙ take_more calls (number - 1) d (omega (arith, first, within)))
      ∙ seen-append (take (number - 1) calls) (get_or calls (number - 1) d ∷ []) bytes
      ∙ ap (λ (l : List Made). l ++ seen (get_or calls (number - 1) d ∷ []) data_at) (seen-take (number - 1) calls bytes ∙ ap (λ (l : List Made). take (number - 1) l) (sym is))
      ∙ ap (λ (l : Call). take (number - 1) made ++ seen (l ∷ []) data_at) at

  whole : (last : Made) → made_of last ≡ last ∷ [] → take number made ≡ take (number - 1) made ++ last ∷ [] → IsStopped made number (take number made)
  whole last stays up = record {
    before = take (number - 1) made;
    last = last;
    in_call = up;
    stops = up ∙ ap (λ (l : List Made). take (number - 1) made ++ l) (sym stays);
  }

  pub stopped_looking : get_or calls (number - 1) d ≡ Look → IsStopped made number (take number made)
  stopped_looking at = whole looked refl (up_to Look at)

  pub stopped_writing : (place count : ℕ) (done : Bool) → get_or calls (number - 1) d ≡ Write place count done → IsStopped made number (take number made)
  stopped_writing place count done at = whole (wrote place (take count data_at) done) refl (up_to (Write place count done) at)

  pub stopped_cutting : (to : ℕ) (done : Bool) → get_or calls (number - 1) d ≡ Cut to done → IsStopped made number (take number made)
  stopped_cutting to done at = whole (cut to done) refl (up_to (Cut to done) at)

  pub stopped_syncing : get_or calls (number - 1) d ≡ Sync → IsStopped made number (take (number - 1) made)
  stopped_syncing at = record {
    before = take (number - 1) made;
    last = synced;
    in_call = up_to Sync at;
    stops = sym (append-nil (take (number - 1) made));
  }
