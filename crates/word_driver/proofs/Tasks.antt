-- What doing a task does to its source and its output.
use Rattle.std.proofs.Common.{◌≡◌, ◌≢◌, ◌⊎◌, ◌+◌, ◌≤◌, ℕ, List, [], ◌++◌, Option, Some, None, Ok, Err, IfSome, OnOk, length, inl, inr, refl, ap, length-append, arith}
use Rattle.flow_io.specs.Faults.{Blames}
use Rattle.flow_io.specs.Changes.{Change}
use Rattle.flow_io.specs.Streams.{Takes, TakesAtMost}
use Rattle.flow_io.proofs.Growth.{Grows-nothing}
use Rattle.word_driver.specs.declared.fault.Fault.TheVariants.{Read, Write, Memory, NotFlow, Torn, TooLong, Stopped}
use Rattle.word_driver.specs.Ended.{Ended}
use Rattle.word_driver.specs.Does.{Task, IsTaken, Determines, Meets, KeepsUp, Does}

-- nothing was taken
nothing_taken : (told : Option (List ℕ)) → Takes told told [] × ((most : ℕ) → TakesAtMost told told most)
nothing_taken None = (tt, λ most. tt)
nothing_taken (Some left) = (refl, λ most. omega arith)

module _ {B : Type 0} (t : Task B) (limit : ℕ) where
  -- if no count rose and memory didn't run out, the bytes determine the end
  completes : (bytes : List ℕ) (left : Option (List ℕ)) (ended : Ended B) (before after : Option (List ℕ)) → Meets t limit bytes left ended before after → ended ≢ Err Read → ended ≢ Err Write → ended ≢ Err Memory → Determines t limit bytes ended before after
  completes bytes left (Ok done) before after meets r v m = meets
  completes bytes left (Err NotFlow) before after meets r v m = meets
  completes bytes left (Err (Torn n)) before after meets r v m = meets
  completes bytes left (Err TooLong) before after meets r v m = meets
  completes bytes left (Err (Stopped why)) before after meets r v m = meets
  completes bytes left (Err Memory) before after meets r v m = absurd (m refl)
  completes bytes left (Err Write) before after meets r v m = absurd (v refl)
  completes bytes left (Err Read) before after meets r v m = absurd (r refl)

  complete_told : (told left : Option (List ℕ)) (ended : Ended B) (before after : Option (List ℕ)) → IfSome told (λ bytes. Meets t limit bytes left ended before after) → ended ≢ Err Read → ended ≢ Err Write → ended ≢ Err Memory → IfSome told (λ bytes. Determines t limit bytes ended before after)
  complete_told None left ended before after meets r v m = tt
  complete_told (Some bytes) left ended before after meets r v m = completes bytes left ended before after meets r v m

  -- what the task does, from what it results in
  pub does : (ended : Ended B) (source out : Change) → IfSome source.before (λ bytes. Meets t limit bytes source.after ended out.before out.after)
      → ((ended ≡ Err Write) ⊎ (ended ≡ Err Memory) → IfSome source.before (λ bytes. KeepsUp t limit bytes source.after out.before out.after)) → TakesAtMost source.before source.after (t.most_taken limit)
      → OnOk ended (IfSome source.before (λ bytes. source.after ≡ Some (t.left bytes))) → Blames (ended ≡ Err Read) source.faults source.faults_after → Blames (ended ≡ Err Write) out.faults out.faults_after → Does t limit ended source out
  does ended source out meets keeps_up most left reads writes = record {
    meets = meets;
    complete = λ no_read no_write memory. complete_told source.before source.after ended out.before out.after meets (λ e. no_read (reads.rose e)) (λ e. no_write (writes.rose e)) memory;
    keeps_up = keeps_up;
    taken = most;
    left = left;
    reads = reads;
    writes = writes;
  }

  -- this many bytes were taken, if the source's content is known
  count_taken : (bytes left taken : List ℕ) → bytes ≡ taken ++ left → IsTaken bytes (Some left) (length taken)
  count_taken bytes left taken whole = omega (arith, ap length whole, length-append taken left)

  -- at most as many bytes were taken as may be at once
  pub keeps_up_at_once : (told after : Option (List ℕ)) (taken : List ℕ) (before now : Option (List ℕ)) → Takes told after taken → length taken ≤ 8 + t.ahead limit → IfSome told (λ bytes. KeepsUp t limit bytes after before now)
  keeps_up_at_once None after taken before now takes few = tt
  keeps_up_at_once (Some bytes) None taken before now takes few = absurd takes
  keeps_up_at_once (Some bytes) (Some left) taken before now takes few = (8, length taken, count_taken bytes left taken takes, few, inl refl)

  -- at most as many bytes were taken as may be in all
  pub keeps_up_within : (told after : Option (List ℕ)) (taken : List ℕ) (before now : Option (List ℕ)) → Takes told after taken → TakesAtMost told after (t.most_taken limit) → t.most_taken limit ≤ 8 + t.ahead limit → IfSome told (λ bytes. KeepsUp t limit bytes after before now)
  keeps_up_within None after taken before now takes most few = tt
  keeps_up_within (Some bytes) None taken before now takes most few = absurd takes
  keeps_up_within (Some bytes) (Some left) taken before now takes most few = (8, length taken, count_taken bytes left taken takes, omega (arith, few, most, ap length takes, length-append taken left), inl refl)

  -- a read failed, and nothing was written
  not_read : ((bytes : List ℕ) (n : ℕ) → t.Begins limit bytes n []) → (told after : Option (List ℕ)) (taken : List ℕ) (held : Option (List ℕ)) → Takes told after taken → IfSome told (λ bytes. Meets t limit bytes after (Err Read) held held)
  not_read none None after taken held takes = tt
  not_read none (Some bytes) None taken held takes = absurd takes
  not_read none (Some bytes) (Some left) taken held takes = (length taken, count_taken bytes left taken takes, [], none bytes (length taken), Grows-nothing held)

  no_fault : (told after held : Option (List ℕ)) → (◌≡◌ {A = Ended B} (Err Read) (Err Write)) ⊎ (◌≡◌ {A = Ended B} (Err Read) (Err Memory)) → IfSome told (λ bytes. KeepsUp t limit bytes after held held)
  no_fault told after held why = absurd (elim why [ inl e ↦ cc | inr e ↦ cc ])

  pub does_not_read : ((bytes : List ℕ) (n : ℕ) → t.Begins limit bytes n []) → (source : Change) (taken : List ℕ) (held : Option (List ℕ)) (faults : ℕ) → Takes source.before source.after taken → TakesAtMost source.before source.after (t.most_taken limit) → Blames (Unit {0}) source.faults source.faults_after
      → Does t limit (Err Read) source (record { before = held; after = held; faults = faults; faults_after = faults })
  does_not_read none source taken held faults takes most cause =
      does (Err Read) source (record { before = held; after = held; faults = faults; faults_after = faults }) (not_read none source.before source.after taken held takes) (no_fault source.before source.after held) most tt
      (record { later = cause.later; rose = λ e. cause.rose tt; quiet = λ not. absurd (not refl) }) (record { later = omega arith; rose = λ e. absurd cc; quiet = λ _. refl })

  -- there was no memory for the input
  no_memory : ((bytes : List ℕ) → t.Lacks limit bytes []) → (told after held : Option (List ℕ)) → IfSome told (λ bytes. Meets t limit bytes after (Err Memory) held held)
  no_memory none None after held = tt
  no_memory none (Some bytes) after held = ([], inr (none bytes), Grows-nothing held)

  pub does_not_fit : ((bytes : List ℕ) → t.Lacks limit bytes []) → (source : Change) (held : Option (List ℕ)) (faults : ℕ) → IfSome source.before (λ bytes. KeepsUp t limit bytes source.after held held) → TakesAtMost source.before source.after (t.most_taken limit) → source.faults_after ≡ source.faults
      → Does t limit (Err Memory) source (record { before = held; after = held; faults = faults; faults_after = faults })
  does_not_fit none source held faults keeps_up most quiet =
      does (Err Memory) source (record { before = held; after = held; faults = faults; faults_after = faults }) (no_memory none source.before source.after held) (λ why. keeps_up) most tt
      (record { later = omega (arith, quiet); rose = λ e. absurd cc; quiet = λ _. quiet }) (record { later = omega arith; rose = λ e. absurd cc; quiet = λ _. refl })

  -- there was no memory to begin
  none_to_begin : (told held : Option (List ℕ)) → IfSome told (λ bytes. Meets t limit bytes told (Err Memory) held held)
  none_to_begin None held = tt
  none_to_begin (Some bytes) held = ([], inl (omega arith, refl), Grows-nothing held)

  pub does_not_begin : (told held : Option (List ℕ)) (source_faults faults : ℕ) → Does t limit (Err Memory) (record { before = told; after = told; faults = source_faults; faults_after = source_faults }) (record { before = held; after = held; faults = faults; faults_after = faults })
  does_not_begin told held source_faults faults =
      does (Err Memory) (record { before = told; after = told; faults = source_faults; faults_after = source_faults }) (record { before = held; after = held; faults = faults; faults_after = faults }) (none_to_begin told held)
      (λ why. keeps_up_at_once told told [] held held (nothing_taken told).0 (omega arith)) ((nothing_taken told).1 (t.most_taken limit)) tt (record { later = omega arith; rose = λ e. absurd cc; quiet = λ _. refl }) (record { later = omega arith; rose = λ e. absurd cc; quiet = λ _. refl })
