-- What doing a subcommand does to a source and an output.
use Rattle.std.specs.Prelude.{◌≡◌, ◌≢◌, ◌⊎◌, ◌+◌, ◌<◌, ◌≤◌, ◌++◌, ℕ, List, [], length, take, Option, Some, IfSome, OnOk, Ok, Err}
use Rattle.flow_io.specs.Faults.{Rose, Blames}
use Rattle.flow_io.specs.Streams.{Grows, GrowsByPrefix, TakesAtMost}
use Rattle.flow_io.specs.Changes.{Change}
use Rattle.wire_records.specs.declared.version.Version.{Version}
use Rattle.word_driver.specs.declared.fault.Fault.TheVariants.{Read, Write, Memory, NotFlow, Torn, TooLong, Stopped}
use Rattle.word_driver.specs.Ended.{Ended}
use Rattle.word_driver.specs.Word.{Word, Comes, Lacks, Passed}

-- A task over the bytes of a source, of which only the first `limit` are considered. `Comes`: an end and a text that all of them result in.
-- `Begins`: a text that the first n of them result in, if more follow. `Lacks`: a text after which memory may run out. `Passed`: the text of the
-- first n of them, if they are complete units. `ahead`: the most bytes that are taken before the next text is written. `most_taken`: the most
-- bytes that are taken in all. `left`: which bytes are left in the source when all was done.
pub record Task (B : Type 0) : Type 1 where
  pub Comes : ℕ → List ℕ → Ended B → List ℕ → Type 0
  pub Begins : ℕ → List ℕ → ℕ → List ℕ → Type 0
  pub Lacks : ℕ → List ℕ → List ℕ → Type 0
  pub Passed : ℕ → List ℕ → ℕ → List ℕ → Type 0
  pub ahead : ℕ → ℕ
  pub most_taken : ℕ → ℕ
  pub left : List ℕ → List ℕ

-- a subcommand as a task, by its start in a file of each version: it reads its input to the end, or to one byte past the limit
abbrev pub task : {U S B : Type 0} → Word U S B → (Version → S) → Task B
task w start = record {
  Comes = λ limit bytes ended text. Comes w start (take limit bytes) (limit < length bytes) ended text;
  Begins = λ limit bytes n text. (ended : _) × Comes w start (take n (take limit bytes)) (Unit {0}) ended text;
  Lacks = λ limit bytes text. Lacks w start (take limit bytes) (limit < length bytes) text;
  Passed = λ limit bytes n text. Passed w start (take limit bytes) n text;
  ahead = λ limit. w.longest + 1;
  most_taken = λ limit. limit + 1;
  left = λ bytes. [];
}

-- n of these bytes were taken, if what is left of the source is known
abbrev pub IsTaken : List ℕ → Option (List ℕ) → ℕ → Type 0
IsTaken bytes left n = IfSome left (λ rest. n + length rest ≡ length bytes)

module _ {B : Type 0} (t : Task B) where
  -- the bytes determine this end and what was appended to the output: they result in it, and in no other
  abbrev pub Determines : ℕ → List ℕ → Ended B → Option (List ℕ) → Option (List ℕ) → Type 0
  Determines limit bytes ended before after =
      (text : List ℕ) × t.Comes limit bytes ended text × Grows before after text
      × ((other : Ended B) (words : List ℕ) → t.Comes limit bytes other words → (other ≡ ended) × (words ≡ text))

  -- What was appended to the output, by the end. After a failed read: what the bytes that were taken result in. After a failed write: a prefix of
  -- what some first bytes or all bytes result in. Memory may run out before anything is read, or where the task may allocate.
  abbrev pub Meets : ℕ → List ℕ → Option (List ℕ) → Ended B → Option (List ℕ) → Option (List ℕ) → Type 0
  Meets limit bytes left (Err Read) before after =
      (n : ℕ) × IsTaken bytes left n × (text : List ℕ) × t.Begins limit bytes n text × Grows before after text
  Meets limit bytes left (Err Write) before after =
      (text : List ℕ) × (((n : ℕ) × t.Begins limit bytes n text) ⊎ ((ended : Ended B) × t.Comes limit bytes ended text)) × GrowsByPrefix before after text
  Meets limit bytes left (Err Memory) before after =
      (text : List ℕ) × ((IsTaken bytes left 0 × (text ≡ [])) ⊎ t.Lacks limit bytes text) × Grows before after text
  Meets limit bytes left (Err NotFlow) before after = Determines limit bytes (Err NotFlow) before after
  Meets limit bytes left (Err (Torn place)) before after = Determines limit bytes (Err (Torn place)) before after
  Meets limit bytes left (Err TooLong) before after = Determines limit bytes (Err TooLong) before after
  Meets limit bytes left (Err (Stopped why)) before after = Determines limit bytes (Err (Stopped why)) before after
  Meets limit bytes left (Ok done) before after = Determines limit bytes (Ok done) before after

  -- how far the source was read: at most `ahead` bytes past the first eight, or past complete units whose whole text is in the output
  abbrev pub KeepsUp : ℕ → List ℕ → Option (List ℕ) → Option (List ℕ) → Option (List ℕ) → Type 0
  KeepsUp limit bytes left before after =
      (n : ℕ) × (taken : ℕ) × IsTaken bytes left taken × (taken ≤ n + t.ahead limit)
      × ((n ≡ 8) ⊎ ((text : List ℕ) × (rest : List ℕ) × t.Passed limit bytes n text × Grows before after (text ++ rest)))

  -- What doing the task does to the source and the output.
  pub record Does (limit : ℕ) (ended : Ended B) (source out : Change) : Type 0 where
    -- How it ends, and what was appended to the output.
    pub meets : IfSome source.before (λ bytes. Meets limit bytes source.after ended out.before out.after)
    -- If no count of faults rose and memory didn't run out, the bytes determine how it ends and what was written.
    pub complete : (¬ Rose source.faults source.faults_after) → (¬ Rose out.faults out.faults_after) → ended ≢ Err Memory
        → IfSome source.before (λ bytes. Determines limit bytes ended out.before out.after)
    -- How far the source was read, if a write failed or memory ran out.
    pub keeps_up : (ended ≡ Err Write) ⊎ (ended ≡ Err Memory) → IfSome source.before (λ bytes. KeepsUp limit bytes source.after out.before out.after)
    -- How much of the source was taken, and what is left of it if all was done.
    pub taken : TakesAtMost source.before source.after (t.most_taken limit)
    pub left : OnOk ended (IfSome source.before (λ bytes. source.after ≡ Some (t.left bytes)))
    -- The end is a read or write fault only if the count of that fault rose, and else the count is unchanged.
    pub reads : Blames (ended ≡ Err Read) source.faults source.faults_after
    pub writes : Blames (ended ≡ Err Write) out.faults out.faults_after
