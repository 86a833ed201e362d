-- `flow resume` as a task.
use Rattle.std.specs.Prelude.{◌≡◌, ◌⊎◌, ◌+◌, ◌<◌, [], length, take}
use Rattle.word_driver.specs.Does.{Task}
use Rattle.session_resume.specs.declared.first.Unfit.{Unfit}
use Rattle.session_resume.specs.Resuming.{Resumes, ResumesInto, ResumesShort}

-- The task reads its complete input, and audits a journal or restores the market of a checkpoint, before it writes;
-- memory may run out at that, and then at a record that may allocate. Before the end, the output is nothing or the
-- entries of the first new records.
abbrev pub resuming : Task Unfit
resuming = record {
  Comes = λ limit bytes ended text. Resumes (limit < length bytes) (take limit bytes) ended text;
  Begins = λ limit bytes n text. (text ≡ []) ⊎ ResumesInto (take limit bytes) text;
  Lacks = λ limit bytes text. (text ≡ []) ⊎ ResumesShort (take limit bytes) text;
  Passed = λ limit bytes n text. ⊥;
  ahead = λ limit. limit + 1;
  most_taken = λ limit. limit + 1;
  left = λ bytes. [];
}
