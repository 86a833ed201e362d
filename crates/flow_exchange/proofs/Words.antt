-- A subcommand over the driver does what the clauses of the program say of its form, once it results in what they say.
use Rattle.std.proofs.Common.{◌≡◌, ◌≢◌, ◌⊎◌, ◌+◌, ℕ, List, [], ◌∷◌, ◌++◌, length, Option, Some, None, IfSome, OnOk, Ok, Err, take, refl, ap, ◌∙◌, subst, inl, inr, arith, rules}
use Rattle.flow_io.specs.Faults.{Blames}
use Rattle.flow_io.specs.Changes.{Change}
use Rattle.flow_io.specs.Streams.{Grows, GrowsByPrefix, TakesAtMost}
use Rattle.wire_records.specs.declared.version.Version.{Version}
use Rattle.word_driver.specs.declared.fault.Fault.TheVariants as word
use Rattle.word_driver.specs.Ended.{Ended}
use Rattle.word_driver.specs.Word.{Word}
use Rattle.word_driver.specs.Does.{Task, task}
use Rattle.word_driver.specs.Does as driver
use Rattle.word_driver.specs.Laws.{IsExact}
use Rattle.wire_records.specs.Records.{Record}
use Rattle.history_words.specs.declared.stop.HistoryStop.{HistoryStop}
use Rattle.history_words.specs.Histories.{Beginning, over_history_from}
use Rattle.flow_exchange.specs.declared.form.Form.{Form}
use Rattle.exit_status.specs.declared.status.Status.{Status}
use Rattle.exit_status.specs.declared.status.Status.TheVariants as answer
use Rattle.exit_status.proofs.Own.{IsOwn}
use Rattle.flow_exchange.specs.Statuses.{ended_status}
use Rattle.flow_exchange.specs.Program.{ComesTo, ComesToIfMore, WritesSoFar, GetsTo, most_taken, left_of_source, Determines, Meets}
use Rattle.flow_exchange.specs.Allocating.{LacksAt, RunsOut}
use Rattle.flow_exchange.specs.Private.{FormServes}
use Rattle.flow_exchange.proofs.IfMore.{comes_if_more, lacks_begins}
use Rattle.flow_exchange.proofs.HistoryIfMore.{history_if_more, history_begins}
use Rattle.flow_exchange.proofs.Outcomes.{one_end}

-- How a subcommand's task is a form of the program, with a status for each of its own reasons to stop, and with what is known besides if
-- a read failed.
pub record IsForm {B : Type 0} (t : Task B) (form : Form) (own : B → Status) (Unread : Option (List ℕ) → Option (List ℕ) → Type 0) : Type 0 where
  pub to : (limit : ℕ) (bytes : List ℕ) (ended : Ended B) (text : List ℕ) → t.Comes limit bytes ended text → ComesTo form limit bytes (ended_status limit own ended) text
  pub so_far : (limit : ℕ) (bytes : List ℕ) (n : ℕ) (text : List ℕ) (before after : Option (List ℕ)) → t.Begins limit bytes n text → Grows before after text → Unread before after
      → (other : List ℕ) × WritesSoFar form (take n (take limit bytes)) other × Grows before after other
  pub gets : (limit : ℕ) (bytes : List ℕ) (n : ℕ) (text : List ℕ) (before after : Option (List ℕ)) → t.Begins limit bytes n text → GrowsByPrefix before after text → (other : List ℕ) × GetsTo form limit bytes other × GrowsByPrefix before after other
  pub lacks : (limit : ℕ) (bytes : List ℕ) (text : List ℕ) → t.Lacks limit bytes text → (text ≡ []) ⊎ GetsTo form limit bytes text
  pub out : (limit : ℕ) (bytes : List ℕ) (text : List ℕ) → t.Lacks limit bytes text → LacksAt form limit bytes text
  pub owns : (why : B) → IsOwn (own why)
  pub most : (limit : ℕ) → t.most_taken limit ≡ most_taken form limit
  pub left : (bytes : List ℕ) → t.left bytes ≡ left_of_source form bytes

-- what is known besides after a failed read, of a subcommand that writes as it reads: nothing
abbrev pub Nothing : Option (List ℕ) → Option (List ℕ) → Type 0
Nothing before after = Unit {0}

-- what is known besides after a failed read, of a subcommand that reads all before it writes: nothing was written
abbrev pub Unwritten : Option (List ℕ) → Option (List ℕ) → Type 0
Unwritten before after = after ≡ before

-- an empty text is a prefix of any text
pub nothing_is_prefix : (before after : Option (List ℕ)) (text other : List ℕ) → text ≡ [] → GrowsByPrefix before after text → GrowsByPrefix before after other
nothing_is_prefix before after text other none written =
    (0, omega arith, subst (λ (x : List ℕ). Grows before after x) (ap (take written.0) none ∙ take_nothing written.0) written.2)
  where
    take_nothing : (n : ℕ) → take {A = ℕ} n [] ≡ []
    take_nothing n = search rules

-- a subcommand of the driver writes what it has before it reads more
module _ {U S B : Type 0} (w : Word U S B) (start : Version → S) (exact : IsExact w) (form : Form) (own : B → Status)
    (to : (limit : ℕ) (bytes : List ℕ) (ended : Ended B) (text : List ℕ) → (task w start).Comes limit bytes ended text → ComesTo form limit bytes (ended_status limit own ended) text) where
  pub if_more : (limit : ℕ) (bytes : List ℕ) (n : ℕ) (text : List ℕ) → (task w start).Begins limit bytes n text → ComesToIfMore form (take n (take limit bytes)) text
  if_more limit bytes n text (ended, comes) =
      let first = take n (take limit bytes) in
      λ next more. (ended_status (length first) own ended, to (length first) (first ++ next ∷ more) ended text (comes_if_more w start first next more ended text comes))

  pub word_form : ((limit : ℕ) (bytes : List ℕ) (n : ℕ) (text : List ℕ) → ComesToIfMore form (take n (take limit bytes)) text → WritesSoFar form (take n (take limit bytes)) text)
      → ((limit : ℕ) (bytes : List ℕ) (text : List ℕ) → (task w start).Lacks limit bytes text → LacksAt form limit bytes text) → ((why : B) → IsOwn (own why))
      → ((limit : ℕ) → limit + 1 ≡ most_taken form limit) → ((bytes : List ℕ) → [] ≡ left_of_source form bytes) → IsForm (task w start) form own Nothing
  word_form so_far out owns most left = record {
    to = to;
    so_far = λ limit bytes n text before after begins written known. (text, so_far limit bytes n text (if_more limit bytes n text begins), written);
    gets = λ limit bytes n text before after begins written. (text, inl (n, if_more limit bytes n text begins), written);
    lacks = λ limit bytes text lacks.
        let begins = lacks_begins w start exact limit bytes text lacks in
        inr (inl (begins.0, if_more limit bytes begins.0 text begins.1));
    out = out;
    owns = owns;
    most = most;
    left = left;
  }

-- a subcommand over a history writes what it has before it reads more
module _ {S B : Type 0} (w : Word (Record × Record) S B) (begins : Beginning S) (exact : IsExact w) (form : Form) (own : HistoryStop B → Status)
    (to : (limit : ℕ) (bytes : List ℕ) (ended : Ended (HistoryStop B)) (text : List ℕ) → (over_history_from w begins).Comes limit bytes ended text → ComesTo form limit bytes (ended_status limit own ended) text) where
  pub begun_more : (limit : ℕ) (bytes : List ℕ) (n : ℕ) (text : List ℕ) → (over_history_from w begins).Begins limit bytes n text → ComesToIfMore form (take n (take limit bytes)) text
  begun_more limit bytes n text (ended, comes) =
      let first = take n (take limit bytes) in
      λ next more. (ended_status (length first) own ended, to (length first) (first ++ next ∷ more) ended text (history_if_more w begins first next more ended text comes))

  pub history_form : ((limit : ℕ) (bytes : List ℕ) (n : ℕ) (text : List ℕ) → ComesToIfMore form (take n (take limit bytes)) text → WritesSoFar form (take n (take limit bytes)) text)
      → ((limit : ℕ) (bytes : List ℕ) (text : List ℕ) → (over_history_from w begins).Lacks limit bytes text → LacksAt form limit bytes text) → ((why : HistoryStop B) → IsOwn (own why))
      → ((limit : ℕ) → limit + 1 ≡ most_taken form limit) → ((bytes : List ℕ) → [] ≡ left_of_source form bytes) → IsForm (over_history_from w begins) form own Nothing
  history_form so_far out owns most left = record {
    to = to;
    so_far = λ limit bytes n text before after begun written known. (text, so_far limit bytes n text (begun_more limit bytes n text begun), written);
    gets = λ limit bytes n text before after begun written. (text, inl (n, begun_more limit bytes n text begun), written);
    lacks = λ limit bytes text lacks.
        let begun = history_begins w begins exact limit bytes text lacks in
        inr (inl (begun.0, begun_more limit bytes begun.0 text begun.1));
    out = out;
    owns = owns;
    most = most;
    left = left;
  }

module _ {B : Type 0} (t : Task B) (form : Form) (limit : ℕ) (own : B → Status) {Unread : Option (List ℕ) → Option (List ℕ) → Type 0} (is : IsForm t form own Unread) where
  determines : (bytes : List ℕ) (ended : Ended B) (before after : Option (List ℕ)) → driver.Determines t limit bytes ended before after → Determines form limit bytes (ended_status limit own ended) before after
  determines bytes ended before after (text, comes, written, one) =
      let here = is.to limit bytes ended text comes in
      (text, here, written, λ other words also. one_end form limit bytes other (ended_status limit own ended) words text also here)

  -- no fault came, and memory didn't run out
  met : (bytes : List ℕ) (left : Option (List ℕ)) (status : Status) (before after : Option (List ℕ)) → status ≢ answer.ReadFault → status ≢ answer.WriteFault → status ≢ answer.NoMemory → Determines form limit bytes status before after → Meets form limit bytes left status before after
  met bytes left status before after r w m determined = record { read = λ e. absurd (r e); write = λ e. absurd (w e); memory = λ e. absurd (m e); determined = λ _ _ _. determined }

  meets : (bytes : List ℕ) (left : Option (List ℕ)) (ended : Ended B) (before after : Option (List ℕ)) → (ended ≡ Err word.Read → Unread before after) → driver.Meets t limit bytes left ended before after → Meets form limit bytes left (ended_status limit own ended) before after
  meets bytes left (Ok done) before after unread so = met bytes left answer.Done before after (λ e. cc) (λ e. cc) (λ e. cc) (determines bytes (Ok done) before after so)
  meets bytes left (Err word.NotFlow) before after unread so = met bytes left answer.NotFlow before after (λ e. cc) (λ e. cc) (λ e. cc) (determines bytes (Err word.NotFlow) before after so)
  meets bytes left (Err (word.Torn n)) before after unread so = met bytes left (answer.Torn n) before after (λ e. cc) (λ e. cc) (λ e. cc) (determines bytes (Err (word.Torn n)) before after so)
  meets bytes left (Err word.TooLong) before after unread so = met bytes left (answer.TooLong limit) before after (λ e. cc) (λ e. cc) (λ e. cc) (determines bytes (Err word.TooLong) before after so)
  meets bytes left (Err (word.Stopped why)) before after unread so =
      met bytes left (own why) before after (λ e. subst IsOwn e (is.owns why)) (λ e. subst IsOwn e (is.owns why)) (λ e. subst IsOwn e (is.owns why)) (determines bytes (Err (word.Stopped why)) before after so)
  meets bytes left (Err word.Read) before after unread (n, taken, text, waits, written) =
      let so = is.so_far limit bytes n text before after waits written (unread refl) in
      record { read = λ e. (n, taken, so.0, so.1, so.2); write = λ e. absurd cc; memory = λ e. absurd cc; determined = λ r w m. absurd (r refl) }
  meets bytes left (Err word.Write) before after unread (text, inl (n, begins), written) =
      record { read = λ e. absurd cc; write = λ e. is.gets limit bytes n text before after begins written; memory = λ e. absurd cc; determined = λ r w m. absurd (w refl) }
  meets bytes left (Err word.Write) before after unread (text, inr (ended, comes), written) =
      record { read = λ e. absurd cc; write = λ e. (text, inr (ended_status limit own ended, is.to limit bytes ended text comes), written); memory = λ e. absurd cc; determined = λ r w m. absurd (w refl) }
  meets bytes left (Err word.Memory) before after unread (text, lacks, written) =
      let to : (text ≡ []) ⊎ GetsTo form limit bytes text = elim lacks [ inl (taken, none) ↦ inl none | inr short ↦ is.lacks limit bytes text short ] in
      record { read = λ e. absurd cc; write = λ e. absurd cc; memory = λ e. (text, to, written); determined = λ r w m. absurd (m refl) }

  meets_told : (told left : Option (List ℕ)) (ended : Ended B) (before after : Option (List ℕ)) → (ended ≡ Err word.Read → Unread before after) → IfSome told (λ bytes. driver.Meets t limit bytes left ended before after) → IfSome told (λ bytes. Meets form limit bytes left (ended_status limit own ended) before after)
  meets_told None left ended before after unread met = tt
  meets_told (Some bytes) left ended before after unread met = meets bytes left ended before after unread met

  pub read_back : (ended : Ended B) → ended_status limit own ended ≡ answer.ReadFault → ended ≡ Err word.Read
  read_back (Err word.Read) e = refl
  read_back (Ok done) e = absurd cc
  read_back (Err word.Write) e = absurd cc
  read_back (Err word.Memory) e = absurd cc
  read_back (Err word.NotFlow) e = absurd cc
  read_back (Err (word.Torn n)) e = absurd cc
  read_back (Err word.TooLong) e = absurd cc
  read_back (Err (word.Stopped why)) e = absurd (subst IsOwn e (is.owns why))

  pub write_back : (ended : Ended B) → ended_status limit own ended ≡ answer.WriteFault → ended ≡ Err word.Write
  write_back (Err word.Write) e = refl
  write_back (Ok done) e = absurd cc
  write_back (Err word.Read) e = absurd cc
  write_back (Err word.Memory) e = absurd cc
  write_back (Err word.NotFlow) e = absurd cc
  write_back (Err (word.Torn n)) e = absurd cc
  write_back (Err word.TooLong) e = absurd cc
  write_back (Err (word.Stopped why)) e = absurd (subst IsOwn e (is.owns why))

  pub memory_back : (ended : Ended B) → ended_status limit own ended ≡ answer.NoMemory → ended ≡ Err word.Memory
  memory_back (Err word.Memory) e = refl
  memory_back (Ok done) e = absurd cc
  memory_back (Err word.Read) e = absurd cc
  memory_back (Err word.Write) e = absurd cc
  memory_back (Err word.NotFlow) e = absurd cc
  memory_back (Err (word.Torn n)) e = absurd cc
  memory_back (Err word.TooLong) e = absurd cc
  memory_back (Err (word.Stopped why)) e = absurd (subst IsOwn e (is.owns why))

  pub not_asked : (ended : Ended B) → ended_status limit own ended ≢ answer.Usage
  not_asked (Err word.Write) e = absurd cc
  not_asked (Ok done) e = absurd cc
  not_asked (Err word.Read) e = absurd cc
  not_asked (Err word.Memory) e = absurd cc
  not_asked (Err word.NotFlow) e = absurd cc
  not_asked (Err (word.Torn n)) e = absurd cc
  not_asked (Err word.TooLong) e = absurd cc
  not_asked (Err (word.Stopped why)) e = subst IsOwn e (is.owns why)

  left_told : (told rest : Option (List ℕ)) → IfSome told (λ bytes. rest ≡ Some (t.left bytes)) → IfSome told (λ bytes. rest ≡ Some (left_of_source form bytes))
  left_told None rest left = tt
  left_told (Some bytes) rest left = left ∙ ap (λ (xs : List ℕ). Some xs) (is.left bytes)

  left_back : (told rest : Option (List ℕ)) (ended : Ended B) → OnOk ended (IfSome told (λ bytes. rest ≡ Some (t.left bytes))) → ended_status limit own ended ≡ answer.Done → IfSome told (λ bytes. rest ≡ Some (left_of_source form bytes))
  left_back told rest (Ok done) left e = left_told told rest left
  left_back told rest (Err word.Write) left e = absurd cc
  left_back told rest (Err word.Read) left e = absurd cc
  left_back told rest (Err word.Memory) left e = absurd cc
  left_back told rest (Err word.NotFlow) left e = absurd cc
  left_back told rest (Err (word.Torn n)) left e = absurd cc
  left_back told rest (Err word.TooLong) left e = absurd cc
  left_back told rest (Err (word.Stopped why)) left e = absurd (subst IsOwn e (is.owns why))

  -- memory ran out
  wants_told : (told left : Option (List ℕ)) (before after : Option (List ℕ)) → IfSome told (λ bytes. driver.Meets t limit bytes left (Err word.Memory) before after) → IfSome told (λ bytes. RunsOut form limit bytes left before after)
  wants_told None left before after so = tt
  wants_told (Some bytes) left before after (text, lacks, written) = (text, elim lacks [ inl none ↦ inl none | inr short ↦ inr (is.out limit bytes text short) ], written)

  pub does : (ended : Ended B) (source out : Change) → (ended ≡ Err word.Read → Unread out.before out.after) → driver.Does t limit ended source out → FormServes form limit (ended_status limit own ended) source out
  does ended source out unread done =
      let met = meets_told source.before source.after ended out.before out.after unread done.meets in
      let reads : Blames (ended_status limit own ended ≡ answer.ReadFault) source.faults source.faults_after = record {
        later = done.reads.later;
        rose = λ e. done.reads.rose (read_back ended e);
        quiet = λ not. done.reads.quiet (λ e. not (ap (ended_status limit own) e));
      } in
      let writes : Blames (ended_status limit own ended ≡ answer.WriteFault) out.faults out.faults_after = record {
        later = done.writes.later;
        rose = λ e. done.writes.rose (write_back ended e);
        quiet = λ not. done.writes.quiet (λ e. not (ap (ended_status limit own) e));
      } in
      record {
        does = record {
          meets = met;
          taken = subst (λ (most : ℕ). TakesAtMost source.before source.after most) (is.most limit) done.taken;
          left = left_back source.before source.after ended done.left;
          reads = reads;
          writes = writes;
        };
        allocates = λ e. wants_told source.before source.after out.before out.after
            (subst (λ (z : Ended B). IfSome source.before (λ bytes. driver.Meets t limit bytes source.after z out.before out.after)) (memory_back ended e) done.meets);
      }
