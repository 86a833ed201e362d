-- A sample does what the clauses of the program say: it reads nothing, and writes the line on it, or a prefix of it.
use Rattle.std.proofs.Common.{◌≡◌, ◌≢◌, ℕ, List, [], Option, Some, None, IfSome, inl, inr, refl, arith}
use Rattle.flow_io.specs.Faults.{Blames}
use Rattle.flow_io.specs.Streams.{Grows, GrowsByPrefix, TakesAtMost}
use Rattle.flow_io.specs.Changes.{Change}
use Rattle.flow_io.proofs.Growth.{Grows-nothing}
use Rattle.sample_summary.specs.Summary.{Summarizes}
use Rattle.flow_exchange.specs.declared.form.Form.TheVariants.{Sample}
use Rattle.exit_status.specs.declared.status.Status.{Status}
use Rattle.exit_status.specs.declared.status.Status.TheVariants as answer
use Rattle.flow_exchange.specs.Program.{Meets}
use Rattle.flow_exchange.specs.Allocating.{RunsOut}
use Rattle.flow_exchange.specs.Private.{FormServes}
use Rattle.flow_exchange.proofs.Outcomes.{one_end}

module _ (number orders limit : ℕ) where
  -- for a source of known content
  told_meets : (status : Status) (rest before after : Option (List ℕ)) → ((bytes : List ℕ) → Meets (Sample number orders) limit bytes (Some bytes) status before after) → IfSome rest (λ bytes. Meets (Sample number orders) limit bytes rest status before after)
  told_meets status None before after meets = tt
  told_meets status (Some bytes) before after meets = meets bytes

  nothing_taken : (rest : Option (List ℕ)) → TakesAtMost rest rest 0
  nothing_taken None = tt
  nothing_taken (Some bytes) = omega arith

  all_left : (rest : Option (List ℕ)) → IfSome rest (λ bytes. rest ≡ Some bytes)
  all_left None = tt
  all_left (Some bytes) = refl

  told_wants : (rest before after : Option (List ℕ)) → ((bytes : List ℕ) → RunsOut (Sample number orders) limit bytes (Some bytes) before after) → IfSome rest (λ bytes. RunsOut (Sample number orders) limit bytes rest before after)
  told_wants None before after allocates = tt
  told_wants (Some bytes) before after allocates = allocates bytes

  -- a source of which nothing is taken
  abbrev pub still : Option (List ℕ) → ℕ → Change
  still rest faults = record { before = rest; after = rest; faults = faults; faults_after = faults }

  does : (status : Status) (rest : Option (List ℕ)) (faults : ℕ) (out : Change) → status ≢ answer.ReadFault → ((bytes : List ℕ) → Meets (Sample number orders) limit bytes (Some bytes) status out.before out.after)
      → (status ≡ answer.NoMemory → (bytes : List ℕ) → RunsOut (Sample number orders) limit bytes (Some bytes) out.before out.after)
      → Blames (status ≡ answer.WriteFault) out.faults out.faults_after → FormServes (Sample number orders) limit status (still rest faults) out
  does status rest faults out not_read meets allocates writes = record {
    does = record {
      meets = told_meets status rest out.before out.after meets;
      taken = nothing_taken rest;
      left = λ done. all_left rest;
      reads = record { later = omega arith; rose = λ e. absurd (not_read e); quiet = λ _. refl };
      writes = writes;
    };
    allocates = λ e. told_wants rest out.before out.after (allocates e);
  }

  -- the line was written
  pub does_write : (line : List ℕ) (rest : Option (List ℕ)) (faults : ℕ) (out : Change) → Summarizes number orders line → Grows out.before out.after line → out.faults_after ≡ out.faults
      → FormServes (Sample number orders) limit answer.Done (still rest faults) out
  does_write line rest faults out summary written quiet =
      does answer.Done rest faults out (λ e. absurd cc)
      (λ bytes. record {
        read = λ e. absurd cc;
        write = λ e. absurd cc;
        memory = λ e. absurd cc;
        determined = λ r w m. (line, (refl, summary), written, λ other words comes. one_end (Sample number orders) limit bytes other answer.Done words line comes (refl, summary));
      })
      (λ e. absurd cc) (record { later = omega (arith, quiet); rose = λ e. absurd cc; quiet = λ _. quiet })

  -- a prefix of the line was written
  pub does_not_write : (line : List ℕ) (rest : Option (List ℕ)) (faults : ℕ) (out : Change) → Summarizes number orders line → GrowsByPrefix out.before out.after line → Blames (Unit {0}) out.faults out.faults_after
      → FormServes (Sample number orders) limit answer.WriteFault (still rest faults) out
  does_not_write line rest faults out summary written cause =
      does answer.WriteFault rest faults out (λ e. absurd cc)
      (λ bytes. record { read = λ e. absurd cc; write = λ e. (line, inr (answer.Done, (refl, summary)), written); memory = λ e. absurd cc; determined = λ r w m. absurd (w refl) })
      (λ e. absurd cc) (record { later = cause.later; rose = λ _. cause.rose tt; quiet = λ not. absurd (not refl) })

  -- there was no memory
  pub does_not_fit : (rest held : Option (List ℕ)) (faults out_faults : ℕ) → FormServes (Sample number orders) limit answer.NoMemory (still rest faults) (still held out_faults)
  does_not_fit rest held faults out_faults =
      does answer.NoMemory rest faults (still held out_faults) (λ e. absurd cc)
      (λ bytes. record { read = λ e. absurd cc; write = λ e. absurd cc; memory = λ e. ([], inl refl, Grows-nothing held); determined = λ r w m. absurd (m refl) })
      (λ e bytes. ([], inl (omega arith, refl), Grows-nothing held)) (record { later = omega arith; rose = λ e. absurd cc; quiet = λ _. refl })
