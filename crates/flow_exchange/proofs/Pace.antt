-- A run that was cut short has kept pace with its source.
use Rattle.std.proofs.Common.{◌+◌, ◌≤◌, ◌⊎◌, ℕ, List, Option, Some, None, IfSome, inl, inr, arith}
use Rattle.flow_io.specs.Changes.{Change}
use Rattle.word_driver.specs.declared.fault.Never.{Never}
use Rattle.word_driver.specs.Ended.{Ended}
use Rattle.word_driver.specs.Does.{task, KeepsUp}
use Rattle.word_driver.specs.Does as driver
use Rattle.exchange_session.specs.Running.{run}
use Rattle.exchange_session.proofs.RunLaws.{run_is_exact, run_version}
use Rattle.flow_exchange.specs.declared.form.Form.TheVariants.{Run}
use Rattle.flow_exchange.specs.Statuses.{ended_status}
use Rattle.flow_exchange.specs.Private.{no_reason}
use Rattle.flow_exchange.specs.Running.{WhereTaken, IsNearPairs, KeepsPace}
use Rattle.flow_exchange.proofs.Words.{write_back, memory_back}
use Rattle.flow_exchange.proofs.RunWord.{start, journals, run_form}

module _ (limit : ℕ) where
  near_told : (told left : Option (List ℕ)) (before after : Option (List ℕ)) → IfSome told (λ bytes. KeepsUp (task run start) limit bytes left before after) → WhereTaken told left (λ bytes taken. (taken ≤ 8 + 1030) ⊎ IsNearPairs limit before after bytes taken)
  near_told None left before after kept = tt
  near_told (Some bytes) None before after kept = tt
  near_told (Some bytes) (Some left) before after (n, taken, counted, few, inl first) = (taken, counted, inl (omega (arith, few, first)))
  near_told (Some bytes) (Some left) before after (n, taken, counted, few, inr (text, more, (version, body, following, magic, is, (units, rest, state, passes, keeps, size)), written)) = (
    taken,
    counted,
    inr (record {
      version = version;
      records = units;
      market = state;
      text = text;
      more = more;
      starts = record { body = body; rest = rest; magic = magic; whole = passes.whole; each = passes.each };
      writes = journals units state following text version (run_version (start version) state units following passes.goes) keeps is;
      stands = written;
      near = omega (arith, few, size, run_is_exact.magic version);
    }),
  )

  pub keeps_pace : (ended : Ended Never) (source out : Change) → driver.Does (task run start) limit ended source out → KeepsPace limit (ended_status limit no_reason ended) source out
  keeps_pace ended source out does = λ why. near_told source.before source.after out.before out.after (does.keeps_up (
      elim why [
        | inl e ↦ inl (write_back (task run start) Run limit no_reason run_form ended e)
        | inr e ↦ inr (memory_back (task run start) Run limit no_reason run_form ended e)
      ]))
