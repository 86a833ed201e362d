-- What an output gained where a line is no command.
use Rattle.std.proofs.Common.{◌≡◌, ℕ, List, [], ◌∷◌, Result, Ok, Err, OnOk, subst}
use Rattle.std.specs.Prelude.{⊤, OnErr}
use Rattle.flow_io.specs.Streams.{Grows, GrowsByPrefix}
use Rattle.flow_io.specs.declared.sink.WriteFailed.{WriteFailed}
use Rattle.journal_keeping.specs.Outputs.{Output, Gains}
use Rattle.journal_keeping.proofs.Gaining.{gains_one, gains_cut}
use Rattle.line_keeping.specs.Answers.{no_command_text}
use Rattle.line_keeping.specs.Private.{Refuses}

-- the one text of a line that is no command, whether it was written or cut short
pub refuses_as : (number : ℕ) (result : Result ⊤ WriteFailed) (out after : Output) (text : List ℕ) → text ≡ no_command_text number → Grows out.calls after.calls (text ∷ []) → OnOk result (Grows out.held after.held text) → OnErr result (GrowsByPrefix out.held after.held text) → Refuses number result out after
refuses_as number (Ok done) out after text is called written cut = subst (λ (l : List ℕ). Gains ⊥ out after (l ∷ [])) is (gains_one ⊥ out after text called written)
refuses_as number (Err failed) out after text is called written cut = subst (λ (l : List ℕ). Gains ⊤ out after (l ∷ [])) is (gains_cut out after text called cut)
