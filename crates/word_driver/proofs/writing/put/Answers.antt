use Rattle.std.proofs.Common.{◌≡◌, ◌≢◌, ℕ, List, [], ◌∷◌, length, true≢false, refl, sym, ◌∙◌, arith}
use Rattle.std.proofs.lemmas.Bool.Decides.{nat_tests}
use Rattle.std.specs.Prelude.{true, false}
use Rattle.std.specs.Bool.{◌==◌}
use Rattle.word_driver.proofs.Puts.{puts_some, puts_none}
use Rattle.word_driver.proofs.writing.put.Goals as goal

-- whether bytes are empty
is_none : (bytes : List ℕ) → true ≡ (length bytes == 0) → bytes ≡ []
is_none [] empty = refl
is_none (x ∷ xs) empty = absurd (grind (arith, nat_tests, empty))

is_some : (bytes : List ℕ) → false ≡ (length bytes == 0) → bytes ≢ []
is_some [] some e = absurd (true≢false (sym some))
is_some (x ∷ xs) some e = absurd cc

pub returns-then-is_empty-clause-pieces : goal.returns-then-is_empty-clause-pieces
returns-then-is_empty-clause-pieces g c = puts_none g.K.Sink.calls g.K.Sink.held c.args.out.now c.args.bytes.now (is_none c.args.bytes.now (sym c.if-is_empty.true ∙ c.is_empty.ensures))

pub returns-clause-pieces : goal.returns-clause-pieces
returns-clause-pieces g c =
    puts_some g.K.Sink.calls g.K.Sink.held c.write.result c.args.out.now c.write.new.self c.args.bytes.now (is_some c.args.bytes.now (sym c.if-is_empty.false ∙ c.is_empty.ensures)) c.write.ensures.called c.write.ensures.written
