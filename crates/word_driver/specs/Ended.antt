-- How a subcommand ends.
use Rattle.std.specs.Prelude.{Result}
use Rattle.word_driver.specs.declared.fault.Fault.{Fault}

-- all was done, or this is why not; B is the type of the subcommand's own reasons to stop
abbrev pub Ended : Type 0 → Type 0
Ended B = Result (Unit {0}) (Fault B)
