-- One pass of the loop that serves and keeps.
use Rattle.std.proofs.Common.{ℕ, ◌≤◌, List, [], ◌∷◌, ◌++◌, length, length-append, refl, ap, ◌∙◌, arith}
use Rattle.wire_records.specs.Formats.{commands}
use Rattle.market_rules.specs.Market.{Market}
use Rattle.file_units.specs.Units.{TakesOne}
use Rattle.disk_edge.specs.Disks.{DiskState}
use Rattle.journal_keeping.specs.Outputs.{Output}
use Rattle.journal_keeping.specs.Private.{TakesNext, Adds}
use Rattle.journal_keeping.proofs.Turns.{Pairs}

-- a record that was served is a unit that was taken
pub takes_one : {n : ℕ} {bytes : List ℕ} {old next : Market} {from to : ℕ} {disk later : DiskState} {out after : Output} (new : Pairs) (one : TakesNext n bytes old next from to disk later out after)
    → TakesOne commands Adds n bytes new (new ++ one.pair ∷ []) tt tt
takes_one new one = record {
  unit = one.pair.asked;
  lawful = one.served.lawful;
  size = one.size;
  some = one.some;
  prefix = one.served.prefix ∙ ap (λ (l : List ℕ). commands.units.encode one.pair.asked ++ l) one.following;
  step = (one.pair, refl, refl);
}

-- the record that was served is within the bytes
pub size_within : {n : ℕ} {bytes : List ℕ} {old next : Market} {from to : ℕ} {disk later : DiskState} {out after : Output} (one : TakesNext n bytes old next from to disk later out after) → n ≤ length bytes
size_within one = omega (arith, one.size, ap length one.served.prefix, length-append (commands.units.encode one.pair.asked) one.served.rest)
