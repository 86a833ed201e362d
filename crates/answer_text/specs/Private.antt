-- Definitions that only private functions use.
use Rattle.weight_rows.specs.declared.entries.Entry.{Entry}
use Rattle.std.specs.Prelude.{pos}

-- the value at a place at which a weight vector has no leg
abbrev pub no_entry : Entry
no_entry = record { asset = 0; weight = pos 0 }
