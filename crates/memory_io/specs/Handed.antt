-- The calls of a sink in memory, as it keeps them.
use Rattle.std.specs.Prelude.{ℕ, List, Option, map, option_map, Vec}
use Rattle.std.specs.Global.{Global}

-- the bytes of each call, if they are kept
abbrev pub handed_by : Option (Vec (Vec ℕ Global) Global) → Option (List (List ℕ))
handed_by calls = option_map (λ (v : Vec (Vec ℕ Global) Global). map (λ (call : Vec ℕ Global). call.items) v.items) calls
