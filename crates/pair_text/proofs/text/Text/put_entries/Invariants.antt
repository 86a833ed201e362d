use Rattle.std.proofs.Common.{◌≡◌, ◌++◌, take}
use Rattle.std.specs.List.{flat_map}
use Rattle.pair_text.specs.Texts.{entry_text}
use Rattle.pair_text.proofs.text.Text.put_entries.Given as goal

abbrev pub invariant-loop-place : goal.invariant-loop-place
invariant-loop-place l = (l.self.before ≡ l.fn.self.before) × (l.self.text ≡ l.fn.self.text ++ flat_map (entry_text l.tickers) (take l.place l.row))
