use Rattle.std.proofs.Common.{◌≡◌, ◌-◌, ◌≤◌, length, take, vec_len, vec_capacity}
use Rattle.wire_records.proofs.place.RowView.to_list.Given as goal

abbrev pub invariant-loop-entry : goal.invariant-loop-entry
invariant-loop-entry l = record { read : l.entries.items ≡ take (vec_len l.entries) l.self; room : length l.self ≤ vec_capacity l.entries }

abbrev pub decreases-loop-entry : goal.decreases-loop-entry
decreases-loop-entry l = length l.self - vec_len l.entries
