use Rattle.std.proofs.Common.{◌≡◌, ◌-◌, ◌≤◌, length, take, vec_len, vec_capacity}
use Rattle.journal_records.proofs.numbers_view.NumbersView.to_vec.Given as goal

abbrev pub invariant-loop-number : goal.invariant-loop-number
invariant-loop-number l = record { read : l.numbers.items ≡ take (vec_len l.numbers) l.self; room : length l.self ≤ vec_capacity l.numbers }

abbrev pub decreases-loop-number : goal.decreases-loop-number
decreases-loop-number l = length l.self - vec_len l.numbers
