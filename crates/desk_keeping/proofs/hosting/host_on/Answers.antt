use Rattle.std.proofs.Common.{◌≡◌, inl, inr, ℕ, List, Err, take, refl, sym, ap, subst, ◌∙◌, arith}
use Rattle.memchr.specs.Find.{IsFirstByte, is_byte}
use Rattle.input_lines.specs.Finding.{FindsNextWithin}
use Rattle.input_lines.specs.declared.lines.Next.{Next}
use Rattle.input_lines.specs.declared.lines.Next.TheVariants as next
use Rattle.desk_lines.specs.Hearing.{most_envelope}
use Rattle.journal_keeping.specs.Outputs.{output}
use Rattle.desk_keeping.specs.declared.fault.HostFault.{HostFault}
use Rattle.desk_keeping.specs.declared.fault.HostFault.TheVariants.{Read, Write, Disk}
use Rattle.desk_keeping.specs.Private.{HearsLine, BreaksLine}
use Rattle.desk_keeping.proofs.Reaching.{few_at, few_found, few_unread}
use Rattle.desk_keeping.proofs.Loop.{is_ordered, can_settle, has_room, can_read, left_alone, hosting_settled, all_settled, hosting_long, settle_broken, out_of_memory, ended, limited, unread, line_broken, stops_ordered, heard_ordered, heard_keeps, unended, hosting_line, none_found, unread_piece, empty_held, same_result, blames_from, blames_none, stops_disk, settle_own, end_own}
use Rattle.desk_keeping.proofs.hosting.host_on.Goals as goal

pub lines-init : goal.lines-init
lines-init g c =
    ((λ was content first is. is), refl, refl, refl)

pub settle-requires-clause-order : goal.settle-requires-clause-order
settle-requires-clause-order g c =
    let q = c.requires.hosting in
    let x = c.lines.invariant.0 q.0 q.1 q.2 q.3 in
    is_ordered c.args.limit q.1 (g.D.Disk.state q.0) (output g.K.Sink.held g.K.Sink.calls g.K.Sink.faults q.2) (g.S.Source.rest c.lines.source) (g.D.Disk.state c.lines.disk) (output g.K.Sink.held g.K.Sink.calls g.K.Sink.faults c.lines.out) c.lines.window c.lines.host x

pub settle-requires-clause-can : goal.settle-requires-clause-can
settle-requires-clause-can g c =
    let q = c.requires.hosting in
    let x = c.lines.invariant.0 q.0 q.1 q.2 q.3 in
    can_settle c.args.limit q.1 (g.D.Disk.state q.0) (output g.K.Sink.held g.K.Sink.calls g.K.Sink.faults q.2) (g.S.Source.rest c.lines.source) (g.D.Disk.state c.lines.disk) (output g.K.Sink.held g.K.Sink.calls g.K.Sink.faults c.lines.out) c.lines.window c.lines.host x c.requires.few

pub next_line_within-requires : goal.next_line_within-requires
next_line_within-requires g c =
    let q = c.requires.hosting in
    let x = c.lines.invariant.0 q.0 q.1 q.2 q.3 in
    let y = hosting_settled c.args.limit q.1 (g.D.Disk.state q.0) (output g.K.Sink.held g.K.Sink.calls g.K.Sink.faults q.2) (g.S.Source.rest c.lines.source) (g.D.Disk.state c.lines.disk) (output g.K.Sink.held g.K.Sink.calls g.K.Sink.faults c.lines.out) c.lines.window c.lines.host x (g.D.Disk.state c.settle.new.disk) (output g.K.Sink.held g.K.Sink.calls g.K.Sink.faults c.settle.new.out) c.settle.new.self c.is_none-is_last.result (c.settle.new.disk ≡ c.lines.disk) (c.settle.new.out ≡ c.lines.out) (λ (same : c.settle.new.disk ≡ c.lines.disk) P is. subst (λ d. P (g.D.Disk.state d)) (sym same) is) (λ (same : c.settle.new.out ≡ c.lines.out) P is. subst (λ o. P (output g.K.Sink.held g.K.Sink.calls g.K.Sink.faults o)) (sym same) is) c.in-Ok.ensures.keeps in
    record { «open» = y.gone.is_open }

pub hear-requires-clause-counted : goal.hear-requires-clause-counted
hear-requires-clause-counted g c =
    let q = c.requires.hosting in
    let x = c.lines.invariant.0 q.0 q.1 q.2 q.3 in
    let y = hosting_settled c.args.limit q.1 (g.D.Disk.state q.0) (output g.K.Sink.held g.K.Sink.calls g.K.Sink.faults q.2) (g.S.Source.rest c.lines.source) (g.D.Disk.state c.lines.disk) (output g.K.Sink.held g.K.Sink.calls g.K.Sink.faults c.lines.out) c.lines.window c.lines.host x (g.D.Disk.state c.settle.new.disk) (output g.K.Sink.held g.K.Sink.calls g.K.Sink.faults c.settle.new.out) c.settle.new.self c.is_none-is_last.result (c.settle.new.disk ≡ c.lines.disk) (c.settle.new.out ≡ c.lines.out) (λ (same : c.settle.new.disk ≡ c.lines.disk) P is. subst (λ d. P (g.D.Disk.state d)) (sym same) is) (λ (same : c.settle.new.out ≡ c.lines.out) P is. subst (λ o. P (output g.K.Sink.held g.K.Sink.calls g.K.Sink.faults o)) (sym same) is) c.in-Ok.ensures.keeps in
    y.at.counts

pub hear-requires-clause-room : goal.hear-requires-clause-room
hear-requires-clause-room g c =
    let q = c.requires.hosting in
    let x = c.lines.invariant.0 q.0 q.1 q.2 q.3 in
    let y = hosting_settled c.args.limit q.1 (g.D.Disk.state q.0) (output g.K.Sink.held g.K.Sink.calls g.K.Sink.faults q.2) (g.S.Source.rest c.lines.source) (g.D.Disk.state c.lines.disk) (output g.K.Sink.held g.K.Sink.calls g.K.Sink.faults c.lines.out) c.lines.window c.lines.host x (g.D.Disk.state c.settle.new.disk) (output g.K.Sink.held g.K.Sink.calls g.K.Sink.faults c.settle.new.out) c.settle.new.self c.is_none-is_last.result (c.settle.new.disk ≡ c.lines.disk) (c.settle.new.out ≡ c.lines.out) (λ (same : c.settle.new.disk ≡ c.lines.disk) P is. subst (λ d. P (g.D.Disk.state d)) (sym same) is) (λ (same : c.settle.new.out ≡ c.lines.out) P is. subst (λ o. P (output g.K.Sink.held g.K.Sink.calls g.K.Sink.faults o)) (sym same) is) c.in-Ok.ensures.keeps in
    has_room c.args.limit q.1 (g.D.Disk.state q.0) (output g.K.Sink.held g.K.Sink.calls g.K.Sink.faults q.2) (g.S.Source.rest c.lines.source) (g.D.Disk.state c.settle.new.disk) (output g.K.Sink.held g.K.Sink.calls g.K.Sink.faults c.settle.new.out) c.lines.window c.settle.new.self y 33 (omega arith) c.requires.few

pub hear-requires-clause-reads : goal.hear-requires-clause-reads
hear-requires-clause-reads g c =
    let q = c.requires.hosting in
    let x = c.lines.invariant.0 q.0 q.1 q.2 q.3 in
    let y = hosting_settled c.args.limit q.1 (g.D.Disk.state q.0) (output g.K.Sink.held g.K.Sink.calls g.K.Sink.faults q.2) (g.S.Source.rest c.lines.source) (g.D.Disk.state c.lines.disk) (output g.K.Sink.held g.K.Sink.calls g.K.Sink.faults c.lines.out) c.lines.window c.lines.host x (g.D.Disk.state c.settle.new.disk) (output g.K.Sink.held g.K.Sink.calls g.K.Sink.faults c.settle.new.out) c.settle.new.self c.is_none-is_last.result (c.settle.new.disk ≡ c.lines.disk) (c.settle.new.out ≡ c.lines.out) (λ (same : c.settle.new.disk ≡ c.lines.disk) P is. subst (λ d. P (g.D.Disk.state d)) (sym same) is) (λ (same : c.settle.new.out ≡ c.lines.out) P is. subst (λ o. P (output g.K.Sink.held g.K.Sink.calls g.K.Sink.faults o)) (sym same) is) c.in-Ok.ensures.keeps in
    can_read c.args.limit q.1 (g.D.Disk.state q.0) (output g.K.Sink.held g.K.Sink.calls g.K.Sink.faults q.2) (g.S.Source.rest c.lines.source) (g.D.Disk.state c.settle.new.disk) (output g.K.Sink.held g.K.Sink.calls g.K.Sink.faults c.settle.new.out) c.lines.window c.settle.new.self y (g.met.D.Disk.is_disk c.settle.new.disk)

pub hear-requires-clause-fresh : goal.hear-requires-clause-fresh
hear-requires-clause-fresh g c =
    let q = c.requires.hosting in
    let x = c.lines.invariant.0 q.0 q.1 q.2 q.3 in
    let y = hosting_settled c.args.limit q.1 (g.D.Disk.state q.0) (output g.K.Sink.held g.K.Sink.calls g.K.Sink.faults q.2) (g.S.Source.rest c.lines.source) (g.D.Disk.state c.lines.disk) (output g.K.Sink.held g.K.Sink.calls g.K.Sink.faults c.lines.out) c.lines.window c.lines.host x (g.D.Disk.state c.settle.new.disk) (output g.K.Sink.held g.K.Sink.calls g.K.Sink.faults c.settle.new.out) c.settle.new.self c.is_none-is_last.result (c.settle.new.disk ≡ c.lines.disk) (c.settle.new.out ≡ c.lines.out) (λ (same : c.settle.new.disk ≡ c.lines.disk) P is. subst (λ d. P (g.D.Disk.state d)) (sym same) is) (λ (same : c.settle.new.out ≡ c.lines.out) P is. subst (λ o. P (output g.K.Sink.held g.K.Sink.calls g.K.Sink.faults o)) (sym same) is) c.in-Ok.ensures.keeps in
    y.at.none

pub stop-requires : goal.stop-requires
stop-requires g c =
    let q = c.requires.hosting in
    let x = c.lines.invariant.0 q.0 q.1 q.2 q.3 in
    let y = hosting_settled c.args.limit q.1 (g.D.Disk.state q.0) (output g.K.Sink.held g.K.Sink.calls g.K.Sink.faults q.2) (g.S.Source.rest c.lines.source) (g.D.Disk.state c.lines.disk) (output g.K.Sink.held g.K.Sink.calls g.K.Sink.faults c.lines.out) c.lines.window c.lines.host x (g.D.Disk.state c.settle.new.disk) (output g.K.Sink.held g.K.Sink.calls g.K.Sink.faults c.settle.new.out) c.settle.new.self c.is_none-is_last.result (c.settle.new.disk ≡ c.lines.disk) (c.settle.new.out ≡ c.lines.out) (λ (same : c.settle.new.disk ≡ c.lines.disk) P is. subst (λ d. P (g.D.Disk.state d)) (sym same) is) (λ (same : c.settle.new.out ≡ c.lines.out) P is. subst (λ o. P (output g.K.Sink.held g.K.Sink.calls g.K.Sink.faults o)) (sym same) is) c.in-Ok.ensures.keeps in
    let finds = subst (λ (n : Next). FindsNextWithin most_envelope c.lines.window c.next_line_within.new.window (g.S.Source.rest c.lines.source) (g.S.Source.rest c.next_line_within.new.source) n) c.in-Line.is c.in-Ok-next_line_within.ensures.finds in
    let line = take c.in-Line.size c.next_line_within.new.window.held in
    let same_line : take c.in-Line.size c.held-in-Line.result.now ≡ line = ap (λ (l : List ℕ). take c.in-Line.size l) c.held-in-Line.ensures.held in
    let breaks = subst (λ (l : List ℕ). BreaksLine c.in-Err-hear.fault l c.settle.new.self c.hear.new.self (g.D.Disk.state c.settle.new.disk) (g.D.Disk.state c.hear.new.disk) (c.hear.new.disk ≡ c.settle.new.disk)) same_line c.in-Err-hear.ensures.broken in
    record { order = stops_ordered c.args.limit q.1 (g.D.Disk.state q.0) (output g.K.Sink.held g.K.Sink.calls g.K.Sink.faults q.2) (g.S.Source.rest c.lines.source) (g.D.Disk.state c.settle.new.disk) (output g.K.Sink.held g.K.Sink.calls g.K.Sink.faults c.settle.new.out) c.lines.window c.settle.new.self y line c.hear.new.self (g.D.Disk.state c.hear.new.disk) (c.hear.new.disk ≡ c.settle.new.disk) c.in-Err-hear.fault breaks }

pub end_line-requires-clause-order : goal.end_line-requires-clause-order
end_line-requires-clause-order g c =
    let q = c.requires.hosting in
    let x = c.lines.invariant.0 q.0 q.1 q.2 q.3 in
    let y = hosting_settled c.args.limit q.1 (g.D.Disk.state q.0) (output g.K.Sink.held g.K.Sink.calls g.K.Sink.faults q.2) (g.S.Source.rest c.lines.source) (g.D.Disk.state c.lines.disk) (output g.K.Sink.held g.K.Sink.calls g.K.Sink.faults c.lines.out) c.lines.window c.lines.host x (g.D.Disk.state c.settle.new.disk) (output g.K.Sink.held g.K.Sink.calls g.K.Sink.faults c.settle.new.out) c.settle.new.self c.is_none-is_last.result (c.settle.new.disk ≡ c.lines.disk) (c.settle.new.out ≡ c.lines.out) (λ (same : c.settle.new.disk ≡ c.lines.disk) P is. subst (λ d. P (g.D.Disk.state d)) (sym same) is) (λ (same : c.settle.new.out ≡ c.lines.out) P is. subst (λ o. P (output g.K.Sink.held g.K.Sink.calls g.K.Sink.faults o)) (sym same) is) c.in-Ok.ensures.keeps in
    let finds = subst (λ (n : Next). FindsNextWithin most_envelope c.lines.window c.next_line_within.new.window (g.S.Source.rest c.lines.source) (g.S.Source.rest c.next_line_within.new.source) n) c.in-Line.is c.in-Ok-next_line_within.ensures.finds in
    let line = take c.in-Line.size c.next_line_within.new.window.held in
    let same_line : take c.in-Line.size c.held-in-Line.result.now ≡ line = ap (λ (l : List ℕ). take c.in-Line.size l) c.held-in-Line.ensures.held in
    let heard = subst (λ (l : List ℕ). HearsLine l c.settle.new.self c.hear.new.self (g.D.Disk.state c.settle.new.disk) (g.D.Disk.state c.hear.new.disk) (c.hear.new.disk ≡ c.settle.new.disk)) same_line c.in-Ok-hear.ensures.hears in
    heard_ordered c.args.limit q.1 (g.D.Disk.state q.0) (output g.K.Sink.held g.K.Sink.calls g.K.Sink.faults q.2) (g.S.Source.rest c.lines.source) (g.D.Disk.state c.settle.new.disk) (output g.K.Sink.held g.K.Sink.calls g.K.Sink.faults c.settle.new.out) c.lines.window c.settle.new.self y c.next_line_within.new.window (g.S.Source.rest c.next_line_within.new.source) c.in-Line.size finds c.hear.new.self (g.D.Disk.state c.hear.new.disk) (c.hear.new.disk ≡ c.settle.new.disk) (g.met.D.Disk.is_disk c.settle.new.disk) (g.met.D.Disk.is_disk c.hear.new.disk) (λ (same : c.hear.new.disk ≡ c.settle.new.disk) P is. subst (λ d. P (g.D.Disk.state d)) (sym same) is) heard

pub end_line-requires-clause-can : goal.end_line-requires-clause-can
end_line-requires-clause-can g c =
    let q = c.requires.hosting in
    let x = c.lines.invariant.0 q.0 q.1 q.2 q.3 in
    let y = hosting_settled c.args.limit q.1 (g.D.Disk.state q.0) (output g.K.Sink.held g.K.Sink.calls g.K.Sink.faults q.2) (g.S.Source.rest c.lines.source) (g.D.Disk.state c.lines.disk) (output g.K.Sink.held g.K.Sink.calls g.K.Sink.faults c.lines.out) c.lines.window c.lines.host x (g.D.Disk.state c.settle.new.disk) (output g.K.Sink.held g.K.Sink.calls g.K.Sink.faults c.settle.new.out) c.settle.new.self c.is_none-is_last.result (c.settle.new.disk ≡ c.lines.disk) (c.settle.new.out ≡ c.lines.out) (λ (same : c.settle.new.disk ≡ c.lines.disk) P is. subst (λ d. P (g.D.Disk.state d)) (sym same) is) (λ (same : c.settle.new.out ≡ c.lines.out) P is. subst (λ o. P (output g.K.Sink.held g.K.Sink.calls g.K.Sink.faults o)) (sym same) is) c.in-Ok.ensures.keeps in
    let finds = subst (λ (n : Next). FindsNextWithin most_envelope c.lines.window c.next_line_within.new.window (g.S.Source.rest c.lines.source) (g.S.Source.rest c.next_line_within.new.source) n) c.in-Line.is c.in-Ok-next_line_within.ensures.finds in
    let line = take c.in-Line.size c.next_line_within.new.window.held in
    let same_line : take c.in-Line.size c.held-in-Line.result.now ≡ line = ap (λ (l : List ℕ). take c.in-Line.size l) c.held-in-Line.ensures.held in
    let heard = subst (λ (l : List ℕ). HearsLine l c.settle.new.self c.hear.new.self (g.D.Disk.state c.settle.new.disk) (g.D.Disk.state c.hear.new.disk) (c.hear.new.disk ≡ c.settle.new.disk)) same_line c.in-Ok-hear.ensures.hears in
    heard_keeps c.args.limit q.1 (g.D.Disk.state q.0) (output g.K.Sink.held g.K.Sink.calls g.K.Sink.faults q.2) (g.S.Source.rest c.lines.source) (g.D.Disk.state c.settle.new.disk) (output g.K.Sink.held g.K.Sink.calls g.K.Sink.faults c.settle.new.out) c.lines.window c.settle.new.self y c.next_line_within.new.window (g.S.Source.rest c.next_line_within.new.source) c.in-Line.size finds c.hear.new.self (g.D.Disk.state c.hear.new.disk) (c.hear.new.disk ≡ c.settle.new.disk) (g.met.D.Disk.is_disk c.settle.new.disk) (g.met.D.Disk.is_disk c.hear.new.disk) (λ (same : c.hear.new.disk ≡ c.settle.new.disk) P is. subst (λ d. P (g.D.Disk.state d)) (sym same) is) heard c.requires.few

pub answer_long-requires-clause-counted : goal.answer_long-requires-clause-counted
answer_long-requires-clause-counted g c =
    let q = c.requires.hosting in
    let x = c.lines.invariant.0 q.0 q.1 q.2 q.3 in
    let y = hosting_settled c.args.limit q.1 (g.D.Disk.state q.0) (output g.K.Sink.held g.K.Sink.calls g.K.Sink.faults q.2) (g.S.Source.rest c.lines.source) (g.D.Disk.state c.lines.disk) (output g.K.Sink.held g.K.Sink.calls g.K.Sink.faults c.lines.out) c.lines.window c.lines.host x (g.D.Disk.state c.settle.new.disk) (output g.K.Sink.held g.K.Sink.calls g.K.Sink.faults c.settle.new.out) c.settle.new.self c.is_none-is_last.result (c.settle.new.disk ≡ c.lines.disk) (c.settle.new.out ≡ c.lines.out) (λ (same : c.settle.new.disk ≡ c.lines.disk) P is. subst (λ d. P (g.D.Disk.state d)) (sym same) is) (λ (same : c.settle.new.out ≡ c.lines.out) P is. subst (λ o. P (output g.K.Sink.held g.K.Sink.calls g.K.Sink.faults o)) (sym same) is) c.in-Ok.ensures.keeps in
    y.at.counts

pub answer_long-requires-clause-room : goal.answer_long-requires-clause-room
answer_long-requires-clause-room g c =
    let q = c.requires.hosting in
    let x = c.lines.invariant.0 q.0 q.1 q.2 q.3 in
    let y = hosting_settled c.args.limit q.1 (g.D.Disk.state q.0) (output g.K.Sink.held g.K.Sink.calls g.K.Sink.faults q.2) (g.S.Source.rest c.lines.source) (g.D.Disk.state c.lines.disk) (output g.K.Sink.held g.K.Sink.calls g.K.Sink.faults c.lines.out) c.lines.window c.lines.host x (g.D.Disk.state c.settle.new.disk) (output g.K.Sink.held g.K.Sink.calls g.K.Sink.faults c.settle.new.out) c.settle.new.self c.is_none-is_last.result (c.settle.new.disk ≡ c.lines.disk) (c.settle.new.out ≡ c.lines.out) (λ (same : c.settle.new.disk ≡ c.lines.disk) P is. subst (λ d. P (g.D.Disk.state d)) (sym same) is) (λ (same : c.settle.new.out ≡ c.lines.out) P is. subst (λ o. P (output g.K.Sink.held g.K.Sink.calls g.K.Sink.faults o)) (sym same) is) c.in-Ok.ensures.keeps in
    has_room c.args.limit q.1 (g.D.Disk.state q.0) (output g.K.Sink.held g.K.Sink.calls g.K.Sink.faults q.2) (g.S.Source.rest c.lines.source) (g.D.Disk.state c.settle.new.disk) (output g.K.Sink.held g.K.Sink.calls g.K.Sink.faults c.settle.new.out) c.lines.window c.settle.new.self y 1 (omega arith) c.requires.few

pub returns-in-Err-clause-keeps : goal.returns-in-Err-clause-keeps
returns-in-Err-clause-keeps g c =
    λ was content first is.
    let x = c.lines.invariant.0 was content first is in
    (settle_broken c.args.limit content (g.D.Disk.state was) (output g.K.Sink.held g.K.Sink.calls g.K.Sink.faults first) (g.S.Source.rest c.lines.source) (g.D.Disk.state c.lines.disk) (output g.K.Sink.held g.K.Sink.calls g.K.Sink.faults c.lines.out) c.lines.window c.lines.host x c.settle.new.self (g.D.Disk.state c.settle.new.disk) (output g.K.Sink.held g.K.Sink.calls g.K.Sink.faults c.settle.new.out) (c.settle.new.disk ≡ c.lines.disk) c.in-Err.fault (g.met.D.Disk.is_disk c.settle.new.disk) (λ (same : c.settle.new.disk ≡ c.lines.disk) P is. subst (λ d. P (g.D.Disk.state d)) (sym same) is) c.in-Err.ensures.broken).0

pub returns-in-Err-clause-comes : goal.returns-in-Err-clause-comes
returns-in-Err-clause-comes g c =
    λ was content first is.
    let x = c.lines.invariant.0 was content first is in
    (settle_broken c.args.limit content (g.D.Disk.state was) (output g.K.Sink.held g.K.Sink.calls g.K.Sink.faults first) (g.S.Source.rest c.lines.source) (g.D.Disk.state c.lines.disk) (output g.K.Sink.held g.K.Sink.calls g.K.Sink.faults c.lines.out) c.lines.window c.lines.host x c.settle.new.self (g.D.Disk.state c.settle.new.disk) (output g.K.Sink.held g.K.Sink.calls g.K.Sink.faults c.settle.new.out) (c.settle.new.disk ≡ c.lines.disk) c.in-Err.fault (g.met.D.Disk.is_disk c.settle.new.disk) (λ (same : c.settle.new.disk ≡ c.lines.disk) P is. subst (λ d. P (g.D.Disk.state d)) (sym same) is) c.in-Err.ensures.broken).1

pub returns-in-Err-clause-disk_cause : goal.returns-in-Err-clause-disk_cause
returns-in-Err-clause-disk_cause g c =
    blames_from _ _ (g.D.Disk.state c.args.disk.now).faults (g.D.Disk.state c.lines.disk).faults (g.D.Disk.state c.settle.new.disk).faults c.lines.invariant.1 (λ e. e) (λ e. e) c.in-Err.ensures.disk_cause

pub returns-in-Err-clause-source_cause : goal.returns-in-Err-clause-source_cause
returns-in-Err-clause-source_cause g c =
    blames_none _ (g.S.Source.faults c.args.source.now) (g.S.Source.faults c.lines.source) c.lines.invariant.3 (λ e. settle_own c.in-Err.fault c.settle.new.self c.lines.host (g.D.Disk.state c.lines.disk) (g.D.Disk.state c.settle.new.disk) (output g.K.Sink.held g.K.Sink.calls g.K.Sink.faults c.lines.out) (output g.K.Sink.held g.K.Sink.calls g.K.Sink.faults c.settle.new.out) (c.settle.new.disk ≡ c.lines.disk) c.in-Err.ensures.broken (same_result c.in-Err.fault Read e))

pub returns-in-Err-clause-out_cause : goal.returns-in-Err-clause-out_cause
returns-in-Err-clause-out_cause g c =
    blames_from _ _ (g.K.Sink.faults c.args.out.now) (g.K.Sink.faults c.lines.out) (g.K.Sink.faults c.settle.new.out) c.lines.invariant.2 (λ e. e) (λ e. e) c.in-Err.ensures.out_cause

pub returns-in-Err-next_line_within-clause-keeps : goal.returns-in-Err-next_line_within-clause-keeps
returns-in-Err-next_line_within-clause-keeps g c =
    λ was content first is.
    let x = c.lines.invariant.0 was content first is in
    let y = hosting_settled c.args.limit content (g.D.Disk.state was) (output g.K.Sink.held g.K.Sink.calls g.K.Sink.faults first) (g.S.Source.rest c.lines.source) (g.D.Disk.state c.lines.disk) (output g.K.Sink.held g.K.Sink.calls g.K.Sink.faults c.lines.out) c.lines.window c.lines.host x (g.D.Disk.state c.settle.new.disk) (output g.K.Sink.held g.K.Sink.calls g.K.Sink.faults c.settle.new.out) c.settle.new.self c.is_none-is_last.result (c.settle.new.disk ≡ c.lines.disk) (c.settle.new.out ≡ c.lines.out) (λ (same : c.settle.new.disk ≡ c.lines.disk) P is. subst (λ d. P (g.D.Disk.state d)) (sym same) is) (λ (same : c.settle.new.out ≡ c.lines.out) P is. subst (λ o. P (output g.K.Sink.held g.K.Sink.calls g.K.Sink.faults o)) (sym same) is) c.in-Ok.ensures.keeps in
    let all = all_settled c.args.limit content (g.D.Disk.state was) (output g.K.Sink.held g.K.Sink.calls g.K.Sink.faults first) (g.S.Source.rest c.lines.source) (g.D.Disk.state c.lines.disk) (output g.K.Sink.held g.K.Sink.calls g.K.Sink.faults c.lines.out) c.lines.window c.lines.host x (g.D.Disk.state c.settle.new.disk) (output g.K.Sink.held g.K.Sink.calls g.K.Sink.faults c.settle.new.out) c.settle.new.self c.is_none-is_last.result (c.settle.new.disk ≡ c.lines.disk) (c.settle.new.out ≡ c.lines.out) c.in-Ok.ensures.keeps
    (none_found c.lines.window.held c.memchr.result c.is_none-is_last.result (subst (λ (l : List ℕ). IsFirstByte (is_byte 10) l c.memchr.result) c.held.ensures.held c.memchr.ensures) (unread_piece c.lines.window.held c.in-Err-next_line_within.ensures.none.joined c.in-Err-next_line_within.ensures.none.piece) c.is_none-is_last.ensures) in
    (unread c.args.limit content (g.D.Disk.state was) (output g.K.Sink.held g.K.Sink.calls g.K.Sink.faults first) (g.S.Source.rest c.lines.source) (g.D.Disk.state c.settle.new.disk) (output g.K.Sink.held g.K.Sink.calls g.K.Sink.faults c.settle.new.out) c.lines.window c.settle.new.self y all.0 all.1 c.lines.window (g.S.Source.rest c.next_line_within.new.source) (g.met.D.Disk.is_disk c.settle.new.disk) c.in-Err-next_line_within.ensures.none).0

pub returns-in-Err-next_line_within-clause-comes : goal.returns-in-Err-next_line_within-clause-comes
returns-in-Err-next_line_within-clause-comes g c =
    λ was content first is.
    let x = c.lines.invariant.0 was content first is in
    let y = hosting_settled c.args.limit content (g.D.Disk.state was) (output g.K.Sink.held g.K.Sink.calls g.K.Sink.faults first) (g.S.Source.rest c.lines.source) (g.D.Disk.state c.lines.disk) (output g.K.Sink.held g.K.Sink.calls g.K.Sink.faults c.lines.out) c.lines.window c.lines.host x (g.D.Disk.state c.settle.new.disk) (output g.K.Sink.held g.K.Sink.calls g.K.Sink.faults c.settle.new.out) c.settle.new.self c.is_none-is_last.result (c.settle.new.disk ≡ c.lines.disk) (c.settle.new.out ≡ c.lines.out) (λ (same : c.settle.new.disk ≡ c.lines.disk) P is. subst (λ d. P (g.D.Disk.state d)) (sym same) is) (λ (same : c.settle.new.out ≡ c.lines.out) P is. subst (λ o. P (output g.K.Sink.held g.K.Sink.calls g.K.Sink.faults o)) (sym same) is) c.in-Ok.ensures.keeps in
    let all = all_settled c.args.limit content (g.D.Disk.state was) (output g.K.Sink.held g.K.Sink.calls g.K.Sink.faults first) (g.S.Source.rest c.lines.source) (g.D.Disk.state c.lines.disk) (output g.K.Sink.held g.K.Sink.calls g.K.Sink.faults c.lines.out) c.lines.window c.lines.host x (g.D.Disk.state c.settle.new.disk) (output g.K.Sink.held g.K.Sink.calls g.K.Sink.faults c.settle.new.out) c.settle.new.self c.is_none-is_last.result (c.settle.new.disk ≡ c.lines.disk) (c.settle.new.out ≡ c.lines.out) c.in-Ok.ensures.keeps
    (none_found c.lines.window.held c.memchr.result c.is_none-is_last.result (subst (λ (l : List ℕ). IsFirstByte (is_byte 10) l c.memchr.result) c.held.ensures.held c.memchr.ensures) (unread_piece c.lines.window.held c.in-Err-next_line_within.ensures.none.joined c.in-Err-next_line_within.ensures.none.piece) c.is_none-is_last.ensures) in
    (unread c.args.limit content (g.D.Disk.state was) (output g.K.Sink.held g.K.Sink.calls g.K.Sink.faults first) (g.S.Source.rest c.lines.source) (g.D.Disk.state c.settle.new.disk) (output g.K.Sink.held g.K.Sink.calls g.K.Sink.faults c.settle.new.out) c.lines.window c.settle.new.self y all.0 all.1 c.lines.window (g.S.Source.rest c.next_line_within.new.source) (g.met.D.Disk.is_disk c.settle.new.disk) c.in-Err-next_line_within.ensures.none).1

pub returns-in-Err-next_line_within-clause-disk_cause : goal.returns-in-Err-next_line_within-clause-disk_cause
returns-in-Err-next_line_within-clause-disk_cause g c =
    blames_none _ (g.D.Disk.state c.args.disk.now).faults (g.D.Disk.state c.settle.new.disk).faults (c.in-Ok.ensures.disk_cause.quiet (λ is. cc is) ∙ c.lines.invariant.1) (λ e. absurd cc)

pub returns-in-Err-next_line_within-clause-source_cause : goal.returns-in-Err-next_line_within-clause-source_cause
returns-in-Err-next_line_within-clause-source_cause g c =
    blames_from _ _ (g.S.Source.faults c.args.source.now) (g.S.Source.faults c.lines.source) (g.S.Source.faults c.next_line_within.new.source) c.lines.invariant.3 (λ e. refl) (λ e. refl) c.in-Err-next_line_within.ensures.cause

pub returns-in-Err-next_line_within-clause-out_cause : goal.returns-in-Err-next_line_within-clause-out_cause
returns-in-Err-next_line_within-clause-out_cause g c =
    blames_none _ (g.K.Sink.faults c.args.out.now) (g.K.Sink.faults c.settle.new.out) (c.in-Ok.ensures.out_cause.quiet (λ is. cc is) ∙ c.lines.invariant.2) (λ e. absurd cc)

pub returns-in-Err-hear-clause-keeps : goal.returns-in-Err-hear-clause-keeps
returns-in-Err-hear-clause-keeps g c =
    λ was content first is.
    let x = c.lines.invariant.0 was content first is in
    let y = hosting_settled c.args.limit content (g.D.Disk.state was) (output g.K.Sink.held g.K.Sink.calls g.K.Sink.faults first) (g.S.Source.rest c.lines.source) (g.D.Disk.state c.lines.disk) (output g.K.Sink.held g.K.Sink.calls g.K.Sink.faults c.lines.out) c.lines.window c.lines.host x (g.D.Disk.state c.settle.new.disk) (output g.K.Sink.held g.K.Sink.calls g.K.Sink.faults c.settle.new.out) c.settle.new.self c.is_none-is_last.result (c.settle.new.disk ≡ c.lines.disk) (c.settle.new.out ≡ c.lines.out) (λ (same : c.settle.new.disk ≡ c.lines.disk) P is. subst (λ d. P (g.D.Disk.state d)) (sym same) is) (λ (same : c.settle.new.out ≡ c.lines.out) P is. subst (λ o. P (output g.K.Sink.held g.K.Sink.calls g.K.Sink.faults o)) (sym same) is) c.in-Ok.ensures.keeps in
    let finds = subst (λ (n : Next). FindsNextWithin most_envelope c.lines.window c.next_line_within.new.window (g.S.Source.rest c.lines.source) (g.S.Source.rest c.next_line_within.new.source) n) c.in-Line.is c.in-Ok-next_line_within.ensures.finds in
    let line = take c.in-Line.size c.next_line_within.new.window.held in
    let same_line : take c.in-Line.size c.held-in-Line.result.now ≡ line = ap (λ (l : List ℕ). take c.in-Line.size l) c.held-in-Line.ensures.held in
    let breaks = subst (λ (l : List ℕ). BreaksLine c.in-Err-hear.fault l c.settle.new.self c.hear.new.self (g.D.Disk.state c.settle.new.disk) (g.D.Disk.state c.hear.new.disk) (c.hear.new.disk ≡ c.settle.new.disk)) same_line c.in-Err-hear.ensures.broken in
    (line_broken c.args.limit content (g.D.Disk.state was) (output g.K.Sink.held g.K.Sink.calls g.K.Sink.faults first) (g.S.Source.rest c.lines.source) (g.D.Disk.state c.settle.new.disk) (output g.K.Sink.held g.K.Sink.calls g.K.Sink.faults c.settle.new.out) c.lines.window c.settle.new.self y c.next_line_within.new.window (g.S.Source.rest c.next_line_within.new.source) c.in-Line.size finds c.hear.new.self (g.D.Disk.state c.hear.new.disk) (c.hear.new.disk ≡ c.settle.new.disk) (g.met.D.Disk.is_disk c.settle.new.disk) (g.met.D.Disk.is_disk c.hear.new.disk) (λ (same : c.hear.new.disk ≡ c.settle.new.disk) P is. subst (λ d. P (g.D.Disk.state d)) (sym same) is) (output g.K.Sink.held g.K.Sink.calls g.K.Sink.faults c.stop.new.out) (c.stop.new.out ≡ c.settle.new.out) c.in-Err-hear.fault c.stop.result (λ (same : c.stop.new.out ≡ c.settle.new.out) P is. subst (λ o. P (output g.K.Sink.held g.K.Sink.calls g.K.Sink.faults o)) (sym same) is) breaks c.stop.ensures.stops).0

pub returns-in-Err-hear-clause-comes : goal.returns-in-Err-hear-clause-comes
returns-in-Err-hear-clause-comes g c =
    λ was content first is.
    let x = c.lines.invariant.0 was content first is in
    let y = hosting_settled c.args.limit content (g.D.Disk.state was) (output g.K.Sink.held g.K.Sink.calls g.K.Sink.faults first) (g.S.Source.rest c.lines.source) (g.D.Disk.state c.lines.disk) (output g.K.Sink.held g.K.Sink.calls g.K.Sink.faults c.lines.out) c.lines.window c.lines.host x (g.D.Disk.state c.settle.new.disk) (output g.K.Sink.held g.K.Sink.calls g.K.Sink.faults c.settle.new.out) c.settle.new.self c.is_none-is_last.result (c.settle.new.disk ≡ c.lines.disk) (c.settle.new.out ≡ c.lines.out) (λ (same : c.settle.new.disk ≡ c.lines.disk) P is. subst (λ d. P (g.D.Disk.state d)) (sym same) is) (λ (same : c.settle.new.out ≡ c.lines.out) P is. subst (λ o. P (output g.K.Sink.held g.K.Sink.calls g.K.Sink.faults o)) (sym same) is) c.in-Ok.ensures.keeps in
    let finds = subst (λ (n : Next). FindsNextWithin most_envelope c.lines.window c.next_line_within.new.window (g.S.Source.rest c.lines.source) (g.S.Source.rest c.next_line_within.new.source) n) c.in-Line.is c.in-Ok-next_line_within.ensures.finds in
    let line = take c.in-Line.size c.next_line_within.new.window.held in
    let same_line : take c.in-Line.size c.held-in-Line.result.now ≡ line = ap (λ (l : List ℕ). take c.in-Line.size l) c.held-in-Line.ensures.held in
    let breaks = subst (λ (l : List ℕ). BreaksLine c.in-Err-hear.fault l c.settle.new.self c.hear.new.self (g.D.Disk.state c.settle.new.disk) (g.D.Disk.state c.hear.new.disk) (c.hear.new.disk ≡ c.settle.new.disk)) same_line c.in-Err-hear.ensures.broken in
    (line_broken c.args.limit content (g.D.Disk.state was) (output g.K.Sink.held g.K.Sink.calls g.K.Sink.faults first) (g.S.Source.rest c.lines.source) (g.D.Disk.state c.settle.new.disk) (output g.K.Sink.held g.K.Sink.calls g.K.Sink.faults c.settle.new.out) c.lines.window c.settle.new.self y c.next_line_within.new.window (g.S.Source.rest c.next_line_within.new.source) c.in-Line.size finds c.hear.new.self (g.D.Disk.state c.hear.new.disk) (c.hear.new.disk ≡ c.settle.new.disk) (g.met.D.Disk.is_disk c.settle.new.disk) (g.met.D.Disk.is_disk c.hear.new.disk) (λ (same : c.hear.new.disk ≡ c.settle.new.disk) P is. subst (λ d. P (g.D.Disk.state d)) (sym same) is) (output g.K.Sink.held g.K.Sink.calls g.K.Sink.faults c.stop.new.out) (c.stop.new.out ≡ c.settle.new.out) c.in-Err-hear.fault c.stop.result (λ (same : c.stop.new.out ≡ c.settle.new.out) P is. subst (λ o. P (output g.K.Sink.held g.K.Sink.calls g.K.Sink.faults o)) (sym same) is) breaks c.stop.ensures.stops).1

pub returns-in-Err-hear-clause-disk_cause : goal.returns-in-Err-hear-clause-disk_cause
returns-in-Err-hear-clause-disk_cause g c =
    blames_from _ _ (g.D.Disk.state c.args.disk.now).faults (g.D.Disk.state c.settle.new.disk).faults (g.D.Disk.state c.hear.new.disk).faults (c.in-Ok.ensures.disk_cause.quiet (λ is. cc is) ∙ c.lines.invariant.1) (λ e. ap (λ (f : HostFault). Err f) ((stops_disk c.in-Err-hear.fault c.stop.result c.hear.new.self (output g.K.Sink.held g.K.Sink.calls g.K.Sink.faults c.settle.new.out) (output g.K.Sink.held g.K.Sink.calls g.K.Sink.faults c.stop.new.out) (c.stop.new.out ≡ c.settle.new.out) c.stop.ensures.stops).0 (same_result c.in-Err-hear.fault Disk e))) (λ e. ap (λ (f : HostFault). Err f) ((stops_disk c.in-Err-hear.fault c.stop.result c.hear.new.self (output g.K.Sink.held g.K.Sink.calls g.K.Sink.faults c.settle.new.out) (output g.K.Sink.held g.K.Sink.calls g.K.Sink.faults c.stop.new.out) (c.stop.new.out ≡ c.settle.new.out) c.stop.ensures.stops).1 (same_result c.stop.result Disk e))) c.in-Err-hear.ensures.disk_cause

pub returns-in-Err-hear-clause-source_cause : goal.returns-in-Err-hear-clause-source_cause
returns-in-Err-hear-clause-source_cause g c =
    blames_none _ (g.S.Source.faults c.args.source.now) (g.S.Source.faults c.next_line_within.new.source) (c.in-Ok-next_line_within.ensures.cause.quiet (λ is. cc is) ∙ c.lines.invariant.3) (λ e. c.in-Err-hear.ensures.own.1 (ap (λ (f : HostFault). Err f) ((stops_disk c.in-Err-hear.fault c.stop.result c.hear.new.self (output g.K.Sink.held g.K.Sink.calls g.K.Sink.faults c.settle.new.out) (output g.K.Sink.held g.K.Sink.calls g.K.Sink.faults c.stop.new.out) (c.stop.new.out ≡ c.settle.new.out) c.stop.ensures.stops).2 (same_result c.stop.result Read e))))

pub returns-in-Err-hear-clause-out_cause : goal.returns-in-Err-hear-clause-out_cause
returns-in-Err-hear-clause-out_cause g c =
    blames_from _ _ (g.K.Sink.faults c.args.out.now) (g.K.Sink.faults c.settle.new.out) (g.K.Sink.faults c.stop.new.out) (c.in-Ok.ensures.out_cause.quiet (λ is. cc is) ∙ c.lines.invariant.2) (λ e. ap (λ (f : HostFault). Err f) e) (λ e. same_result c.stop.result Write e) (c.stop.ensures.out_cause (λ e. c.in-Err-hear.ensures.own.0 (ap (λ (f : HostFault). Err f) e)))

pub returns-in-Err-end_line-clause-keeps : goal.returns-in-Err-end_line-clause-keeps
returns-in-Err-end_line-clause-keeps g c =
    λ was content first is.
    let x = c.lines.invariant.0 was content first is in
    let y = hosting_settled c.args.limit content (g.D.Disk.state was) (output g.K.Sink.held g.K.Sink.calls g.K.Sink.faults first) (g.S.Source.rest c.lines.source) (g.D.Disk.state c.lines.disk) (output g.K.Sink.held g.K.Sink.calls g.K.Sink.faults c.lines.out) c.lines.window c.lines.host x (g.D.Disk.state c.settle.new.disk) (output g.K.Sink.held g.K.Sink.calls g.K.Sink.faults c.settle.new.out) c.settle.new.self c.is_none-is_last.result (c.settle.new.disk ≡ c.lines.disk) (c.settle.new.out ≡ c.lines.out) (λ (same : c.settle.new.disk ≡ c.lines.disk) P is. subst (λ d. P (g.D.Disk.state d)) (sym same) is) (λ (same : c.settle.new.out ≡ c.lines.out) P is. subst (λ o. P (output g.K.Sink.held g.K.Sink.calls g.K.Sink.faults o)) (sym same) is) c.in-Ok.ensures.keeps in
    let finds = subst (λ (n : Next). FindsNextWithin most_envelope c.lines.window c.next_line_within.new.window (g.S.Source.rest c.lines.source) (g.S.Source.rest c.next_line_within.new.source) n) c.in-Line.is c.in-Ok-next_line_within.ensures.finds in
    let line = take c.in-Line.size c.next_line_within.new.window.held in
    let same_line : take c.in-Line.size c.held-in-Line.result.now ≡ line = ap (λ (l : List ℕ). take c.in-Line.size l) c.held-in-Line.ensures.held in
    let heard = subst (λ (l : List ℕ). HearsLine l c.settle.new.self c.hear.new.self (g.D.Disk.state c.settle.new.disk) (g.D.Disk.state c.hear.new.disk) (c.hear.new.disk ≡ c.settle.new.disk)) same_line c.in-Ok-hear.ensures.hears in
    (unended c.args.limit content (g.D.Disk.state was) (output g.K.Sink.held g.K.Sink.calls g.K.Sink.faults first) (g.S.Source.rest c.lines.source) (g.D.Disk.state c.settle.new.disk) (output g.K.Sink.held g.K.Sink.calls g.K.Sink.faults c.settle.new.out) c.lines.window c.settle.new.self y c.next_line_within.new.window (g.S.Source.rest c.next_line_within.new.source) c.in-Line.size finds c.hear.new.self (g.D.Disk.state c.hear.new.disk) (c.hear.new.disk ≡ c.settle.new.disk) (g.met.D.Disk.is_disk c.settle.new.disk) (g.met.D.Disk.is_disk c.hear.new.disk) (λ (same : c.hear.new.disk ≡ c.settle.new.disk) P is. subst (λ d. P (g.D.Disk.state d)) (sym same) is) heard c.end_line.new.self (g.D.Disk.state c.end_line.new.disk) (output g.K.Sink.held g.K.Sink.calls g.K.Sink.faults c.end_line.new.out) (c.end_line.new.disk ≡ c.hear.new.disk) (c.end_line.new.out ≡ c.settle.new.out) (λ (same : c.end_line.new.disk ≡ c.hear.new.disk) P is. subst (λ d. P (g.D.Disk.state d)) (sym same) is) (λ (same : c.end_line.new.out ≡ c.settle.new.out) P is. subst (λ o. P (output g.K.Sink.held g.K.Sink.calls g.K.Sink.faults o)) (sym same) is) c.in-Err-end_line.fault (g.met.D.Disk.is_disk c.end_line.new.disk) c.in-Err-end_line.ensures.broken).0

pub returns-in-Err-end_line-clause-comes : goal.returns-in-Err-end_line-clause-comes
returns-in-Err-end_line-clause-comes g c =
    λ was content first is.
    let x = c.lines.invariant.0 was content first is in
    let y = hosting_settled c.args.limit content (g.D.Disk.state was) (output g.K.Sink.held g.K.Sink.calls g.K.Sink.faults first) (g.S.Source.rest c.lines.source) (g.D.Disk.state c.lines.disk) (output g.K.Sink.held g.K.Sink.calls g.K.Sink.faults c.lines.out) c.lines.window c.lines.host x (g.D.Disk.state c.settle.new.disk) (output g.K.Sink.held g.K.Sink.calls g.K.Sink.faults c.settle.new.out) c.settle.new.self c.is_none-is_last.result (c.settle.new.disk ≡ c.lines.disk) (c.settle.new.out ≡ c.lines.out) (λ (same : c.settle.new.disk ≡ c.lines.disk) P is. subst (λ d. P (g.D.Disk.state d)) (sym same) is) (λ (same : c.settle.new.out ≡ c.lines.out) P is. subst (λ o. P (output g.K.Sink.held g.K.Sink.calls g.K.Sink.faults o)) (sym same) is) c.in-Ok.ensures.keeps in
    let finds = subst (λ (n : Next). FindsNextWithin most_envelope c.lines.window c.next_line_within.new.window (g.S.Source.rest c.lines.source) (g.S.Source.rest c.next_line_within.new.source) n) c.in-Line.is c.in-Ok-next_line_within.ensures.finds in
    let line = take c.in-Line.size c.next_line_within.new.window.held in
    let same_line : take c.in-Line.size c.held-in-Line.result.now ≡ line = ap (λ (l : List ℕ). take c.in-Line.size l) c.held-in-Line.ensures.held in
    let heard = subst (λ (l : List ℕ). HearsLine l c.settle.new.self c.hear.new.self (g.D.Disk.state c.settle.new.disk) (g.D.Disk.state c.hear.new.disk) (c.hear.new.disk ≡ c.settle.new.disk)) same_line c.in-Ok-hear.ensures.hears in
    (unended c.args.limit content (g.D.Disk.state was) (output g.K.Sink.held g.K.Sink.calls g.K.Sink.faults first) (g.S.Source.rest c.lines.source) (g.D.Disk.state c.settle.new.disk) (output g.K.Sink.held g.K.Sink.calls g.K.Sink.faults c.settle.new.out) c.lines.window c.settle.new.self y c.next_line_within.new.window (g.S.Source.rest c.next_line_within.new.source) c.in-Line.size finds c.hear.new.self (g.D.Disk.state c.hear.new.disk) (c.hear.new.disk ≡ c.settle.new.disk) (g.met.D.Disk.is_disk c.settle.new.disk) (g.met.D.Disk.is_disk c.hear.new.disk) (λ (same : c.hear.new.disk ≡ c.settle.new.disk) P is. subst (λ d. P (g.D.Disk.state d)) (sym same) is) heard c.end_line.new.self (g.D.Disk.state c.end_line.new.disk) (output g.K.Sink.held g.K.Sink.calls g.K.Sink.faults c.end_line.new.out) (c.end_line.new.disk ≡ c.hear.new.disk) (c.end_line.new.out ≡ c.settle.new.out) (λ (same : c.end_line.new.disk ≡ c.hear.new.disk) P is. subst (λ d. P (g.D.Disk.state d)) (sym same) is) (λ (same : c.end_line.new.out ≡ c.settle.new.out) P is. subst (λ o. P (output g.K.Sink.held g.K.Sink.calls g.K.Sink.faults o)) (sym same) is) c.in-Err-end_line.fault (g.met.D.Disk.is_disk c.end_line.new.disk) c.in-Err-end_line.ensures.broken).1

pub returns-in-Err-end_line-clause-disk_cause : goal.returns-in-Err-end_line-clause-disk_cause
returns-in-Err-end_line-clause-disk_cause g c =
    blames_from _ _ (g.D.Disk.state c.args.disk.now).faults (g.D.Disk.state c.hear.new.disk).faults (g.D.Disk.state c.end_line.new.disk).faults (c.in-Ok-hear.ensures.disk_cause.quiet (λ is. cc is) ∙ (c.in-Ok.ensures.disk_cause.quiet (λ is. cc is) ∙ c.lines.invariant.1)) (λ e. e) (λ e. e) c.in-Err-end_line.ensures.disk_cause

pub returns-in-Err-end_line-clause-source_cause : goal.returns-in-Err-end_line-clause-source_cause
returns-in-Err-end_line-clause-source_cause g c =
    blames_none _ (g.S.Source.faults c.args.source.now) (g.S.Source.faults c.next_line_within.new.source) (c.in-Ok-next_line_within.ensures.cause.quiet (λ is. cc is) ∙ c.lines.invariant.3) (λ e. end_own c.in-Err-end_line.fault c.end_line.new.self c.hear.new.self (g.D.Disk.state c.hear.new.disk) (g.D.Disk.state c.end_line.new.disk) (output g.K.Sink.held g.K.Sink.calls g.K.Sink.faults c.settle.new.out) (output g.K.Sink.held g.K.Sink.calls g.K.Sink.faults c.end_line.new.out) (c.end_line.new.disk ≡ c.hear.new.disk) (c.end_line.new.out ≡ c.settle.new.out) c.in-Err-end_line.ensures.broken (same_result c.in-Err-end_line.fault Read e))

pub returns-in-Err-end_line-clause-out_cause : goal.returns-in-Err-end_line-clause-out_cause
returns-in-Err-end_line-clause-out_cause g c =
    blames_from _ _ (g.K.Sink.faults c.args.out.now) (g.K.Sink.faults c.settle.new.out) (g.K.Sink.faults c.end_line.new.out) (c.in-Ok.ensures.out_cause.quiet (λ is. cc is) ∙ c.lines.invariant.2) (λ e. e) (λ e. e) c.in-Err-end_line.ensures.out_cause

pub returns-in-Err-answer_long-clause-keeps : goal.returns-in-Err-answer_long-clause-keeps
returns-in-Err-answer_long-clause-keeps g c =
    λ was content first is.
    let x = c.lines.invariant.0 was content first is in
    let y = hosting_settled c.args.limit content (g.D.Disk.state was) (output g.K.Sink.held g.K.Sink.calls g.K.Sink.faults first) (g.S.Source.rest c.lines.source) (g.D.Disk.state c.lines.disk) (output g.K.Sink.held g.K.Sink.calls g.K.Sink.faults c.lines.out) c.lines.window c.lines.host x (g.D.Disk.state c.settle.new.disk) (output g.K.Sink.held g.K.Sink.calls g.K.Sink.faults c.settle.new.out) c.settle.new.self c.is_none-is_last.result (c.settle.new.disk ≡ c.lines.disk) (c.settle.new.out ≡ c.lines.out) (λ (same : c.settle.new.disk ≡ c.lines.disk) P is. subst (λ d. P (g.D.Disk.state d)) (sym same) is) (λ (same : c.settle.new.out ≡ c.lines.out) P is. subst (λ o. P (output g.K.Sink.held g.K.Sink.calls g.K.Sink.faults o)) (sym same) is) c.in-Ok.ensures.keeps in
    (out_of_memory c.args.limit content (g.D.Disk.state was) (output g.K.Sink.held g.K.Sink.calls g.K.Sink.faults first) (g.S.Source.rest c.lines.source) (g.D.Disk.state c.settle.new.disk) (output g.K.Sink.held g.K.Sink.calls g.K.Sink.faults c.settle.new.out) c.lines.window c.settle.new.self y (g.S.Source.rest c.next_line_within.new.source) (g.met.D.Disk.is_disk c.settle.new.disk)).0

pub returns-in-Err-answer_long-clause-comes : goal.returns-in-Err-answer_long-clause-comes
returns-in-Err-answer_long-clause-comes g c =
    λ was content first is.
    let x = c.lines.invariant.0 was content first is in
    let y = hosting_settled c.args.limit content (g.D.Disk.state was) (output g.K.Sink.held g.K.Sink.calls g.K.Sink.faults first) (g.S.Source.rest c.lines.source) (g.D.Disk.state c.lines.disk) (output g.K.Sink.held g.K.Sink.calls g.K.Sink.faults c.lines.out) c.lines.window c.lines.host x (g.D.Disk.state c.settle.new.disk) (output g.K.Sink.held g.K.Sink.calls g.K.Sink.faults c.settle.new.out) c.settle.new.self c.is_none-is_last.result (c.settle.new.disk ≡ c.lines.disk) (c.settle.new.out ≡ c.lines.out) (λ (same : c.settle.new.disk ≡ c.lines.disk) P is. subst (λ d. P (g.D.Disk.state d)) (sym same) is) (λ (same : c.settle.new.out ≡ c.lines.out) P is. subst (λ o. P (output g.K.Sink.held g.K.Sink.calls g.K.Sink.faults o)) (sym same) is) c.in-Ok.ensures.keeps in
    (out_of_memory c.args.limit content (g.D.Disk.state was) (output g.K.Sink.held g.K.Sink.calls g.K.Sink.faults first) (g.S.Source.rest c.lines.source) (g.D.Disk.state c.settle.new.disk) (output g.K.Sink.held g.K.Sink.calls g.K.Sink.faults c.settle.new.out) c.lines.window c.settle.new.self y (g.S.Source.rest c.next_line_within.new.source) (g.met.D.Disk.is_disk c.settle.new.disk)).1

pub returns-in-Err-answer_long-clause-disk_cause : goal.returns-in-Err-answer_long-clause-disk_cause
returns-in-Err-answer_long-clause-disk_cause g c =
    blames_none _ (g.D.Disk.state c.args.disk.now).faults (g.D.Disk.state c.settle.new.disk).faults (c.in-Ok.ensures.disk_cause.quiet (λ is. cc is) ∙ c.lines.invariant.1) (λ e. absurd cc)

pub returns-in-Err-answer_long-clause-source_cause : goal.returns-in-Err-answer_long-clause-source_cause
returns-in-Err-answer_long-clause-source_cause g c =
    blames_none _ (g.S.Source.faults c.args.source.now) (g.S.Source.faults c.next_line_within.new.source) (c.in-Ok-next_line_within.ensures.cause.quiet (λ is. cc is) ∙ c.lines.invariant.3) (λ e. absurd cc)

pub returns-in-Err-answer_long-clause-out_cause : goal.returns-in-Err-answer_long-clause-out_cause
returns-in-Err-answer_long-clause-out_cause g c =
    blames_none _ (g.K.Sink.faults c.args.out.now) (g.K.Sink.faults c.settle.new.out) (c.in-Ok.ensures.out_cause.quiet (λ is. cc is) ∙ c.lines.invariant.2) (λ e. absurd cc)

pub returns-in-Limit-clause-keeps : goal.returns-in-Limit-clause-keeps
returns-in-Limit-clause-keeps g c =
    λ was content first is.
    let x = c.lines.invariant.0 was content first is in
    let y = hosting_settled c.args.limit content (g.D.Disk.state was) (output g.K.Sink.held g.K.Sink.calls g.K.Sink.faults first) (g.S.Source.rest c.lines.source) (g.D.Disk.state c.lines.disk) (output g.K.Sink.held g.K.Sink.calls g.K.Sink.faults c.lines.out) c.lines.window c.lines.host x (g.D.Disk.state c.settle.new.disk) (output g.K.Sink.held g.K.Sink.calls g.K.Sink.faults c.settle.new.out) c.settle.new.self c.is_none-is_last.result (c.settle.new.disk ≡ c.lines.disk) (c.settle.new.out ≡ c.lines.out) (λ (same : c.settle.new.disk ≡ c.lines.disk) P is. subst (λ d. P (g.D.Disk.state d)) (sym same) is) (λ (same : c.settle.new.out ≡ c.lines.out) P is. subst (λ o. P (output g.K.Sink.held g.K.Sink.calls g.K.Sink.faults o)) (sym same) is) c.in-Ok.ensures.keeps in
    let finds = subst (λ (n : Next). FindsNextWithin most_envelope c.lines.window c.next_line_within.new.window (g.S.Source.rest c.lines.source) (g.S.Source.rest c.next_line_within.new.source) n) c.in-Limit.is c.in-Ok-next_line_within.ensures.finds in
    let all = all_settled c.args.limit content (g.D.Disk.state was) (output g.K.Sink.held g.K.Sink.calls g.K.Sink.faults first) (g.S.Source.rest c.lines.source) (g.D.Disk.state c.lines.disk) (output g.K.Sink.held g.K.Sink.calls g.K.Sink.faults c.lines.out) c.lines.window c.lines.host x (g.D.Disk.state c.settle.new.disk) (output g.K.Sink.held g.K.Sink.calls g.K.Sink.faults c.settle.new.out) c.settle.new.self c.is_none-is_last.result (c.settle.new.disk ≡ c.lines.disk) (c.settle.new.out ≡ c.lines.out) c.in-Ok.ensures.keeps
    (none_found c.lines.window.held c.memchr.result c.is_none-is_last.result (subst (λ (l : List ℕ). IsFirstByte (is_byte 10) l c.memchr.result) c.held.ensures.held c.memchr.ensures) (unread_piece c.lines.window.held finds.joined finds.is.0) c.is_none-is_last.ensures) in
    (limited c.args.limit content (g.D.Disk.state was) (output g.K.Sink.held g.K.Sink.calls g.K.Sink.faults first) (g.S.Source.rest c.lines.source) (g.D.Disk.state c.settle.new.disk) (output g.K.Sink.held g.K.Sink.calls g.K.Sink.faults c.settle.new.out) c.lines.window c.settle.new.self y all.0 all.1 c.next_line_within.new.window (g.S.Source.rest c.next_line_within.new.source) (g.met.D.Disk.is_disk c.settle.new.disk) finds).0

pub returns-in-Limit-clause-comes : goal.returns-in-Limit-clause-comes
returns-in-Limit-clause-comes g c =
    λ was content first is.
    let x = c.lines.invariant.0 was content first is in
    let y = hosting_settled c.args.limit content (g.D.Disk.state was) (output g.K.Sink.held g.K.Sink.calls g.K.Sink.faults first) (g.S.Source.rest c.lines.source) (g.D.Disk.state c.lines.disk) (output g.K.Sink.held g.K.Sink.calls g.K.Sink.faults c.lines.out) c.lines.window c.lines.host x (g.D.Disk.state c.settle.new.disk) (output g.K.Sink.held g.K.Sink.calls g.K.Sink.faults c.settle.new.out) c.settle.new.self c.is_none-is_last.result (c.settle.new.disk ≡ c.lines.disk) (c.settle.new.out ≡ c.lines.out) (λ (same : c.settle.new.disk ≡ c.lines.disk) P is. subst (λ d. P (g.D.Disk.state d)) (sym same) is) (λ (same : c.settle.new.out ≡ c.lines.out) P is. subst (λ o. P (output g.K.Sink.held g.K.Sink.calls g.K.Sink.faults o)) (sym same) is) c.in-Ok.ensures.keeps in
    let finds = subst (λ (n : Next). FindsNextWithin most_envelope c.lines.window c.next_line_within.new.window (g.S.Source.rest c.lines.source) (g.S.Source.rest c.next_line_within.new.source) n) c.in-Limit.is c.in-Ok-next_line_within.ensures.finds in
    let all = all_settled c.args.limit content (g.D.Disk.state was) (output g.K.Sink.held g.K.Sink.calls g.K.Sink.faults first) (g.S.Source.rest c.lines.source) (g.D.Disk.state c.lines.disk) (output g.K.Sink.held g.K.Sink.calls g.K.Sink.faults c.lines.out) c.lines.window c.lines.host x (g.D.Disk.state c.settle.new.disk) (output g.K.Sink.held g.K.Sink.calls g.K.Sink.faults c.settle.new.out) c.settle.new.self c.is_none-is_last.result (c.settle.new.disk ≡ c.lines.disk) (c.settle.new.out ≡ c.lines.out) c.in-Ok.ensures.keeps
    (none_found c.lines.window.held c.memchr.result c.is_none-is_last.result (subst (λ (l : List ℕ). IsFirstByte (is_byte 10) l c.memchr.result) c.held.ensures.held c.memchr.ensures) (unread_piece c.lines.window.held finds.joined finds.is.0) c.is_none-is_last.ensures) in
    (limited c.args.limit content (g.D.Disk.state was) (output g.K.Sink.held g.K.Sink.calls g.K.Sink.faults first) (g.S.Source.rest c.lines.source) (g.D.Disk.state c.settle.new.disk) (output g.K.Sink.held g.K.Sink.calls g.K.Sink.faults c.settle.new.out) c.lines.window c.settle.new.self y all.0 all.1 c.next_line_within.new.window (g.S.Source.rest c.next_line_within.new.source) (g.met.D.Disk.is_disk c.settle.new.disk) finds).1

pub returns-in-Limit-clause-disk_cause : goal.returns-in-Limit-clause-disk_cause
returns-in-Limit-clause-disk_cause g c =
    blames_none _ (g.D.Disk.state c.args.disk.now).faults (g.D.Disk.state c.settle.new.disk).faults (c.in-Ok.ensures.disk_cause.quiet (λ is. cc is) ∙ c.lines.invariant.1) (λ e. absurd cc)

pub returns-in-Limit-clause-source_cause : goal.returns-in-Limit-clause-source_cause
returns-in-Limit-clause-source_cause g c =
    blames_none _ (g.S.Source.faults c.args.source.now) (g.S.Source.faults c.next_line_within.new.source) (c.in-Ok-next_line_within.ensures.cause.quiet (λ is. cc is) ∙ c.lines.invariant.3) (λ e. absurd cc)

pub returns-in-Limit-clause-out_cause : goal.returns-in-Limit-clause-out_cause
returns-in-Limit-clause-out_cause g c =
    blames_none _ (g.K.Sink.faults c.args.out.now) (g.K.Sink.faults c.settle.new.out) (c.in-Ok.ensures.out_cause.quiet (λ is. cc is) ∙ c.lines.invariant.2) (λ e. absurd cc)

pub returns-in-Last-clause-keeps : goal.returns-in-Last-clause-keeps
returns-in-Last-clause-keeps g c =
    λ was content first is.
    let x = c.lines.invariant.0 was content first is in
    let y = hosting_settled c.args.limit content (g.D.Disk.state was) (output g.K.Sink.held g.K.Sink.calls g.K.Sink.faults first) (g.S.Source.rest c.lines.source) (g.D.Disk.state c.lines.disk) (output g.K.Sink.held g.K.Sink.calls g.K.Sink.faults c.lines.out) c.lines.window c.lines.host x (g.D.Disk.state c.settle.new.disk) (output g.K.Sink.held g.K.Sink.calls g.K.Sink.faults c.settle.new.out) c.settle.new.self c.is_none-is_last.result (c.settle.new.disk ≡ c.lines.disk) (c.settle.new.out ≡ c.lines.out) (λ (same : c.settle.new.disk ≡ c.lines.disk) P is. subst (λ d. P (g.D.Disk.state d)) (sym same) is) (λ (same : c.settle.new.out ≡ c.lines.out) P is. subst (λ o. P (output g.K.Sink.held g.K.Sink.calls g.K.Sink.faults o)) (sym same) is) c.in-Ok.ensures.keeps in
    let finds = subst (λ (n : Next). FindsNextWithin most_envelope c.lines.window c.next_line_within.new.window (g.S.Source.rest c.lines.source) (g.S.Source.rest c.next_line_within.new.source) n) c.in-Last.is c.in-Ok-next_line_within.ensures.finds in
    let all = all_settled c.args.limit content (g.D.Disk.state was) (output g.K.Sink.held g.K.Sink.calls g.K.Sink.faults first) (g.S.Source.rest c.lines.source) (g.D.Disk.state c.lines.disk) (output g.K.Sink.held g.K.Sink.calls g.K.Sink.faults c.lines.out) c.lines.window c.lines.host x (g.D.Disk.state c.settle.new.disk) (output g.K.Sink.held g.K.Sink.calls g.K.Sink.faults c.settle.new.out) c.settle.new.self c.is_none-is_last.result (c.settle.new.disk ≡ c.lines.disk) (c.settle.new.out ≡ c.lines.out) c.in-Ok.ensures.keeps
    (none_found c.lines.window.held c.memchr.result c.is_none-is_last.result (subst (λ (l : List ℕ). IsFirstByte (is_byte 10) l c.memchr.result) c.held.ensures.held c.memchr.ensures) (unread_piece c.lines.window.held finds.joined finds.is.4) c.is_none-is_last.ensures) in
    (ended c.args.limit content (g.D.Disk.state was) (output g.K.Sink.held g.K.Sink.calls g.K.Sink.faults first) (g.S.Source.rest c.lines.source) (g.D.Disk.state c.settle.new.disk) (output g.K.Sink.held g.K.Sink.calls g.K.Sink.faults c.settle.new.out) c.lines.window c.settle.new.self y all.0 all.1 c.next_line_within.new.window (g.S.Source.rest c.next_line_within.new.source) (g.met.D.Disk.is_disk c.settle.new.disk) next.Last (inl refl) finds).0

pub returns-in-Last-clause-comes : goal.returns-in-Last-clause-comes
returns-in-Last-clause-comes g c =
    λ was content first is.
    let x = c.lines.invariant.0 was content first is in
    let y = hosting_settled c.args.limit content (g.D.Disk.state was) (output g.K.Sink.held g.K.Sink.calls g.K.Sink.faults first) (g.S.Source.rest c.lines.source) (g.D.Disk.state c.lines.disk) (output g.K.Sink.held g.K.Sink.calls g.K.Sink.faults c.lines.out) c.lines.window c.lines.host x (g.D.Disk.state c.settle.new.disk) (output g.K.Sink.held g.K.Sink.calls g.K.Sink.faults c.settle.new.out) c.settle.new.self c.is_none-is_last.result (c.settle.new.disk ≡ c.lines.disk) (c.settle.new.out ≡ c.lines.out) (λ (same : c.settle.new.disk ≡ c.lines.disk) P is. subst (λ d. P (g.D.Disk.state d)) (sym same) is) (λ (same : c.settle.new.out ≡ c.lines.out) P is. subst (λ o. P (output g.K.Sink.held g.K.Sink.calls g.K.Sink.faults o)) (sym same) is) c.in-Ok.ensures.keeps in
    let finds = subst (λ (n : Next). FindsNextWithin most_envelope c.lines.window c.next_line_within.new.window (g.S.Source.rest c.lines.source) (g.S.Source.rest c.next_line_within.new.source) n) c.in-Last.is c.in-Ok-next_line_within.ensures.finds in
    let all = all_settled c.args.limit content (g.D.Disk.state was) (output g.K.Sink.held g.K.Sink.calls g.K.Sink.faults first) (g.S.Source.rest c.lines.source) (g.D.Disk.state c.lines.disk) (output g.K.Sink.held g.K.Sink.calls g.K.Sink.faults c.lines.out) c.lines.window c.lines.host x (g.D.Disk.state c.settle.new.disk) (output g.K.Sink.held g.K.Sink.calls g.K.Sink.faults c.settle.new.out) c.settle.new.self c.is_none-is_last.result (c.settle.new.disk ≡ c.lines.disk) (c.settle.new.out ≡ c.lines.out) c.in-Ok.ensures.keeps
    (none_found c.lines.window.held c.memchr.result c.is_none-is_last.result (subst (λ (l : List ℕ). IsFirstByte (is_byte 10) l c.memchr.result) c.held.ensures.held c.memchr.ensures) (unread_piece c.lines.window.held finds.joined finds.is.4) c.is_none-is_last.ensures) in
    (ended c.args.limit content (g.D.Disk.state was) (output g.K.Sink.held g.K.Sink.calls g.K.Sink.faults first) (g.S.Source.rest c.lines.source) (g.D.Disk.state c.settle.new.disk) (output g.K.Sink.held g.K.Sink.calls g.K.Sink.faults c.settle.new.out) c.lines.window c.settle.new.self y all.0 all.1 c.next_line_within.new.window (g.S.Source.rest c.next_line_within.new.source) (g.met.D.Disk.is_disk c.settle.new.disk) next.Last (inl refl) finds).1

pub returns-in-Last-clause-disk_cause : goal.returns-in-Last-clause-disk_cause
returns-in-Last-clause-disk_cause g c =
    blames_none _ (g.D.Disk.state c.args.disk.now).faults (g.D.Disk.state c.settle.new.disk).faults (c.in-Ok.ensures.disk_cause.quiet (λ is. cc is) ∙ c.lines.invariant.1) (λ e. absurd cc)

pub returns-in-Last-clause-source_cause : goal.returns-in-Last-clause-source_cause
returns-in-Last-clause-source_cause g c =
    blames_none _ (g.S.Source.faults c.args.source.now) (g.S.Source.faults c.next_line_within.new.source) (c.in-Ok-next_line_within.ensures.cause.quiet (λ is. cc is) ∙ c.lines.invariant.3) (λ e. absurd cc)

pub returns-in-Last-clause-out_cause : goal.returns-in-Last-clause-out_cause
returns-in-Last-clause-out_cause g c =
    blames_none _ (g.K.Sink.faults c.args.out.now) (g.K.Sink.faults c.settle.new.out) (c.in-Ok.ensures.out_cause.quiet (λ is. cc is) ∙ c.lines.invariant.2) (λ e. absurd cc)

pub returns-in-LongLast-clause-keeps : goal.returns-in-LongLast-clause-keeps
returns-in-LongLast-clause-keeps g c =
    λ was content first is.
    let x = c.lines.invariant.0 was content first is in
    let y = hosting_settled c.args.limit content (g.D.Disk.state was) (output g.K.Sink.held g.K.Sink.calls g.K.Sink.faults first) (g.S.Source.rest c.lines.source) (g.D.Disk.state c.lines.disk) (output g.K.Sink.held g.K.Sink.calls g.K.Sink.faults c.lines.out) c.lines.window c.lines.host x (g.D.Disk.state c.settle.new.disk) (output g.K.Sink.held g.K.Sink.calls g.K.Sink.faults c.settle.new.out) c.settle.new.self c.is_none-is_last.result (c.settle.new.disk ≡ c.lines.disk) (c.settle.new.out ≡ c.lines.out) (λ (same : c.settle.new.disk ≡ c.lines.disk) P is. subst (λ d. P (g.D.Disk.state d)) (sym same) is) (λ (same : c.settle.new.out ≡ c.lines.out) P is. subst (λ o. P (output g.K.Sink.held g.K.Sink.calls g.K.Sink.faults o)) (sym same) is) c.in-Ok.ensures.keeps in
    let finds = subst (λ (n : Next). FindsNextWithin most_envelope c.lines.window c.next_line_within.new.window (g.S.Source.rest c.lines.source) (g.S.Source.rest c.next_line_within.new.source) n) c.in-LongLast.is c.in-Ok-next_line_within.ensures.finds in
    let all = all_settled c.args.limit content (g.D.Disk.state was) (output g.K.Sink.held g.K.Sink.calls g.K.Sink.faults first) (g.S.Source.rest c.lines.source) (g.D.Disk.state c.lines.disk) (output g.K.Sink.held g.K.Sink.calls g.K.Sink.faults c.lines.out) c.lines.window c.lines.host x (g.D.Disk.state c.settle.new.disk) (output g.K.Sink.held g.K.Sink.calls g.K.Sink.faults c.settle.new.out) c.settle.new.self c.is_none-is_last.result (c.settle.new.disk ≡ c.lines.disk) (c.settle.new.out ≡ c.lines.out) c.in-Ok.ensures.keeps
    (none_found c.lines.window.held c.memchr.result c.is_none-is_last.result (subst (λ (l : List ℕ). IsFirstByte (is_byte 10) l c.memchr.result) c.held.ensures.held c.memchr.ensures) (unread_piece c.lines.window.held finds.joined finds.is.1) c.is_none-is_last.ensures) in
    (ended c.args.limit content (g.D.Disk.state was) (output g.K.Sink.held g.K.Sink.calls g.K.Sink.faults first) (g.S.Source.rest c.lines.source) (g.D.Disk.state c.settle.new.disk) (output g.K.Sink.held g.K.Sink.calls g.K.Sink.faults c.settle.new.out) c.lines.window c.settle.new.self y all.0 all.1 c.next_line_within.new.window (g.S.Source.rest c.next_line_within.new.source) (g.met.D.Disk.is_disk c.settle.new.disk) next.LongLast (inr (inl refl)) finds).0

pub returns-in-LongLast-clause-comes : goal.returns-in-LongLast-clause-comes
returns-in-LongLast-clause-comes g c =
    λ was content first is.
    let x = c.lines.invariant.0 was content first is in
    let y = hosting_settled c.args.limit content (g.D.Disk.state was) (output g.K.Sink.held g.K.Sink.calls g.K.Sink.faults first) (g.S.Source.rest c.lines.source) (g.D.Disk.state c.lines.disk) (output g.K.Sink.held g.K.Sink.calls g.K.Sink.faults c.lines.out) c.lines.window c.lines.host x (g.D.Disk.state c.settle.new.disk) (output g.K.Sink.held g.K.Sink.calls g.K.Sink.faults c.settle.new.out) c.settle.new.self c.is_none-is_last.result (c.settle.new.disk ≡ c.lines.disk) (c.settle.new.out ≡ c.lines.out) (λ (same : c.settle.new.disk ≡ c.lines.disk) P is. subst (λ d. P (g.D.Disk.state d)) (sym same) is) (λ (same : c.settle.new.out ≡ c.lines.out) P is. subst (λ o. P (output g.K.Sink.held g.K.Sink.calls g.K.Sink.faults o)) (sym same) is) c.in-Ok.ensures.keeps in
    let finds = subst (λ (n : Next). FindsNextWithin most_envelope c.lines.window c.next_line_within.new.window (g.S.Source.rest c.lines.source) (g.S.Source.rest c.next_line_within.new.source) n) c.in-LongLast.is c.in-Ok-next_line_within.ensures.finds in
    let all = all_settled c.args.limit content (g.D.Disk.state was) (output g.K.Sink.held g.K.Sink.calls g.K.Sink.faults first) (g.S.Source.rest c.lines.source) (g.D.Disk.state c.lines.disk) (output g.K.Sink.held g.K.Sink.calls g.K.Sink.faults c.lines.out) c.lines.window c.lines.host x (g.D.Disk.state c.settle.new.disk) (output g.K.Sink.held g.K.Sink.calls g.K.Sink.faults c.settle.new.out) c.settle.new.self c.is_none-is_last.result (c.settle.new.disk ≡ c.lines.disk) (c.settle.new.out ≡ c.lines.out) c.in-Ok.ensures.keeps
    (none_found c.lines.window.held c.memchr.result c.is_none-is_last.result (subst (λ (l : List ℕ). IsFirstByte (is_byte 10) l c.memchr.result) c.held.ensures.held c.memchr.ensures) (unread_piece c.lines.window.held finds.joined finds.is.1) c.is_none-is_last.ensures) in
    (ended c.args.limit content (g.D.Disk.state was) (output g.K.Sink.held g.K.Sink.calls g.K.Sink.faults first) (g.S.Source.rest c.lines.source) (g.D.Disk.state c.settle.new.disk) (output g.K.Sink.held g.K.Sink.calls g.K.Sink.faults c.settle.new.out) c.lines.window c.settle.new.self y all.0 all.1 c.next_line_within.new.window (g.S.Source.rest c.next_line_within.new.source) (g.met.D.Disk.is_disk c.settle.new.disk) next.LongLast (inr (inl refl)) finds).1

pub returns-in-LongLast-clause-disk_cause : goal.returns-in-LongLast-clause-disk_cause
returns-in-LongLast-clause-disk_cause g c =
    blames_none _ (g.D.Disk.state c.args.disk.now).faults (g.D.Disk.state c.settle.new.disk).faults (c.in-Ok.ensures.disk_cause.quiet (λ is. cc is) ∙ c.lines.invariant.1) (λ e. absurd cc)

pub returns-in-LongLast-clause-source_cause : goal.returns-in-LongLast-clause-source_cause
returns-in-LongLast-clause-source_cause g c =
    blames_none _ (g.S.Source.faults c.args.source.now) (g.S.Source.faults c.next_line_within.new.source) (c.in-Ok-next_line_within.ensures.cause.quiet (λ is. cc is) ∙ c.lines.invariant.3) (λ e. absurd cc)

pub returns-in-LongLast-clause-out_cause : goal.returns-in-LongLast-clause-out_cause
returns-in-LongLast-clause-out_cause g c =
    blames_none _ (g.K.Sink.faults c.args.out.now) (g.K.Sink.faults c.settle.new.out) (c.in-Ok.ensures.out_cause.quiet (λ is. cc is) ∙ c.lines.invariant.2) (λ e. absurd cc)

pub returns-in-End-clause-keeps : goal.returns-in-End-clause-keeps
returns-in-End-clause-keeps g c =
    λ was content first is.
    let x = c.lines.invariant.0 was content first is in
    let y = hosting_settled c.args.limit content (g.D.Disk.state was) (output g.K.Sink.held g.K.Sink.calls g.K.Sink.faults first) (g.S.Source.rest c.lines.source) (g.D.Disk.state c.lines.disk) (output g.K.Sink.held g.K.Sink.calls g.K.Sink.faults c.lines.out) c.lines.window c.lines.host x (g.D.Disk.state c.settle.new.disk) (output g.K.Sink.held g.K.Sink.calls g.K.Sink.faults c.settle.new.out) c.settle.new.self c.is_none-is_last.result (c.settle.new.disk ≡ c.lines.disk) (c.settle.new.out ≡ c.lines.out) (λ (same : c.settle.new.disk ≡ c.lines.disk) P is. subst (λ d. P (g.D.Disk.state d)) (sym same) is) (λ (same : c.settle.new.out ≡ c.lines.out) P is. subst (λ o. P (output g.K.Sink.held g.K.Sink.calls g.K.Sink.faults o)) (sym same) is) c.in-Ok.ensures.keeps in
    let finds = subst (λ (n : Next). FindsNextWithin most_envelope c.lines.window c.next_line_within.new.window (g.S.Source.rest c.lines.source) (g.S.Source.rest c.next_line_within.new.source) n) c.in-End.is c.in-Ok-next_line_within.ensures.finds in
    let all = all_settled c.args.limit content (g.D.Disk.state was) (output g.K.Sink.held g.K.Sink.calls g.K.Sink.faults first) (g.S.Source.rest c.lines.source) (g.D.Disk.state c.lines.disk) (output g.K.Sink.held g.K.Sink.calls g.K.Sink.faults c.lines.out) c.lines.window c.lines.host x (g.D.Disk.state c.settle.new.disk) (output g.K.Sink.held g.K.Sink.calls g.K.Sink.faults c.settle.new.out) c.settle.new.self c.is_none-is_last.result (c.settle.new.disk ≡ c.lines.disk) (c.settle.new.out ≡ c.lines.out) c.in-Ok.ensures.keeps
    (none_found c.lines.window.held c.memchr.result c.is_none-is_last.result (subst (λ (l : List ℕ). IsFirstByte (is_byte 10) l c.memchr.result) c.held.ensures.held c.memchr.ensures) (empty_held c.lines.window.held finds.joined finds.is.0) c.is_none-is_last.ensures) in
    (ended c.args.limit content (g.D.Disk.state was) (output g.K.Sink.held g.K.Sink.calls g.K.Sink.faults first) (g.S.Source.rest c.lines.source) (g.D.Disk.state c.settle.new.disk) (output g.K.Sink.held g.K.Sink.calls g.K.Sink.faults c.settle.new.out) c.lines.window c.settle.new.self y all.0 all.1 c.next_line_within.new.window (g.S.Source.rest c.next_line_within.new.source) (g.met.D.Disk.is_disk c.settle.new.disk) next.End (inr (inr refl)) finds).0

pub returns-in-End-clause-comes : goal.returns-in-End-clause-comes
returns-in-End-clause-comes g c =
    λ was content first is.
    let x = c.lines.invariant.0 was content first is in
    let y = hosting_settled c.args.limit content (g.D.Disk.state was) (output g.K.Sink.held g.K.Sink.calls g.K.Sink.faults first) (g.S.Source.rest c.lines.source) (g.D.Disk.state c.lines.disk) (output g.K.Sink.held g.K.Sink.calls g.K.Sink.faults c.lines.out) c.lines.window c.lines.host x (g.D.Disk.state c.settle.new.disk) (output g.K.Sink.held g.K.Sink.calls g.K.Sink.faults c.settle.new.out) c.settle.new.self c.is_none-is_last.result (c.settle.new.disk ≡ c.lines.disk) (c.settle.new.out ≡ c.lines.out) (λ (same : c.settle.new.disk ≡ c.lines.disk) P is. subst (λ d. P (g.D.Disk.state d)) (sym same) is) (λ (same : c.settle.new.out ≡ c.lines.out) P is. subst (λ o. P (output g.K.Sink.held g.K.Sink.calls g.K.Sink.faults o)) (sym same) is) c.in-Ok.ensures.keeps in
    let finds = subst (λ (n : Next). FindsNextWithin most_envelope c.lines.window c.next_line_within.new.window (g.S.Source.rest c.lines.source) (g.S.Source.rest c.next_line_within.new.source) n) c.in-End.is c.in-Ok-next_line_within.ensures.finds in
    let all = all_settled c.args.limit content (g.D.Disk.state was) (output g.K.Sink.held g.K.Sink.calls g.K.Sink.faults first) (g.S.Source.rest c.lines.source) (g.D.Disk.state c.lines.disk) (output g.K.Sink.held g.K.Sink.calls g.K.Sink.faults c.lines.out) c.lines.window c.lines.host x (g.D.Disk.state c.settle.new.disk) (output g.K.Sink.held g.K.Sink.calls g.K.Sink.faults c.settle.new.out) c.settle.new.self c.is_none-is_last.result (c.settle.new.disk ≡ c.lines.disk) (c.settle.new.out ≡ c.lines.out) c.in-Ok.ensures.keeps
    (none_found c.lines.window.held c.memchr.result c.is_none-is_last.result (subst (λ (l : List ℕ). IsFirstByte (is_byte 10) l c.memchr.result) c.held.ensures.held c.memchr.ensures) (empty_held c.lines.window.held finds.joined finds.is.0) c.is_none-is_last.ensures) in
    (ended c.args.limit content (g.D.Disk.state was) (output g.K.Sink.held g.K.Sink.calls g.K.Sink.faults first) (g.S.Source.rest c.lines.source) (g.D.Disk.state c.settle.new.disk) (output g.K.Sink.held g.K.Sink.calls g.K.Sink.faults c.settle.new.out) c.lines.window c.settle.new.self y all.0 all.1 c.next_line_within.new.window (g.S.Source.rest c.next_line_within.new.source) (g.met.D.Disk.is_disk c.settle.new.disk) next.End (inr (inr refl)) finds).1

pub returns-in-End-clause-disk_cause : goal.returns-in-End-clause-disk_cause
returns-in-End-clause-disk_cause g c =
    blames_none _ (g.D.Disk.state c.args.disk.now).faults (g.D.Disk.state c.settle.new.disk).faults (c.in-Ok.ensures.disk_cause.quiet (λ is. cc is) ∙ c.lines.invariant.1) (λ e. absurd cc)

pub returns-in-End-clause-source_cause : goal.returns-in-End-clause-source_cause
returns-in-End-clause-source_cause g c =
    blames_none _ (g.S.Source.faults c.args.source.now) (g.S.Source.faults c.next_line_within.new.source) (c.in-Ok-next_line_within.ensures.cause.quiet (λ is. cc is) ∙ c.lines.invariant.3) (λ e. absurd cc)

pub returns-in-End-clause-out_cause : goal.returns-in-End-clause-out_cause
returns-in-End-clause-out_cause g c =
    blames_none _ (g.K.Sink.faults c.args.out.now) (g.K.Sink.faults c.settle.new.out) (c.in-Ok.ensures.out_cause.quiet (λ is. cc is) ∙ c.lines.invariant.2) (λ e. absurd cc)

pub lines-preserved-in-Line : goal.lines-preserved-in-Line
lines-preserved-in-Line g c = (
  (λ was content first is.
      let x = c.lines.invariant.0 was content first is in
      let y = hosting_settled c.args.limit content (g.D.Disk.state was) (output g.K.Sink.held g.K.Sink.calls g.K.Sink.faults first) (g.S.Source.rest c.lines.source) (g.D.Disk.state c.lines.disk) (output g.K.Sink.held g.K.Sink.calls g.K.Sink.faults c.lines.out) c.lines.window c.lines.host x (g.D.Disk.state c.settle.new.disk) (output g.K.Sink.held g.K.Sink.calls g.K.Sink.faults c.settle.new.out) c.settle.new.self c.is_none-is_last.result (c.settle.new.disk ≡ c.lines.disk) (c.settle.new.out ≡ c.lines.out) (λ (same : c.settle.new.disk ≡ c.lines.disk) P is. subst (λ d. P (g.D.Disk.state d)) (sym same) is) (λ (same : c.settle.new.out ≡ c.lines.out) P is. subst (λ o. P (output g.K.Sink.held g.K.Sink.calls g.K.Sink.faults o)) (sym same) is) c.in-Ok.ensures.keeps in
      let finds = subst (λ (n : Next). FindsNextWithin most_envelope c.lines.window c.next_line_within.new.window (g.S.Source.rest c.lines.source) (g.S.Source.rest c.next_line_within.new.source) n) c.in-Line.is c.in-Ok-next_line_within.ensures.finds in
      let line = take c.in-Line.size c.next_line_within.new.window.held in
      let same_line : take c.in-Line.size c.held-in-Line.result.now ≡ line = ap (λ (l : List ℕ). take c.in-Line.size l) c.held-in-Line.ensures.held in
      let heard = subst (λ (l : List ℕ). HearsLine l c.settle.new.self c.hear.new.self (g.D.Disk.state c.settle.new.disk) (g.D.Disk.state c.hear.new.disk) (c.hear.new.disk ≡ c.settle.new.disk)) same_line c.in-Ok-hear.ensures.hears in
      hosting_line c.args.limit content (g.D.Disk.state was) (output g.K.Sink.held g.K.Sink.calls g.K.Sink.faults first) (g.S.Source.rest c.lines.source) (g.D.Disk.state c.settle.new.disk) (output g.K.Sink.held g.K.Sink.calls g.K.Sink.faults c.settle.new.out) c.lines.window c.settle.new.self y c.next_line_within.new.window (g.S.Source.rest c.next_line_within.new.source) c.in-Line.size finds c.hear.new.self (g.D.Disk.state c.hear.new.disk) (c.hear.new.disk ≡ c.settle.new.disk) (g.met.D.Disk.is_disk c.settle.new.disk) (g.met.D.Disk.is_disk c.hear.new.disk) (λ (same : c.hear.new.disk ≡ c.settle.new.disk) P is. subst (λ d. P (g.D.Disk.state d)) (sym same) is) heard c.end_line.new.self (g.D.Disk.state c.end_line.new.disk) (output g.K.Sink.held g.K.Sink.calls g.K.Sink.faults c.end_line.new.out) (c.end_line.new.disk ≡ c.hear.new.disk) (c.end_line.new.out ≡ c.settle.new.out) (λ (same : c.end_line.new.disk ≡ c.hear.new.disk) P is. subst (λ d. P (g.D.Disk.state d)) (sym same) is) (λ (same : c.end_line.new.out ≡ c.settle.new.out) P is. subst (λ o. P (output g.K.Sink.held g.K.Sink.calls g.K.Sink.faults o)) (sym same) is) c.advance.new.self c.in-Ok-end_line.ensures.ends c.in-Ok-hear.ensures.counted c.in-Ok-hear.ensures.room c.in-Ok-hear.ensures.short c.in-Ok-hear.ensures.near c.in-Ok-end_line.ensures.short c.advance.ensures),
  c.in-Ok-end_line.ensures.disk_cause.quiet (λ is. cc is) ∙ (c.in-Ok-hear.ensures.disk_cause.quiet (λ is. cc is) ∙ (c.in-Ok.ensures.disk_cause.quiet (λ is. cc is) ∙ c.lines.invariant.1)),
  c.in-Ok-end_line.ensures.out_cause.quiet (λ is. cc is) ∙ (c.in-Ok.ensures.out_cause.quiet (λ is. cc is) ∙ c.lines.invariant.2),
  (c.in-Ok-next_line_within.ensures.cause.quiet (λ is. cc is) ∙ c.lines.invariant.3),
)

pub lines-preserved : goal.lines-preserved
lines-preserved g c = (
  (λ was content first is.
      let x = c.lines.invariant.0 was content first is in
      let y = hosting_settled c.args.limit content (g.D.Disk.state was) (output g.K.Sink.held g.K.Sink.calls g.K.Sink.faults first) (g.S.Source.rest c.lines.source) (g.D.Disk.state c.lines.disk) (output g.K.Sink.held g.K.Sink.calls g.K.Sink.faults c.lines.out) c.lines.window c.lines.host x (g.D.Disk.state c.settle.new.disk) (output g.K.Sink.held g.K.Sink.calls g.K.Sink.faults c.settle.new.out) c.settle.new.self c.is_none-is_last.result (c.settle.new.disk ≡ c.lines.disk) (c.settle.new.out ≡ c.lines.out) (λ (same : c.settle.new.disk ≡ c.lines.disk) P is. subst (λ d. P (g.D.Disk.state d)) (sym same) is) (λ (same : c.settle.new.out ≡ c.lines.out) P is. subst (λ o. P (output g.K.Sink.held g.K.Sink.calls g.K.Sink.faults o)) (sym same) is) c.in-Ok.ensures.keeps in
      let finds = subst (λ (n : Next). FindsNextWithin most_envelope c.lines.window c.next_line_within.new.window (g.S.Source.rest c.lines.source) (g.S.Source.rest c.next_line_within.new.source) n) c.in-Long.is c.in-Ok-next_line_within.ensures.finds in
      hosting_long c.args.limit content (g.D.Disk.state was) (output g.K.Sink.held g.K.Sink.calls g.K.Sink.faults first) (g.S.Source.rest c.lines.source) (g.D.Disk.state c.settle.new.disk) (output g.K.Sink.held g.K.Sink.calls g.K.Sink.faults c.settle.new.out) c.lines.window c.settle.new.self y c.next_line_within.new.window (g.S.Source.rest c.next_line_within.new.source) c.answer_long.new.self finds c.in-Ok-answer_long.ensures.answers c.in-Ok-answer_long.ensures.told c.in-Ok-answer_long.ensures.counted c.in-Ok-answer_long.ensures.room),
  (c.in-Ok.ensures.disk_cause.quiet (λ is. cc is) ∙ c.lines.invariant.1),
  (c.in-Ok.ensures.out_cause.quiet (λ is. cc is) ∙ c.lines.invariant.2),
  (c.in-Ok-next_line_within.ensures.cause.quiet (λ is. cc is) ∙ c.lines.invariant.3),
)

pub returns-in-Err-clause-taken : goal.returns-in-Err-clause-taken
returns-in-Err-clause-taken g c =
    λ was content first is.
    let x = c.lines.invariant.0 was content first is in
    few_at x.begin c.args.limit c.lines.window content (g.S.Source.rest c.lines.source) x.read x.gone

pub returns-in-Err-next_line_within-clause-taken : goal.returns-in-Err-next_line_within-clause-taken
returns-in-Err-next_line_within-clause-taken g c =
    λ was content first is.
    let x = c.lines.invariant.0 was content first is in
    few_unread x.begin c.args.limit c.lines.window content (g.S.Source.rest c.lines.source) x.read x.gone c.next_line_within.new.window (g.S.Source.rest c.next_line_within.new.source) c.in-Err-next_line_within.ensures.none

pub returns-in-Err-hear-clause-taken : goal.returns-in-Err-hear-clause-taken
returns-in-Err-hear-clause-taken g c =
    λ was content first is.
    let x = c.lines.invariant.0 was content first is in
    few_found x.begin c.args.limit c.lines.window content (g.S.Source.rest c.lines.source) x.read x.gone c.next_line_within.new.window (g.S.Source.rest c.next_line_within.new.source) c.in-Ok-next_line_within.next c.in-Ok-next_line_within.ensures.finds

pub returns-in-Err-end_line-clause-taken : goal.returns-in-Err-end_line-clause-taken
returns-in-Err-end_line-clause-taken g c =
    λ was content first is.
    let x = c.lines.invariant.0 was content first is in
    few_found x.begin c.args.limit c.lines.window content (g.S.Source.rest c.lines.source) x.read x.gone c.next_line_within.new.window (g.S.Source.rest c.next_line_within.new.source) c.in-Ok-next_line_within.next c.in-Ok-next_line_within.ensures.finds

pub returns-in-Err-answer_long-clause-taken : goal.returns-in-Err-answer_long-clause-taken
returns-in-Err-answer_long-clause-taken g c =
    λ was content first is.
    let x = c.lines.invariant.0 was content first is in
    few_found x.begin c.args.limit c.lines.window content (g.S.Source.rest c.lines.source) x.read x.gone c.next_line_within.new.window (g.S.Source.rest c.next_line_within.new.source) c.in-Ok-next_line_within.next c.in-Ok-next_line_within.ensures.finds

pub returns-in-Limit-clause-taken : goal.returns-in-Limit-clause-taken
returns-in-Limit-clause-taken g c =
    λ was content first is.
    let x = c.lines.invariant.0 was content first is in
    few_found x.begin c.args.limit c.lines.window content (g.S.Source.rest c.lines.source) x.read x.gone c.next_line_within.new.window (g.S.Source.rest c.next_line_within.new.source) c.in-Ok-next_line_within.next c.in-Ok-next_line_within.ensures.finds

pub returns-in-Last-clause-taken : goal.returns-in-Last-clause-taken
returns-in-Last-clause-taken g c =
    λ was content first is.
    let x = c.lines.invariant.0 was content first is in
    few_found x.begin c.args.limit c.lines.window content (g.S.Source.rest c.lines.source) x.read x.gone c.next_line_within.new.window (g.S.Source.rest c.next_line_within.new.source) c.in-Ok-next_line_within.next c.in-Ok-next_line_within.ensures.finds

pub returns-in-LongLast-clause-taken : goal.returns-in-LongLast-clause-taken
returns-in-LongLast-clause-taken g c =
    λ was content first is.
    let x = c.lines.invariant.0 was content first is in
    few_found x.begin c.args.limit c.lines.window content (g.S.Source.rest c.lines.source) x.read x.gone c.next_line_within.new.window (g.S.Source.rest c.next_line_within.new.source) c.in-Ok-next_line_within.next c.in-Ok-next_line_within.ensures.finds

pub returns-in-End-clause-taken : goal.returns-in-End-clause-taken
returns-in-End-clause-taken g c =
    λ was content first is.
    let x = c.lines.invariant.0 was content first is in
    few_found x.begin c.args.limit c.lines.window content (g.S.Source.rest c.lines.source) x.read x.gone c.next_line_within.new.window (g.S.Source.rest c.next_line_within.new.source) c.in-Ok-next_line_within.next c.in-Ok-next_line_within.ensures.finds

pub returns-in-Err-clause-untouched : goal.returns-in-Err-clause-untouched
returns-in-Err-clause-untouched g c =
    λ was content first is.
    let x = c.lines.invariant.0 was content first is in
    (settle_broken c.args.limit content (g.D.Disk.state was) (output g.K.Sink.held g.K.Sink.calls g.K.Sink.faults first) (g.S.Source.rest c.lines.source) (g.D.Disk.state c.lines.disk) (output g.K.Sink.held g.K.Sink.calls g.K.Sink.faults c.lines.out) c.lines.window c.lines.host x c.settle.new.self (g.D.Disk.state c.settle.new.disk) (output g.K.Sink.held g.K.Sink.calls g.K.Sink.faults c.settle.new.out) (c.settle.new.disk ≡ c.lines.disk) c.in-Err.fault (g.met.D.Disk.is_disk c.settle.new.disk) (λ (same : c.settle.new.disk ≡ c.lines.disk) P is. subst (λ d. P (g.D.Disk.state d)) (sym same) is) c.in-Err.ensures.broken).2

pub returns-in-Err-hear-clause-untouched : goal.returns-in-Err-hear-clause-untouched
returns-in-Err-hear-clause-untouched g c =
    λ was content first is.
    let x = c.lines.invariant.0 was content first is in
    let y = hosting_settled c.args.limit content (g.D.Disk.state was) (output g.K.Sink.held g.K.Sink.calls g.K.Sink.faults first) (g.S.Source.rest c.lines.source) (g.D.Disk.state c.lines.disk) (output g.K.Sink.held g.K.Sink.calls g.K.Sink.faults c.lines.out) c.lines.window c.lines.host x (g.D.Disk.state c.settle.new.disk) (output g.K.Sink.held g.K.Sink.calls g.K.Sink.faults c.settle.new.out) c.settle.new.self c.is_none-is_last.result (c.settle.new.disk ≡ c.lines.disk) (c.settle.new.out ≡ c.lines.out) (λ (same : c.settle.new.disk ≡ c.lines.disk) P is. subst (λ d. P (g.D.Disk.state d)) (sym same) is) (λ (same : c.settle.new.out ≡ c.lines.out) P is. subst (λ o. P (output g.K.Sink.held g.K.Sink.calls g.K.Sink.faults o)) (sym same) is) c.in-Ok.ensures.keeps in
    let finds = subst (λ (n : Next). FindsNextWithin most_envelope c.lines.window c.next_line_within.new.window (g.S.Source.rest c.lines.source) (g.S.Source.rest c.next_line_within.new.source) n) c.in-Line.is c.in-Ok-next_line_within.ensures.finds in
    let line = take c.in-Line.size c.next_line_within.new.window.held in
    let same_line : take c.in-Line.size c.held-in-Line.result.now ≡ line = ap (λ (l : List ℕ). take c.in-Line.size l) c.held-in-Line.ensures.held in
    let breaks = subst (λ (l : List ℕ). BreaksLine c.in-Err-hear.fault l c.settle.new.self c.hear.new.self (g.D.Disk.state c.settle.new.disk) (g.D.Disk.state c.hear.new.disk) (c.hear.new.disk ≡ c.settle.new.disk)) same_line c.in-Err-hear.ensures.broken in
    (line_broken c.args.limit content (g.D.Disk.state was) (output g.K.Sink.held g.K.Sink.calls g.K.Sink.faults first) (g.S.Source.rest c.lines.source) (g.D.Disk.state c.settle.new.disk) (output g.K.Sink.held g.K.Sink.calls g.K.Sink.faults c.settle.new.out) c.lines.window c.settle.new.self y c.next_line_within.new.window (g.S.Source.rest c.next_line_within.new.source) c.in-Line.size finds c.hear.new.self (g.D.Disk.state c.hear.new.disk) (c.hear.new.disk ≡ c.settle.new.disk) (g.met.D.Disk.is_disk c.settle.new.disk) (g.met.D.Disk.is_disk c.hear.new.disk) (λ (same : c.hear.new.disk ≡ c.settle.new.disk) P is. subst (λ d. P (g.D.Disk.state d)) (sym same) is) (output g.K.Sink.held g.K.Sink.calls g.K.Sink.faults c.stop.new.out) (c.stop.new.out ≡ c.settle.new.out) c.in-Err-hear.fault c.stop.result (λ (same : c.stop.new.out ≡ c.settle.new.out) P is. subst (λ o. P (output g.K.Sink.held g.K.Sink.calls g.K.Sink.faults o)) (sym same) is) breaks c.stop.ensures.stops).2

pub returns-in-Err-end_line-clause-untouched : goal.returns-in-Err-end_line-clause-untouched
returns-in-Err-end_line-clause-untouched g c =
    λ was content first is.
    let x = c.lines.invariant.0 was content first is in
    let y = hosting_settled c.args.limit content (g.D.Disk.state was) (output g.K.Sink.held g.K.Sink.calls g.K.Sink.faults first) (g.S.Source.rest c.lines.source) (g.D.Disk.state c.lines.disk) (output g.K.Sink.held g.K.Sink.calls g.K.Sink.faults c.lines.out) c.lines.window c.lines.host x (g.D.Disk.state c.settle.new.disk) (output g.K.Sink.held g.K.Sink.calls g.K.Sink.faults c.settle.new.out) c.settle.new.self c.is_none-is_last.result (c.settle.new.disk ≡ c.lines.disk) (c.settle.new.out ≡ c.lines.out) (λ (same : c.settle.new.disk ≡ c.lines.disk) P is. subst (λ d. P (g.D.Disk.state d)) (sym same) is) (λ (same : c.settle.new.out ≡ c.lines.out) P is. subst (λ o. P (output g.K.Sink.held g.K.Sink.calls g.K.Sink.faults o)) (sym same) is) c.in-Ok.ensures.keeps in
    let finds = subst (λ (n : Next). FindsNextWithin most_envelope c.lines.window c.next_line_within.new.window (g.S.Source.rest c.lines.source) (g.S.Source.rest c.next_line_within.new.source) n) c.in-Line.is c.in-Ok-next_line_within.ensures.finds in
    let line = take c.in-Line.size c.next_line_within.new.window.held in
    let same_line : take c.in-Line.size c.held-in-Line.result.now ≡ line = ap (λ (l : List ℕ). take c.in-Line.size l) c.held-in-Line.ensures.held in
    let heard = subst (λ (l : List ℕ). HearsLine l c.settle.new.self c.hear.new.self (g.D.Disk.state c.settle.new.disk) (g.D.Disk.state c.hear.new.disk) (c.hear.new.disk ≡ c.settle.new.disk)) same_line c.in-Ok-hear.ensures.hears in
    (unended c.args.limit content (g.D.Disk.state was) (output g.K.Sink.held g.K.Sink.calls g.K.Sink.faults first) (g.S.Source.rest c.lines.source) (g.D.Disk.state c.settle.new.disk) (output g.K.Sink.held g.K.Sink.calls g.K.Sink.faults c.settle.new.out) c.lines.window c.settle.new.self y c.next_line_within.new.window (g.S.Source.rest c.next_line_within.new.source) c.in-Line.size finds c.hear.new.self (g.D.Disk.state c.hear.new.disk) (c.hear.new.disk ≡ c.settle.new.disk) (g.met.D.Disk.is_disk c.settle.new.disk) (g.met.D.Disk.is_disk c.hear.new.disk) (λ (same : c.hear.new.disk ≡ c.settle.new.disk) P is. subst (λ d. P (g.D.Disk.state d)) (sym same) is) heard c.end_line.new.self (g.D.Disk.state c.end_line.new.disk) (output g.K.Sink.held g.K.Sink.calls g.K.Sink.faults c.end_line.new.out) (c.end_line.new.disk ≡ c.hear.new.disk) (c.end_line.new.out ≡ c.settle.new.out) (λ (same : c.end_line.new.disk ≡ c.hear.new.disk) P is. subst (λ d. P (g.D.Disk.state d)) (sym same) is) (λ (same : c.end_line.new.out ≡ c.settle.new.out) P is. subst (λ o. P (output g.K.Sink.held g.K.Sink.calls g.K.Sink.faults o)) (sym same) is) c.in-Err-end_line.fault (g.met.D.Disk.is_disk c.end_line.new.disk) c.in-Err-end_line.ensures.broken).2

pub returns-in-Err-next_line_within-clause-untouched : goal.returns-in-Err-next_line_within-clause-untouched
returns-in-Err-next_line_within-clause-untouched g c =
    λ was content first is.
    let x = c.lines.invariant.0 was content first is in
    let y = hosting_settled c.args.limit content (g.D.Disk.state was) (output g.K.Sink.held g.K.Sink.calls g.K.Sink.faults first) (g.S.Source.rest c.lines.source) (g.D.Disk.state c.lines.disk) (output g.K.Sink.held g.K.Sink.calls g.K.Sink.faults c.lines.out) c.lines.window c.lines.host x (g.D.Disk.state c.settle.new.disk) (output g.K.Sink.held g.K.Sink.calls g.K.Sink.faults c.settle.new.out) c.settle.new.self c.is_none-is_last.result (c.settle.new.disk ≡ c.lines.disk) (c.settle.new.out ≡ c.lines.out) (λ (same : c.settle.new.disk ≡ c.lines.disk) P is. subst (λ d. P (g.D.Disk.state d)) (sym same) is) (λ (same : c.settle.new.out ≡ c.lines.out) P is. subst (λ o. P (output g.K.Sink.held g.K.Sink.calls g.K.Sink.faults o)) (sym same) is) c.in-Ok.ensures.keeps in
    left_alone c.args.limit content (g.D.Disk.state was) (output g.K.Sink.held g.K.Sink.calls g.K.Sink.faults first) (g.S.Source.rest c.lines.source) (g.D.Disk.state c.settle.new.disk) (output g.K.Sink.held g.K.Sink.calls g.K.Sink.faults c.settle.new.out) c.lines.window c.settle.new.self y

pub returns-in-Err-answer_long-clause-untouched : goal.returns-in-Err-answer_long-clause-untouched
returns-in-Err-answer_long-clause-untouched g c =
    λ was content first is.
    let x = c.lines.invariant.0 was content first is in
    let y = hosting_settled c.args.limit content (g.D.Disk.state was) (output g.K.Sink.held g.K.Sink.calls g.K.Sink.faults first) (g.S.Source.rest c.lines.source) (g.D.Disk.state c.lines.disk) (output g.K.Sink.held g.K.Sink.calls g.K.Sink.faults c.lines.out) c.lines.window c.lines.host x (g.D.Disk.state c.settle.new.disk) (output g.K.Sink.held g.K.Sink.calls g.K.Sink.faults c.settle.new.out) c.settle.new.self c.is_none-is_last.result (c.settle.new.disk ≡ c.lines.disk) (c.settle.new.out ≡ c.lines.out) (λ (same : c.settle.new.disk ≡ c.lines.disk) P is. subst (λ d. P (g.D.Disk.state d)) (sym same) is) (λ (same : c.settle.new.out ≡ c.lines.out) P is. subst (λ o. P (output g.K.Sink.held g.K.Sink.calls g.K.Sink.faults o)) (sym same) is) c.in-Ok.ensures.keeps in
    left_alone c.args.limit content (g.D.Disk.state was) (output g.K.Sink.held g.K.Sink.calls g.K.Sink.faults first) (g.S.Source.rest c.lines.source) (g.D.Disk.state c.settle.new.disk) (output g.K.Sink.held g.K.Sink.calls g.K.Sink.faults c.settle.new.out) c.lines.window c.settle.new.self y

pub returns-in-Limit-clause-untouched : goal.returns-in-Limit-clause-untouched
returns-in-Limit-clause-untouched g c =
    λ was content first is.
    let x = c.lines.invariant.0 was content first is in
    let y = hosting_settled c.args.limit content (g.D.Disk.state was) (output g.K.Sink.held g.K.Sink.calls g.K.Sink.faults first) (g.S.Source.rest c.lines.source) (g.D.Disk.state c.lines.disk) (output g.K.Sink.held g.K.Sink.calls g.K.Sink.faults c.lines.out) c.lines.window c.lines.host x (g.D.Disk.state c.settle.new.disk) (output g.K.Sink.held g.K.Sink.calls g.K.Sink.faults c.settle.new.out) c.settle.new.self c.is_none-is_last.result (c.settle.new.disk ≡ c.lines.disk) (c.settle.new.out ≡ c.lines.out) (λ (same : c.settle.new.disk ≡ c.lines.disk) P is. subst (λ d. P (g.D.Disk.state d)) (sym same) is) (λ (same : c.settle.new.out ≡ c.lines.out) P is. subst (λ o. P (output g.K.Sink.held g.K.Sink.calls g.K.Sink.faults o)) (sym same) is) c.in-Ok.ensures.keeps in
    left_alone c.args.limit content (g.D.Disk.state was) (output g.K.Sink.held g.K.Sink.calls g.K.Sink.faults first) (g.S.Source.rest c.lines.source) (g.D.Disk.state c.settle.new.disk) (output g.K.Sink.held g.K.Sink.calls g.K.Sink.faults c.settle.new.out) c.lines.window c.settle.new.self y

pub returns-in-Last-clause-untouched : goal.returns-in-Last-clause-untouched
returns-in-Last-clause-untouched g c =
    λ was content first is.
    let x = c.lines.invariant.0 was content first is in
    let y = hosting_settled c.args.limit content (g.D.Disk.state was) (output g.K.Sink.held g.K.Sink.calls g.K.Sink.faults first) (g.S.Source.rest c.lines.source) (g.D.Disk.state c.lines.disk) (output g.K.Sink.held g.K.Sink.calls g.K.Sink.faults c.lines.out) c.lines.window c.lines.host x (g.D.Disk.state c.settle.new.disk) (output g.K.Sink.held g.K.Sink.calls g.K.Sink.faults c.settle.new.out) c.settle.new.self c.is_none-is_last.result (c.settle.new.disk ≡ c.lines.disk) (c.settle.new.out ≡ c.lines.out) (λ (same : c.settle.new.disk ≡ c.lines.disk) P is. subst (λ d. P (g.D.Disk.state d)) (sym same) is) (λ (same : c.settle.new.out ≡ c.lines.out) P is. subst (λ o. P (output g.K.Sink.held g.K.Sink.calls g.K.Sink.faults o)) (sym same) is) c.in-Ok.ensures.keeps in
    left_alone c.args.limit content (g.D.Disk.state was) (output g.K.Sink.held g.K.Sink.calls g.K.Sink.faults first) (g.S.Source.rest c.lines.source) (g.D.Disk.state c.settle.new.disk) (output g.K.Sink.held g.K.Sink.calls g.K.Sink.faults c.settle.new.out) c.lines.window c.settle.new.self y

pub returns-in-LongLast-clause-untouched : goal.returns-in-LongLast-clause-untouched
returns-in-LongLast-clause-untouched g c =
    λ was content first is.
    let x = c.lines.invariant.0 was content first is in
    let y = hosting_settled c.args.limit content (g.D.Disk.state was) (output g.K.Sink.held g.K.Sink.calls g.K.Sink.faults first) (g.S.Source.rest c.lines.source) (g.D.Disk.state c.lines.disk) (output g.K.Sink.held g.K.Sink.calls g.K.Sink.faults c.lines.out) c.lines.window c.lines.host x (g.D.Disk.state c.settle.new.disk) (output g.K.Sink.held g.K.Sink.calls g.K.Sink.faults c.settle.new.out) c.settle.new.self c.is_none-is_last.result (c.settle.new.disk ≡ c.lines.disk) (c.settle.new.out ≡ c.lines.out) (λ (same : c.settle.new.disk ≡ c.lines.disk) P is. subst (λ d. P (g.D.Disk.state d)) (sym same) is) (λ (same : c.settle.new.out ≡ c.lines.out) P is. subst (λ o. P (output g.K.Sink.held g.K.Sink.calls g.K.Sink.faults o)) (sym same) is) c.in-Ok.ensures.keeps in
    left_alone c.args.limit content (g.D.Disk.state was) (output g.K.Sink.held g.K.Sink.calls g.K.Sink.faults first) (g.S.Source.rest c.lines.source) (g.D.Disk.state c.settle.new.disk) (output g.K.Sink.held g.K.Sink.calls g.K.Sink.faults c.settle.new.out) c.lines.window c.settle.new.self y

pub returns-in-End-clause-untouched : goal.returns-in-End-clause-untouched
returns-in-End-clause-untouched g c =
    λ was content first is.
    let x = c.lines.invariant.0 was content first is in
    let y = hosting_settled c.args.limit content (g.D.Disk.state was) (output g.K.Sink.held g.K.Sink.calls g.K.Sink.faults first) (g.S.Source.rest c.lines.source) (g.D.Disk.state c.lines.disk) (output g.K.Sink.held g.K.Sink.calls g.K.Sink.faults c.lines.out) c.lines.window c.lines.host x (g.D.Disk.state c.settle.new.disk) (output g.K.Sink.held g.K.Sink.calls g.K.Sink.faults c.settle.new.out) c.settle.new.self c.is_none-is_last.result (c.settle.new.disk ≡ c.lines.disk) (c.settle.new.out ≡ c.lines.out) (λ (same : c.settle.new.disk ≡ c.lines.disk) P is. subst (λ d. P (g.D.Disk.state d)) (sym same) is) (λ (same : c.settle.new.out ≡ c.lines.out) P is. subst (λ o. P (output g.K.Sink.held g.K.Sink.calls g.K.Sink.faults o)) (sym same) is) c.in-Ok.ensures.keeps in
    left_alone c.args.limit content (g.D.Disk.state was) (output g.K.Sink.held g.K.Sink.calls g.K.Sink.faults first) (g.S.Source.rest c.lines.source) (g.D.Disk.state c.settle.new.disk) (output g.K.Sink.held g.K.Sink.calls g.K.Sink.faults c.settle.new.out) c.lines.window c.settle.new.self y
