use Rattle.std.proofs.Common.{◌≡◌, ◌++◌, ◌∷◌, [], Some, vec_len, take, sym, ap, ◌∙◌, arith}
use Rattle.std.specs.Prelude.{slice_get}
use Rattle.std.proofs.lemmas.List.{take_all}
use Rattle.wire_records.proofs.EntryReads.{ended, read_more}
use Rattle.wire_records.proofs.place.RowView.to_list.Goals as goal

pub loop-entry-preserved : goal.loop-entry-preserved
loop-entry-preserved c =
    let row = c.args.self.now in
    let entries = c.loop-entry.entries in
    let e = c.in-Some.entry in
    let read : Some e ≡ slice_get row (vec_len entries) = c.in-Some.ensures.value ∙ ap (slice_get row) c.len-in-loop-entry.ensures in
    record {
      read =
          c.push_reserved.ensures.items ∙ ap (λ xs. xs ++ e ∷ []) c.loop-entry.invariant.read
          ∙ sym (read_more row (vec_len entries) e read) ∙ ap (λ n. take n row) (sym c.push_reserved.ensures.len);
      room = omega (arith, c.push_reserved.ensures.capacity, c.loop-entry.invariant.room);
    }

pub returns : goal.returns
returns c =
    let row = c.args.self.now in
    let entries = c.loop-entry.entries in
    let all = ended row (vec_len entries) (c.in_default.ensures.value ∙ ap (slice_get row) c.len-in-loop-entry.ensures) in
    c.new.ensures ∙ c.loop-entry.invariant.read ∙ take_all (vec_len entries) row all
