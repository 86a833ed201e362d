use Rattle.std.proofs.Common.{◌+◌, ◌*◌, ◌<◌, length, get_or, drop, ap, sym, ◌∙◌, arith}
use Rattle.std.specs.List.{flat_map}
use Rattle.std.specs.Option.{option_map}
use Rattle.std.proofs.lemmas.List.{take_rest}
use Rattle.std.proofs.lemmas.Option.{slice_get-get_or, slice_get-map}
use Rattle.flow_orders.specs.Outcomes.{Fill}
use Rattle.journal_records.specs.Bodies.{fill_encoding, IsFill}
use Rattle.journal_records.specs.Private.{fill_in, fills_in, EncodeFills}
use Rattle.journal_records.proofs.Values.{length-encoded, at_place}
use Rattle.journal_records.proofs.Digits.{fixed_fills}
use Rattle.journal_records.proofs.fills_view.FillsView.rate.Goals as goal

pub overflow_mul-k : goal.overflow_mul-k
overflow_mul-k c =
    let bytes = c.self.inside.bytes.now in
    omega (arith, length-encoded IsFill fill_encoding fill_in 12 fixed_fills bytes (fills_in bytes) c.self.invariant, ap length c.self.view_is)

pub slice_bounds-rate_of-count : goal.slice_bounds-rate_of-count
slice_bounds-rate_of-count c =
    let bytes = c.self.inside.bytes.now in
    omega (arith, length-encoded IsFill fill_encoding fill_in 12 fixed_fills bytes (fills_in bytes) c.self.invariant, ap length c.self.view_is)

pub slice_bounds-rate_of-start : goal.slice_bounds-rate_of-start
slice_bounds-rate_of-start c =
    let bytes = c.self.inside.bytes.now in
    omega (arith, length-encoded IsFill fill_encoding fill_in 12 fixed_fills bytes (fills_in bytes) c.self.invariant, ap length c.self.view_is)

pub returns : goal.returns
returns c =
    let bytes = c.self.inside.bytes.now in
    let fills = c.args.self.now in
    let field = λ (f : Fill). f.rate in
    let none : Fill = record { order = 0; rate = 0 } in
    let encodes : EncodeFills bytes fills = rw c.self.view_is at c.self.invariant in
    let within : c.args.k < length fills = omega (arith, c.len.ensures, c.if-k-len.false) in
    let f = get_or fills c.args.k none in
    c.rate_of.ensures f (flat_map fill_encoding (drop (c.args.k + 1) fills)) (encodes.fit c.args.k none within)
    (take_rest bytes (12 * c.args.k) ∙ at_place IsFill fill_encoding fill_in 12 fixed_fills bytes fills c.args.k none encodes within)
    ∙ sym (slice_get-map field fills c.args.k ∙ ap (option_map field) (slice_get-get_or fills c.args.k none within))
