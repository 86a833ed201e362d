use Rattle.std.proofs.Common.{inl, inr, ◌∙◌}
use Rattle.std.proofs.lemmas.List.{take_rest}
use Rattle.std.proofs.lemmas.Result.{err_from_is_err_and}
use Rattle.line_records.proofs.Going.{empty_where, some_where, not_where, one_more, stopped_within, ended_text, last_line}
use Rattle.line_records.proofs.encode.encode_lines.Goals as goal
use Rattle.line_records.proofs.encode.encode_lines.Goals.{then-more-via-then-more, then-more-via-else-more+then-is_empty}

pub returns-in_err-encode_line-clause-encoded : goal.returns-in_err-encode_line-clause-encoded
returns-in_err-encode_line-clause-encoded g c =
    let p = err_from_is_err_and c.from_residual.result c.from_residual.ensures.1 in
    rw (p.1, p.2) (stopped_within c.args.version c.args.tickers c.args.more c.args.text.now c.loop-length.place c.in-Some.length c.loop-length.number c.loop-length.encoding.tickers c.encode_line.new.self.tickers
    (g.K.Sink.held c.args.out.now) (g.K.Sink.held c.loop-length.out) (g.K.Sink.held c.encode_line.new.out) c.in_err-encode_line.field-0.0 c.loop-length.invariant.0
    (rw take_rest at c.in-Some.ensures) c.in_err-encode_line.ensures.encoded)

pub loop-length-preserved : goal.loop-length-preserved
loop-length-preserved g c = (
  one_more c.args.version c.args.tickers c.args.text.now c.loop-length.place c.in-Some.length c.loop-length.number c.loop-length.encoding.tickers c.encode_line.new.self.tickers
      (g.K.Sink.held c.args.out.now) (g.K.Sink.held c.loop-length.out) (g.K.Sink.held c.encode_line.new.out) c.loop-length.invariant.0
      (rw take_rest at c.in-Some.ensures) c.in_ok-encode_line.ensures.encoded,
  c.in_ok-encode_line.ensures.cause.quiet (λ e. absurd cc) ∙ c.loop-length.invariant.1,
)

pub returns-then-more-clause-encoded : goal.returns-then-more-clause-encoded
returns-then-more-clause-encoded g c =
    ended_text c.args.version c.args.tickers c.args.more c.args.text.now c.loop-length.place c.loop-length.number c.loop-length.encoding.tickers (g.K.Sink.held c.args.out.now) (g.K.Sink.held c.loop-length.out)
    c.loop-length.invariant.0 (rw take_rest at c.in_default.ensures) (elim c.then-more.branch [
      | then-more-via-then-more w ↦ inl w.if-more.true
      | then-more-via-else-more+then-is_empty w ↦ inr (empty_where _ w.is_empty.result (rw take_rest at w.is_empty.ensures) w.if-is_empty.true)
    ])

pub returns-clause-encoded : goal.returns-clause-encoded
returns-clause-encoded g c =
    last_line c.args.version c.args.tickers c.args.more c.args.text.now c.loop-length.place c.loop-length.number c.loop-length.encoding.tickers c.encode_line-2.new.self.tickers
    (g.K.Sink.held c.args.out.now) (g.K.Sink.held c.loop-length.out) (g.K.Sink.held c.encode_line-2.new.out) c.encode_line-2.result c.loop-length.invariant.0
    (rw take_rest at c.in_default.ensures) (not_where c.args.more c.if-more.false) (some_where _ c.is_empty.result (rw take_rest at c.is_empty.ensures) c.if-is_empty.false)
    (rw take_rest at c.encode_line-2.ensures.encoded)
