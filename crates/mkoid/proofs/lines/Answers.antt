use Rattle.std.proofs.Common.{string_bytes, arith, rules}
use Rattle.mkoid.proofs.Writing.{wrote_more, wrote_some, whenever_err}
use Rattle.mkoid.proofs.lines.Goals as goal

pub returns-in_err-write_line-clause-err : goal.returns-in_err-write_line-clause-err
returns-in_err-write_line-clause-err g c =
    let (line, is_line, part) = c.in_err-write_line.ensures.err in
    whenever_err c.from_residual.result _ (wrote_some string_bytes c.args.args.now c.loop-arg.arg-index c.arg-item.result c.loop-arg-test.true c.arg-item.is _
    c.deref.ensures _ _ _ c.loop-arg.invariant line is_line part)

pub loop-arg-preserved : goal.loop-arg-preserved
loop-arg-preserved g c =
    let (line, is_line, whole) = c.in_ok-write_line.ensures.ok in
    wrote_more string_bytes c.args.args.now c.loop-arg.arg-index c.arg-item.result c.loop-arg-test.true c.arg-item.is _ c.deref.ensures _ _ _
    c.loop-arg.invariant line is_line whole
