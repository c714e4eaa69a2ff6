use Rattle.std.proofs.Common.{arith}
use Rattle.bcder.proofs.Segmenting.{begun, begin_failed, begin_halts}
use Rattle.bcder.proofs.string.octet.write.begin_segment.Goals as goal

pub returns-in_err-put_header : goal.returns-in_err-put_header
returns-in_err-put_header g c = begin_halts c.args.progress _ c.from_residual.ensures
    (λ v at. begin_failed c.args.progress _ v (omega arith) (omega arith) c.min-left.ensures at c.in_err-put_header.ensures)

pub returns : goal.returns
returns g c = (omega arith, omega arith, λ v at. begun c.args.progress _ v (omega arith) (omega arith) c.min-left.ensures at c.in_ok-put_header.ensures.done)
