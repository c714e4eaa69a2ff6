use Rattle.std.proofs.Common.{◌+◌, arith}
use Rattle.real.proofs.Doubles.{raised_step}
use Rattle.real.proofs.double.+raised.Goals as goal

pub returns-clause-same : goal.returns-clause-same
returns-clause-same t c =
    let h = c.raised.ensures.same in
    let e = h.2 in
    (h.0 + 1, raised_step c.args.significand c.raised.result.0 h.0 h.1, omega arith)
