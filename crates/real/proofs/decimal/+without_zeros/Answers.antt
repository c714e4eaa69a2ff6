use Rattle.std.proofs.Common.{arith}
use Rattle.real.proofs.Texts.{ten_out}
use Rattle.real.proofs.decimal.+without_zeros.Goals as goal

pub returns-clause-same : goal.returns-clause-same
returns-clause-same t c = ten_out c.args.number c.without_zeros-rest.result.0 c.without_zeros-rest.result.1 (omega arith) c.without_zeros-rest.ensures.same
