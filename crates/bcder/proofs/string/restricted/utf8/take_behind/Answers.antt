use Rattle.std.proofs.Common.{arith}
use Rattle.bcder.proofs.Utf8.{behind_refused}
use Rattle.bcder.proofs.string.restricted.utf8.take_behind.Goals as goal

pub returns-in_err-code-2 : goal.returns-in_err-code-2
returns-in_err-code-2 c =
    let l = c.args.lead in
    behind_refused c.from_residual-in_err-code-2.result _ _ l.bits l.low l.high l.tails c.args.octets.now.octets c.in_ok-code.code
    c.take_octet.new.octets.octets c.from_residual-in_err-code-2.ensures.1 (omega arith) c.in_ok-code.ensures.took c.in_err-code-2.ensures.took
