use Rattle.bcder.proofs.Unwinding.{top_definite, top_indefinite}
use Rattle.bcder.proofs.decode.content.skip.leave.Goals.{then-opened-gt0-2, else-opened-gt0-2}
use Rattle.bcder.proofs.decode.content.skip.leave.Goals as goal

pub returns-clause-kind : goal.returns-clause-kind
returns-clause-kind g c = elim c.if-opened-gt0-2.branch [
  | then-opened-gt0-2 w ↦ top_indefinite _ _ _ w.if-opened-gt0-2.true w.cons-is
  | else-opened-gt0-2 w ↦ top_definite _ _ _ w.if-opened-gt0-2.false w.cons-is
]
