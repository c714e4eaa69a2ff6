use Rattle.std.proofs.Common.{arith}
use Rattle.encodings.proofs.Cutting.{ends_closed}
use Rattle.encodings.proofs.cut.end_string.Goals as goal

pub returns-in-Ok : goal.returns-in-Ok
returns-in-Ok c = c.in-Ok.ensures _ c.if-room-gt0.true

pub returns-in-Ok-push : goal.returns-in-Ok-push
returns-in-Ok-push c = ends_closed _ _ _ (omega (arith, c.if-room-gt0.false)) c.in-Ok-push.ensures
