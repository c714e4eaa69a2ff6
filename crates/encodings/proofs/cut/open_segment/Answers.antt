use Rattle.std.proofs.Common.{refl, arith}
use Rattle.encodings.proofs.Cutting.{opens_segment, opens_more}
use Rattle.encodings.proofs.cut.open_segment.Goals as goal

pub returns-then-room-gt0-clause-opens : goal.returns-then-room-gt0-clause-opens
returns-then-room-gt0-clause-opens c = opens_more _ _ _ c.if-room-gt0.true refl

pub returns-in-Ok-clause-opens : goal.returns-in-Ok-clause-opens
returns-in-Ok-clause-opens c = opens_segment _ _ _ (omega (arith, c.if-room-gt0.false)) c.in-Ok.ensures
