use Rattle.std.proofs.Common.{arith}
use Rattle.encodings.proofs.Cutting.{fills_some, fills_all}
use Rattle.encodings.proofs.cut.fill.Goals as goal

pub returns-then-left-gt0 : goal.returns-then-left-gt0
returns-then-left-gt0 c = fills_some _ _ _ _ _ c.if-left-gt0.true (omega (arith, c.requires)) c.in-Ok.ensures

pub returns-in-Ok-push : goal.returns-in-Ok-push
returns-in-Ok-push c = fills_all _ _ _ _ _ (omega (arith, c.requires, c.if-left-gt0.false)) c.in-Ok.ensures c.in-Ok-push.ensures
