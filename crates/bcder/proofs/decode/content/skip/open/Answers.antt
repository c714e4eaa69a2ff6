use Rattle.std.proofs.Common.{arith, sym}
use Rattle.bcder.proofs.Unwinding.{inner_least, no_room, full_deep}
use Rattle.bcder.proofs.decode.content.skip.open.Goals as goal

pub returns-then-is_err-clause-full : goal.returns-then-is_err-clause-full
returns-then-is_err-clause-full g c = λ _. full_deep _ c.requires.counted (no_room _ _ c.push.ensures.succeeds (sym c.if-is_err.ensures.value))

pub overflow_add-opened : goal.overflow_add-opened
overflow_add-opened g c = (let x = inner_least _ c.requires.counted in let y = c.requires.few in omega (arith, x, y))
