use Rattle.std.proofs.Common.{ap}
use Rattle.bcder.specs.calls.Captured.{Kept}
use Rattle.bcder.proofs.captured.Captured.decode.Goals as goal

pub returns-clause-ok : goal.returns-clause-ok
returns-clause-ok g c = rw (← ap (λ (k : Kept). k.mode) c.self.view_is) c.decode.ensures.ok
