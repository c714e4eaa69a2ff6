use Rattle.bcder.specs.steps.StopCause.{stop_cause}
use Rattle.bcder.specs.calls.Content.{any}
use Rattle.bcder.specs.calls.Calls.{left_open}
use Rattle.bcder.specs.calls.Views.{of_constructed}
use Rattle.bcder.proofs.Entering.{end_refused, header_not_at_end, header_entered}
use Rattle.bcder.proofs.SameBorrow.{within_constructed}
use Rattle.bcder.proofs.decode.content.Constructed.finish_slow.Goals as goal

pub returns-in-Err-clause-refused : goal.returns-in-Err-clause-refused
returns-in-Err-clause-refused g c = end_refused stop_cause _ _ _ c.in-Err.ensures.refused

pub returns-in-Ok-Some-clause-refused : goal.returns-in-Ok-Some-clause-refused
returns-in-Ok-Some-clause-refused g c =
    let i = of_constructed g.S.Source.stream c.args.self.now in
    let e = rw c.in-Ok-Some.field-0-is at c.in-Ok-Some.ensures.entered in
    left_open
    (header_not_at_end i _ (within_constructed g.S.Source.stream g.met.S.Source.sound c.args.self.now) e.1.usable (header_entered i _ _ any e.0 e.1)) tt
