use Rattle.bcder.specs.calls.Cause.{cause_of}
use Rattle.bcder.specs.steps.StopCause.{stop_cause}
use Rattle.bcder.proofs.Stopping.{end_stopped}
use Rattle.bcder.proofs.decode.content.inside.ConstructedInside.finish.Goals as goal

pub returns-in-Err-clause-refused : goal.returns-in-Err-clause-refused
returns-in-Err-clause-refused g c = end_stopped stop_cause cause_of _ _ c.stop_error.ensures _ _ c.in-Err.ensures.refused
