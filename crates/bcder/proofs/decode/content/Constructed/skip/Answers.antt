use Rattle.bcder.proofs.SkipCalls.{value_refused}
use Rattle.bcder.proofs.decode.content.Constructed.skip.Goals as goal

pub returns-in-Err-clause-skipped : goal.returns-in-Err-clause-skipped
returns-in-Err-clause-skipped g c = value_refused _ _ _ _ _ c.in-Err.error c.in-Err.ensures.skipped
