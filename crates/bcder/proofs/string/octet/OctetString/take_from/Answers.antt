use Rattle.bcder.proofs.Valued.{one_not_taken}
use Rattle.bcder.proofs.string.octet.OctetString.take_from.Goals as goal

pub returns-in-Err-clause-took : goal.returns-in-Err-clause-took
returns-in-Err-clause-took g c = one_not_taken _ _ _ _ c.in-Err.error c.in-Err.ensures.took
