use Rattle.rules.proofs.Agreeing.{sets_in_order}
use Rattle.rules.proofs.laws.sets_are_in_order.Goals as goal

pub returns : goal.returns
returns c = sets_in_order
