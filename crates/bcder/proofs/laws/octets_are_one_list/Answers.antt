use Rattle.bcder.specs.laws.Complete.{one_list}
use Rattle.bcder.proofs.laws.octets_are_one_list.Goals as goal

pub returns : goal.returns
returns c = one_list
