use Rattle.bcder.specs.laws.Complete.{only_at_front}
use Rattle.bcder.proofs.laws.a_front_is_one_value.Goals as goal

pub returns : goal.returns
returns c = only_at_front
