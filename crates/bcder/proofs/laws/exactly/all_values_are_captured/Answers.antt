use Rattle.bcder.proofs.Exactness.{captures_all_exactly}
use Rattle.bcder.proofs.laws.exactly.all_values_are_captured.Goals as goal

pub returns : goal.returns
returns g c = λ w r n p m. captures_all_exactly _ _ n r p m
