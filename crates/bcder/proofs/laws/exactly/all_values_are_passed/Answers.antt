use Rattle.bcder.proofs.Exactness.{all_exactly}
use Rattle.bcder.proofs.laws.exactly.all_values_are_passed.Goals as goal

pub returns : goal.returns
returns g c = λ w r n p m o h. all_exactly _ _ n r p m o h
