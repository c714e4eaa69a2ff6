use Rattle.bcder.proofs.SameBorrow.{within_constructed}
use Rattle.bcder.proofs.Exactness.{one_exactly, next_exactly}
use Rattle.bcder.proofs.laws.exactly.a_value_is_captured.Goals as goal

pub returns-clause-capture_one : goal.returns-clause-capture_one
returns-clause-capture_one g c = λ w r n p m t v rest h. one_exactly _ _ n r p m t v rest h

pub returns-clause-capture_opt_one : goal.returns-clause-capture_opt_one
returns-clause-capture_opt_one g c = λ w r n p. next_exactly _ _ (within_constructed g.S.Source.stream g.met.S.Source.sound w.entry.now) n r p
