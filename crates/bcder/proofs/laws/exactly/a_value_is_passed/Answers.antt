use Rattle.bcder.proofs.SameBorrow.{within_constructed}
use Rattle.bcder.proofs.Exactness.{walked_exactly, passed_exactly}
use Rattle.bcder.proofs.laws.exactly.a_value_is_passed.Goals as goal

pub returns-clause-walk : goal.returns-clause-walk
returns-clause-walk g c = λ w r n p. walked_exactly _ _ (within_constructed g.S.Source.stream g.met.S.Source.sound w.entry.now) n r p

pub returns-clause-skip_one : goal.returns-clause-skip_one
returns-clause-skip_one g c = λ w r n p m. passed_exactly _ _ (within_constructed g.S.Source.stream g.met.S.Source.sound w.entry.now) n r p m
