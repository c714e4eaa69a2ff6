use Rattle.bcder.proofs.SameBorrow.{within_constructed}
use Rattle.bcder.proofs.Exactness.{skipped_exactly, value_exactly}
use Rattle.bcder.proofs.laws.exactly.a_value_is_skipped.Goals as goal

pub returns-clause-skip_opt : goal.returns-clause-skip_opt
returns-clause-skip_opt g c = λ op w r n p. skipped_exactly _ _ (within_constructed g.S.Source.stream g.met.S.Source.sound w.entry.now) n _ _ _ r p

pub returns-clause-skip : goal.returns-clause-skip
returns-clause-skip g c =
    λ op w r n p t v rest h m. value_exactly _ _ (within_constructed g.S.Source.stream g.met.S.Source.sound w.entry.now) n _ _ _ r p t v rest h m
