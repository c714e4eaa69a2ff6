use Rattle.bcder.proofs.SameBorrow.{within_constructed, constructed_form}
use Rattle.bcder.proofs.OneFront.{next_at, one_at}
use Rattle.bcder.proofs.laws.next.a_take_returns_by_front.Goals as goal

pub returns-clause-next : goal.returns-clause-next
returns-clause-next g c = λ view op form asked w r n p o f h. next_at view _ form asked _ _
    (within_constructed g.S.Source.stream g.met.S.Source.sound w.entry.now) (constructed_form g.S.Source.stream w.entry.now) o n r p f h

pub returns-clause-next_of_tag : goal.returns-clause-next_of_tag
returns-clause-next_of_tag g c = λ view op form asked w r n p o f h. next_at view _ form asked _ _
    (within_constructed g.S.Source.stream g.met.S.Source.sound w.entry.now) (constructed_form g.S.Source.stream w.entry.now) o n r p f h

pub returns-clause-one : goal.returns-clause-one
returns-clause-one g c = λ view op form asked w r n p o f h. one_at view _ form asked _ _
    (within_constructed g.S.Source.stream g.met.S.Source.sound w.entry.now) (constructed_form g.S.Source.stream w.entry.now) o n r p f h

pub returns-clause-one_of_tag : goal.returns-clause-one_of_tag
returns-clause-one_of_tag g c = λ view op form asked w r n p o f h. one_at view _ form asked _ _
    (within_constructed g.S.Source.stream g.met.S.Source.sound w.entry.now) (constructed_form g.S.Source.stream w.entry.now) o n r p f h
