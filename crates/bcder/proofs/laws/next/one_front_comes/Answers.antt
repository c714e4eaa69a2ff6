use Rattle.bcder.proofs.SameBorrow.{within_constructed, constructed_form}
use Rattle.bcder.proofs.OneFront.{one_front}
use Rattle.bcder.proofs.laws.next.one_front_comes.Goals as goal

pub returns : goal.returns
returns g c =
    λ asked v o. one_front _ (within_constructed g.S.Source.stream g.met.S.Source.sound v) (constructed_form g.S.Source.stream v) o asked
