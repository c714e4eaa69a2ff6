use Rattle.bcder.proofs.TakenBack.{integer_taken}
use Rattle.bcder.proofs.laws.taken_back.an_integer_is_taken_back.Goals as goal

pub returns : goal.returns
returns g c = integer_taken c.args.x.now c.args.mode c.requires
