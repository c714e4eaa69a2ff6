use Rattle.bcder.proofs.TakenBack.{natural_taken}
use Rattle.bcder.proofs.laws.taken_back.an_unsigned_is_taken_back.Goals as goal

pub returns : goal.returns
returns g c = natural_taken c.args.x.now c.args.mode c.requires
