use Rattle.bcder.proofs.Writing.{same_octets}
use Rattle.bcder.proofs.encode.short.put_few.Goals as goal

pub returns : goal.returns
returns g c = same_octets c.few_together.ensures c.put_all-2.ensures
