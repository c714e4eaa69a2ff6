use Rattle.bcder.proofs.Contents.{natural_read}
use Rattle.bcder.proofs.laws.read_back.an_unsigned_is_read_back.Goals as goal

pub returns : goal.returns
returns c = natural_read c.args.x.now
