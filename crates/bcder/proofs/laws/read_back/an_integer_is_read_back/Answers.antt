use Rattle.bcder.proofs.Contents.{integer_read}
use Rattle.bcder.proofs.laws.read_back.an_integer_is_read_back.Goals as goal

pub returns : goal.returns
returns c = integer_read c.args.x.now
