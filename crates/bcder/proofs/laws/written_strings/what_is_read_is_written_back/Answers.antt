use Rattle.bcder.proofs.StringsBack.{written_as_read}
use Rattle.bcder.proofs.laws.written_strings.what_is_read_is_written_back.Goals as goal

pub returns-clause-owned : goal.returns-clause-owned
returns-clause-owned c = written_as_read c.args.string.now

pub returns-clause-borrowed : goal.returns-clause-borrowed
returns-clause-borrowed c = written_as_read c.args.string.now
