use Rattle.bcder.proofs.RestrictedBack.{written_as_read_of}
use Rattle.bcder.proofs.laws.restricted_strings.what_is_read_is_written_back.Goals as goal

pub returns-clause-owned : goal.returns-clause-owned
returns-clause-owned g c = written_as_read_of g.L.CharSet.step c.args.string.now

pub returns-clause-borrowed : goal.returns-clause-borrowed
returns-clause-borrowed g c = written_as_read_of g.L.CharSet.step c.args.string.now
