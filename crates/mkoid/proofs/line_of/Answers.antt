use Rattle.bcder.proofs.Lemmas.{may_lack_memory_for}
use Rattle.mkoid.proofs.line_of.Goals as goal

pub returns-in-Ok-clause-refused : goal.returns-in-Ok-clause-refused
returns-in-Ok-clause-refused c = may_lack_memory_for c.args.arg.now c.in-Ok.oid.0.items c.in-Ok.ensures.ok
