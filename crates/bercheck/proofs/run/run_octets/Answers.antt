use Rattle.bercheck.proofs.Going.{failed_told, goes_alone}
use Rattle.bercheck.proofs.run.run_octets.Goals as goal

pub returns-in-Err-clause-goes : goal.returns-in-Err-clause-goes
returns-in-Err-clause-goes g c = goes_alone (g.W.Write.contents c.args.out.now) (g.E.Write.contents c.args.err.now)
    (g.E.Write.contents c.tell_no_memory.new.err) c.tell_no_memory.result
    (failed_told c.tell_no_memory.result c.tell_no_memory.ensures.failed) c.tell_no_memory.ensures.told
