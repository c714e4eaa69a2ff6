use Rattle.bercheck.proofs.Going.{failed_told, goes_kept, goes_then, goes_told, kept_grows}
use Rattle.bercheck.proofs.run.run.Goals as goal

pub returns-in-Ok-clause-goes : goal.returns-in-Ok-clause-goes
returns-in-Ok-clause-goes g c = goes_kept (g.W.Write.contents c.args.out.now) (g.W.Write.contents c.run_inputs-status.new.out)
    (g.W.Write.contents c.flush.new.self) (g.E.Write.contents c.args.err.now) (g.E.Write.contents c.run_inputs-status.new.err)
    c.run_inputs-status.result c.run_inputs-status.ensures.goes c.flush.ensures.bytes

pub returns-in-Err-clause-goes : goal.returns-in-Err-clause-goes
returns-in-Err-clause-goes g c =
    let n = failed_told c.tell_unwritten.result c.tell_unwritten.ensures.failed in
    goes_then (g.W.Write.contents c.args.out.now) (g.W.Write.contents c.run_inputs-status.new.out) (g.W.Write.contents c.flush.new.self)
    (g.E.Write.contents c.args.err.now)
    (g.E.Write.contents c.run_inputs-status.new.err) (g.E.Write.contents c.tell_unwritten.new.err) c.run_inputs-status.result c.tell_unwritten.result
    c.run_inputs-status.ensures.goes (goes_told (g.W.Write.contents c.run_inputs-status.new.out) (g.W.Write.contents c.flush.new.self)
    (g.E.Write.contents c.run_inputs-status.new.err) (g.E.Write.contents c.tell_unwritten.new.err) c.tell_unwritten.result n
    (kept_grows (g.W.Write.contents c.run_inputs-status.new.out) (g.W.Write.contents c.flush.new.self) c.flush.ensures.bytes) c.tell_unwritten.ensures.told) n
