use Rattle.std.proofs.KnownBytes.{Keeps-refl}
use Rattle.berdump.proofs.Running.{all_titled, bound_join, bound_untitled}
use Rattle.berdump.proofs.run.run_block.Goals as goal

pub returns-in-Ok-clause-bound : goal.returns-in-Ok-clause-bound
returns-in-Ok-clause-bound g c = bound_join c.args.request.scope c.args.request.mode (g.W.Write.contents c.args.out.now)
    (g.W.Write.contents c.write_title.new.out) (g.W.Write.contents c.run_body.new.out) c.run_body.result
    (all_titled c.args.request.scope c.args.request.mode c.args.is_first (g.W.Write.contents c.args.out.now)
    (g.W.Write.contents c.write_title.new.out) c.in-Ok.ensures.titled) c.run_body.ensures.bound

pub returns-in-Err-clause-bound : goal.returns-in-Err-clause-bound
returns-in-Err-clause-bound g c = bound_untitled c.args.request.scope c.args.request.mode c.args.is_first (g.W.Write.contents c.args.out.now)
    (g.W.Write.contents c.write_title.new.out) (g.W.Write.contents c.write_title.new.out) c.in-Err.error c.tell_error.result c.tell_error.ensures.status
    c.in-Err.ensures.untitled (Keeps-refl (g.W.Write.contents c.write_title.new.out))
