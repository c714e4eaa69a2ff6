use Rattle.std.proofs.Common.{subst}
use Rattle.berconv.specs.Ends.{Ends}
use Rattle.berconv.proofs.run.run.Goals as goal

pub returns-in-Ok : goal.returns-in-Ok
returns-in-Ok g c = rw c.in-Ok.is (subst (λ v. Ends c.args.request v (g.W.Write.contents c.args.out.now) (g.W.Write.contents c.run_read.new.out)
    (g.E.Write.contents c.args.err.now) (g.E.Write.contents c.run_read.new.err) c.run_read.result) c.deref.ensures.value c.run_read.ensures)
