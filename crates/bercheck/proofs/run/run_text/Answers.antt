use Rattle.bercheck.proofs.Going.{goes_alone, refused_told}
use Rattle.bercheck.proofs.run.run_text.Goals as goal

pub returns-then-is_none-clause-goes : goal.returns-then-is_none-clause-goes
returns-then-is_none-clause-goes g c = goes_alone (g.W.Write.contents c.args.out.now) (g.E.Write.contents c.args.err.now)
    (g.E.Write.contents c.refuse.new.err) c.refuse.result
    (refused_told c.refuse.result c.refuse.ensures.refused) c.refuse.ensures.told
