use Rattle.std.proofs.Common.{codes}
use Rattle.cli.proofs.Told.{told}
use Rattle.cli.proofs.tell.tell_unwritten.Goals as goal

pub returns-clause-told : goal.returns-clause-told
returns-clause-told g c = told (g.E.Write.contents c.args.err.now) (g.E.Write.contents c.put_from.new.err) c.args.program.now
    (codes ": the output can't be written") c.requires.1 c.put_from.ensures
