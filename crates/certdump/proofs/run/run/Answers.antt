use Rattle.std.specs.Io.Buffered.{writer_contents}
use Rattle.certdump.proofs.Adding.{line_shown, same_shown}
use Rattle.certdump.proofs.run.run.Goals as goal

pub returns-in-Err-clause-cut : goal.returns-in-Err-clause-cut
returns-in-Err-clause-cut g c = same_shown (writer_contents g.W.Write.contents c.args.out.now)

pub returns-in-Err-clause-told : goal.returns-in-Err-clause-told
returns-in-Err-clause-told g c = line_shown (g.E.Write.contents c.args.err.now) (g.E.Write.contents c.tell_no_memory.new.err) c.tell_no_memory.ensures.told
