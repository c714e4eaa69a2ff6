use Rattle.certdump.proofs.Adding.{line_shown}
use Rattle.certdump.proofs.run.write_page.Goals as goal

pub returns-then-is_err-clause-told : goal.returns-then-is_err-clause-told
returns-then-is_err-clause-told g c = line_shown (g.E.Write.contents c.args.err.now) (g.E.Write.contents c.tell_unwritten.new.err) c.tell_unwritten.ensures.told
