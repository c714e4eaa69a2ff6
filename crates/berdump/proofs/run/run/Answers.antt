use Rattle.std.proofs.Common.{◌==◌, length, true}
use Rattle.std.specs.Io.Buffered.{writer_contents}
use Rattle.berdump.proofs.Running.{files_kept}
use Rattle.berdump.proofs.run.run.Goals as goal

pub returns-in-Ok-clause-files : goal.returns-in-Ok-clause-files
returns-in-Ok-clause-files g c = λ z. files_kept c.args.request (length c.args.inputs.now == 1) true c.args.inputs.now
    (writer_contents g.W.Write.contents c.args.out.now) (writer_contents g.W.Write.contents c.run_inputs.new.out)
    (writer_contents g.W.Write.contents c.flush.new.self) (c.in-Done.ensures.files z) c.flush.ensures.bytes
