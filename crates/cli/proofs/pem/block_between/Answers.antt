use Rattle.cli.proofs.Parts.{rest_short}
use Rattle.cli.proofs.pem.block_between.Goals as goal

pub returns-clause-less : goal.returns-clause-less
returns-clause-less c = rest_short c.block_at.result.rest.now c.split_line.result.1.now c.args.behind.now c.block_at.ensures.less c.split_line.ensures.after
