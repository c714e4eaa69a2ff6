use Rattle.cli.proofs.Parts.{label_told}
use Rattle.cli.proofs.pem.label_of.Goals as goal

pub returns-clause-label : goal.returns-clause-label
returns-clause-label c =
    label_told c.args.line.now c.trim_ascii_end.result.now c.strip_suffix.result c.trim_ascii_end.ensures.value c.strip_suffix.ensures.cases
