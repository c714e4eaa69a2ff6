use Rattle.std.proofs.lemmas.Str.Pattern.{starts_text}
use Rattle.names.specs.Names.{begins}
use Rattle.names.proofs.begins.Goals as goal

pub returns : goal.returns
unfolding begins
returns c = starts_text c.starts_with.result c.args.prefix.now c.args.number.now c.starts_with.ensures.cases
