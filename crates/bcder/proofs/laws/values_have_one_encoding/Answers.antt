use Rattle.bcder.specs.laws.Canonical.{one_spelling_each}
use Rattle.bcder.proofs.laws.values_have_one_encoding.Goals as goal

pub returns : goal.returns
returns c = one_spelling_each
