use Rattle.bcder.proofs.Contents.{truth_read}
use Rattle.bcder.proofs.laws.read_back.booleans_and_null_are_read_back.Goals as goal

pub returns-clause-booleans : goal.returns-clause-booleans
returns-clause-booleans c = λ mode x h. truth_read mode x
