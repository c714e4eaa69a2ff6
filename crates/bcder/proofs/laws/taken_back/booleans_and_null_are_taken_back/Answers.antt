use Rattle.bcder.proofs.TakenBack.{truth_taken, null_taken}
use Rattle.bcder.proofs.laws.taken_back.booleans_and_null_are_taken_back.Goals as goal

pub returns-clause-booleans : goal.returns-clause-booleans
returns-clause-booleans g c = λ mode x h. truth_taken mode x

pub returns-clause-null : goal.returns-clause-null
returns-clause-null g c = λ mode x h. null_taken mode x
