use Rattle.asn1.proofs.Kept.{keeps_one, kept_once}
use Rattle.asn1.proofs.any.AnyType.values_are_one.Goals as goal

pub returns-clause-one : goal.returns-clause-one
returns-clause-one c = keeps_one

pub returns-clause-once : goal.returns-clause-once
returns-clause-once c = λ k mode n. kept_once mode
