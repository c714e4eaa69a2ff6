use Rattle.asn1.proofs.StringKeys.{restricted_means_one, restricted_meant_once}
use Rattle.asn1.proofs.leaves.characters.RestrictedStringType.values_are_one.Goals as goal

pub returns-clause-one : goal.returns-clause-one
returns-clause-one g c = restricted_means_one g.L.CharSet.step

pub returns-clause-once : goal.returns-clause-once
returns-clause-once g c = λ k. restricted_meant_once g.L.CharSet.step
