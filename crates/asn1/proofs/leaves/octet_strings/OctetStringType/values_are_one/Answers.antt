use Rattle.asn1.proofs.StringKeys.{string_means_one, string_meant_once}
use Rattle.asn1.proofs.leaves.octet_strings.OctetStringType.values_are_one.Goals as goal

pub returns-clause-one : goal.returns-clause-one
returns-clause-one c = string_means_one

pub returns-clause-once : goal.returns-clause-once
returns-clause-once c = λ k. string_meant_once
