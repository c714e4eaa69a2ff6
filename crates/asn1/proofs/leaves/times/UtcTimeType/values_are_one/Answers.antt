use Rattle.asn1.specs.Times.{IsUtcContents}
use Rattle.asn1.proofs.PiecesBack.{leaf_one}
use Rattle.asn1.proofs.leaves.times.UtcTimeType.values_are_one.Goals as goal

pub returns-clause-one : goal.returns-clause-one
returns-clause-one c = λ mode. leaf_one (IsUtcContents mode) (λ x. x) (c.contents_are_one.ensures.one mode)
