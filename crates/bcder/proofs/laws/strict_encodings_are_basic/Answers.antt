use Rattle.bcder.specs.laws.Canonical.{IsEncoding-in_ber, AreEncodings-in_ber}
use Rattle.bcder.proofs.laws.strict_encodings_are_basic.Goals as goal

pub returns-clause-value : goal.returns-clause-value
returns-clause-value c = IsEncoding-in_ber

pub returns-clause-list : goal.returns-clause-list
returns-clause-list c = AreEncodings-in_ber
