use Rattle.bcder.specs.laws.Octets.{AreOctets-encoding, AreOctets-encodings}
use Rattle.bcder.proofs.laws.encodings_are_octets.Goals as goal

pub returns-clause-value : goal.returns-clause-value
returns-clause-value c = AreOctets-encoding

pub returns-clause-list : goal.returns-clause-list
returns-clause-list c = AreOctets-encodings
