use Rattle.bcder.specs.laws.Identifiers.{one_identifier}
use Rattle.bcder.specs.laws.Lengths.{one_length, one_end}
use Rattle.bcder.proofs.laws.no_header_begins_another.Goals as goal

pub returns-clause-identifier : goal.returns-clause-identifier
returns-clause-identifier c = one_identifier

pub returns-clause-length : goal.returns-clause-length
returns-clause-length c = one_length

pub returns-clause-end : goal.returns-clause-end
returns-clause-end c = one_end
