use Rattle.bcder.proofs.Fewest.{no_fewer, one_fewest, one_of_length}
use Rattle.bcder.proofs.laws.identifiers.fewest_octets_are_one.Goals as goal

pub returns-clause-fewest : goal.returns-clause-fewest
returns-clause-fewest c = no_fewer

pub returns-clause-one : goal.returns-clause-one
returns-clause-one c = one_fewest

pub returns-clause-one_of_length : goal.returns-clause-one_of_length
returns-clause-one_of_length c = one_of_length
