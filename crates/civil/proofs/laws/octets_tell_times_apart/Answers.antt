use Rattle.civil.proofs.Ones.{utc_octets_one, generalized_octets_one}
use Rattle.civil.proofs.laws.octets_tell_times_apart.Goals as goal

pub returns-clause-utc : goal.returns-clause-utc
returns-clause-utc c = utc_octets_one

pub returns-clause-generalized : goal.returns-clause-generalized
returns-clause-generalized c = generalized_octets_one
