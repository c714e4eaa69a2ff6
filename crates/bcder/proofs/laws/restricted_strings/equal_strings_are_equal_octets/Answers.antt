use Rattle.bcder.proofs.RestrictedBack.{one_restricted}
use Rattle.bcder.proofs.laws.restricted_strings.equal_strings_are_equal_octets.Goals as goal

pub returns : goal.returns
returns g c = one_restricted g.L.CharSet.step
