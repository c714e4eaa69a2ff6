use Rattle.std.proofs.Common.{◌≡◌, length}
use Rattle.std.specs.List.{fold}
use Rattle.bcder.specs.calls.StringOctets.{blocks}
use Rattle.bcder.proofs.string.octet.hash.write_whole.Given as goal

-- with the octets that are left, the hasher is where all of them bring it
abbrev pub invariant-loop-octets : goal.invariant-loop-octets
invariant-loop-octets g l = fold g.H.Hasher.write l.state (blocks l.octets) ≡ fold g.H.Hasher.write l.fn.state (blocks l.fn.octets)

abbrev pub decreases-loop-octets : goal.decreases-loop-octets
decreases-loop-octets g l = length l.octets
