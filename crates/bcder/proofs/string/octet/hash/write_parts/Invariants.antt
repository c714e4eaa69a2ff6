use Rattle.std.proofs.Common.{◌≡◌, ◌++◌, [], length}
use Rattle.std.specs.List.{concat, fold}
use Rattle.bcder.specs.calls.StringOctets.{blocks}
use Rattle.bcder.proofs.string.octet.hash.write_parts.Given as goal

-- with the octets that are left, the hasher is where all of them bring it, and a part is empty only at the end
abbrev pub invariant-loop-parts : goal.invariant-loop-parts
invariant-loop-parts g l = record {
  written : fold g.H.Hasher.write l.state (blocks (l.part ++ concat l.parts)) ≡ fold g.H.Hasher.write l.fn.state (blocks (concat l.fn.parts));
  all : l.part ≡ [] → concat l.parts ≡ [];
}

abbrev pub decreases-loop-parts : goal.decreases-loop-parts
decreases-loop-parts g l = length (l.part ++ concat l.parts)
