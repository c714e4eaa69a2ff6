use Rattle.std.proofs.Common.{◌≡◌, ◌++◌, length}
use Rattle.std.specs.List.{concat}
use Rattle.bcder.proofs.string.octet.compare.front.Given as goal

-- only empty parts were passed
abbrev pub invariant-loop-parts : goal.invariant-loop-parts
invariant-loop-parts l = l.part ++ concat l.parts ≡ l.fn.part ++ concat l.fn.parts

abbrev pub decreases-loop-parts : goal.decreases-loop-parts
decreases-loop-parts l = length l.parts
