use Rattle.std.proofs.Common.{◌≡◌, ◌≤◌, ◌++◌, length, drop}
use Rattle.std.specs.List.{concat}
use Rattle.bcder.proofs.string.octet.iter.OctetStringOctets.next_piece.Given as goal

-- only empty parts were passed
abbrev pub invariant-loop-self : goal.invariant-loop-self
invariant-loop-self l = (drop l.self-inside.given l.self-inside.part.now ++ concat l.self-inside.parts ≡ l.fn.self.octets)
    × (l.self-inside.given ≤ length l.self-inside.part.now)

abbrev pub decreases-loop-self : goal.decreases-loop-self
decreases-loop-self l = length l.self-inside.parts
