use Rattle.std.proofs.Common.{drop}
use Rattle.encodings.proofs.Keying.{Joins}
use Rattle.encodings.proofs.sets.joined.Given as goal

abbrev pub invariant-loop-element : goal.invariant-loop-element
invariant-loop-element l = Joins l.elements (drop l.element-index l.elements) l.octets.items
