use Rattle.std.proofs.Common.{◌+◌, ◌*◌, length}
use Rattle.encodings.specs.Open.{open_values, to_come}
use Rattle.encodings.specs.Pieces.{all_made}
use Rattle.encodings.proofs.Converting.{InRead}
use Rattle.encodings.proofs.convert.read.Given as goal

abbrev pub invariant-loop-rest : goal.invariant-loop-rest
invariant-loop-rest l = InRead l.fn.from l.fn.to l.fn.octets l.inside (open_values l.opened.items) l.rest (all_made l.items.items)

abbrev pub decreases-loop-rest : goal.decreases-loop-rest
decreases-loop-rest l = length (to_come (open_values l.opened.items) l.rest) * 2 + length (open_values l.opened.items)
