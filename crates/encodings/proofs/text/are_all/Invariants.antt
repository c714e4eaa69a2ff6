use Rattle.std.proofs.Common.{length}
use Rattle.encodings.specs.Text.{test_of}
use Rattle.encodings.proofs.Spelling.{Decides}
use Rattle.encodings.proofs.text.are_all.Given as goal

abbrev pub invariant-loop-rest : goal.invariant-loop-rest
invariant-loop-rest l = Decides (test_of l.fn.set) l.fn.octets l.rest

abbrev pub decreases-loop-rest : goal.decreases-loop-rest
decreases-loop-rest l = length l.rest
