-- What is written is a front of what is meant, and as many are left as turns.
use Rattle.std.proofs.Common.{◌-◌}
use Rattle.bcder.proofs.Lemmas.{WrittenSoFar}
use Rattle.support.specs.Counted.{NullsMean}
use Rattle.support.proofs.encoders.write_nulls.Given as goal

abbrev pub invariant-loop : goal.invariant-loop
invariant-loop g l = WrittenSoFar (NullsMean l.count) (NullsMean (l.count - l.counter)) (g.W.Write.contents l.initial.target) (g.W.Write.contents l.target)
