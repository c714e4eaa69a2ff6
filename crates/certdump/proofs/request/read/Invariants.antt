use Rattle.std.proofs.Common.{length}
use Rattle.certdump.proofs.request.read.Given as goal

abbrev pub invariant-loop-argument : goal.invariant-loop-argument
invariant-loop-argument l = Unit {0}

abbrev pub decreases-loop-argument : goal.decreases-loop-argument
decreases-loop-argument l = length l.args.words.now
