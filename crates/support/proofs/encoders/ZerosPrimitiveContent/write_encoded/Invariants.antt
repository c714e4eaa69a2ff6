-- As many zeros were written as turns were made.
use Rattle.std.specs.Io.KnownBytes.{Appends}
use Rattle.support.specs.Counted.{zeros}
use Rattle.support.proofs.encoders.ZerosPrimitiveContent.write_encoded.Given as goal

abbrev pub invariant-loop : goal.invariant-loop
invariant-loop g l = Appends (g.W.Write.contents l.initial.target) (g.W.Write.contents l.target) (zeros l.counter)
