use Rattle.std.proofs.Common.{arith, inl, inr, refl}
use Rattle.std.proofs.lemmas.Int.{ints}
use Rattle.real.proofs.reading.scaled.Goals as goal

pub returns-in-1-clause-same : goal.returns-in-1-clause-same
returns-in-1-clause-same c = (3, inr (inl (c.in-1.is, refl)), omega (arith, ints))

pub returns-in-2-clause-same : goal.returns-in-2-clause-same
returns-in-2-clause-same c = (4, inr (inr (c.in-2.is, refl)), omega (arith, ints))
