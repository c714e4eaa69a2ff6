use Rattle.real.proofs.double.+raised.Given as goal

abbrev pub decreases-raised : goal.decreases-raised
decreases-raised l = l.place
