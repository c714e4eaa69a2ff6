use Rattle.real.proofs.text.+raised.Given as goal

abbrev pub decreases-raised : goal.decreases-raised
decreases-raised l = l.count
