use Rattle.real.proofs.bases.+over_fives.Given as goal

abbrev pub decreases-over_fives : goal.decreases-over_fives
decreases-over_fives l = l.count
