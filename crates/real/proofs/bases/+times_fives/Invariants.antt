use Rattle.real.proofs.bases.+times_fives.Given as goal

abbrev pub decreases-times_fives : goal.decreases-times_fives
decreases-times_fives l = l.count
