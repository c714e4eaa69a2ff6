use Rattle.real.proofs.decimal.+without_zeros.Given as goal

abbrev pub decreases-without_zeros : goal.decreases-without_zeros
decreases-without_zeros l = l.number
