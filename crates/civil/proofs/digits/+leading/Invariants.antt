use Rattle.civil.proofs.digits.+leading.Given as goal

abbrev pub decreases-leading : goal.decreases-leading
decreases-leading l = l.count
