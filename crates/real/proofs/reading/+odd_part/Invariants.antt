use Rattle.real.proofs.reading.+odd_part.Given as goal

abbrev pub decreases-odd_part : goal.decreases-odd_part
decreases-odd_part l = l.bits
