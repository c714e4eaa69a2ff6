-- What was passed is in the line.
use Rattle.std.specs.Prelude.{◌≡◌, ◌++◌, take, drop}
use Rattle.cli.specs.Pem.{line_of, after_line}
use Rattle.cli.proofs.pem.split_line.Given as goal

abbrev pub invariant-loop-at : goal.invariant-loop-at
invariant-loop-at l = (line_of l.octets ≡ take l.at l.octets ++ line_of (drop l.at l.octets)) × (after_line l.octets ≡ after_line (drop l.at l.octets))
