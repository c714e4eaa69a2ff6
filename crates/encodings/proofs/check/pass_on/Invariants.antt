use Rattle.std.proofs.Common.{◌+◌, ◌-◌, ◌*◌, length}
use Rattle.encodings.proofs.Checking.{Checks}
use Rattle.encodings.proofs.check.pass_on.Given as goal

abbrev pub invariant-loop-checked : goal.invariant-loop-checked
invariant-loop-checked l = Checks l.fn.mode (length l.fn.stack) l.fn.octets l.stack l.walk l.checked

abbrev pub decreases-loop-checked : goal.decreases-loop-checked
decreases-loop-checked l = (length l.fn.octets - l.walk.at) * 2 + l.walk.depth
