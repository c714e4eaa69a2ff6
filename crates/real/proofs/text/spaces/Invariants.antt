use Rattle.std.proofs.Common.{◌≡◌, ◌+◌, drop}
use Rattle.std.specs.List.{prefix_len}
use Rattle.real.specs.Scan.{is_space}
use Rattle.real.proofs.text.spaces.Given as goal

abbrev pub invariant-loop-count : goal.invariant-loop-count
invariant-loop-count l = l.count + prefix_len is_space (drop l.count l.octets) ≡ prefix_len is_space l.octets
