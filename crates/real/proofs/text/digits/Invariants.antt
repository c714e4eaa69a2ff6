use Rattle.std.proofs.Common.{◌≡◌, ◌+◌, drop}
use Rattle.std.specs.List.{prefix_len}
use Rattle.real.specs.Decimal.{is_digit}
use Rattle.real.proofs.text.digits.Given as goal

abbrev pub invariant-loop-count : goal.invariant-loop-count
invariant-loop-count l = l.count + prefix_len is_digit (drop l.count l.octets) ≡ prefix_len is_digit l.octets
