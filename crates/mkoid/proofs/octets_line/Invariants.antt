-- The octets so far stand in the line.
use Rattle.std.proofs.Common.{◌≡◌, ◌++◌, take, string_bytes}
use Rattle.std.specs.Prelude.{codes, flat_map}
use Rattle.mkoid.specs.Lines.{with_comma}
use Rattle.mkoid.proofs.octets_line.Given as goal

abbrev pub invariant-loop-octet : goal.invariant-loop-octet
invariant-loop-octet l = string_bytes l.line ≡ codes "[" ++ flat_map with_comma (take l.octet-index l.octets)
