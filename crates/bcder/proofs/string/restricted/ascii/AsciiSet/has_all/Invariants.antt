use Rattle.std.proofs.Common.{◌≡◌, take}
use Rattle.std.specs.List.{list_all}
use Rattle.bcder.proofs.string.restricted.ascii.AsciiSet.has_all.Given as goal

-- whether the octets so far are characters of the set
abbrev pub invariant-loop-octet : goal.invariant-loop-octet
invariant-loop-octet g l = l.all ≡ list_all g.Self.AsciiSet.test (take l.octet-index l.octets)
