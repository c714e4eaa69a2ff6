use Rattle.std.proofs.Common.{◌≡◌, take}
use Rattle.std.specs.List.{list_all}
use Rattle.asn1.specs.CharacterSets.{is_visible}
use Rattle.asn1.proofs.char_sets.visible.are_visible.Given as goal

-- whether the octets so far are characters of the set
abbrev pub invariant-loop-octet : goal.invariant-loop-octet
invariant-loop-octet l = l.all ≡ list_all is_visible (take l.octet-index l.octets)
