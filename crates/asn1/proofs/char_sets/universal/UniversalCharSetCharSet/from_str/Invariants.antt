use Rattle.std.proofs.Common.{◌≡◌}
use Rattle.bcder.specs.laws.CharSets.{AllHave}
use Rattle.asn1.specs.CharacterSets.{is_code_point, code_point_octets, each_octets}
use Rattle.asn1.proofs.char_sets.universal.UniversalCharSetCharSet.from_str.Given as goal

-- the octets so far are those of the characters so far
abbrev pub invariant-loop-character : goal.invariant-loop-character
invariant-loop-character l = record {
  same : l.octets.items ≡ each_octets code_point_octets l.yielded;
  code_points : AllHave is_code_point l.yielded;
}
