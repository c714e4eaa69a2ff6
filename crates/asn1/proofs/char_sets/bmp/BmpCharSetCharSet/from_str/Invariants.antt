use Rattle.std.proofs.Common.{◌≡◌}
use Rattle.bcder.specs.laws.CharSets.{AllHave}
use Rattle.asn1.specs.CharacterSets.{is_cell, cell_octets, each_octets}
use Rattle.asn1.proofs.char_sets.bmp.BmpCharSetCharSet.from_str.Given as goal

-- the octets so far are those of the characters so far
abbrev pub invariant-loop-character : goal.invariant-loop-character
invariant-loop-character l = record {
  same : l.octets.items ≡ each_octets cell_octets l.yielded;
  cells : AllHave is_cell l.yielded;
}
