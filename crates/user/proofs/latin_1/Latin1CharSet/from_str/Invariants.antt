use Rattle.std.proofs.Common.{◌≡◌}
use Rattle.bcder.specs.laws.CharSets.{AllHave}
use Rattle.user.specs.Latin1.{is_octet}
use Rattle.user.proofs.latin_1.Latin1CharSet.from_str.Given as goal

-- the octets so far are the characters so far
abbrev pub invariant-loop-character : goal.invariant-loop-character
invariant-loop-character l = record {
  same : l.octets.items ≡ l.yielded;
  octets : AllHave is_octet l.yielded;
}
