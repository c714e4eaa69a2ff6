-- Which octet strings are read back (X.690, 8.7).
use Rattle.bcder.specs.declared.mode.Mode.{Mode}
use Rattle.bcder.specs.x690.Identifier.{Tag}
use Rattle.bcder.specs.calls.StringMeaning.{StringMeans}
use Rattle.bcder.specs.calls.StringOctets.{StringOctets, octets_of}
use Rattle.bcder.specs.calls.Written.{WritesString}

-- what is written of the string, whatever the tag, is an octet string with its octets
abbrev pub IsWrittenAsString : Mode → StringOctets → Type 0
IsWrittenAsString mode s = (tag : Tag) → WritesString tag mode (octets_of s) (StringMeans tag s mode)
