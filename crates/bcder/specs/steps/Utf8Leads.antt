-- What the code keeps of the first of several octets.
use Rattle.bcder.specs.declared.string.restricted.utf8.Lead.{Lead}
use Rattle.bcder.specs.x690.Utf8 as utf8

abbrev pub of_lead : Lead → utf8.Lead
of_lead l = record { bits = l.bits; low = l.low; high = l.high; tails = l.tails }
