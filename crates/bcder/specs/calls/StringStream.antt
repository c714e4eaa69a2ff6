-- The source over the octets of a string, at some point in it.
use Rattle.std.specs.Prelude.{ℕ, ◌-◌, ◌<◌, List, [], ◌++◌, length}
use Rattle.bcder.specs.declared.{string.octet.source.OctetStringSource.OctetStringSource}
use Rattle.bcder.specs.calls.Stream.{Stream}
use Rattle.bcder.specs.calls.StringSource.{all_behind}

abbrev pub to_come : OctetStringSource → List ℕ
to_come s = s.front.octets ++ all_behind s.behind

-- how many octets came before
abbrev pub came : OctetStringSource → ℕ
came s = s.reached - length s.front.octets

-- the octets of the string source, as a stream
abbrev pub source_stream : OctetStringSource → Stream
source_stream s = record { rest = to_come s; avail = length s.front.octets; faults = s.faults; position = came s; kept = [] }

-- fewer than n octets are at hand, and others are to come
abbrev pub HasMoreFor : ℕ → Stream → Type 0
HasMoreFor n s = (s.avail < n) × (s.avail < length s.rest)
