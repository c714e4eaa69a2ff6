-- Which identifier octets a source begins with, and what the octets at hand show of them.
use Rattle.std.specs.Prelude.{◌≡◌, ℕ, ◌<◌, ◌≤◌, List, [], ◌++◌, length, drop, Option, Some, None}
use Rattle.bcder.specs.declared.tag.take.PeekedTag.{PeekedTag}
use Rattle.bcder.specs.declared.tag.take.PeekedTag.TheVariants as peeked
use Rattle.bcder.specs.declared.mode.Mode.TheVariants.{Ber}
use Rattle.bcder.specs.x690.Identifier.{IsTag, identifier}
use Rattle.bcder.specs.x690.Broken.{EndsInHeader}
use Rattle.bcder.specs.calls.Violations.{BeginsNoIdentifier}
use Rattle.bcder.specs.calls.Violations.{ViolatesFront}
use Rattle.bcder.specs.calls.Stream.{Stream}

-- what was found of the identifier octets that come next, if n octets are at hand
abbrev pub IsTagPeeked : PeekedTag → ℕ → List ℕ → Type 0
IsTagPeeked peeked.Nothing n w = w ≡ []
IsTagPeeked (peeked.Front t f k) n w = (k ≤ n) × IsTag t × (w ≡ identifier t f ++ drop k w)
IsTagPeeked (peeked.Refused v) n w = (1 ≤ length w) × BeginsNoIdentifier w × ViolatesFront Ber w v

abbrev pub PeeksTag : PeekedTag → Stream → Type 0
PeeksTag p s = IsTagPeeked p s.avail s.rest

-- what the octets at hand show, whatever follows them
abbrev pub SeesTag : Option PeekedTag → List ℕ → Type 0
SeesTag None w = (length w < 4) × BeginsNoIdentifier w × (1 ≤ length w → EndsInHeader w)
SeesTag (Some p) w = (x : List ℕ) → IsTagPeeked p (length w) (w ++ x)
