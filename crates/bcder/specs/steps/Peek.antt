-- What a source begins with, and what the octets at hand show of it.
use Rattle.std.specs.Prelude.{◌≡◌, ℕ, ◌<◌, ◌≤◌, Bool, true, false, List, [], ◌++◌, length, drop, Option, Some, None}
use Rattle.bcder.specs.declared.mode.Mode.{Mode}
use Rattle.bcder.specs.declared.decode.header.Header.{Header as CodeHeader}
use Rattle.bcder.specs.declared.decode.header.Form.{Form}
use Rattle.bcder.specs.declared.decode.header.Form.TheVariants as form
use Rattle.bcder.specs.declared.decode.header.Wanted.{Wanted}
use Rattle.bcder.specs.declared.decode.header.Wanted.TheVariants as wanted
use Rattle.bcder.specs.declared.decode.header.Peeked.{Peeked}
use Rattle.bcder.specs.declared.decode.header.Peeked.TheVariants as peeked
use Rattle.bcder.specs.declared.length.Length.{Length}
use Rattle.bcder.specs.declared.length.Length.TheVariants.{Definite}
use Rattle.bcder.specs.x690.Identifier.{Tag, IsTag, identifier, end_of_contents, is_value_tag}
use Rattle.bcder.specs.x690.Length.{AreLengthOctets}
use Rattle.bcder.specs.x690.Encoding.{Header, may_have}
use Rattle.bcder.specs.x690.Broken.{EndsInHeader}
use Rattle.bcder.specs.calls.Violations.{ViolatesFront}
use Rattle.bcder.specs.steps.Reading.{read_identifier, read_header, read_end}
use Rattle.bcder.specs.calls.Content.{Asked, any, tagged, IsAsked}
use Rattle.bcder.specs.calls.Stream.{Stream}

-- whether a form is the constructed one, and what its length octets say
abbrev pub is_constructed : Form → Bool
is_constructed (form.Primitive n) = false
is_constructed (form.Constructed l) = true

abbrev pub len_of : Form → Length
len_of (form.Primitive n) = Definite n
len_of (form.Constructed l) = l

-- a header as the program represents it
abbrev pub header_of : CodeHeader → Header
header_of h = record { tag = h.tag; form = is_constructed h.form; len = len_of h.form }

-- the header of a primitive value with n contents octets
abbrev pub octets_header : Tag → ℕ → CodeHeader
octets_header t n = record { tag = t; form = form.Primitive n }

-- the headers that are looked for, in the terms of the clauses of content
abbrev pub asked : Wanted → Asked
asked wanted.Any = any
asked (wanted.Tagged t) = tagged t

-- the identifier octets of a tag that isn't asked for come next
abbrev pub HasOtherTag : Asked → List ℕ → Type 0
HasOtherTag asked w = (u : Tag) × (f : Bool) × (x : List ℕ) × (read_identifier w ≡ Some (u, f, x)) × (IsAsked asked u → ⊥)

-- identifier octets and length octets come next, which give this tag, form and length
pub record HasHeaderOctets (mode : Mode) (t : Tag) (f : Bool) (len : Length) (w : List ℕ) : Type 0 where
  pub is_tag : IsTag t
  pub octets : List ℕ
  pub others : List ℕ
  pub tells : AreLengthOctets mode len octets
  pub is : w ≡ identifier t f ++ (octets ++ others)

-- neither the identifier octets of a tag that isn't asked for come next, nor the header of a value, nor end-of-contents octets
abbrev pub HasNoHeader : Mode → Asked → List ℕ → Type 0
HasNoHeader mode asked w = (read_header mode w ≡ None) × (read_end mode w ≡ None) × (HasOtherTag asked w → ⊥)

-- ---- octets, of which n are at hand

-- this header of a value comes next, in k octets that are at hand
abbrev pub IsFront : Mode → CodeHeader → ℕ → ℕ → List ℕ → Type 0
IsFront mode h k n w = (k ≤ n) × (read_header mode w ≡ Some (header_of h, drop k w))

-- end-of-contents octets come next, and are at hand
abbrev pub IsEnd : Mode → ℕ → ℕ → List ℕ → Type 0
IsEnd mode k n w = (k ≤ n) × (read_end mode w ≡ Some (drop k w))

abbrev pub IsPeeked : Mode → Asked → Peeked → ℕ → List ℕ → Type 0
IsPeeked mode asked peeked.Nothing n w = w ≡ []
IsPeeked mode asked peeked.Other n w = HasOtherTag asked w
IsPeeked mode asked (peeked.End k) n w = IsEnd mode k n w × IsAsked asked end_of_contents
IsPeeked mode asked (peeked.Front h k) n w = IsFront mode h k n w × IsAsked asked h.tag
IsPeeked mode asked (peeked.Refused v) n w = (1 ≤ length w) × HasNoHeader mode asked w × ViolatesFront mode w v

-- ---- sources

abbrev pub Fronts : Mode → CodeHeader → ℕ → Stream → Type 0
Fronts mode h k s = IsFront mode h k s.avail s.rest

abbrev pub FrontsEnd : Mode → ℕ → Stream → Type 0
FrontsEnd mode k s = IsEnd mode k s.avail s.rest

abbrev pub Peeks : Mode → Asked → Peeked → Stream → Type 0
Peeks mode asked p s = IsPeeked mode asked p s.avail s.rest

-- ---- octets at hand, whatever follows them

abbrev pub Shows : Mode → Asked → Peeked → List ℕ → Type 0
Shows mode asked p w = (x : List ℕ) → IsPeeked mode asked p (length w) (w ++ x)

abbrev pub Sees : Mode → Asked → Option Peeked → List ℕ → Type 0
Sees mode asked None w = (length w < 9) × HasNoHeader mode asked w × (1 ≤ length w → EndsInHeader w)
Sees mode asked (Some p) w = Shows mode asked p w

-- what is reported of a header that was read in n octets
abbrev pub IsFrontOf : Mode → Asked → ℕ → Header → Peeked → Type 0
IsFrontOf mode asked n h peeked.Nothing = ⊥
IsFrontOf mode asked n h peeked.Other = IsAsked asked h.tag → ⊥
IsFrontOf mode asked n h (peeked.End k) = ⊥
IsFrontOf mode asked n h (peeked.Front g k) =
    (k ≡ n) × (header_of g ≡ h) × IsAsked asked h.tag × (is_value_tag h.tag ≡ true) × (may_have mode h.form h.len ≡ true)
IsFrontOf mode asked n h (peeked.Refused v) = ⊥
