-- Object identifiers: their components, their text (components in decimal, joined by dots), and laws of both.
use Rattle.std.specs.Prelude.{ℕ, ◌^◌, List, Option, Some, None, nat_lt, if◌then◌else◌, ◌-◌, [], ◌∷◌, map, ◌≡◌, ◌⊎◌, ◌+◌, ◌*◌, ◌<◌, ◌≤◌}
use Rattle.std.specs.Prelude.{◌==◌, ◌++◌, codes, decimal, ◌≢◌, length, slice_index, All}
use Rattle.std.specs.Str.Parse.{IsNumeral, digits_value, without_leading_plus}
use Rattle.bcder.specs.declared.{oid.components.Component.Component, oid.components.Iter.Iter, oid.components.Position.Position}
use Rattle.bcder.specs.declared.{oid.text.OidError.OidError}
use Rattle.bcder.specs.declared.oid.components.Position.TheVariants as place
use Rattle.bcder.specs.declared.oid.text.OidError.TheVariants.{TooFew, NotInteger, First, Second, NoMemory}
use Rattle.bcder.specs.x690.ObjectIdentifier.{subidentifiers, subidentifier_number, AreSubidentifiers, components, IsWhole, IsComplete}
use Rattle.bcder.specs.x690.Identifier.{AreOctets}

-- a component in the octets: its place, and the octets of the subidentifier that holds it
pub record Part : Type 0 where
  pub position : Position
  pub octets : List ℕ

-- the number that a subidentifier holds at a place
abbrev pub value_at : Position → ℕ → ℕ
value_at place.First s = if nat_lt s 40 then 0 else if nat_lt s 80 then 1 else 2
value_at place.Second s = if nat_lt s 40 then s else if nat_lt s 80 then s - 40 else s - 80
value_at place.Other s = s

abbrev pub part_value : Part → ℕ
part_value p = value_at p.position (subidentifier_number p.octets)

abbrev pub other : List ℕ → Part
other w = record { position = place.Other; octets = w }

-- the components from a place on, if these subidentifiers hold them
abbrev pub parts_from : Position → List (List ℕ) → List Part
parts_from place.First [] = []
parts_from place.First (w ∷ ws) =
    record { position = place.First; octets = w } ∷ record { position = place.Second; octets = w } ∷ map other ws
parts_from place.Second [] = []
parts_from place.Second (w ∷ ws) = record { position = place.Second; octets = w } ∷ map other ws
parts_from place.Other ws = map other ws

-- the components that the octets hold, the first two in the first subidentifier
abbrev pub component_parts : List ℕ → List Part
component_parts w = parts_from place.First (subidentifiers w)

-- a component, with the octets that it borrows
abbrev pub part_of : Component → Part
part_of c = record { position = c.position; octets = c.octets.now }

-- the components that are still to come
abbrev pub parts_left : Iter → List Part
parts_left i = parts_from i.position (subidentifiers i.octets.now)

-- a number, if it fits in 32 bits
abbrev pub in_32_bits : ℕ → Option ℕ
in_32_bits n = if nat_lt n (2 ^ 32) then Some n else None

-- ---- text

-- ---- showing

-- a component in decimal, if it fits in 32 bits
abbrev pub shown : ℕ → List ℕ
shown n = if nat_lt n (2 ^ 32) then decimal n else codes "(very large component)"

-- the texts, each after a dot
abbrev pub dots_before : List (List ℕ) → List ℕ
dots_before [] = []
dots_before (t ∷ ts) = codes "." ++ t ++ dots_before ts

-- the texts joined by dots
abbrev pub dotted : List (List ℕ) → List ℕ
dotted [] = []
dotted (t ∷ ts) = t ++ dots_before ts

-- the text of the components that the octets hold
abbrev pub text_of : List ℕ → List ℕ
text_of w = dotted (map shown (components w))

-- ---- reading

-- the texts between the dots of a text that begins with this prefix
abbrev pub split_after : List ℕ → List ℕ → List (List ℕ)
split_after front [] = front ∷ []
split_after front (c ∷ s) = if c == 46 then front ∷ split_after [] s else split_after (front ++ c ∷ []) s

abbrev pub between_dots : List ℕ → List (List ℕ)
between_dots s = split_after [] s

-- an optional plus and at least one decimal digit, whose number fits in 32 bits
pub record IsComponentText (t : List ℕ) (n : ℕ) : Type 0 where
  pub numeral : IsNumeral 10 (without_leading_plus t)
  pub value : digits_value 10 (without_leading_plus t) ≡ n
  pub fits : n < 2 ^ 32

abbrev pub IsNoComponent : List ℕ → Type 0
IsNoComponent t = (n : ℕ) → IsComponentText t n → ⊥

abbrev pub AreComponentTexts : List (List ℕ) → List ℕ → Type 0
AreComponentTexts [] [] = Unit {0}
AreComponentTexts (t ∷ ts) (n ∷ ns) = IsComponentText t n × AreComponentTexts ts ns
AreComponentTexts [] (n ∷ ns) = ⊥
AreComponentTexts (t ∷ ts) [] = ⊥

-- one of the texts is not a component
abbrev pub HasNoComponent : List (List ℕ) → Type 0
HasNoComponent [] = ⊥
HasNoComponent (t ∷ ts) = IsNoComponent t ⊎ HasNoComponent ts

-- two numbers that an identifier may begin with (8.19.4, note)
pub record MayBegin (m n : ℕ) : Type 0 where
  pub first : m ≤ 2
  pub second : m < 2 → n < 40

-- the first two texts and those after them are components, and w is the octets of the identifier with these components
pub record AreTextsOf (a b : List ℕ) (ts : List (List ℕ)) (w : List ℕ) : Type 0 where
  pub first : ℕ
  pub second : ℕ
  pub others : List ℕ
  pub first_text : IsComponentText a first
  pub second_text : IsComponentText b second
  pub other_texts : AreComponentTexts ts others
  pub may_begin : MayBegin first second
  pub octets : AreSubidentifiers ((40 * first + second) ∷ others) w

-- why texts are refused, in the order of the checks; memory runs out only if they are those of an identifier
pub data RefusesTexts (a b : List ℕ) (ts : List (List ℕ)) (e : OidError) : Type 0 where
  first_is_none : e ≡ NotInteger → IsNoComponent a → RefusesTexts a b ts e
  first_too_large : (m : ℕ) → e ≡ First → IsComponentText a m → 2 < m → RefusesTexts a b ts e
  second_is_none : (m : ℕ) → e ≡ NotInteger → IsComponentText a m → m ≤ 2 → IsNoComponent b → RefusesTexts a b ts e
  second_too_large : (m n : ℕ) → e ≡ Second → IsComponentText a m → m < 2 → IsComponentText b n → 40 ≤ n → RefusesTexts a b ts e
  other_is_none : (m n : ℕ) → e ≡ NotInteger → IsComponentText a m → IsComponentText b n → MayBegin m n → HasNoComponent ts
      → RefusesTexts a b ts e
  no_memory : (m n : ℕ) (ns : List ℕ) → e ≡ NoMemory → IsComponentText a m → IsComponentText b n → MayBegin m n → AreComponentTexts ts ns
      → RefusesTexts a b ts e

-- the text has two or more components, and these are the octets of the identifier that it denotes
abbrev pub ReadsParts : List (List ℕ) → List ℕ → Type 0
ReadsParts [] w = ⊥
ReadsParts (a ∷ []) w = ⊥
ReadsParts (a ∷ b ∷ ts) w = AreTextsOf a b ts w

abbrev pub IsTextOf : List ℕ → List ℕ → Type 0
IsTextOf text w = ReadsParts (between_dots text) w

abbrev pub RefusesParts : List (List ℕ) → OidError → Type 0
RefusesParts [] e = e ≡ TooFew
RefusesParts (a ∷ []) e = e ≡ TooFew
RefusesParts (a ∷ b ∷ ts) e = RefusesTexts a b ts e

-- why a text is refused
abbrev pub RefusesText : List ℕ → OidError → Type 0
RefusesText text e = RefusesParts (between_dots text) e

-- ---- the texts of refusals

abbrev pub error_text : OidError → List ℕ
error_text TooFew = codes "at least two components required"
error_text NotInteger = codes "only integer components allowed"
error_text First = codes "first component can only be 0, 1, or 2."
error_text Second = codes "second component for 0. and 1. must be less than 40"
error_text NoMemory = codes "out of memory"

-- ---- laws

-- the octets of a subidentifier that don't begin with 80 are the fewest for its number
abbrev pub NoFewer : Type 0
NoFewer = (v w : List ℕ) → IsWhole v → IsWhole w → subidentifier_number v ≡ subidentifier_number w
    → slice_index v 0 ≢ 0x80 → length v ≤ length w

-- a number has only one subidentifier that doesn't begin with 80, and only one of each length
abbrev pub OneFewest : Type 0
OneFewest = (v w : List ℕ) → IsWhole v → IsWhole w → subidentifier_number v ≡ subidentifier_number w → slice_index v 0 ≢ 0x80
    → slice_index w 0 ≢ 0x80 → v ≡ w

abbrev pub OneOfLength : Type 0
OneOfLength = (v w : List ℕ) → IsWhole v → IsWhole w → subidentifier_number v ≡ subidentifier_number w → length v ≡ length w → v ≡ w

-- the components in the octets have the values that X.690 gives them
abbrev pub PartsAreComponents : Type 0
PartsAreComponents = (w : List ℕ) → map part_value (component_parts w) ≡ components w

-- a text is read as the octets of at most one identifier
abbrev pub OneIdentifierRead : Type 0
OneIdentifierRead = (text v w : List ℕ) → IsTextOf text v → IsTextOf text w → v ≡ w

-- a refused text is not that of an identifier
abbrev pub RefusedIsNone : Type 0
RefusedIsNone = (text w : List ℕ) (e : OidError) → e ≢ NoMemory → RefusesText text e → IsTextOf text w → ⊥

-- octets read from a text are complete, and hold the components in it
abbrev pub TextIsHeld : Type 0
TextIsHeld = (text w : List ℕ) → IsTextOf text w → IsComplete w × AreComponentTexts (between_dots text) (components w)

-- complete octets in which each subidentifier has the fewest octets and each component fits are read from their text
abbrev pub TextIsReadBack : Type 0
TextIsReadBack = (w : List ℕ) → AreOctets w → IsComplete w → All (λ v. slice_index v 0 ≢ 0x80) (subidentifiers w)
    → All (λ n. n < 2 ^ 32) (components w) → IsTextOf (text_of w) w
