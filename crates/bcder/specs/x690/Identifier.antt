-- Tags and identifier octets (ITU-T X.690, 8.1.2).
use Rattle.std.specs.Prelude.{◌≢◌, ℕ, ◌+◌, ◌/◌, ◌%◌, ◌^◌, ◌<◌, Bool, true, false, List, [], ◌∷◌}
use Rattle.std.specs.Prelude.{slice_index, nat_lt, if◌then◌else◌, zero, suc}

-- each number in the list is an octet: below 256
abbrev pub AreOctets : List ℕ → Type 0
AreOctets w = (i : ℕ) → slice_index w i < 256

-- the class of a tag (8.1.2.2, table 1)
pub data Class : Type 0 where
  universal : Class
  application : Class
  context_specific : Class
  private : Class

-- a tag: a class, and a number within it
pub record Tag : Type 0 where
  pub class : Class
  pub number : ℕ

-- a tag of at most four identifier octets: X.690 has no largest number, this crate has
abbrev pub IsTag : Tag → Type 0
IsTag t = t.number < 2 ^ 21

-- 8.1.5: the tag of the end-of-contents octets
abbrev pub end_of_contents : Tag
end_of_contents = record { class = universal; number = 0 }

-- the tags of BOOLEAN, of INTEGER and of NULL
abbrev pub boolean_tag : Tag
boolean_tag = record { class = universal; number = 1 }

abbrev pub integer_tag : Tag
integer_tag = record { class = universal; number = 2 }

abbrev pub null_tag : Tag
null_tag = record { class = universal; number = 5 }

-- the tags of SEQUENCE and SEQUENCE OF, and of SET and SET OF
abbrev pub sequence_tag : Tag
sequence_tag = record { class = universal; number = 16 }

abbrev pub set_tag : Tag
set_tag = record { class = universal; number = 17 }

-- a tag that a value can have: any but that of the end-of-contents octets
pub record IsValueTag (t : Tag) : Type 0 where
  pub fits : IsTag t
  pub no_end : t ≢ end_of_contents

-- 8.1.2.2, table 1: bits 8 and 7 of the leading octet
abbrev pub class_bits : Class → ℕ
class_bits universal = 0x00
class_bits application = 0x40
class_bits context_specific = 0x80
class_bits private = 0xC0

-- 8.1.2.5: bit 6 of the leading octet, which is one for a constructed encoding
abbrev pub form_bit : Bool → ℕ
form_bit false = 0x00
form_bit true = 0x20

-- 8.1.2.4.2: a number below 2 ^ 21 in seven bits an octet, the most significant first and not all zero,
-- with bit 8 set in all octets but the last
unfoldable pub base128 : ℕ → List ℕ
base128 n =
    if nat_lt n 128 then n ∷ []
    else if nat_lt n 16384 then (128 + n / 128) ∷ (n % 128) ∷ []
    else (128 + n / 16384) ∷ (128 + n / 128 % 128) ∷ (n % 128) ∷ []

-- the identifier octets of a tag: 8.1.2.2 for numbers up to 30; 8.1.2.4 for those from 31 on,
-- with bits 5 to 1 of the leading octet all one, and the number in the octets after it
unfoldable pub identifier : Tag → Bool → List ℕ
unfolding base128
identifier t constructed =
    if nat_lt t.number 31 then (class_bits t.class + form_bit constructed + t.number) ∷ []
    else (class_bits t.class + form_bit constructed + 31) ∷ base128 t.number

-- whether a value may have the tag: any but that of end-of-contents octets (8.1.5)
abbrev pub is_value_tag : Tag → Bool
is_value_tag t = is_value_class t.class t.number
  where
    is_value_class : Class → ℕ → Bool
    is_value_class universal zero = false
    is_value_class universal (suc n) = true
    is_value_class application n = true
    is_value_class context_specific n = true
    is_value_class private n = true
