-- The kinds of types, by their tags (ITU-T X.680, 8.4).
use Rattle.std.specs.Prelude.{ℕ, ⊤, Bool, true, false, ◌||◌, ◌==◌, if◌then◌else◌}
use Rattle.bcder.specs.x690.Identifier.{Class, universal, application, context_specific, private, Tag}
use Rattle.rules.specs.declared.kind.Kind.{Kind}
use Rattle.rules.specs.declared.kind.Kind.TheVariants as k

-- OCTET STRING, ObjectDescriptor, TeletexString, VideotexString, GraphicString and GeneralString
abbrev pub is_string : ℕ → Bool
is_string n = ((n == 4 || n == 7) || (n == 20 || n == 21)) || (n == 25 || n == 27)

-- EXTERNAL, EMBEDDED PDV, SEQUENCE, SET, CHARACTER STRING
abbrev pub is_structure : ℕ → Bool
is_structure n = ((n == 8 || n == 11) || (n == 16 || n == 17)) || n == 29

abbrev pub kind_of_number : ℕ → Kind
kind_of_number n =
    if n == 1 then k.Boolean
    else if n == 2 || n == 10 then k.Integer
    else if n == 3 then k.BitString
    else if n == 5 then k.Null
    else if n == 6 || n == 13 then k.Identifier
    else if n == 9 then k.Real
    else if is_structure n then k.Structure
    else if n == 12 then k.Utf8String
    else if n == 18 then k.NumericString
    else if n == 19 then k.PrintableString
    else if n == 22 then k.Ia5String
    else if n == 23 then k.UtcTime
    else if n == 24 then k.GeneralizedTime
    else if n == 26 then k.VisibleString
    else if n == 28 then k.UniversalString
    else if n == 30 then k.BmpString
    else if is_string n then k.OctetString
    else k.Other

-- only a universal tag tells the type
abbrev pub kind_of : Tag → Kind
kind_of t = of_class t.class t.number
  where
    of_class : Class → ℕ → Kind
    of_class universal n = kind_of_number n
    of_class application n = k.Other
    of_class context_specific n = k.Other
    of_class private n = k.Other

-- a kind of strings, of octets or of bits
abbrev pub IsString : Kind → Type 0
IsString k.BitString = ⊤
IsString k.OctetString = ⊤
IsString k.Utf8String = ⊤
IsString k.NumericString = ⊤
IsString k.PrintableString = ⊤
IsString k.Ia5String = ⊤
IsString k.VisibleString = ⊤
IsString k.UniversalString = ⊤
IsString k.BmpString = ⊤
IsString k.UtcTime = ⊤
IsString k.GeneralizedTime = ⊤
IsString kind = ⊥

-- BIT STRING
abbrev pub is_bits : Kind → Bool
is_bits k.Boolean = false
is_bits k.Integer = false
is_bits k.Real = false
is_bits k.BitString = true
is_bits k.OctetString = false
is_bits k.Utf8String = false
is_bits k.NumericString = false
is_bits k.PrintableString = false
is_bits k.Ia5String = false
is_bits k.VisibleString = false
is_bits k.UniversalString = false
is_bits k.BmpString = false
is_bits k.UtcTime = false
is_bits k.GeneralizedTime = false
is_bits k.Null = false
is_bits k.Identifier = false
is_bits k.Structure = false
is_bits k.Other = false

-- a kind of strings, as a test
abbrev pub is_string_kind : Kind → Bool
is_string_kind k.Boolean = false
is_string_kind k.Integer = false
is_string_kind k.Real = false
is_string_kind k.BitString = true
is_string_kind k.OctetString = true
is_string_kind k.Utf8String = true
is_string_kind k.NumericString = true
is_string_kind k.PrintableString = true
is_string_kind k.Ia5String = true
is_string_kind k.VisibleString = true
is_string_kind k.UniversalString = true
is_string_kind k.BmpString = true
is_string_kind k.UtcTime = true
is_string_kind k.GeneralizedTime = true
is_string_kind k.Null = false
is_string_kind k.Identifier = false
is_string_kind k.Structure = false
is_string_kind k.Other = false
