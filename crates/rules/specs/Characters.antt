-- The characters of strings, and times (ITU-T X.690, 8.23, 8.25, 11.7, 11.8; X.680, 41).
use Rattle.bcder.specs.declared.mode.Mode.{Mode}
use Rattle.bcder.specs.declared.mode.Mode.TheVariants.{Ber, Cer, Der}
use Rattle.bcder.specs.x690.AsciiSets.{is_ia5, is_numeric, is_printable, one_octet_step}
use Rattle.bcder.specs.x690.CharSet.{IsOfSet}
use Rattle.bcder.specs.x690.Utf8.{utf8_step}
use Rattle.rules.specs.Times.{IsGeneralizedTime, IsGeneralizedTimeInBer, IsUtcTime, IsUtcTimeInBer}
use Rattle.rules.specs.declared.kind.Kind.{Kind}
use Rattle.rules.specs.declared.kind.Kind.TheVariants as k
use Rattle.std.specs.Prelude.{◌⊎◌, ℕ, ◌+◌, ◌*◌, ◌<◌, ◌≤◌, ⊤, List, [], ◌∷◌, length, slice_index}

-- 8.23.5: the octets are SPACE and the graphic characters of ISO/IEC 646
abbrev pub AreVisible : List ℕ → Type 0
AreVisible c = (i : ℕ) → i < length c → (0x20 ≤ slice_index c i) × (slice_index c i ≤ 0x7E)

-- X.680, 41: a cell of the Basic Multilingual Plane other than the last two and those that address characters outside of it
abbrev pub IsCell : ℕ → Type 0
IsCell n = (n < 0xD800) ⊎ (0xE000 ≤ n) × (n < 0xFFFE)

-- 8.23.8: two octets are a character of a BMPString
abbrev pub AreCells : List ℕ → Type 0
AreCells [] = ⊤
AreCells (a ∷ []) = ⊥
AreCells (a ∷ b ∷ c) = IsCell (a * 256 + b) × AreCells c

-- ISO/IEC 10646: a code point that isn't one of a surrogate pair
abbrev pub IsCodePoint : ℕ → Type 0
IsCodePoint n = (n < 0xD800) ⊎ (0xE000 ≤ n) × (n ≤ 0x10FFFF)

-- 8.23.7: four octets are a character of a UniversalString
abbrev pub AreCodePoints : List ℕ → Type 0
AreCodePoints [] = ⊤
AreCodePoints (a ∷ []) = ⊥
AreCodePoints (a ∷ b ∷ []) = ⊥
AreCodePoints (a ∷ b ∷ c ∷ []) = ⊥
AreCodePoints (a ∷ b ∷ c ∷ d ∷ w) = IsCodePoint (((a * 256 + b) * 256 + c) * 256 + d) × AreCodePoints w

-- 8.25, 11.8: UTCTime
abbrev pub IsUtcTimeIn : Mode → List ℕ → Type 0
IsUtcTimeIn Ber c = IsUtcTimeInBer c
IsUtcTimeIn Cer c = IsUtcTime c
IsUtcTimeIn Der c = IsUtcTime c

-- 8.25, 11.7: GeneralizedTime
abbrev pub IsGeneralizedTimeIn : Mode → List ℕ → Type 0
IsGeneralizedTimeIn Ber c = IsGeneralizedTimeInBer c
IsGeneralizedTimeIn Cer c = IsGeneralizedTime c
IsGeneralizedTimeIn Der c = IsGeneralizedTime c

-- 8.23, 8.25: the octets are characters of the type of a kind, if it names any, and those of a time in one of its forms
abbrev pub HasCharacters : Mode → Kind → List ℕ → Type 0
HasCharacters mode k.Utf8String c = IsOfSet utf8_step c
HasCharacters mode k.NumericString c = IsOfSet (one_octet_step is_numeric) c
HasCharacters mode k.PrintableString c = IsOfSet (one_octet_step is_printable) c
HasCharacters mode k.Ia5String c = IsOfSet (one_octet_step is_ia5) c
HasCharacters mode k.VisibleString c = AreVisible c
HasCharacters mode k.UniversalString c = AreCodePoints c
HasCharacters mode k.BmpString c = AreCells c
HasCharacters mode k.UtcTime c = IsUtcTimeIn mode c
HasCharacters mode k.GeneralizedTime c = IsGeneralizedTimeIn mode c
HasCharacters mode kind c = ⊤
