-- The octets that encoders write (ITU-T X.690, 8.1.1, 8.1.3, 9.1, 10.1).
use Rattle.std.specs.Prelude.{ℕ, ◌+◌, ◌/◌, ◌%◌, ◌^◌, Bool, true, List, [], ◌∷◌, ◌++◌, length, nat_lt, if◌then◌else◌}
use Rattle.bcder.specs.declared.mode.Mode.{Mode}
use Rattle.bcder.specs.declared.mode.Mode.TheVariants.{Cer}
use Rattle.bcder.specs.declared.length.Length.{Length}
use Rattle.bcder.specs.declared.length.Length.TheVariants.{Definite, Indefinite}
use Rattle.bcder.specs.x690.Identifier.{Tag, identifier}

-- 8.1.3.4, 8.1.3.5, 10.1: the fewest length octets of a number below 2 ^ 32
unfoldable pub definite_length : ℕ → List ℕ
definite_length n =
    if nat_lt n 0x80 then n ∷ []
    else if nat_lt n 0x100 then 0x81 ∷ n ∷ []
    else if nat_lt n 0x10000 then 0x82 ∷ (n / 0x100) ∷ (n % 0x100) ∷ []
    else if nat_lt n 0x1000000 then 0x83 ∷ (n / 0x10000) ∷ (n / 0x100 % 0x100) ∷ (n % 0x100) ∷ []
    else 0x84 ∷ (n / 0x1000000) ∷ (n / 0x10000 % 0x100) ∷ (n / 0x100 % 0x100) ∷ (n % 0x100) ∷ []

-- the octets of a length; for the indefinite form the octet 80 (8.1.3.6)
abbrev pub length_octets : Length → List ℕ
length_octets (Definite n) = definite_length n
length_octets Indefinite = 0x80 ∷ []

-- whether four octets suffice for a length: the indefinite form, or a definite length below 2 ^ 32
abbrev pub fits_length : Length → Bool
fits_length (Definite n) = nat_lt n (2 ^ 32)
fits_length Indefinite = true

-- the header of a value: identifier octets and length octets
abbrev pub header : Tag → Bool → Length → List ℕ
header t form len = identifier t form ++ length_octets len

-- 8.1.1.2: a header with the number of contents octets, followed by these
abbrev pub definite : Tag → Bool → List ℕ → List ℕ
definite t form contents = header t form (Definite (length contents)) ++ contents

-- the length of a constructed value with n contents octets: definite (10.1), in CER indefinite (9.1)
abbrev pub constructed_length : Mode → ℕ → Length
constructed_length Cer n = Indefinite
constructed_length mode n = Definite n

-- what follows the contents octets: after the indefinite form the end-of-contents octets (8.1.5)
abbrev pub closing : Mode → List ℕ
closing Cer = 0x00 ∷ 0x00 ∷ []
closing mode = []

-- the octets of a constructed value: the header, the contents octets, and the end
abbrev pub enclosed : Mode → Tag → List ℕ → List ℕ
enclosed mode t contents = (header t true (constructed_length mode (length contents)) ++ contents) ++ closing mode

-- the number of octets of a constructed value that has n contents octets
abbrev pub enclosed_size : Mode → Tag → ℕ → ℕ
enclosed_size mode t n = length (header t true (constructed_length mode n)) + n + length (closing mode)
