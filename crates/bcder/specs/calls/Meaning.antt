-- What an encoder means in a mode: a list of values with the octets that are written for them, or a refusal.
use Rattle.std.specs.Prelude.{◌≡◌, ℕ, ◌^◌, Bool, true, false, List, [], ◌∷◌, length, nat_lt, nat_le, Result, Ok, Err, ◌⊎◌, if◌then◌else◌}
use Rattle.std.specs.Prelude.{◌<◌, ◌≤◌, ◌++◌, Option, None, Some}
use Rattle.bcder.specs.declared.{encode.error.EncodeError.EncodeError, mode.Mode.Mode, mode.Mode.TheVariants.Cer}
use Rattle.bcder.specs.declared.encode.error.EncodeError.TheVariants.{EndOfValueTag, LengthTooLarge, SizeOverflow}
use Rattle.bcder.specs.x690.Identifier.{AreOctets, Tag, IsValueTag, end_of_contents}
use Rattle.bcder.specs.x690.BitString.{Bits, contents_octets, as_written}
use Rattle.bcder.specs.x690.Tree.{Trees, primitive, constructed, no_trees, ◌∷ₜ◌, ◌+++◌}
use Rattle.bcder.specs.x690.Encoding.{AreEncodings}
use Rattle.bcder.specs.x690.Octets.{definite, enclosed, enclosed_size}

pub record Encoded : Type 0 where
  pub values : Trees
  pub octets : List ℕ

abbrev pub Meaning : Type 0
Meaning = Result Encoded EncodeError

-- the meaning of contents octets alone
abbrev pub ContentsMeaning : Type 0
ContentsMeaning = Result (List ℕ) EncodeError

-- ---- what each encoder maintains

-- a relation that holds of at most one thing
pub record IsOne {A : Type 0} (P : A → Type 0) : Type 0 where
  pub same : (m n : A) → P m → P n → m ≡ n

-- there is at most one meaning, and if it isn't a refusal, its octets are an encoding of its values
pub record IsLawful (mode : Mode) (M : Meaning → Type 0) : Type 0 where
  pub one : IsOne M
  pub encodes : (e : Encoded) → M (Ok e) → AreEncodings mode e.values e.octets

-- there is at most one meaning, and if it isn't a refusal, it is octets
pub record IsLawfulContents (M : ContentsMeaning → Type 0) : Type 0 where
  pub one : IsOne M
  pub octets : (w : List ℕ) → M (Ok w) → AreOctets w

-- ---- contents octets

-- exactly these contents octets
abbrev pub Exactly : List ℕ → ContentsMeaning → Type 0
Exactly w m = m ≡ Ok w

-- exactly these contents octets, each below 256
abbrev pub ExactlyOctets : List ℕ → ContentsMeaning → Type 0
ExactlyOctets w m = (m ≡ Ok w) × AreOctets w

-- whether n contents octets fit a primitive string: in CER at most 1000 (9.2)
abbrev pub fits_primitive : Mode → ℕ → Bool
fits_primitive Cer n = nat_le n 1000
fits_primitive mode n = true

-- the contents octets of a string, each below 256; or this refusal, if the mode has no primitive string of that many
abbrev pub PieceMeans : EncodeError → Mode → List ℕ → ContentsMeaning → Type 0
PieceMeans refusal mode w m = (m ≡ (if fits_primitive mode (length w) then Ok w else Err refusal)) × AreOctets w

-- the contents octets of a bit string
abbrev pub BitsMean : EncodeError → Mode → Bits → ContentsMeaning → Type 0
BitsMean refusal mode x = PieceMeans refusal mode (contents_octets (as_written mode x))

-- the contents octets of a BOOLEAN (8.2, 11.1)
abbrev pub truth_octets : Bool → List ℕ
truth_octets true = 0xFF ∷ []
truth_octets false = 0x00 ∷ []

-- ---- one value

-- refused for the tag of the end-of-contents octets, otherwise what f makes of what P says
abbrev pub ValueMeans : {A : Type 0} → Tag → (A → Meaning) → (A → Type 0) → Meaning → Type 0
ValueMeans t f P m =
    ((t ≡ end_of_contents) × (m ≡ Err EndOfValueTag))
    ⊎ ((IsValueTag t) × ((a : _) × P a × (m ≡ f a)))

abbrev pub primitive_encoded : Tag → List ℕ → Encoded
primitive_encoded t contents = record { values = primitive t contents ∷ₜ no_trees; octets = definite t false contents }

-- a primitive value with these contents octets
abbrev pub primitive_meaning : Tag → ContentsMeaning → Meaning
primitive_meaning t (Err e) = Err e
primitive_meaning t (Ok contents) =
    if nat_lt (length contents) (2 ^ 32) then Ok (primitive_encoded t contents) else Err LengthTooLarge

abbrev pub constructed_encoded : Mode → Tag → Encoded → Encoded
constructed_encoded mode t x = record { values = constructed t x.values ∷ₜ no_trees; octets = enclosed mode t x.octets }

-- whether a constructed value may have n contents octets: a definite length fits in four octets, and what is written in CER in a `usize`
abbrev pub fits_enclosed : Mode → Tag → ℕ → Bool
fits_enclosed Cer t n = nat_lt (enclosed_size Cer t n) (2 ^ 64)
fits_enclosed mode t n = nat_lt n (2 ^ 32)

abbrev pub enclosed_refusal : Mode → EncodeError
enclosed_refusal Cer = SizeOverflow
enclosed_refusal mode = LengthTooLarge

-- a constructed value of these values
abbrev pub constructed_meaning : Tag → Mode → Meaning → Meaning
constructed_meaning t mode (Err e) = Err e
constructed_meaning t mode (Ok x) =
    if fits_enclosed mode t (length x.octets) then Ok (constructed_encoded mode t x) else Err (enclosed_refusal mode)

-- ---- several encoders, one after the other

abbrev pub nothing : Encoded
nothing = record { values = no_trees; octets = [] }

abbrev pub join : Encoded → Encoded → Encoded
join x y = record { values = x.values +++ y.values; octets = x.octets ++ y.octets }

-- no values
abbrev pub NoValues : Meaning → Type 0
NoValues m = m ≡ Ok nothing

-- M, and then N if M isn't refused; sizes are not looked at
abbrev pub Then : (Meaning → Type 0) → (Meaning → Type 0) → Meaning → Type 0
Then M N (Err e) = M (Err e) ⊎ ((x : Encoded) × M (Ok x) × N (Err e))
Then M N (Ok z) = (x : Encoded) × (y : Encoded) × M (Ok x) × N (Ok y) × (z ≡ join x y)

-- each of a list, in order
abbrev pub EachOf : {X : Type 0} → (X → Meaning → Type 0) → List X → Meaning → Type 0
EachOf M [] m = NoValues m
EachOf M (x ∷ xs) m = Then (M x) (EachOf M xs) m

-- refused if the sum of the sizes exceeds `usize`
abbrev pub Joined : (Meaning → Type 0) → Meaning → Type 0
Joined M (Ok z) = M (Ok z) × (length z.octets < 2 ^ 64)
Joined M (Err e) = M (Err e) ⊎ ((e ≡ SizeOverflow) × ((z : Encoded) × M (Ok z) × (2 ^ 64 ≤ length z.octets)))

-- a sum of sizes, if it fits `usize`
abbrev pub IsSum : Option ℕ → ℕ → Type 0
IsSum (Some n) k = n ≡ k
IsSum None k = 2 ^ 64 ≤ k
