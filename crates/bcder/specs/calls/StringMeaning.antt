-- What an octet string means in a mode (ITU-T X.690, 8.7, 9.2, 10.2).
use Rattle.std.specs.Prelude.{◌≡◌, ℕ, zero, suc, ◌-◌, ◌/◌, Bool, true, false, List, length, take, drop, nat_lt, Ok, Err, if◌then◌else◌}
use Rattle.bcder.specs.declared.{mode.Mode.Mode}
use Rattle.bcder.specs.declared.mode.Mode.TheVariants.{Ber, Cer}
use Rattle.bcder.specs.x690.Identifier.{Tag}
use Rattle.bcder.specs.x690.OctetString.{octet_string_tag}
use Rattle.bcder.specs.calls.StringOctets.{StringOctets, cut, octets_of}
use Rattle.bcder.specs.calls.Meaning.{Encoded, Meaning, ContentsMeaning, ExactlyOctets, ValueMeans, primitive_encoded, primitive_meaning}
use Rattle.bcder.specs.calls.Meaning.{constructed_meaning, join}
use Rattle.bcder.specs.calls.Gathered.{KeptMeans}

-- the number of segments of 1000 octets before the last one, which has 1 to 1000
abbrev pub full_segments : ℕ → ℕ
full_segments n = (n - 1) / 1000

-- n segments of 1000 octets, and one with what is left
abbrev pub segmented : ℕ → List ℕ → Encoded
segmented zero w = primitive_encoded octet_string_tag w
segmented (suc n) w = join (primitive_encoded octet_string_tag (take 1000 w)) (segmented n (drop 1000 w))

-- the segments of octets in CER
abbrev pub segments_in_cer : List ℕ → Encoded
segments_in_cer w = segmented (full_segments (length w)) w

-- whether octets are cut into segments: in CER, if there are more than 1000 (9.2)
abbrev pub is_cut : Mode → ℕ → Bool
is_cut Cer n = nat_lt 1000 n
is_cut mode n = false

-- a value that holds these octets: a constructed one with their segments inside (9.2), otherwise a primitive one (10.2)
abbrev pub string_meaning : Tag → Mode → ContentsMeaning → Meaning
string_meaning t mode (Err e) = Err e
string_meaning t mode (Ok w) =
    if is_cut mode (length w) then constructed_meaning t Cer (Ok (segments_in_cer w)) else primitive_meaning t (Ok w)

-- the meaning of octets in one piece
abbrev pub OctetsMean : Tag → List ℕ → Mode → Meaning → Type 0
OctetsMean t w mode m = ValueMeans t (string_meaning t mode) (ExactlyOctets w) m

-- the meaning of a string: in BER as it came (8.7.3), with a definite length; in CER and DER by its octets alone
abbrev pub StringMeans : Tag → StringOctets → Mode → Meaning → Type 0
StringMeans t (cut kept ps) Ber m = ValueMeans t (constructed_meaning t Ber) (KeptMeans kept Ber) m
StringMeans t s mode m = OctetsMean t (octets_of s) mode m

-- what is written, as the octets of a string
abbrev pub contents_of : Meaning → ContentsMeaning
contents_of (Ok e) = Ok e.octets
contents_of (Err e) = Err e

-- the meaning of a string of the octets that M says
abbrev pub WrappedMeans : Tag → Mode → (Meaning → Type 0) → Meaning → Type 0
WrappedMeans t mode M m = ValueMeans t (λ x. string_meaning t mode (contents_of x)) M m

-- the octets are gathered in memory before they are written if they are cut into segments
abbrev pub IsGathered : Mode → (Meaning → Type 0) → Type 0
IsGathered mode M = (e : Encoded) × M (Ok e) × (is_cut mode (length e.octets) ≡ true)
