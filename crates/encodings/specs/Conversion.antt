-- Values in other rules: what each becomes in CER and in DER (ITU-T X.690, 8.1.3, 9.1, 9.2, 10.1, 10.2, 11.1, 11.2.1).
use Rattle.std.specs.Prelude.{◌≡◌, ℕ, ◌≤◌, Bool, ⊤, ◌||◌, ◌==◌, if◌then◌else◌, List, [], ◌∷◌, length}
use Rattle.std.specs.Int.{is_in_range}
use Rattle.std.specs.List.{concat}
use Rattle.bcder.specs.declared.mode.Mode.{Mode}
use Rattle.bcder.specs.declared.mode.Mode.TheVariants.{Ber, Cer, Der}
use Rattle.bcder.specs.x690.BitString.{BitShape}
use Rattle.bcder.specs.x690.Encoding.{AreEncodings}
use Rattle.bcder.specs.x690.Identifier.{Class, universal, application, context_specific, private, Tag}
use Rattle.bcder.specs.x690.OctetString.{AreSegments, AreSegmentsIn, segments_of}
use Rattle.bcder.specs.x690.Tree.{Tree, primitive, constructed, Trees, no_trees, ◌∷ₜ◌}
use Rattle.bcder.specs.calls.Captured.{AreWhole}
use Rattle.encodings.specs.declared.convert.Kind.{Kind}
use Rattle.encodings.specs.declared.convert.Kind.TheVariants.{Boolean, Bits, Text, Other}
use Rattle.encodings.specs.Buffers.{IsStored}
use Rattle.encodings.specs.Status.{no_memory, absent, not_converted}
use Rattle.encodings.specs.Values.{AreNoValues}

-- ---- kinds of types (X.680, 8.4)

-- OCTET STRING, ObjectDescriptor, UTF8String, the character strings from NumericString to UniversalString with UTCTime and
-- GeneralizedTime among them, and BMPString
abbrev pub is_text : ℕ → Bool
is_text n = (n == 4 || n == 7) || ((n == 12 || is_in_range 18 28 n) || n == 30)

abbrev pub kind_of_number : ℕ → Kind
kind_of_number n = if n == 1 then Boolean else if n == 3 then Bits else if is_text n then Text else Other

-- only a universal tag tells the type
abbrev pub kind_of : Tag → Kind
kind_of t = of_class t.class t.number
  where
    of_class : Class → ℕ → Kind
    of_class universal n = kind_of_number n
    of_class application n = Other
    of_class context_specific n = Other
    of_class private n = Other

-- ---- what a value becomes in CER or DER

-- 11.1: false is 00, and true is FF
abbrev pub all_or_none : ℕ → ℕ
all_or_none b = if b == 0 then 0 else 255

-- the contents octets c of a primitive value become d: those of a boolean by 11.1; others stay, and of a bit string the rules have to allow
-- them: the unused bits are zero (11.2.1), and in CER there are at most 1000 (9.2)
abbrev pub ContentsBecome : Mode → Kind → List ℕ → List ℕ → Type 0
ContentsBecome mode Boolean c d = (b : ℕ) × (c ≡ b ∷ []) × (d ≡ all_or_none b ∷ [])
ContentsBecome mode Bits c d = BitShape mode c × (d ≡ c)
ContentsBecome mode Text c d = d ≡ c
ContentsBecome mode Other c d = d ≡ c

-- 8.7.3: the octets of a string that is cut are those of its segments
pub record AreJoined (k : Kind) (ts : Trees) (d : List ℕ) : Type 0 where
  pub text : k ≡ Text
  pub segments : AreSegments ts
  pub is : d ≡ concat (segments_of ts)

abbrev mutual
  -- a value becomes one with the same tag, of the same form, but a string that is cut is joined, also to be cut again; a constructed one
  -- is no boolean and no bit string
  pub Becomes : Mode → Tree → Tree → Type 0
  Becomes mode (primitive t c) (primitive u d) = (u ≡ t) × ContentsBecome mode (kind_of t) c d
  Becomes mode (primitive t c) (constructed u us) = ⊥
  Becomes mode (constructed t ts) (primitive u d) = (u ≡ t) × AreJoined (kind_of t) ts d
  Becomes mode (constructed t ts) (constructed u us) = (u ≡ t) × (kind_of t ≡ Other) × Become mode ts us

  pub Become : Mode → Trees → Trees → Type 0
  Become mode no_trees no_trees = ⊤
  Become mode no_trees (u ∷ₜ us) = ⊥
  Become mode (t ∷ₜ ts) no_trees = ⊥
  Become mode (t ∷ₜ ts) (u ∷ₜ us) = Becomes mode t u × Become mode ts us

-- 9.2: strings of at most 1000 octets stay in one piece
abbrev pub MayStay : Kind → List ℕ → Type 0
MayStay Text c = length c ≤ 1000
MayStay k c = ⊤

abbrev mutual
  -- 9.2: a string of more than 1000 octets is cut in CER, into OCTET STRINGs of 1000 octets, but for the last
  pub IsCutTo : Tree → Tree → Type 0
  IsCutTo (primitive t c) (primitive u d) = (u ≡ t) × (d ≡ c) × MayStay (kind_of t) c
  IsCutTo (primitive t c) (constructed u us) = (u ≡ t) × (kind_of t ≡ Text) × AreSegmentsIn Cer us × (concat (segments_of us) ≡ c)
  IsCutTo (constructed t ts) (primitive u d) = ⊥
  IsCutTo (constructed t ts) (constructed u us) = (u ≡ t) × AreCutTo ts us

  pub AreCutTo : Trees → Trees → Type 0
  AreCutTo no_trees no_trees = ⊤
  AreCutTo no_trees (u ∷ₜ us) = ⊥
  AreCutTo (t ∷ₜ ts) no_trees = ⊥
  AreCutTo (t ∷ₜ ts) (u ∷ₜ us) = IsCutTo t u × AreCutTo ts us

-- strings in the form that the rules have: in DER all in one piece (10.2)
abbrev pub TakeForm : Mode → Trees → Trees → Type 0
TakeForm Ber ts us = us ≡ ts
TakeForm Cer ts us = AreCutTo ts us
TakeForm Der ts us = us ≡ ts

-- ---- what is written

-- octets are encodings of values, and w those of what they become
pub record AreRewritten (from to : Mode) (octets w : List ℕ) : Type 0 where
  pub read : Trees
  pub encode : AreEncodings from read octets
  pub joined : Trees
  pub become : Become to read joined
  pub written : Trees
  pub form : TakeForm to joined written
  pub is : AreEncodings to written w

-- w are the values that octets are, in other rules; an encoding in any rules is one in BER, and stays as it is
abbrev pub IsConversion : Mode → Mode → List ℕ → List ℕ → Type 0
IsConversion from Ber octets w = AreWhole from octets × (w ≡ octets)
IsConversion from Cer octets w = AreRewritten from Cer octets w
IsConversion from Der octets w = AreRewritten from Der octets w

-- the values were stored in other rules; or the octets are no values; or some of them become nothing; or memory ran out
pub data Converts (from to : Mode) (octets : List ℕ) (status : ℕ) (old new : List ℕ) (before n : ℕ) : Type 0 where
  converted : (w : List ℕ) → IsConversion from to octets w → IsStored w status old new n → Converts from to octets status old new before n
  no_values : status ≡ absent → AreNoValues from octets → new ≡ old → n ≡ before → Converts from to octets status old new before n
  become_nothing : status ≡ not_converted → AreWhole from octets → ((w : List ℕ) → IsConversion from to octets w → ⊥) → new ≡ old
      → n ≡ before → Converts from to octets status old new before n
  lacking : status ≡ no_memory → n ≡ before → Converts from to octets status old new before n
