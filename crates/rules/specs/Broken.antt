-- What it is for octets to break a rule.
use Rattle.std.specs.Prelude.{◌≡◌, ◌≢◌, ◌⊎◌, ℕ, ◌+◌, ◌-◌, ◌^◌, ◌<◌, ◌≤◌, Bool, true, false, List, [], ◌∷◌, ◌++◌, length, slice_index, drop}
use Rattle.std.specs.Prelude.{Option, Some, None, option_map, ⊤}
use Rattle.bcder.specs.declared.mode.Mode.{Mode}
use Rattle.bcder.specs.declared.mode.Mode.TheVariants.{Ber, Cer, Der}
use Rattle.bcder.specs.x690.BitString.{AreCleared}
use Rattle.bcder.specs.x690.Encoding.{IsEncoding, AreEncodings}
use Rattle.bcder.specs.x690.Identifier.{Tag}
use Rattle.bcder.specs.x690.ObjectIdentifier.{IsComplete}
use Rattle.bcder.specs.x690.Tree.{Tree, constructed, Trees}
use Rattle.bcder.specs.calls.Violations.{BeginsEnd, BeginsHeader}
use Rattle.bcder.specs.calls.Violations.{ViolatesFront}
use Rattle.encodings.specs.Next.{IsDue}
use Rattle.encodings.specs.Open.{Open, GoesBeyond, HasNoHeader}
use Rattle.rules.specs.Begun.{BeginsValue}
use Rattle.rules.specs.Comes.{Comes}
use Rattle.std.specs.List.{concat}
use Rattle.bcder.specs.x690.OctetString.{segments_of}
use Rattle.rules.specs.Kinds.{kind_of, IsString}
use Rattle.rules.specs.Characters.{HasCharacters}
use Rattle.rules.specs.Means.{MayBeConstructed}
use Rattle.rules.specs.Placed.{are_several, last_of, outline, InOrder, HasSegmentTag, IsBehindWhole, IsCut, MayEnd}
use Rattle.rules.specs.Reals.{IsReal, IsStrictReal}
use Rattle.rules.specs.declared.kind.Kind.{Kind}
use Rattle.rules.specs.declared.kind.Kind.TheVariants as k
use Rattle.rules.specs.declared.rule.Rule.{Rule}
use Rattle.rules.specs.declared.rule.Rule.TheVariants as r
use Rattle.rules.specs.declared.rule.Breach.{Breach}

-- ---- contents octets

-- 8.3.2: the first octet and bit 8 of the second are all zero or all one
abbrev pub HasEqualBits : List ℕ → Type 0
HasEqualBits c = (slice_index c 0 ≡ 0x00) × (slice_index c 1 < 0x80) ⊎ (slice_index c 0 ≡ 0xFF) × (0x80 ≤ slice_index c 1)

-- 8.19.2: a subidentifier begins at this octet, with 80
pub record IsPadded (c : List ℕ) (place : ℕ) : Type 0 where
  pub inside : place < length c
  pub padding : slice_index c place ≡ 0x80
  pub begins : 0 < place → slice_index c (place - 1) < 0x80

-- a kind of times
abbrev pub IsTime : Kind → Type 0
IsTime kind = (kind ≡ k.UtcTime) ⊎ (kind ≡ k.GeneralizedTime)

-- octets aren't characters of the type of a kind, by a rule
pub data BreaksCharacters (mode : Mode) (kind : Kind) (c : List ℕ) (rule : Rule) : Type 0 where
  characters : rule ≡ r.Characters kind → (HasCharacters mode kind c → ⊥) → BreaksCharacters mode kind c rule
  time_form : rule ≡ r.TimeForm kind → IsTime kind → mode ≢ Ber → (HasCharacters mode kind c → ⊥) → BreaksCharacters mode kind c rule

-- the contents octets c of a primitive value of a kind break a rule at this octet
abbrev pub BreaksContents : Mode → Kind → List ℕ → Rule → ℕ → Type 0
BreaksContents mode kind c r.BooleanSize n = (kind ≡ k.Boolean) × (length c ≢ 1) × (n ≡ 0)
BreaksContents mode kind c r.BooleanValue n =
    (kind ≡ k.Boolean) × (mode ≢ Ber) × (slice_index c 0 ≢ 0x00) × (slice_index c 0 ≢ 0xFF) × (n ≡ 0)
BreaksContents mode kind c r.IntegerEmpty n = (kind ≡ k.Integer) × (length c ≡ 0) × (n ≡ 0)
BreaksContents mode kind c r.IntegerNotFewest n = (kind ≡ k.Integer) × (2 ≤ length c) × HasEqualBits c × (n ≡ 0)
BreaksContents mode kind c r.BitsEmpty n = (kind ≡ k.BitString) × (length c ≡ 0) × (n ≡ 0)
BreaksContents mode kind c r.UnusedTooMany n = (kind ≡ k.BitString) × (7 < slice_index c 0) × (n ≡ 0)
BreaksContents mode kind c r.UnusedOfNone n = (kind ≡ k.BitString) × (length c ≡ 1) × (0 < slice_index c 0) × (n ≡ 0)
BreaksContents mode kind c r.UnusedNotZero n =
    (kind ≡ k.BitString) × (mode ≢ Ber) × (AreCleared (slice_index c 0) (drop 1 c) → ⊥) × (n + 1 ≡ length c)
BreaksContents mode kind c r.BitsTooMany n = (kind ≡ k.BitString) × (2 ^ 61 < length c) × (n ≡ 0)
BreaksContents mode kind c r.StringTooLong n = IsString kind × (mode ≡ Cer) × (1000 < length c) × (n ≡ 0)
BreaksContents mode kind c (r.Characters other) n = (other ≡ kind) × (HasCharacters mode kind c → ⊥) × (n ≡ 0)
BreaksContents mode kind c (r.TimeForm other) n = (other ≡ kind) × IsTime kind × (mode ≢ Ber) × (HasCharacters mode kind c → ⊥) × (n ≡ 0)
BreaksContents mode kind c r.Real n = (kind ≡ k.Real) × (mode ≡ Ber) × (IsReal c → ⊥) × (n ≡ 0)
BreaksContents mode kind c r.RealForm n = (kind ≡ k.Real) × (mode ≢ Ber) × (IsStrictReal c → ⊥) × (n ≡ 0)
BreaksContents mode kind c r.NullNotEmpty n = (kind ≡ k.Null) × (0 < length c) × (n ≡ 0)
BreaksContents mode kind c r.IdentifierCut n = (kind ≡ k.Identifier) × (IsComplete c → ⊥) × (n ≡ length c - 1)
BreaksContents mode kind c r.IdentifierNotFewest n = (kind ≡ k.Identifier) × IsPadded c n
BreaksContents mode kind c rule n = ⊥

-- ---- values

-- a constructed value of a kind breaks a rule, at its first octet
pub data BreaksForm (mode : Mode) (kind : Kind) (rule : Rule) : Type 0 where
  not_primitive : rule ≡ r.NotPrimitive kind → (MayBeConstructed Ber kind → ⊥) → BreaksForm mode kind rule
  string_cut : rule ≡ r.StringCut → mode ≡ Der → MayBeConstructed Ber kind → (MayBeConstructed Der kind → ⊥) → BreaksForm mode kind rule

-- a value without those inside it breaks a rule at this octet, its first octet being 0
pub data BreaksValue (mode : Mode) (t : Tag) (form : Bool) (size : ℕ) (c : List ℕ) (rule : Rule) (place : ℕ) : Type 0 where
  in_form : form ≡ true → BreaksForm mode (kind_of t) rule → place ≡ 0 → BreaksValue mode t form size c rule place
  not_constructed : form ≡ false → rule ≡ r.NotConstructed → kind_of t ≡ k.Structure → place ≡ 0 → BreaksValue mode t form size c rule place
  in_contents : (n : ℕ) → form ≡ false → BreaksContents mode (kind_of t) c rule n → place ≡ size + n
      → BreaksValue mode t form size c rule place

-- a value may not come behind the last one inside a value with this tag, by a rule
pub data BreaksPlace (mode : Mode) (t : Tag) (last : Option Tree) (v : Tree) (rule : Rule) : Type 0 where
  out_of_order : rule ≡ r.OutOfOrder → (InOrder mode t last v → ⊥) → BreaksPlace mode t last v rule
  other_tag : rule ≡ r.SegmentTag (kind_of t) → (HasSegmentTag (kind_of t) (outline v) → ⊥) → BreaksPlace mode t last v rule
  behind_unused : rule ≡ r.SegmentUnused → (IsBehindWhole (kind_of t) (option_map outline last) → ⊥) → BreaksPlace mode t last v rule
  other_size : rule ≡ r.SegmentSize → (IsCut mode (kind_of t) (option_map outline last) (outline v) → ⊥) → BreaksPlace mode t last v rule

-- ---- octets

-- one of the open values has a definite length
abbrev pub IsInDefinite : List Open → Type 0
IsInDefinite [] = ⊥
IsInDefinite (Some behind ∷ os) = ⊤
IsInDefinite (None ∷ os) = IsInDefinite os

-- octets begin with a header or end-of-contents octets, and not with a header
abbrev pub IsEnd : Mode → List ℕ → Type 0
IsEnd mode x = HasNoHeader mode x × (BeginsHeader mode x ⊎ BeginsEnd mode x)

-- the octets x, at which a walk got inside these open values, break a rule at this octet, the first of x being 0
pub data Breaks (mode : Mode) (os : List Open) (x : List ℕ) (rule : Rule) (place : ℕ) : Type 0 where
  in_header : (v : _) → rule ≡ r.Header v → ViolatesFront mode x v → place ≡ 0 → Breaks mode os x rule place
  contents_cut : rule ≡ r.ContentsCut → GoesBeyond Ber x → (IsInDefinite os → ⊥) → place ≡ 0 → Breaks mode os x rule place
  value_too_long : rule ≡ r.ValueTooLong → GoesBeyond Ber x → IsInDefinite os → place ≡ 0 → Breaks mode os x rule place
  stray_end : rule ≡ r.StrayEnd → IsEnd mode x → IsDue mode os x → place ≡ 0 → Breaks mode os x rule place
  missing_end : (ps : List Open) → rule ≡ r.MissingEnd → x ≡ [] → os ≡ None ∷ ps → place ≡ 0 → Breaks mode os x rule place
  out_of_place : (t : Tag) (size : ℕ) (c : List ℕ) (behind : Open) (us : Trees) (v : Tree) (front w z : List ℕ)
      → BeginsValue mode x t true size c behind → AreEncodings mode us front → IsEncoding mode v w → c ≡ front ++ (w ++ z)
      → BreaksPlace mode t (last_of us) v rule → place ≡ size + length front → Breaks mode os x rule place
  cut_in_vain : (t : Tag) (us : Trees) (w z : List ℕ) → rule ≡ r.SegmentSize → IsEncoding mode (constructed t us) w → x ≡ w ++ z
      → (MayEnd mode (kind_of t) (are_several us) → ⊥) → place ≡ 0 → Breaks mode os x rule place
  in_text : (t : Tag) (us : Trees) (w z : List ℕ) → BreaksCharacters mode (kind_of t) (concat (segments_of us)) rule
      → IsEncoding mode (constructed t us) w → x ≡ w ++ z → place ≡ 0 → Breaks mode os x rule place
  in_value : (t : Tag) (form : Bool) (size : ℕ) (c : List ℕ) (behind : Open) → BeginsValue Ber x t form size c behind
      → BreaksValue mode t form size c rule place → Breaks mode os x rule place

-- a breach that is told: a walk over the octets got to a place, and the octets from there on break the rule at the octet that is told
pub record Holds (mode : Mode) (octets : List ℕ) (b : Breach) : Type 0 where
  pub opened : List Open
  pub rest : List ℕ
  pub from : ℕ
  pub place : ℕ
  pub comes : Comes octets opened rest from
  pub breaks : Breaks mode opened rest b.rule place
  pub at : b.at ≡ from + place
