-- What listing answers, and what the target then holds.
use Rattle.std.specs.Prelude.{◌≡◌, ◌≢◌, ◌⊎◌, ℕ, ◌+◌, ◌≤◌, Bool, List, [], ◌∷◌, ◌++◌, Option, Some, None, length, take}
use Rattle.std.specs.Io.KnownBytes.{Appends, Keeps}
use Rattle.bcder.specs.declared.mode.Mode.{Mode}
use Rattle.bcder.specs.x690.Identifier.{Tag}
use Rattle.bcder.specs.x690.Encoding.{IsHeader}
use Rattle.bcder.specs.calls.Content.{length_of}
use Rattle.berdump.specs.declared.heading.Heading.{Heading}
use Rattle.berdump.specs.declared.scope.Scope.{Scope}
use Rattle.berdump.specs.declared.list.ListError.{ListError}
use Rattle.berdump.specs.declared.list.ListError.TheVariants.{Refused, NoMemory, Target}
use Rattle.bcder.specs.calls.Encoders.{AppendsFront, AppendsShorter}
use Rattle.berdump.specs.Lines.{AreLines}
use Rattle.berdump.specs.Listing.{IsNoList, AreListed}
use Rattle.berdump.specs.Reasons.{IsRefusedAt}

-- a header with the tag, the form and the length stands at the offset
pub record Stands (scope : Scope) (mode : Mode) (octets : List ℕ) (h : Heading) : Type 0 where
  pub before : List ℕ
  pub header : List ℕ
  pub others : List ℕ
  pub is_header : IsHeader mode h.tag h.constructed (length_of h.len) header
  pub are : octets ≡ before ++ (header ++ others)
  pub offset : scope.from + length before ≡ h.offset
  pub size : length header ≡ h.header

abbrev pub AllStand : Scope → Mode → List ℕ → List Heading → Type 0
AllStand scope mode octets [] = Unit {0}
AllStand scope mode octets (h ∷ hs) = Stands scope mode octets h × AllStand scope mode octets hs

-- lines of these headings were written
pub record Written (scope : Scope) (hs : List Heading) (old new : Option (List ℕ)) : Type 0 where
  pub text : List ℕ
  pub lines : AreLines scope hs text
  pub appends : Appends old new text

-- the octets are the encodings of values, and a line was written for each heading of them
pub record Listed (scope : Scope) (mode : Mode) (octets : List ℕ) (old new : Option (List ℕ)) : Type 0 where
  pub headings : List Heading
  pub listed : AreListed scope mode octets scope.from 0 headings
  pub written : Written scope headings old new

-- a line was written for each of some headings that stand in the octets
pub record ListedInPart (scope : Scope) (mode : Mode) (octets : List ℕ) (old new : Option (List ℕ)) : Type 0 where
  pub headings : List Heading
  pub stand : AllStand scope mode octets headings
  pub written : Written scope headings old new

-- a front of such lines was written
pub record CutOff (scope : Scope) (mode : Mode) (octets : List ℕ) (old new : Option (List ℕ)) : Type 0 where
  pub headings : List Heading
  pub text : List ℕ
  pub stand : AllStand scope mode octets headings
  pub lines : AreLines scope headings text
  pub appends : AppendsFront old new text

-- what an error says of what was written
abbrev pub IsUnlisted : Scope → Mode → List ℕ → Option (List ℕ) → Option (List ℕ) → ListError → Type 0
IsUnlisted scope mode octets old new (Refused at why) =
    ListedInPart scope mode octets old new × IsRefusedAt scope mode octets at why × IsNoList mode octets
IsUnlisted scope mode octets old new NoMemory = ListedInPart scope mode octets old new
IsUnlisted scope mode octets old new (Target e) = CutOff scope mode octets old new

-- what an error says of one line
abbrev pub IsUnwritten : Scope → Heading → Option (List ℕ) → Option (List ℕ) → ListError → Type 0
IsUnwritten scope h old new (Refused at why) = ⊥
IsUnwritten scope h old new NoMemory = Keeps old new
IsUnwritten scope h old new (Target e) = (text : List ℕ) × AreLines scope (h ∷ []) text × AppendsShorter old new text

-- octets begin with a header that gives a length, and with so many contents octets; and with one that gives none
abbrev pub IsDefiniteAt : Mode → List ℕ → List ℕ → Type 0
IsDefiniteAt mode w contents = (t : Tag) × (form : Bool) × (n : ℕ) × (h r : List ℕ) × IsHeader mode t form (length_of (Some n)) h
    × (w ≡ h ++ r)
    × (n ≤ length r) × (contents ≡ take n r)

abbrev pub IsIndefiniteAt : Mode → List ℕ → List ℕ → Type 0
IsIndefiniteAt mode w behind = (t : Tag) × (form : Bool) × (h : List ℕ) × IsHeader mode t form (length_of None) h × (w ≡ h ++ behind)

-- a header stands at the offset, and contents octets behind it: as many as it says, or some of those before an end
pub record HasContents (scope : Scope) (mode : Mode) (octets : List ℕ) (at : ℕ) (contents : List ℕ) : Type 0 where
  pub tag : Tag
  pub form : Bool
  pub len : Option ℕ
  pub before : List ℕ
  pub header : List ℕ
  pub others : List ℕ
  pub is_header : IsHeader mode tag form (length_of len) header
  pub are : octets ≡ before ++ (header ++ (contents ++ others))
  pub offset : scope.from + length before ≡ at
  pub size : (len ≡ Some (length contents)) ⊎ (len ≡ None)

-- none of these values stands at the offset
abbrev pub AreElsewhere : ℕ → List Heading → Type 0
AreElsewhere at [] = Unit {0}
AreElsewhere at (h ∷ hs) = (h.offset ≢ at) × AreElsewhere at hs

-- the octets are the encodings of values, and none of these or of those inside them stands at the offset
abbrev pub HasNone : Scope → Mode → List ℕ → ℕ → Type 0
HasNone scope mode octets at = (hs : List Heading) × AreListed scope mode octets scope.from 0 hs × AreElsewhere at hs
