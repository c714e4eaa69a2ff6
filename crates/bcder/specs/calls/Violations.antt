-- What octets begin with, and what a refusal of them names.
use Rattle.std.specs.Prelude.{◌≡◌, ◌≢◌, ◌≤◌, Bool, List, ℕ, ◌++◌, length, true, false, codes}
use Rattle.bcder.specs.declared.{mode.Mode.Mode, length.Length.TheVariants.Indefinite, decode.violation.Violation.Violation}
use Rattle.bcder.specs.declared.{decode.error.ContentError.TheVariants.Static, decode.error.DecodeError.DecodeError, length.Length.Length}
use Rattle.bcder.specs.declared.mode.Mode.TheVariants.{Cer, Der, Ber}
use Rattle.bcder.specs.declared.decode.violation.Violation.TheVariants as v
use Rattle.bcder.specs.x690.Identifier.{Tag, IsTag, identifier, end_of_contents}
use Rattle.bcder.specs.x690.Length.{IsEndOfContents}
use Rattle.bcder.specs.x690.Broken.{HasTag, HasLength, IsDefinite, EndsInHeader, TagNotFewest, TagTooLarge, LengthReserved, LengthTooLarge}
use Rattle.bcder.specs.x690.Broken.{LengthNotFewest}
use Rattle.bcder.specs.x690.Encoding.{IsHeader}
use Rattle.bcder.specs.calls.Cause.{cause_of, of_content, MatchCause}

-- w begins with the identifier octets of another tag than t
abbrev pub BeginsOther : Tag → List ℕ → Type 0
BeginsOther t w = (u : Tag) × (f : Bool) × (x : List ℕ) × IsTag u × (u ≢ t) × (w ≡ identifier u f ++ x)

-- w begins with the identifier octets of no tag
abbrev pub BeginsNoIdentifier : List ℕ → Type 0
BeginsNoIdentifier w = (t : Tag) (f : Bool) (x : List ℕ) → IsTag t → w ≡ identifier t f ++ x → ⊥

-- w is not empty, and begins with the identifier octets of no tag
abbrev pub HasNoIdentifier : List ℕ → Type 0
HasNoIdentifier w = (1 ≤ length w) × BeginsNoIdentifier w

-- ---- what a refusal names

-- the text that says what is violated
abbrev pub violation_text : Violation → List ℕ
violation_text v.TruncatedHeader = codes "the octets end inside a header"
violation_text v.TruncatedContents = codes "unexpected end of data"
violation_text v.TagNotFewest = codes "tag number not in the fewest octets"
violation_text v.TagTooLarge = codes "tag number over 2097151"
violation_text v.ReservedTag = codes "tag of end-of-contents octets on a value"
violation_text v.ReservedLength = codes "reserved length octet FF"
violation_text v.LengthTooLarge = codes "length of more than four octets"
violation_text v.LengthNotFewest = codes "length not in the fewest octets"
violation_text v.PrimitiveIndefinite = codes "indefinite length of a primitive value"
violation_text v.IndefiniteInDer = codes "indefinite length in DER"
violation_text v.DefiniteInCer = codes "definite length of a constructed value in CER"
violation_text v.ValueTooLong = codes "value longer than the value around it"
violation_text v.StrayEnd = codes "end-of-contents octets where none belong"

-- the next octets are no header in the mode, for the named reason
pub data ViolatesFront (mode : Mode) (w : List ℕ) (r : Violation) : Type 0 where
  truncated_header : r ≡ v.TruncatedHeader → EndsInHeader w → ViolatesFront mode w r
  tag_not_fewest : r ≡ v.TagNotFewest → TagNotFewest w → ViolatesFront mode w r
  tag_too_large : r ≡ v.TagTooLarge → TagTooLarge w → ViolatesFront mode w r
  -- but no end-of-contents octets
  reserved_tag : r ≡ v.ReservedTag → HasTag (λ t f y. t ≡ end_of_contents) w
      → ((end after : List ℕ) → IsEndOfContents mode end → w ≡ end ++ after → ⊥) → ViolatesFront mode w r
  reserved_length : r ≡ v.ReservedLength → HasTag (λ t f y. LengthReserved y) w → ViolatesFront mode w r
  length_too_large : r ≡ v.LengthTooLarge → HasTag (λ t f y. LengthTooLarge y) w → ViolatesFront mode w r
  length_not_fewest : r ≡ v.LengthNotFewest → HasTag (λ t f y. LengthNotFewest mode y) w → ViolatesFront mode w r
  primitive_indefinite : r ≡ v.PrimitiveIndefinite → HasTag (λ t f y. (f ≡ false) × HasLength mode (λ n. n ≡ Indefinite) y) w
      → ViolatesFront mode w r
  indefinite_in_der : r ≡ v.IndefiniteInDer → mode ≡ Der → HasTag (λ t f y. HasLength mode (λ n. n ≡ Indefinite) y) w
      → ViolatesFront mode w r
  definite_in_cer : r ≡ v.DefiniteInCer → mode ≡ Cer → HasTag (λ t f y. (f ≡ true) × HasLength mode IsDefinite y) w → ViolatesFront mode w r

-- ---- headers and ends

-- w begins with the header of a value
abbrev pub BeginsHeader : Mode → List ℕ → Type 0
BeginsHeader mode w = (t : Tag) × (form : Bool) × (len : Length) × (h x : List ℕ) × IsHeader mode t form len h × (w ≡ h ++ x)

-- w begins with end-of-contents octets
abbrev pub BeginsEnd : Mode → List ℕ → Type 0
BeginsEnd mode w = (end x : List ℕ) × IsEndOfContents mode end × (w ≡ end ++ x)

-- where content was refused, the text names what the identifier octets in front violate
abbrev pub NamesFront : {S : Type 0} → List ℕ → DecodeError S → Type 0
NamesFront w e = MatchCause (cause_of e) (Unit {0})
    ((r : Violation) × ViolatesFront Ber w r × (cause_of e ≡ of_content (Static (violation_text r)))) (Unit {0})
