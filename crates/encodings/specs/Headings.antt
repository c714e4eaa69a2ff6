-- The header of a value, as it is told to a caller (ITU-T X.690, 8.1.2, 8.1.3).
use Rattle.std.specs.Prelude.{◌≡◌, ℕ, Bool, true, false, List, ◌++◌, length, Option, Some, None}
use Rattle.bcder.specs.declared.mode.Mode.{Mode}
use Rattle.bcder.specs.x690.Identifier.{Class, universal, application, context_specific, private, Tag}
use Rattle.bcder.specs.x690.Length.{IsEndOfContents}
use Rattle.bcder.specs.x690.Encoding.{IsHeader}
use Rattle.bcder.specs.calls.Content.{length_of}
use Rattle.encodings.specs.declared.heading.Heading.{Heading}

-- 8.1.2.2, table 1: the two bits of a class, as a number
abbrev pub class_number : Class → ℕ
class_number universal = 0
class_number application = 1
class_number context_specific = 2
class_number private = 3

-- the number of contents octets, if there is one, as a number and a mark of the indefinite form
abbrev pub IsTold : Option ℕ → ℕ → Bool → Type 0
IsTold (Some n) len indefinite = (len ≡ n) × (indefinite ≡ false)
IsTold None len indefinite = (len ≡ 0) × (indefinite ≡ true)

-- h tells a header of so many octets, with this tag, form and length
pub record Tells (tag : Tag) (form : Bool) (len : Option ℕ) (count : ℕ) (h : Heading) : Type 0 where
  pub size : h.size ≡ count
  pub class : h.class ≡ class_number tag.class
  pub number : h.number ≡ tag.number
  pub constructed : h.constructed ≡ form
  pub length : IsTold len h.len h.indefinite

-- w begins with the header of a value, of which h tells the size, the tag, the form and the length
pub record BeginsWith (mode : Mode) (w : List ℕ) (h : Heading) : Type 0 where
  pub tag : Tag
  pub len : Option ℕ
  pub header : List ℕ
  pub behind : List ℕ
  pub is_header : IsHeader mode tag h.constructed (length_of len) header
  pub is : w ≡ header ++ behind
  pub size : h.size ≡ length header
  pub class : h.class ≡ class_number tag.class
  pub number : h.number ≡ tag.number
  pub length : IsTold len h.len h.indefinite

-- w begins with end-of-contents octets, of which there are n
pub record BeginsWithEnd (mode : Mode) (w : List ℕ) (n : ℕ) : Type 0 where
  pub marker : List ℕ
  pub behind : List ℕ
  pub is_end : IsEndOfContents mode marker
  pub is : w ≡ marker ++ behind
  pub size : n ≡ length marker
