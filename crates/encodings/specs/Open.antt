-- The values that are open while octets are passed, and what remains of them.
use Rattle.std.specs.Prelude.{◌≡◌, ℕ, suc, ◌+◌, ◌<◌, ◌≤◌, max, Bool, true, false, List, [], ◌∷◌, ◌++◌, length, map, reverse}
use Rattle.std.specs.Prelude.{Option, Some, None, option_map, option_and_then}
use denote.Ref.{Bor}
use Rattle.bcder.specs.declared.mode.Mode.{Mode}
use Rattle.bcder.specs.x690.Preorder.{Heading, preorder, preorders}
use Rattle.bcder.specs.steps.Reading.{read_list, read_tree}
use Rattle.bcder.specs.x690.Identifier.{Tag}
use Rattle.bcder.specs.x690.Encoding.{IsHeader}
use Rattle.bcder.specs.x690.Length.{IsEndOfContents}
use Rattle.bcder.specs.calls.Content.{length_of}
use Rattle.encodings.specs.declared.checked.Checked.{Checked}
use Rattle.encodings.specs.Depth.{deepest}
use Rattle.encodings.specs.Status.{absent, beyond, ended}

-- how an open value ends: at the last octet of its contents, before these octets; or by end-of-contents octets
abbrev pub Open : Type 0
Open = Option (List ℕ)

-- the open values, the innermost first
abbrev pub open_values : List (Option (Bor (List ℕ))) → List Open
open_values opened = reverse (map (option_map (λ s. s.now)) opened)

-- the headings still to come, and the octets after the outermost value
abbrev pub Rest : Type 0
Rest = Option (List Heading × List ℕ)

abbrev pub after : List Heading → Rest → Rest
after hs r = option_map (λ o. (hs ++ o.0, o.1)) r

-- what remains as the open values end one after the other
unfoldable pub rest_of : Mode → List Open → List ℕ → Rest
rest_of mode [] x = Some ([], x)
rest_of mode (Some behind ∷ os) x =
    option_and_then (λ ts. after (preorders ts.0 (suc (length os))) (rest_of mode os behind)) (read_list mode false x)
rest_of mode (None ∷ os) x =
    option_and_then (λ ts. after (preorders ts.0 (suc (length os))) (rest_of mode os ts.1)) (read_list mode true x)

-- what remains if a value comes next
abbrev pub value_and_rest : Mode → List Open → List ℕ → Rest
value_and_rest mode os x = option_and_then (λ t. after (preorder t.0 (length os)) (rest_of mode os t.1)) (read_tree mode x)

-- all octets to come
abbrev pub to_come : List Open → List ℕ → List ℕ
to_come [] x = x
to_come (Some behind ∷ os) x = x ++ to_come os behind
to_come (None ∷ os) x = to_come os x

-- what was met: n octets, and values with these headings
pub record Tallied (old new : Checked) (n : ℕ) (hs : List Heading) : Type 0 where
  pub at : new.at ≡ old.at + n
  pub values : new.values ≡ old.values + length hs
  pub depth : new.depth ≡ max old.depth (deepest hs)

-- the heading of the next value
abbrev pub heading_of : Tag → Bool → List Open → Heading
heading_of t constructed os = record { tag = t; constructed = constructed; depth = length os }

-- one step of a walk over octets, from the octets x inside the open values os to the octets y inside ps:
-- past a primitive value, past the header of a constructed value, or past the end of the innermost one
pub data Step (mode : Mode) (os : List Open) (x : List ℕ) (ps : List Open) (y passed : List ℕ) (met : List Heading) : Type 0 where
  of_primitive : (t : Tag) (header contents : List ℕ) → IsHeader mode t false (length_of (Some (length contents))) header
      → x ≡ header ++ (contents ++ y) → ps ≡ os → passed ≡ header ++ contents → met ≡ heading_of t false os ∷ []
      → Step mode os x ps y passed met
  into_definite : (t : Tag) (header behind : List ℕ) → IsHeader mode t true (length_of (Some (length y))) header
      → x ≡ header ++ (y ++ behind) → ps ≡ Some behind ∷ os → passed ≡ header → met ≡ heading_of t true os ∷ []
      → Step mode os x ps y passed met
  into_indefinite : (t : Tag) (header : List ℕ) → IsHeader mode t true (length_of None) header
      → x ≡ header ++ y → ps ≡ None ∷ os → passed ≡ header → met ≡ heading_of t true os ∷ []
      → Step mode os x ps y passed met
  out_of_definite : os ≡ Some y ∷ ps → x ≡ [] → passed ≡ [] → met ≡ [] → Step mode os x ps y passed met
  out_of_indefinite : os ≡ None ∷ ps → IsEndOfContents mode passed → x ≡ passed ++ y → met ≡ [] → Step mode os x ps y passed met

-- a walk over w, which met values with these headings, got to the octets x inside the open values os
pub data Reaches (mode : Mode) (w : List ℕ) : List Open → List ℕ → List ℕ → List Heading → Type 0 where
  at_first : Reaches mode w [] w [] []
  one_on : (ns os : List Open) (v x p q : List ℕ) (hs ks : List Heading) → Reaches mode w ns v p hs → Step mode ns v os x q ks
      → Reaches mode w os x (p ++ q) (hs ++ ks)

-- the header of a value was passed, and the contents too, if it is primitive
pub record Begins (mode : Mode) (os : List Open) (x : List ℕ) (ps : List Open) (y : List ℕ) (old new : Checked) : Type 0 where
  pub heading : Heading
  pub same : value_and_rest mode os x ≡ after (heading ∷ []) (rest_of mode ps y)
  pub passed : List ℕ
  pub is : to_come os x ≡ passed ++ to_come ps y
  pub step : Step mode os x ps y passed (heading ∷ [])
  pub tallied : Tallied old new (length passed) (heading ∷ [])
  pub two : 2 ≤ length passed
  pub opens : length ps ≤ length os + 1

-- the octets begin with no header
abbrev pub HasNoHeader : Mode → List ℕ → Type 0
HasNoHeader mode x = (t : Tag) (form : Bool) (n : Option ℕ) (v y : List ℕ) → IsHeader mode t form (length_of n) v → x ≡ v ++ y → ⊥

-- the octets begin with the header of a value
pub record HasHeader (mode : Mode) (x : List ℕ) : Type 0 where
  pub tag : Tag
  pub form : Bool
  pub len : Option ℕ
  pub header : List ℕ
  pub behind : List ℕ
  pub is_header : IsHeader mode tag form (length_of len) header
  pub is : x ≡ header ++ behind

-- the octets begin with a header, whose value has more contents octets than follow
pub record GoesBeyond (mode : Mode) (x : List ℕ) : Type 0 where
  pub tag : Tag
  pub form : Bool
  pub len : ℕ
  pub header : List ℕ
  pub behind : List ℕ
  pub is_header : IsHeader mode tag form (length_of (Some len)) header
  pub is : x ≡ header ++ behind
  pub more : length behind < len

-- why no value begins octets: there are none, they begin with no header, or the contents aren't all there
pub data NoneBegins (mode : Mode) (x : List ℕ) (status : ℕ) : Type 0 where
  no_octets : x ≡ [] → status ≡ ended → NoneBegins mode x status
  no_header : HasNoHeader mode x → status ≡ absent → NoneBegins mode x status
  goes_beyond : GoesBeyond mode x → status ≡ beyond → NoneBegins mode x status

-- the innermost open value ended
pub record Closes (mode : Mode) (o : Open) (x y : List ℕ) (n : ℕ) : Type 0 where
  pub same : (os : List Open) → rest_of mode (o ∷ os) x ≡ rest_of mode os y
  pub passed : List ℕ
  pub is : (os : List Open) → to_come (o ∷ os) x ≡ passed ++ to_come os y
  pub step : (os : List Open) → Step mode (o ∷ os) x os y passed []
  pub size : length passed ≡ n

-- the octets x don't begin with the end of the innermost open value: they are not at their end; they begin with no end-of-contents octets
abbrev pub NotAtEnd : Mode → Open → List ℕ → Type 0
NotAtEnd mode (Some behind) x = 0 < length x
NotAtEnd mode None x = (v y : List ℕ) → IsEndOfContents mode v → x ≡ v ++ y → ⊥

-- the innermost open value goes on: a value comes next, or should
pub record GoesOn (mode : Mode) (o : Open) (x : List ℕ) : Type 0 where
  pub same : (os : List Open) → rest_of mode (o ∷ os) x ≡ value_and_rest mode (o ∷ os) x
  pub no_end : NotAtEnd mode o x
