-- The headings of the values that octets encode, with the places where they stand (ITU-T X.690, 8.1.1).
use Rattle.std.specs.Prelude.{◌≡◌, ◌≢◌, ◌⊎◌, ℕ, ◌+◌, Bool, true, false, List, [], ◌∷◌, ◌++◌, Option, Some, None, length}
use Rattle.bcder.specs.declared.mode.Mode.{Mode}
use Rattle.bcder.specs.x690.Identifier.{Tag}
use Rattle.bcder.specs.x690.BitString.{bit_string_tag}
use Rattle.bcder.specs.x690.OctetString.{octet_string_tag}
use Rattle.bcder.specs.x690.Length.{IsEndOfContents}
use Rattle.bcder.specs.calls.Content.{length_of}
use Rattle.bcder.specs.x690.Tree.{Trees}
use Rattle.bcder.specs.x690.Encoding.{IsHeader, AreEncodings}
use Rattle.berdump.specs.declared.heading.Heading.{Heading}
use Rattle.berdump.specs.declared.scope.Scope.{Scope}

abbrev pub heading : Tag → Bool → (depth offset header : ℕ) → Option ℕ → Heading
heading t form depth offset header len = record { tag = t; constructed = form; depth = depth; offset = offset; header = header; len = len }

-- what stands before the octets of a string in its contents octets: nothing in an OCTET STRING
-- (8.7.2), in a BIT STRING the count of the unused bits (8.6.2.2), which is 0
abbrev pub IsFront : Tag → List ℕ → Type 0
IsFront t front = (t ≡ octet_string_tag) × (front ≡ []) ⊎ (t ≡ bit_string_tag) × (front ≡ 0 ∷ [])

-- the octets are the encodings of values, and of none
abbrev pub IsList : Mode → List ℕ → Type 0
IsList mode w = (ts : Trees) × AreEncodings mode ts w

abbrev pub IsNoList : Mode → List ℕ → Type 0
IsNoList mode w = (ts : Trees) → AreEncodings mode ts w → ⊥

-- contents octets are those of a string that holds the encodings of values, one or more, and these are the encodings
pub record Holds (mode : Mode) (t : Tag) (contents inside : List ℕ) : Type 0 where
  pub front : List ℕ
  pub is_front : IsFront t front
  pub are : contents ≡ front ++ inside
  pub some : inside ≢ []
  pub list : IsList mode inside

abbrev pub HoldsNone : Mode → Tag → List ℕ → Type 0
HoldsNone mode t contents = (inside : List ℕ) → Holds mode t contents inside → ⊥

mutual
  -- w is the encoding of a value, and hs are the headings of it and of the values inside it, each before those inside it,
  -- if it stands at an offset and a depth; if the scope is inside strings, the values that one holds are inside it
  pub data IsListed (scope : Scope) (mode : Mode) : List ℕ → ℕ → ℕ → List Heading → Type 0 where
    primitive : {w : List ℕ} {at depth : ℕ} {hs : List Heading} (t : Tag) (header contents : List ℕ)
        → IsHeader mode t false (length_of (Some (length contents))) header → (scope.inside ≡ true → HoldsNone mode t contents)
        → w ≡ header ++ contents
        → hs ≡ heading t false depth at (length header) (Some (length contents)) ∷ [] → IsListed scope mode w at depth hs
    definite : {w : List ℕ} {at depth : ℕ} {hs : List Heading} (t : Tag) (header contents : List ℕ) (inside : List Heading)
        → IsHeader mode t true (length_of (Some (length contents))) header
        → AreListed scope mode contents (at + length header) (depth + 1) inside
        → w ≡ header ++ contents → hs ≡ heading t true depth at (length header) (Some (length contents)) ∷ inside
        → IsListed scope mode w at depth hs
    indefinite : {w : List ℕ} {at depth : ℕ} {hs : List Heading} (t : Tag) (header contents end : List ℕ) (inside : List Heading)
        → IsHeader mode t true (length_of None) header → AreListed scope mode contents (at + length header) (depth + 1) inside
        → IsEndOfContents mode end
        → w ≡ header ++ (contents ++ end) → hs ≡ heading t true depth at (length header) None ∷ inside → IsListed scope mode w at depth hs
    opened : {w : List ℕ} {at depth : ℕ} {hs : List Heading} (t : Tag) (header front contents : List ℕ) (inside : List Heading)
        → scope.inside ≡ true → IsHeader mode t false (length_of (Some (length (front ++ contents)))) header → IsFront t front
        → contents ≢ []
        → AreListed scope mode contents (at + length header + length front) (depth + 1) inside
        → w ≡ header ++ (front ++ contents) → hs ≡ heading t false depth at (length header) (Some (length (front ++ contents))) ∷ inside
        → IsListed scope mode w at depth hs

  -- the headings of a list of values, the first of which begins at an offset and lies at a depth
  pub data AreListed (scope : Scope) (mode : Mode) : List ℕ → ℕ → ℕ → List Heading → Type 0 where
    none : {w : List ℕ} {at depth : ℕ} {hs : List Heading} → w ≡ [] → hs ≡ [] → AreListed scope mode w at depth hs
    more : {w : List ℕ} {at depth : ℕ} {hs : List Heading} (first others : List ℕ) (these those : List Heading)
        → IsListed scope mode first at depth these → AreListed scope mode others (at + length first) depth those
        → w ≡ first ++ others → hs ≡ these ++ those → AreListed scope mode w at depth hs
