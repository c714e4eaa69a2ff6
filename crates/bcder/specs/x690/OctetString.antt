-- Octet strings (ITU-T X.690, 8.7, 9.2, 10.2).
use Rattle.std.specs.Prelude.{◌≡◌, ℕ, ◌≤◌, List, [], ◌∷◌, ◌++◌, length, ⊤}
use Rattle.std.specs.List.{concat}
use Rattle.bcder.specs.declared.mode.Mode.{Mode}
use Rattle.bcder.specs.declared.mode.Mode.TheVariants.{Ber, Cer, Der}
use Rattle.bcder.specs.x690.Identifier.{Tag, universal}
use Rattle.bcder.specs.x690.Tree.{Tree, primitive, constructed, Trees, no_trees, ◌∷ₜ◌}
use Rattle.bcder.specs.x690.Encoding.{AreEncodings}

-- the tag of OCTET STRING (X.680, 8.4)
abbrev pub octet_string_tag : Tag
octet_string_tag = record { class = universal; number = 4 }

-- ---- 8.7.2, 8.7.3: what a value holds

abbrev mutual
  -- the contents octets of the primitive values that the value is made of, in order
  pub segments : Tree → List (List ℕ)
  segments (primitive t contents) = contents ∷ []
  segments (constructed t ts) = segments_of ts

  pub segments_of : Trees → List (List ℕ)
  segments_of no_trees = []
  segments_of (t ∷ₜ ts) = segments t ++ segments_of ts

-- the octets of the string: those of its segments, one after the other
abbrev pub flat : Tree → List ℕ
flat t = concat (segments t)

-- ---- which values are octet strings, under any tag

abbrev mutual
  -- 8.7.3.2: a segment is an octet string of its own, with the tag OCTET STRING
  pub IsSegment : Tree → Type 0
  IsSegment (primitive t contents) = t ≡ octet_string_tag
  IsSegment (constructed t ts) = (t ≡ octet_string_tag) × AreSegments ts

  pub AreSegments : Trees → Type 0
  AreSegments no_trees = ⊤
  AreSegments (t ∷ₜ ts) = IsSegment t × AreSegments ts

-- 9.2: a primitive segment, of whose number of octets the condition holds
abbrev pub IsPiece : (ℕ → Type 0) → Tree → Type 0
IsPiece Size (primitive t contents) = (t ≡ octet_string_tag) × Size (length contents)
IsPiece Size (constructed t ts) = ⊥

abbrev pub IsFull : ℕ → Type 0
IsFull n = n ≡ 1000

abbrev pub IsLast : ℕ → Type 0
IsLast n = (1 ≤ n) × (n ≤ 1000)

-- 9.2: at least one more segment follows one of 1000 octets; each has 1000 but the last, which has 1 to 1000
abbrev pub FollowFull : Trees → Type 0
FollowFull no_trees = ⊥
FollowFull (t ∷ₜ no_trees) = IsPiece IsLast t
FollowFull (t ∷ₜ (u ∷ₜ us)) = IsPiece IsFull t × FollowFull (u ∷ₜ us)

-- the values that a constructed octet string may hold: in BER segments of any form (8.7.3); in CER primitive ones,
-- which together have over 1000 octets (9.2); in DER there is no such string (10.2)
abbrev pub AreSegmentsIn : Mode → Trees → Type 0
AreSegmentsIn Ber ts = AreSegments ts
AreSegmentsIn Cer no_trees = ⊥
AreSegmentsIn Cer (t ∷ₜ ts) = IsPiece IsFull t × FollowFull ts
AreSegmentsIn Der ts = ⊥

-- the contents octets that a primitive octet string may have: in CER at most 1000 (9.2)
abbrev pub MayBeWhole : Mode → List ℕ → Type 0
MayBeWhole Cer w = length w ≤ 1000
MayBeWhole mode w = ⊤

-- whether a value is an octet string in a mode, whatever its tag
abbrev pub IsOctetString : Mode → Tree → Type 0
IsOctetString mode (primitive t contents) = MayBeWhole mode contents
IsOctetString mode (constructed t ts) = AreSegmentsIn mode ts

-- ---- what a constructed octet string is cut into

-- octets are the encodings of the values in a constructed octet string, whose segments hold these parts
pub record AreSegmented (mode : Mode) (w : List ℕ) (parts : List (List ℕ)) : Type 0 where
  pub values : Trees
  pub encode : AreEncodings mode values w
  pub shape : AreSegmentsIn mode values
  pub hold : segments_of values ≡ parts

-- octets are what a constructed octet string is cut into
abbrev pub AreCut : Mode → List ℕ → Type 0
AreCut mode w = (parts : List (List ℕ)) × AreSegmented mode w parts
