-- How the values inside each SET are put in order.
use Rattle.std.specs.Prelude.{◌≡◌, ℕ, ◌+◌, ◌-◌, ◌*◌, ◌<◌, ◌≤◌, ◌⊎◌, Bool, true, false, ⊤, List, [], ◌∷◌, ◌++◌, length, map}
use Rattle.std.specs.Prelude.{reverse, take, drop}
use Rattle.std.specs.Prelude.{Option, Some, None, option_map, sum_by, IsPermutation}
use Rattle.bcder.specs.declared.mode.Mode.{Mode}
use Rattle.bcder.specs.x690.Encoding.{IsHeader, IsEncoding, AreEncodings}
use Rattle.bcder.specs.x690.Length.{IsEndOfContents}
use Rattle.bcder.specs.x690.Identifier.{AreOctets, Tag}
use Rattle.bcder.specs.x690.Tree.{Tree, Trees, no_trees, ◌∷ₜ◌}
use Rattle.bcder.specs.calls.Content.{length_of}
use Rattle.bcder.specs.calls.Valued.{tag_of}
use Rattle.encodings.specs.declared.sets.Copied.{Copied}
use Rattle.encodings.specs.declared.sets.Element.{Element}
use Rattle.encodings.specs.declared.sets.Enclosing.{Enclosing}
use Rattle.encodings.specs.Open.{Open, to_come}
use Rattle.encodings.specs.Sets.{place, is_set, AreSorted, IsNotAfter}

-- a value, and its octets
pub record Pair : Type 0 where
  pub tree : Tree
  pub octets : List ℕ

abbrev pub octets_of : List Pair → List ℕ
octets_of [] = []
octets_of (p ∷ ps) = p.octets ++ octets_of ps

abbrev pub trees_of : List Pair → Trees
trees_of [] = no_trees
trees_of (p ∷ ps) = p.tree ∷ₜ trees_of ps

-- each has these octets
abbrev pub AreEncoded : Mode → List Pair → Type 0
AreEncoded mode [] = ⊤
AreEncoded mode (p ∷ ps) = IsEncoding mode p.tree p.octets × AreEncoded mode ps

-- what is told of them
abbrev pub AreMarks : List Copied → List Pair → Type 0
AreMarks [] [] = ⊤
AreMarks [] (p ∷ ps) = ⊥
AreMarks (c ∷ cs) [] = ⊥
AreMarks (c ∷ cs) (p ∷ ps) = (c.place ≡ place (tag_of p.tree)) × (c.size ≡ length p.octets) × AreMarks cs ps

-- what they are put in order by
abbrev pub AreKeyed : List Element → List Pair → Type 0
AreKeyed [] [] = ⊤
AreKeyed [] (p ∷ ps) = ⊥
AreKeyed (e ∷ es) [] = ⊥
AreKeyed (e ∷ es) (p ∷ ps) = (e.place ≡ place (tag_of p.tree)) × (e.octets.now ≡ p.octets) × AreKeyed es ps

-- a value comes before another, or as far on
abbrev pub IsUpTo : Pair → Pair → Type 0
IsUpTo p q =
    (place (tag_of p.tree) < place (tag_of q.tree))
    ⊎ ((place (tag_of p.tree) ≡ place (tag_of q.tree)) × IsNotAfter p.octets q.octets)

abbrev pub IsUpToFirst : Pair → List Pair → Type 0
IsUpToFirst p [] = ⊤
IsUpToFirst p (q ∷ qs) = IsUpTo p q

abbrev pub Ascend : List Pair → Type 0
Ascend [] = ⊤
Ascend (p ∷ ps) = IsUpToFirst p ps × Ascend ps

-- w are the octets of values in order
pub record PutsInOrder (ps : List Pair) (w : List ℕ) : Type 0 where
  pub pairs : List Pair
  pub rearranged : IsPermutation ps pairs
  pub ascend : Ascend pairs
  pub is : w ≡ octets_of pairs

-- the octets e end the innermost open value, before y
pub data EndsBy (mode : Mode) (o : Open) (x e y : List ℕ) : Type 0 where
  definite : o ≡ Some y → x ≡ [] → e ≡ [] → EndsBy mode o x e y
  indefinite : o ≡ None → IsEndOfContents mode e → x ≡ e ++ y → EndsBy mode o x e y

-- ---- what was passed and copied

-- values that were passed inside an open one, or outside of all, and as they were copied
pub record Layer : Type 0 where
  pub read : Trees
  pub old : List ℕ
  pub pairs : List Pair

pub record Holds (mode : Mode) (l : Layer) : Type 0 where
  pub encode : AreEncodings mode l.read l.old
  pub sorted : AreSorted mode l.read (trees_of l.pairs)
  pub encoded : AreEncoded mode l.pairs
  pub size : length (octets_of l.pairs) ≡ length l.old

-- the octets behind an open value
abbrev pub behind_of : Open → List ℕ
behind_of (Some b) = b
behind_of None = []

-- its length, if so many contents octets were passed before x
abbrev pub open_length : Open → ℕ → Option ℕ
open_length (Some b) n = Some n
open_length None n = None

abbrev pub behind_open : Enclosing → Open
behind_open f = option_map (λ s. s.now) f.behind

-- inside an open value: what was copied of the values around it, its header, and the values inside it; what was passed stands before x
pub record Inside (mode : Mode) (f : Enclosing) (copied : List Copied) (out x : List ℕ)
    (Around : List Copied → List ℕ → List ℕ → Type 0) : Type 0 where
  pub layer : Layer
  pub holds : Holds mode layer
  pub tag : Tag
  pub place_is : f.place ≡ place tag
  pub sorts : f.sorts ≡ is_set tag
  pub header : List ℕ
  pub is_header : IsHeader mode tag true (length_of (open_length (behind_open f) (length (layer.old ++ x)))) header
  pub before : List Copied
  pub mine : List Copied
  pub front : List ℕ
  pub copied_is : copied ≡ before ++ mine
  pub marks : AreMarks mine layer.pairs
  pub out_is : out ≡ (front ++ header) ++ octets_of layer.pairs
  pub start : f.start ≡ length front
  pub inner : f.inner ≡ length (front ++ header)
  pub first : f.first ≡ length before
  pub around : Around before front (header ++ ((layer.old ++ x) ++ behind_of (behind_open f)))

-- outside of all
pub record Outside (mode : Mode) (w : List ℕ) (copied : List Copied) (out x : List ℕ) : Type 0 where
  pub layer : Layer
  pub holds : Holds mode layer
  pub marks : AreMarks copied layer.pairs
  pub out_is : out ≡ octets_of layer.pairs
  pub is : w ≡ layer.old ++ x

-- the octets w were passed up to x, and copied; the open values, the innermost first
abbrev pub State : Mode → List ℕ → List Enclosing → List Copied → List ℕ → List ℕ → Type 0
State mode w [] copied out x = Outside mode w copied out x
State mode w (f ∷ fs) copied out x = Inside mode f copied out x (State mode w fs)

-- the octets were passed up to x, and copied; the open values in memory, the innermost last
pub record IsState (mode : Mode) (opened : List Enclosing) (copied : List Copied) (out x : List ℕ) : Type 0 where
  pub whole : List ℕ
  pub state : State mode whole (reverse opened) copied out x

-- how many octets and open values are to come
abbrev pub opens_of : List Enclosing → List Open
opens_of fs = map behind_open fs

abbrev pub to_do : List Enclosing → List ℕ → ℕ
to_do fs x = length (to_come (opens_of fs) x) * 2 + length fs

-- one step on
pub record GoesOver (mode : Mode) (x : List ℕ) (os ps : List Enclosing) (cs ds : List Copied) (v w y : List ℕ) : Type 0 where
  pub state : (whole : List ℕ) → State mode whole (reverse os) cs v x → State mode whole (reverse ps) ds w y
  pub smaller : to_do (reverse ps) y < to_do (reverse os) x

-- a value or its header was copied
pub data Enters (mode : Mode) (x : List ℕ) (os ps : List Enclosing) (cs ds : List Copied) (v w y : List ℕ) : Type 0 where
  passes : (t : Tag) (h c : List ℕ) → IsHeader mode t false (length_of (Some (length c))) h → AreOctets c → x ≡ (h ++ c) ++ y → ps ≡ os
      → w ≡ v ++ (h ++ c) → (d : Copied) → d.place ≡ place t → d.size ≡ length (h ++ c) → ds ≡ cs ++ d ∷ []
      → Enters mode x os ps cs ds v w y
  opens : (f : Enclosing) (t : Tag) (h : List ℕ) → f.place ≡ place t → f.sorts ≡ is_set t
      → IsHeader mode t true (length_of (open_length (behind_open f) (length y))) h
      → x ≡ h ++ (y ++ behind_of (behind_open f)) → ps ≡ os ++ f ∷ [] → ds ≡ cs → w ≡ v ++ h → f.start ≡ length v → f.inner ≡ length w
      → f.first ≡ length cs → Enters mode x os ps cs ds v w y

-- ---- ends

-- values were put in order if they are inside a SET, and stand behind the octets v in w
abbrev pub AreArrangedPairs : Bool → List Pair → List Pair → Type 0
AreArrangedPairs true ps qs = IsPermutation ps qs × Ascend qs
AreArrangedPairs false ps qs = qs ≡ ps

pub record Arranged (sorts : Bool) (ps : List Pair) (v w : List ℕ) : Type 0 where
  pub pairs : List Pair
  pub arranged : AreArrangedPairs sorts ps pairs
  pub is : w ≡ v ++ octets_of pairs

-- where the values inside an open one stand
pub record IsEnclosing (f : Enclosing) (copied : List Copied) (out : List ℕ) : Type 0 where
  pub before : f.start ≤ f.inner
  pub within : f.inner ≤ length out
  pub first : f.first ≤ length copied
  pub sizes : sum_by (λ c. c.size) (drop f.first copied) ≡ length (drop f.inner out)

-- the end of a value was copied
pub record Leaves (f : Enclosing) (e : List ℕ) (cs : List Copied) (v : List ℕ) (ds : List Copied) (w : List ℕ) : Type 0 where
  pub inside : (ps : List Pair) → AreMarks (drop f.first cs) ps → drop f.inner v ≡ octets_of ps
      → (u : List ℕ) × Arranged f.sorts ps (take f.inner v) u × (w ≡ u ++ e)
  pub copied : Copied
  pub place_is : copied.place ≡ f.place
  pub size : copied.size ≡ length w - f.start
  pub is : ds ≡ take f.first cs ++ copied ∷ []
