-- The values around the octets to come, as they are in memory.
use Rattle.std.specs.Prelude.{◌≡◌, ◌≢◌, ◌⊎◌, ℕ, ◌+◌, ◌-◌, ◌<◌, Bool, true, false, ⊤, List}
use Rattle.std.specs.Prelude.{[], ◌∷◌, ◌++◌, length, slice_index, Option, Some, None, is_some, option_map, take, drop, ◌||◌}
use denote.Ref.{Bor}
use Rattle.bcder.specs.declared.mode.Mode.{Mode}
use Rattle.bcder.specs.declared.mode.Mode.TheVariants.{Ber}
use Rattle.bcder.specs.x690.Encoding.{IsHeader, IsEncoding, AreEncodings}
use Rattle.bcder.specs.x690.Identifier.{Tag}
use Rattle.bcder.specs.x690.Tree.{Tree, Trees}
use Rattle.bcder.specs.calls.Content.{length_of}
use Rattle.encodings.specs.Open.{Open}
use Rattle.encodings.specs.Sets.{place, is_set, IsNotAfter}
use Rattle.encodings.specs.Sorting.{behind_of, open_length}
use Rattle.rules.specs.declared.around.Element.{Element}
use Rattle.rules.specs.declared.around.Enclosing.{Enclosing}
use Rattle.rules.specs.declared.around.Met.{Met}
use Rattle.rules.specs.declared.around.Met.TheVariants as m
use Rattle.rules.specs.declared.rule.Breach.{Breach}
use Rattle.rules.specs.declared.rule.Rule.{Rule}
use Rattle.rules.specs.declared.rule.Rule.TheVariants as r
use Rattle.rules.specs.Comes.{Comes}
use Rattle.std.specs.List.{concat}
use Rattle.bcder.specs.x690.OctetString.{segments_of}
use Rattle.rules.specs.Broken.{BreaksCharacters}
use Rattle.rules.specs.Characters.{HasCharacters}
use Rattle.rules.specs.Kinds.{is_string_kind as is_string, kind_of}
use Rattle.rules.specs.declared.kind.Kind.{Kind}
use Rattle.rules.specs.Placed.{Frame, Outline, are_several, last_of, outline, HasSegmentTag, IsBehindWhole, IsCut, MayEnd}

-- ---- one step

-- what is told of a primitive value, or of the header of a constructed one
abbrev pub met_meant : Tag → Bool → List ℕ → Met
met_meant t false c = m.Value (place t) (length c) (slice_index c 0)
met_meant t true c = m.Begin (place t) (is_set t) (kind_of t)

-- an element of a SET comes behind the last one
abbrev pub KeepsOrder : Mode → Bool → Option Element → Element → Type 0
KeepsOrder mode sorts None n = ⊤
KeepsOrder mode sorts (Some e) n =
    mode ≢ Ber → sorts ≡ true → (e.place < n.place) ⊎ ((e.place ≡ n.place) × IsNotAfter e.octets.now n.octets.now)

abbrev pub element_outline : Element → Outline
element_outline e = record { place = e.place; size = e.size; unused = e.unused }

-- an element may come behind the last one in an open value
pub record Fits (mode : Mode) (e : Enclosing) (n : Element) : Type 0 where
  pub order : KeepsOrder mode e.sorts e.last n
  pub tag : HasSegmentTag e.kind (element_outline n)
  pub unused : IsBehindWhole e.kind (option_map element_outline e.last)
  pub cut : IsCut mode e.kind (option_map element_outline e.last) (element_outline n)

-- it may not, by a rule
pub data BreaksFit (mode : Mode) (e : Enclosing) (n : Element) (rule : Rule) : Type 0 where
  out_of_order : rule ≡ r.OutOfOrder → (KeepsOrder mode e.sorts e.last n → ⊥) → BreaksFit mode e n rule
  other_tag : rule ≡ r.SegmentTag e.kind → (HasSegmentTag e.kind (element_outline n) → ⊥) → BreaksFit mode e n rule
  behind_unused : rule ≡ r.SegmentUnused → (IsBehindWhole e.kind (option_map element_outline e.last) → ⊥) → BreaksFit mode e n rule
  other_size : rule ≡ r.SegmentSize → (IsCut mode e.kind (option_map element_outline e.last) (element_outline n) → ⊥)
      → BreaksFit mode e n rule

-- it is the last one then
abbrev pub with_last : Element → Enclosing → Enclosing
with_last n e = record {
  place = e.place;
  sorts = e.sorts;
  kind = e.kind;
  start = e.start;
  from = e.from;
  gathers = e.gathers;
  several = is_some e.last;
  last = Some n;
}

-- it is told if it doesn't fit
pub data TellsFit (mode : Mode) (contents : Bool) (e : Enclosing) (n : Element) (at : ℕ) (old new : List Breach) : Type 0 where
  fits : new ≡ old → (contents ≡ true → Fits mode e n) → TellsFit mode contents e n at old new
  misfits : (rule : Rule) → new ≡ old ++ record { at = at - length n.octets.now; rule = rule } ∷ [] → contents ≡ true
      → BreaksFit mode e n rule
      → TellsFit mode contents e n at old new

-- an element of the innermost open value was passed
abbrev pub Adds : Mode → Bool → List Enclosing → Element → ℕ → List Breach → List Enclosing → List Breach → Type 0
Adds mode contents [] n at old fs new = (fs ≡ []) × (new ≡ old)
Adds mode contents (e ∷ es) n at old fs new = (fs ≡ with_last n e ∷ es) × TellsFit mode contents e n at old new

-- an element with this outline, in front of the octets `rest`, was passed
pub record AddsBefore (mode : Mode) (contents : Bool) (es : List Enclosing) (o : Outline) (start rest : List ℕ) (at : ℕ) (old : List Breach)
    (fs : List Enclosing) (new : List Breach) : Type 0 where
  pub element : Element
  pub outline_is : element_outline element ≡ o
  pub octets_are : (v : List ℕ) → start ≡ v ++ rest → element.octets.now ≡ v
  pub adds : Adds mode contents es element at old fs new

-- a value that ends is told if it is cut in vain
pub data TellsEnd (mode : Mode) (contents : Bool) (e : Enclosing) (rest : List ℕ) (at : ℕ) (old new : List Breach) : Type 0 where
  whole : new ≡ old → (contents ≡ true → MayEnd mode e.kind e.several) → TellsEnd mode contents e rest at old new
  in_vain : (place : ℕ) → new ≡ old ++ record { at = place; rule = r.SegmentSize } ∷ [] → contents ≡ true
      → (MayEnd mode e.kind e.several → ⊥)
      → ((v : List ℕ) → e.start.now ≡ v ++ rest → place ≡ at - length v) → TellsEnd mode contents e rest at old new

-- a string that ends is told if its segments aren't characters of its type
pub data TellsText (mode : Mode) (contents : Bool) (e : Enclosing) (text rest : List ℕ) (at : ℕ) (old new : List Breach) : Type 0 where
  spells : new ≡ old → (contents ≡ true → HasCharacters mode e.kind (drop e.from text)) → TellsText mode contents e text rest at old new
  misspells : (rule : Rule) (place : ℕ) → new ≡ old ++ record { at = place; rule = rule } ∷ [] → contents ≡ true
      → BreaksCharacters mode e.kind (drop e.from text) rule → ((v : List ℕ) → e.start.now ≡ v ++ rest → place ≡ at - length v)
      → TellsText mode contents e text rest at old new

-- one of two lists
abbrev pub chosen : Bool → List ℕ → List ℕ → List ℕ
chosen true a b = a
chosen false a b = b

-- the contents octets of strings that are open are gathered
abbrev pub gathers_in : List Enclosing → Bool
gathers_in [] = false
gathers_in (e ∷ es) = e.gathers

-- the unused bits of the last element
abbrev pub last_unused : Option Element → ℕ
last_unused None = 0
last_unused (Some e) = e.unused

-- what counts of a value that ended
abbrev pub ended_outline : Enclosing → Outline
ended_outline e = record { place = e.place; size = None; unused = last_unused e.last }

pub record Leaves (mode : Mode) (contents : Bool) (e : Enclosing) (es : List Enclosing) (text rest : List ℕ) (at : ℕ) (old : List Breach)
    (fs : List Enclosing) (then : List ℕ) (new : List Breach) : Type 0 where
  pub first : List Breach
  pub mid : List Breach
  pub tells : TellsEnd mode contents e rest at old first
  pub spells : TellsText mode contents e text rest at first mid
  pub text_is : then ≡ (chosen (gathers_in es) (text) (take e.from text))
  pub adds : AddsBefore mode contents es (ended_outline e) e.start.now rest at mid fs new

-- a value whose header was passed
abbrev pub begun_value : ℕ → Bool → Kind → Bor (List ℕ) → ℕ → Bool → Enclosing
begun_value p s k start from gathers =
    record { place = p; sorts = s; kind = k; start = start; from = from; gathers = is_string k || gathers; several = false; last = None }

-- what was met is followed; `text` are the contents octets that were gathered
abbrev pub Follows : Mode → Bool → List Enclosing → List ℕ → Bor (List ℕ) → List ℕ → Met → List ℕ → ℕ → List Breach → List Enclosing
    → List ℕ
    → List Breach → Type 0
Follows mode contents es text start c (m.Value p n u) rest at old fs then new =
    AddsBefore mode contents es (record { place = p; size = Some n; unused = u }) start.now rest at old fs new
    × (then ≡ (chosen (gathers_in es) (text ++ c) (text)))
Follows mode contents es text start c (m.Begin p s k) rest at old fs then new =
    (fs ≡ begun_value p s k start (length text) (gathers_in es) ∷ es) × (then ≡ text) × (new ≡ old)
Follows mode contents [] text start c m.End rest at old fs then new = (fs ≡ []) × (then ≡ text) × (new ≡ old)
Follows mode contents (e ∷ es) text start c m.End rest at old fs then new = Leaves mode contents e es text rest at old fs then new
Follows mode contents es text start c m.Lost rest at old fs then new = (fs ≡ es) × (then ≡ text) × (new ≡ old)

-- ---- what they are

-- the last value
abbrev pub IsLast : Mode → Option Element → Trees → Type 0
IsLast mode None ts = last_of ts ≡ None
IsLast mode (Some e) ts = (u : Tree) × (last_of ts ≡ Some u) × (element_outline e ≡ outline u) × IsEncoding mode u e.octets.now

-- inside the innermost of open values, to which a walk came; values were passed in it up to the octets x, of which the first is at `at`
pub record Inside (mode : Mode) (octets : List ℕ) (es : List Enclosing) (text : List ℕ) (f : Frame) (os : List Open) (x : List ℕ) (at : ℕ)
    (Around : List Enclosing → List ℕ → List Open → List ℕ → ℕ → Type 0) : Type 0 where
  pub value : Enclosing
  pub values : List Enclosing
  pub are : es ≡ value ∷ values
  pub ends_by : Open
  pub opens : List Open
  pub opened : os ≡ ends_by ∷ opens
  pub place_is : value.place ≡ place f.tag
  pub sorts : value.sorts ≡ is_set f.tag
  pub kind_is : value.kind ≡ kind_of f.tag
  pub several : value.several ≡ are_several f.trees
  pub last : IsLast mode value.last f.trees
  pub old : List ℕ
  pub encode : AreEncodings mode f.trees old
  pub header : List ℕ
  pub is_header : IsHeader mode f.tag true (length_of (open_length ends_by (length (old ++ x)))) header
  pub start : value.start.now ≡ header ++ ((old ++ x) ++ behind_of ends_by)
  pub from : ℕ
  pub comes : Comes octets opens value.start.now from
  pub place_at : at ≡ from + length header + length old
  pub before : List ℕ
  pub gathered : List ℕ
  pub text_is : text ≡ before ++ gathered
  pub text_from : value.from ≡ length before
  pub gathers : is_string (kind_of f.tag) ≡ true → value.gathers ≡ true
  pub inherits : gathers_in values ≡ true → value.gathers ≡ true
  pub gathered_is : value.gathers ≡ true → gathered ≡ concat (segments_of f.trees)
  pub around : Around values before opens value.start.now from

abbrev pub AreAround : Mode → List ℕ → List Enclosing → List ℕ → List Frame → List Open → List ℕ → ℕ → Type 0
AreAround mode octets es text [] os x at = (es ≡ []) × (os ≡ [])
AreAround mode octets es text (f ∷ fs) os x at = Inside mode octets es text f os x at (λ gs u ps y n. AreAround mode octets gs u fs ps y n)
