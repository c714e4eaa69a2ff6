-- Values of a tag, taken as what they mean: of either form, or primitive ones by their contents octets.
use Rattle.std.specs.Prelude.{◌≡◌, ◌≢◌, ◌⊎◌, true, List, ℕ, Some, Option, length, Result, IfOk, IfErr, OnOk}
use Rattle.bcder.specs.declared.{mode.Mode.Mode, mode.Mode.TheVariants.Der, decode.error.DecodeError.DecodeError}
use Rattle.bcder.specs.declared.decode.content.State.TheVariants.{Open, Ended, Failed}
use Rattle.bcder.specs.x690.Identifier.{Tag}
use Rattle.bcder.specs.x690.Tree.{Tree, primitive, constructed, Trees, no_trees}
use Rattle.bcder.specs.x690.OctetString.{AreSegmentsIn}
use Rattle.bcder.specs.calls.Cause.{cause_of, of_source, of_memory, IsRefusal}
use Rattle.bcder.specs.calls.Stream.{Grew}
use Rattle.bcder.specs.calls.Content.{Reading, Octets, tagged, IsAbsent, IsDone, HasHeader, Refuses}
use Rattle.bcder.specs.calls.Walking.{HasValue, HasValues}
use Rattle.bcder.specs.calls.Calls.{NextBy, OneBy, HasNone, Returns}
use Rattle.bcder.specs.calls.Capturing.{HasValuesOrDeep}
use Rattle.bcder.specs.calls.Readers.{MeanNothing}

-- ---- the content of a value

-- the content is these contents octets, all of which come
pub record HoldsOctets (c : Reading) (contents : List ℕ) : Type 0 where
  pub usable : c.state ≡ Open
  pub form : c.kind ≡ Octets
  pub owed : c.owed ≡ Some (length contents)
  pub rest : c.stream.rest ≡ contents

-- the content is these values, up to its end
pub record HoldsThese (c : Reading) (ts : Trees) : Type 0 where
  pub usable : c.state ≡ Open
  pub values : HasValues c
  pub are : values.trees ≡ ts

-- the content is these values, up to its end; or it has ended, and is none
abbrev pub HoldsValues : Reading → Trees → Type 0
HoldsValues c ts = HoldsThese c ts ⊎ (c.state ≡ Ended) × (ts ≡ no_trees)

-- the content is that of a value with the tag
abbrev pub HoldsTree : Tag → Reading → Tree → Type 0
HoldsTree tag c (primitive t contents) = (t ≡ tag) × HoldsOctets c contents
HoldsTree tag c (constructed t ts) = (t ≡ tag) × HoldsValues c ts

module _ {T : Type 0} (tag : Tag) (Means : Tree → T → Type 0) where
  -- the content was read as what its value means
  pub record ReadsTree (c : Reading) (x : T) : Type 0 where
    pub tree : Tree
    pub holds : HoldsTree tag c tree
    pub means : Means tree x

  -- the content is that of no value that means anything
  abbrev pub HoldsNone : Reading → Type 0
  HoldsNone c = (t : Tree) (x : T) → HoldsTree tag c t → Means t x → ⊥

  -- what memory may run out for: contents octets that mean something; outside DER values, none of which was taken;
  -- or the table of segments
  pub data NeedsMemory (c d : Reading) : Type 0 where
    of_octets : (contents : List ℕ) (x : T) → HoldsOctets c contents → Means (primitive tag contents) x → NeedsMemory c d
    of_values : c.mode ≢ Der → c.kind ≢ Octets → HasValuesOrDeep c → d.stream.rest ≡ c.stream.rest → d.state ≡ c.state → NeedsMemory c d
    of_segments : (ts : Trees) → HoldsValues c ts → AreSegmentsIn c.mode ts → NeedsMemory c d

  module _ {X : Type 0} where
    -- why content was not read, with error e: an earlier value was refused; the source failed; memory ran out for it;
    -- or it is the content of nothing that is read
    pub data RefusesToRead (c : Reading) (e : DecodeError X) (d : Reading) : Type 0 where
      failed : c.state ≡ Failed → IsRefusal e → RefusesToRead c e d
      source : cause_of e ≡ of_source → Grew c.stream.faults d.stream.faults → RefusesToRead c e d
      memory : cause_of e ≡ of_memory → NeedsMemory c d → RefusesToRead c e d
      nothing : HoldsNone c → IsRefusal e → RefusesToRead c e d

    -- content was read up to its end, or refused
    pub record ReadsContent (c : Reading) (r : Result T (DecodeError X)) (d : Reading) : Type 0 where
      pub value : IfOk r (λ x. ReadsTree c x)
      pub done : OnOk r (IsDone d)
      pub no_fault : OnOk r (d.stream.faults ≡ c.stream.faults)
      pub refused : IfErr r (λ e. RefusesToRead c e d)
      pub mode : d.mode ≡ c.mode
      pub marked : d.marked ≡ c.marked

-- ---- the next value

abbrev pub tag_of : Tree → Tag
tag_of (primitive t contents) = t
tag_of (constructed t ts) = t

module _ {T : Type 0} (tag : Tag) (Means : Tree → T → Type 0) where
  -- a value was taken as what it means
  pub record TakesTree (c : Reading) (x : T) (d : Reading) : Type 0 where
    pub tree : Tree
    pub octets : List ℕ
    pub has : HasValue c tree octets d.stream.rest × (tag_of tree ≡ tag)
    pub means : Means tree x
    pub stays : d.state ≡ Open

  -- no value with the tag that means anything comes next, and content does not show that there is none with the tag
  pub record HasNoTree (c : Reading) : Type 0 where
    pub usable : c.state ≡ Open
    pub value : (t : Tree) (w rest : List ℕ) (x : T) → HasValue c t w rest × (tag_of t ≡ tag) → Means t x → ⊥
    pub absent : (rest : List ℕ) → IsAbsent (tagged tag) c rest → ⊥

  -- what memory may run out for: a value with the tag that means something; or, outside DER, a constructed one,
  -- which is kept before it is known whether it means anything
  pub data WantsMemoryFor (c : Reading) : Type 0 where
    of_value : (t : Tree) (w rest : List ℕ) (x : T) → HasValue c t w rest × (tag_of t ≡ tag) → Means t x → WantsMemoryFor c
    of_header : c.mode ≢ Der → (after : List ℕ) (h : HasHeader (tagged tag) c after) → h.form ≡ true → WantsMemoryFor c

  module _ {X : Type 0} where
    -- why no value was taken, with error e: none that means anything comes next, or memory ran out
    abbrev pub RefusesTree : Reading → DecodeError X → Reading → Type 0
    RefusesTree c e d = Refuses cause_of (tagged tag) HasNoTree ((cause_of e ≡ of_memory) × WantsMemoryFor c) c e d

    -- the effect of a call that returns the value, or that there is none with the tag
    abbrev pub TakesNextTree : Reading → Result (Option T) (DecodeError X) → Reading → Type 0
    TakesNextTree = NextBy (tagged tag) TakesTree RefusesTree

    -- the effect of a call that needs the value
    abbrev pub TakesOneTree : Reading → Result T (DecodeError X) → Reading → Type 0
    TakesOneTree = OneBy (tagged tag) TakesTree RefusesTree

-- content was read, whatever the tag of its value; what that means may depend on the mode
pub record ReadsAny {T X : Type 0} (Means : Mode → Tree → T → Type 0) (c : Reading) (r : Result T (DecodeError X))
    (d : Reading) : Type 0 where
  pub at_tag : (tag : Tag) → ReadsContent tag (Means c.mode) c r d

-- ---- primitive values

-- a primitive value means what its contents octets mean, and a constructed one nothing
abbrev pub InPrimitive : {T : Type 0} → (List ℕ → T → Type 0) → Tree → T → Type 0
InPrimitive Means (primitive t contents) x = Means contents x
InPrimitive Means (constructed t ts) x = ⊥

-- why no value was taken, with error e: no primitive value with the tag comes next, or its contents octets were refused
abbrev pub RefusesAs : {X : Type 0} → Tag → (List ℕ → DecodeError X → Type 0) → Reading → DecodeError X → Reading → Type 0
RefusesAs tag RefusesOctets c e d = Refuses cause_of (tagged tag) (HasNoTree {T = Unit {0}} tag (InPrimitive (λ _ _. Unit {0})))
    ((contents w rest : List ℕ) × HasValue c (primitive tag contents) w rest × RefusesOctets contents e) c e d

module _ {T X : Type 0} (tag : Tag) (Means : List ℕ → T → Type 0) where
  module _ (RefusesOctets : List ℕ → DecodeError X → Type 0) where
    -- the effect of a call that returns what the value means, or that there is none
    abbrev pub TakesNextBy : Reading → Result (Option T) (DecodeError X) → Reading → Type 0
    TakesNextBy = NextBy (tagged tag) (TakesTree tag (InPrimitive Means)) (RefusesAs tag RefusesOctets)

    -- the effect of a call that needs the value
    abbrev pub TakesOneBy : Reading → Result T (DecodeError X) → Reading → Type 0
    TakesOneBy = OneBy (tagged tag) (TakesTree tag (InPrimitive Means)) (RefusesAs tag RefusesOctets)

    -- the effect of a call that passes over the value, if there is one
    abbrev pub PassesNextBy : Reading → Result T (DecodeError X) → Reading → Type 0
    PassesNextBy c r d = Returns (λ x. TakesTree tag (InPrimitive Means) c x d ⊎ HasNone (tagged tag) c d)
        (λ e. (d.state ≡ Failed) × RefusesAs tag RefusesOctets c e d) c r d

  -- the same for contents octets that are refused exactly if they mean nothing
  abbrev pub TakesNextAs : Reading → Result (Option T) (DecodeError X) → Reading → Type 0
  TakesNextAs = NextBy (tagged tag) (TakesTree tag (InPrimitive Means)) (RefusesAs tag (MeanNothing Means))

  abbrev pub TakesOneAs : Reading → Result T (DecodeError X) → Reading → Type 0
  TakesOneAs = OneBy (tagged tag) (TakesTree tag (InPrimitive Means)) (RefusesAs tag (MeanNothing Means))

  abbrev pub PassesNextAs : Reading → Result T (DecodeError X) → Reading → Type 0
  PassesNextAs = PassesNextBy (MeanNothing Means)
