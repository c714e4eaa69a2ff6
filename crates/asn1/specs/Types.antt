-- What types of ASN.1 say of values, and what their readers return.
use Rattle.std.specs.Prelude.{◌≡◌, ◌≢◌, ℕ, Bool, true, IsTrue, List, [], ◌∷◌, Option, Some, None, Result, Ok, Err}
use Rattle.std.specs.Prelude.{IfOk, IfErr, IfSome, IfNone, OnOk, OnErr}
use Rattle.std.specs.Borrow.{MutBor}
use Rattle.std.specs.declared.vec.Vec.{Vec}
use Rattle.std.specs.declared.alloc.Global.{Global}
use denote.Triple.Both.{Both}
use Rattle.bcder.specs.declared.mode.Mode.{Mode}
use Rattle.bcder.specs.declared.decode.content.Constructed.{Constructed}
use Rattle.bcder.specs.declared.decode.content.State.TheVariants.{Open, Failed}
use Rattle.bcder.specs.declared.decode.error.DecodeError.{DecodeError}
use Rattle.bcder.specs.calls.Cause.{cause_of, of_source, of_memory, IsRefusal}
use Rattle.bcder.specs.x690.Identifier.{Tag, IsValueTag}
use Rattle.bcder.specs.x690.Tree.{Tree, primitive, constructed, Trees, no_trees, ◌∷ₜ◌}
use Rattle.bcder.specs.calls.Stream.{Stream, Grew}
use Rattle.bcder.specs.calls.Capturing.{BeginsDeep}
use Rattle.bcder.specs.calls.Content.{EndsBefore, Reading, Octets, any, tagged, IsAbsent, HasHeader}
use Rattle.bcder.specs.calls.Calls.{HasNone}
use Rattle.bcder.specs.calls.Walking.{HasValue}
use Rattle.bcder.specs.calls.Valued.{InPrimitive}
use Rattle.bcder.specs.calls.Valued.{tag_of, HoldsValues}
use Rattle.bcder.specs.calls.Views.{before, after}

-- ---- values

-- a primitive value whose contents octets mean x
abbrev pub IsLeaf : {T : Type 0} → (List ℕ → T → Type 0) → Tree → T → Type 0
IsLeaf Means t x = InPrimitive Means t x

-- a constructed value, all of whose values are the fields x
abbrev pub AreInside : {T : Type 0} → (Trees → T → Trees → Type 0) → Tree → T → Type 0
AreInside Takes (primitive t w) x = ⊥
AreInside Takes (constructed t ts) x = Takes ts x no_trees

-- ---- readers of a type: the tags that its values have, and which value means what

-- this tag alone
abbrev pub Only : Tag → Tag → Type 0
Only tag t = t ≡ tag

-- an encoding of a value with one of the tags comes next, before the octets `rest`
abbrev pub HasTagged : (Tag → Type 0) → Reading → Tree → List ℕ → List ℕ → Type 0
HasTagged Tags c t w rest = HasValue c t w rest × Tags (tag_of t)

-- all tags that a value can have are among them
abbrev pub AreEvery : (Tag → Type 0) → Type 0
AreEvery Tags = (t : Tag) → IsValueTag t → Tags t

-- no value with one of the tags comes next; or, if they are all tags, content is at its end, whose marker, if any, was taken
pub data HasNoneOf (Tags : Tag → Type 0) (c d : Reading) : Type 0 where
  elsewhere : ((t : Tag) → Tags t → HasNone (tagged t) c d) → HasNoneOf Tags c d
  at_end : AreEvery Tags → c.kind ≢ Octets → HasNone any c d → HasNoneOf Tags c d

-- the header of a value with one of the tags comes next
pub record HasTypedHeader (Tags : Tag → Type 0) (c : Reading) : Type 0 where
  pub tag : Tag
  pub is_one : Tags tag
  pub after : List ℕ
  pub header : HasHeader (tagged tag) c after

-- what memory may run out for: a value with one of the tags, whose header comes next; or, if they are all tags, a deep one
pub data AllocatesFor (Tags : Tag → Type 0) (c : Reading) : Type 0 where
  of_header : HasTypedHeader Tags c → AllocatesFor Tags c
  of_depth : AreEvery Tags → BeginsDeep c → AllocatesFor Tags c

-- content does not show that no value with one of the tags comes next: it doesn't of each of them; or, if they are all tags,
-- it is not at its end
pub data MayHave (Tags : Tag → Type 0) (c : Reading) : Type 0 where
  by_tags : ((rest : List ℕ) → ((t : Tag) → Tags t → IsAbsent (tagged t) c rest) → ⊥) → MayHave Tags c
  by_end : AreEvery Tags → ((after : List ℕ) → EndsBefore c after → ⊥) → MayHave Tags c

module _ {T : Type 0} (Tags : Tag → Type 0) (Means : Tree → T → Type 0) where
  -- a value was taken as what it means
  pub record TakesTyped (c : Reading) (x : T) (d : Reading) : Type 0 where
    pub tree : Tree
    pub octets : List ℕ
    pub has : HasTagged Tags c tree octets d.stream.rest
    pub means : Means tree x
    pub stays : d.state ≡ Open

  -- no value with one of the tags that means anything comes next, and content does not show that there is none with them
  pub record HasNoTyped (c : Reading) : Type 0 where
    pub usable : c.state ≡ Open
    pub value : (t : Tree) (w rest : List ℕ) (x : T) → HasTagged Tags c t w rest → Means t x → ⊥
    pub absent : MayHave Tags c

  module _ (may_lack : Bool) {X : Type 0} where
    -- why none was taken, with error e: an earlier value was refused; the source failed; memory ran out for one, if it may;
    -- or what comes next is nothing that is read
    pub data RefusesTyped (c : Reading) (e : DecodeError X) (d : Reading) : Type 0 where
      failed : c.state ≡ Failed → IsRefusal e → RefusesTyped c e d
      source : cause_of e ≡ of_source → Grew c.stream.faults d.stream.faults → RefusesTyped c e d
      memory : cause_of e ≡ of_memory → IsTrue may_lack → AllocatesFor Tags c → RefusesTyped c e d
      broken : HasNoTyped c → IsRefusal e → RefusesTyped c e d

    -- the effect of a call that returns the value, or that there is none with the tags
    pub record TakesNextTyped (c : Reading) (r : Result (Option T) (DecodeError X)) (d : Reading) : Type 0 where
      pub value : IfOk r (λ o. IfSome o (λ x. TakesTyped c x d))
      pub none : IfOk r (λ o. IfNone o (HasNoneOf Tags c d))
      pub no_fault : OnOk r (d.stream.faults ≡ c.stream.faults)
      pub refused : IfErr r (λ e. RefusesTyped c e d)
      pub failed : OnErr r (d.state ≡ Failed)
      pub mode : d.mode ≡ c.mode
      pub marked : d.marked ≡ c.marked

-- ---- of a parameter, from entry to exit
abbrev pub TookNextTyped : {S T X : Type 0} → (S → Stream) → Both (MutBor (Constructed S)) (MutBor (Constructed S)) → (Tag → Type 0)
    → (Mode → Tree → T → Type 0) → Bool → Result (Option T) (DecodeError X) → Type 0
TookNextTyped stream c Tags Means may_lack r =
    TakesNextTyped Tags (Means (before stream c).mode) may_lack (before stream c) r (after stream c)

-- ---- fields: of values ts they take some from the front, as x, and leave us

-- the first has one of the tags, and means x
pub record IsMember {T : Type 0} (Tags : Tag → Type 0) (Means : Tree → T → Type 0) (ts : Trees) (x : T) (us : Trees) : Type 0 where
  pub tree : Tree
  pub are : ts ≡ tree ∷ₜ us
  pub tagged : Tags (tag_of tree)
  pub means : Means tree x

-- none with one of the tags stands first
abbrev pub BeginWithout : (Tag → Type 0) → Trees → Type 0
BeginWithout Tags no_trees = Unit {0}
BeginWithout Tags (t ∷ₜ ts) = Tags (tag_of t) → ⊥

-- the first, if it has one of the tags
abbrev pub IsOptional : {T : Type 0} → (Tag → Type 0) → (Tree → T → Type 0) → Trees → Option T → Trees → Type 0
IsOptional Tags Means ts (Some x) us = IsMember Tags Means ts x us
IsOptional Tags Means ts None us = BeginWithout Tags ts × (us ≡ ts)

-- as many as have one of the tags
abbrev pub AreList : {T : Type 0} → (Tag → Type 0) → (Tree → T → Type 0) → Trees → List T → Trees → Type 0
AreList Tags Means ts [] us = BeginWithout Tags ts × (us ≡ ts)
AreList Tags Means ts (x ∷ xs) us = (between : Trees) × IsMember Tags Means ts x between × AreList Tags Means between xs us

-- all, whatever they are
abbrev pub AreAll : {T : Type 0} → Trees → T → Trees → Type 0
AreAll ts x us = us ≡ no_trees

-- one behind the other
pub record AreBoth {A B : Type 0} (P : Trees → A → Trees → Type 0) (Q : Trees → B → Trees → Type 0) (ts : Trees) (a : A) (b : B)
    (us : Trees) : Type 0 where
  pub between : Trees
  pub first : P ts a between
  pub second : Q between b us

-- ---- readers of fields

module _ {T : Type 0} (Takes : Trees → T → Trees → Type 0) where
  -- from content c they were taken as x, which left d
  pub record TakesFields (c : Reading) (x : T) (d : Reading) : Type 0 where
    -- where values are left up to the end, they were there with the fields in front
    pub before : (us : Trees) → HoldsValues d us → (ts : Trees) × HoldsValues c ts × Takes ts x us
    -- where values were there up to the end with fields in front, those behind are left
    pub behind : (ts us : Trees) (y : T) → HoldsValues c ts → Takes ts y us → HoldsValues d us

  -- content is not values up to the end with fields in front
  abbrev pub HoldsNoFields : Reading → Type 0
  HoldsNoFields c = (ts us : Trees) (y : T) → HoldsValues c ts → Takes ts y us → ⊥

  module _ (may_lack : Bool) {X : Type 0} where
    -- why none were taken, and e was returned
    pub data RefusesFields (c : Reading) (e : DecodeError X) (d : Reading) : Type 0 where
      source : cause_of e ≡ of_source → Grew c.stream.faults d.stream.faults → RefusesFields c e d
      memory : cause_of e ≡ of_memory → IsTrue may_lack → RefusesFields c e d
      broken : HoldsNoFields c → IsRefusal e → RefusesFields c e d

    -- what a reader of fields did
    pub record ReadsFields (c : Reading) (r : Result T (DecodeError X)) (d : Reading) : Type 0 where
      pub value : IfOk r (λ x. TakesFields c x d)
      pub no_fault : OnOk r (d.stream.faults ≡ c.stream.faults)
      pub refused : IfErr r (λ e. RefusesFields c e d)
      pub mode : d.mode ≡ c.mode
      pub marked : d.marked ≡ c.marked

-- ---- of a parameter, from entry to exit
abbrev pub TookFields : {S T X : Type 0} → (S → Stream) → Both (MutBor (Constructed S)) (MutBor (Constructed S))
    → (Mode → Trees → T → Trees → Type 0) → Bool → Result T (DecodeError X) → Type 0
TookFields stream c Takes may_lack r = ReadsFields (Takes (before stream c).mode) may_lack (before stream c) r (after stream c)

-- a vector's items
abbrev pub items_of : {T X : Type 0} → Result (Vec T Global) X → Result (List T) X
items_of (Ok x) = Ok x.items
items_of (Err e) = Err e

-- as many values as have one of the tags were taken, for which memory may run out
abbrev pub TookList : {S T X : Type 0} → (S → Stream) → Both (MutBor (Constructed S)) (MutBor (Constructed S)) → (Tag → Type 0)
    → (Mode → Tree → T → Type 0) → Result (Vec T Global) (DecodeError X) → Type 0
TookList stream c Tags Means r =
    ReadsFields (AreList Tags (Means (before stream c).mode)) true (before stream c) (items_of r) (after stream c)

-- fields of a pair
abbrev pub Pair : {A B : Type 0} → (Trees → A → Trees → Type 0) → (Trees → B → Trees → Type 0) → Trees → A × B → Trees → Type 0
Pair P Q ts x us = AreBoth P Q ts x.0 x.1 us
