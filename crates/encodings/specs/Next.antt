-- A walk over values, one step a call, with numbers that the caller keeps.
use Rattle.std.specs.Prelude.{◌≡◌, ◌⊎◌, ℕ, suc, ◌+◌, ◌-◌, ◌^◌, ◌<◌, ◌≤◌, Bool, true, false, Some, None, nat_eq, if◌then◌else◌}
use Rattle.std.specs.Prelude.{List, [], ◌∷◌, ◌++◌, length, take, reverse, slice_index, slice_set, slice_range}
use Rattle.bcder.specs.declared.mode.Mode.{Mode}
use Rattle.bcder.specs.x690.Tree.{Trees}
use Rattle.bcder.specs.x690.Preorder.{Heading, preorders}
use Rattle.bcder.specs.x690.Encoding.{AreEncodings}
use Rattle.encodings.specs.declared.heading.Heading.{Heading as HeadingTold}
use Rattle.encodings.specs.declared.next.Event.{Event}
use Rattle.encodings.specs.declared.next.Walk.{Walk}
use Rattle.encodings.specs.Headings.{BeginsWith}
use Rattle.encodings.specs.Open.{Open, NoneBegins, NotAtEnd, Step, Reaches, heading_of}
use Rattle.encodings.specs.Status.{done, absent, beyond, ended, too_deep, finished}
use Rattle.encodings.specs.Values.{AreNoValues}

-- ---- the state

-- the number kept for an open value of indefinite length
abbrev pub no_offset : ℕ
no_offset = 2 ^ 64 - 1

-- the numbers kept for the open values, the innermost first
abbrev pub kept : List ℕ → ℕ → List ℕ
kept stack depth = reverse (take depth stack)

-- these numbers are kept for these open values, of which the innermost of definite length ends at `end`:
-- for one of definite length, where the next one around it ends; the outermost is inside all octets
abbrev pub AreKept : List ℕ → ℕ → List ℕ → List Open → Type 0
AreKept octets end [] [] = end ≡ length octets
AreKept octets end [] (o ∷ os) = ⊥
AreKept octets end (n ∷ ns) [] = ⊥
AreKept octets end (n ∷ ns) (None ∷ os) = (n ≡ no_offset) × AreKept octets end ns os
AreKept octets end (n ∷ ns) (Some behind ∷ os) = (n < no_offset) × (end ≤ n) × (behind ≡ slice_range octets end n) × AreKept octets n ns os

-- the state of a walk that has the octets x to pass inside the open values os
pub record StandsFor (octets stack : List ℕ) (walk : Walk) (os : List Open) (x : List ℕ) : Type 0 where
  pub room : walk.depth ≤ length stack
  pub numbers : AreKept octets walk.end (kept stack walk.depth) os
  pub order : walk.at ≤ walk.end
  pub rest : x ≡ slice_range octets walk.at walk.end

-- the numbers that a call reads of those kept: how many there can be, and that of the innermost of so many open values
pub record SameRead (stack other : List ℕ) (depth : ℕ) : Type 0 where
  pub room : length other ≡ length stack
  pub innermost : 0 < depth → slice_index other (depth - 1) ≡ slice_index stack (depth - 1)

-- the numbers that a call reads stand for no open values, whatever the others are; so no walk gives them
abbrev pub StandsForNone : List ℕ → List ℕ → Walk → Type 0
StandsForNone octets stack walk = (other : List ℕ) (os : List Open) (x : List ℕ) → SameRead stack other walk.depth
    → StandsFor octets other walk os x → ⊥

-- where the octets around the innermost open value end, if this number is kept for it
abbrev pub around : ℕ → ℕ → ℕ
around end n = if nat_eq n no_offset then end else n

-- what is around the innermost of so many open values ends in the octets; what is around the outermost are all octets
pub record EndsInside (octets : List ℕ) (end depth outer : ℕ) : Type 0 where
  pub order : end ≤ outer
  pub inside : outer ≤ length octets
  pub outermost : depth ≡ 1 → outer ≡ length octets

-- what a call tests of a state
pub record MayStand (octets stack : List ℕ) (walk : Walk) : Type 0 where
  pub order : walk.at ≤ walk.end
  pub inside : walk.end ≤ length octets
  pub room : walk.depth ≤ length stack
  pub outermost : walk.depth ≡ 0 → walk.end ≡ length octets
  pub innermost : 0 < walk.depth
      → EndsInside octets walk.end walk.depth (around walk.end (slice_index stack (walk.depth - 1)))

-- ---- one step

-- the kinds of events: a primitive value, the beginning of a constructed one, and its end
abbrev pub kind_of : Bool → ℕ
kind_of false = 0
kind_of true = 1

abbrev pub an_end : ℕ
an_end = 2

-- what is told in place of a header where a value ends: the number of its end-of-contents octets
abbrev pub end_told : ℕ → HeadingTold
end_told n = record { size = n; len = 0; number = 0; class = 0; constructed = false; indefinite = false }

-- e tells a step from the octets x inside the open values os to ps
pub data TellsStep (mode : Mode) (os : List Open) (x : List ℕ) (ps : List Open) (passed : List ℕ) (met : List Heading) (e : Event)
    : Type 0 where
  of_value : (b : BeginsWith mode x e.heading) → met ≡ heading_of b.tag e.heading.constructed os ∷ []
      → e.depth ≡ length os → e.kind ≡ kind_of e.heading.constructed → TellsStep mode os x ps passed met e
  of_end : met ≡ [] → e.heading ≡ end_told (length passed) → e.depth ≡ length ps → e.kind ≡ an_end
      → TellsStep mode os x ps passed met e

-- of the numbers kept, none changed, or the next one
abbrev pub OneChanged : ℕ → List ℕ → List ℕ → Type 0
OneChanged depth old new = (new ≡ old) ⊎ ((n : ℕ) × (new ≡ slice_set old depth n))

-- a step was made and told
pub record Advanced (mode : Mode) (octets : List ℕ) (os : List Open) (x before after : List ℕ) (old new : Walk) (e : Event) : Type 0 where
  pub opened : List Open
  pub rest : List ℕ
  pub passed : List ℕ
  pub met : List Heading
  pub step : Step mode os x opened rest passed met
  pub stands : StandsFor octets after new opened rest
  pub at : new.at ≡ old.at + length passed
  pub place : e.at ≡ old.at
  pub tells : TellsStep mode os x opened passed met e
  pub others : OneChanged old.depth before after

-- a value has to come: the octets aren't at the end of the innermost open value, nor of all
abbrev pub IsDue : Mode → List Open → List ℕ → Type 0
IsDue mode [] x = 0 < length x
IsDue mode (o ∷ os) x = NotAtEnd mode o x

-- a value begins that would be open, and no number is left for it
pub record HasNoRoom (mode : Mode) (os : List Open) (x stack : List ℕ) : Type 0 where
  pub opened : List Open
  pub rest : List ℕ
  pub passed : List ℕ
  pub met : List Heading
  pub step : Step mode os x opened rest passed met
  pub opens : length opened ≡ suc (length os)
  pub full : length os ≡ length stack

-- what a call does, where the octets x are to be passed inside the open values os
pub data Advances (mode : Mode) (octets : List ℕ) (os : List Open) (x before after : List ℕ) (old new : Walk) (e : Event)
    (status : ℕ) : Type 0 where
  goes_on : status ≡ done → Advanced mode octets os x before after old new e → Advances mode octets os x before after old new e status
  ends : status ≡ finished → os ≡ [] → x ≡ [] → Advances mode octets os x before after old new e status
  stops : IsDue mode os x → NoneBegins mode x status → Advances mode octets os x before after old new e status
  is_full : status ≡ too_deep → IsDue mode os x → HasNoRoom mode os x before → Advances mode octets os x before after old new e status

-- ---- all steps

-- the state is where a walk over the octets got to, which passed these octets and met values with these headings
pub record Walked (mode : Mode) (octets stack : List ℕ) (walk : Walk) (passed : List ℕ) (met : List Heading) : Type 0 where
  pub opened : List Open
  pub rest : List ℕ
  pub stands : StandsFor octets stack walk opened rest
  pub reaches : Reaches mode octets opened rest passed met
  pub at : walk.at ≡ length passed

-- the octets are encodings of values, one after the other, whose headings are these
pub record AreValues (mode : Mode) (w : List ℕ) (hs : List Heading) : Type 0 where
  pub trees : Trees
  pub encode : AreEncodings mode trees w
  pub headings : hs ≡ preorders trees 0

-- a status that refuses octets
abbrev pub IsRefusal : ℕ → Type 0
IsRefusal status = (status ≡ absent) ⊎ (status ≡ beyond) ⊎ (status ≡ ended)

-- what a call says where a walk from the first octet got to, which passed these octets and met values with these headings:
-- it goes on, or the octets are values with these headings, or they are no values, or it needs more room
pub data Decides (mode : Mode) (octets passed : List ℕ) (met : List Heading) (stack : List ℕ) (walk : Walk) (status : ℕ)
    : Type 0 where
  further : status ≡ done → (q : List ℕ) (ks : List Heading) → Walked mode octets stack walk (passed ++ q) (met ++ ks)
      → Decides mode octets passed met stack walk status
  values : status ≡ finished → AreValues mode octets met → Decides mode octets passed met stack walk status
  no_values : IsRefusal status → AreNoValues mode octets → Decides mode octets passed met stack walk status
  no_room : status ≡ too_deep → Decides mode octets passed met stack walk status
