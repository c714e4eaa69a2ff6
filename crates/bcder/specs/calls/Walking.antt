-- When the next value is there, and when all values up to the end of content are; and passing over them with a closure.
use Rattle.std.specs.Prelude.{◌≡◌, ◌≢◌, ℕ, ◌<◌, List, [], ◌++◌, length, Option, Some, Result, ◌⊎◌, ◌+◌, ◌*◌, ◌≤◌, Bool, true, ◌∷◌, Ok, Err}
use Rattle.std.specs.List.{FoldsTo}
use Rattle.bcder.specs.declared.{mode.Mode.Mode, decode.error.ContentError.ContentError, decode.error.DecodeError.DecodeError}
use Rattle.bcder.specs.declared.{length.Length.Length}
use Rattle.bcder.specs.declared.decode.content.Kind.TheVariants as kind
use Rattle.bcder.specs.declared.decode.content.State.TheVariants.{Open, Ended, Failed}
use Rattle.bcder.specs.x690.Tree.{Tree, Trees}
use Rattle.bcder.specs.x690.Encoding.{IsEncoding, AreEncodings, IsHeader}
use Rattle.bcder.specs.x690.Grammar.{IsOnly}
use Rattle.bcder.specs.x690.Identifier.{Tag}
use Rattle.bcder.specs.x690.Preorder.{Heading, preorder}
use Rattle.bcder.specs.calls.Cause.{Cause, cause_of, IsOfContent, of_content, of_memory, IsRefusal}
use Rattle.bcder.specs.calls.Content.{EndsBefore, Reading, ContentForm, values, Octets, Moves, HasMarker, IsDone, any, NothingThere}
use Rattle.bcder.specs.calls.Content.{Resembles, Refuses}
use Rattle.bcder.specs.calls.Calls.{HasNone, Returns}

-- ---- one value

-- an encoding of a value comes next in open content, before these octets
pub record HasValue (c : Reading) (t : Tree) (w after : List ℕ) : Type 0 where
  pub usable : c.state ≡ Open
  pub encodes : IsEncoding c.mode t w
  pub rest : c.stream.rest ≡ w ++ after

-- no value comes next in open content
pub record HasNoValue (c : Reading) : Type 0 where
  pub none : (t : Tree) (w after : List ℕ) → HasValue c t w after → ⊥

-- open content is not at its end, and no value comes next
pub record HasNoNext (c : Reading) : Type 0 where
  pub usable : c.state ≡ Open
  pub some : (after : List ℕ) → EndsBefore c after → ⊥
  pub none : HasNoValue c

-- the one value that comes next was passed
pub record PassesValue (c d : Reading) : Type 0 where
  pub tree : Tree
  pub value : List ℕ
  pub has : HasValue c tree value d.stream.rest
  pub only : IsOnly c.mode tree value c.stream.rest
  pub stays : d.state ≡ Open

-- ---- all values

-- content of this form ends after the octets w and before the octets `after`
abbrev pub ClosesBefore : ContentForm → Mode → Option ℕ → List ℕ → List ℕ → Type 0
ClosesBefore Octets mode o w after = ⊥
ClosesBefore (values kind.Definite) mode o w after = o ≡ Some (length w)
ClosesBefore (values kind.Indefinite) mode o w after = (x : List ℕ) × HasMarker mode after x
ClosesBefore (values kind.Unbounded) mode o w after = after ≡ []

-- the rest, up to the end of the content, is encodings of values
pub record HasValues (c : Reading) : Type 0 where
  pub trees : Trees
  pub all : List ℕ
  pub after : List ℕ
  pub encode : AreEncodings c.mode trees all
  pub rest : c.stream.rest ≡ all ++ after
  pub closes : ClosesBefore c.kind c.mode c.owed all after

-- content is not octets, and no values up to its end
abbrev pub HasNoValues : Reading → Type 0
HasNoValues c = (c.kind ≢ Octets) × (HasValues c → ⊥)

-- why content was not passed to its end, with error e: it is no values, or too few octets; `why` gives the cause of e
abbrev pub RefusesValues : {E : Type 0} → (E → Cause ContentError) → Reading → E → Reading → Type 0
RefusesValues why c e d = Refuses why any HasNoValues
    ((c.kind ≡ Octets) × ((n : ℕ) → c.owed ≡ Some n → length c.stream.rest < n) × IsOfContent (why e)) c e d

-- there were values up to the end, and content is at it; or an error says why not, and content has failed
abbrev pub AllBy : {T E : Type 0} → (Reading → E → Reading → Type 0) → Reading → Result T E → Reading → Type 0
AllBy IsRefused c r d =
    Returns (λ _. (c.state ≡ Open → HasValues c) × IsDone d) (λ e. (d.state ≡ Failed) × IsRefused c e d) c r d

-- what a loop over values maintains: each value passed was a whole one, so values up to the end remain exactly if they were there at first
pub record Walks (c d : Reading) : Type 0 where
  pub moves : Moves c d
  pub mode : d.mode ≡ c.mode
  pub marked : d.marked ≡ c.marked
  pub ended : d.state ≡ Ended → c.state ≡ Ended
  pub failed : d.state ≡ Failed → c.state ≡ Failed
  pub remain : HasValues c → HasValues d
  pub were : HasValues d → HasValues c
  -- if no value comes next, none was passed
  pub front : NothingThere any c → Resembles c d

-- ---- headers of values

-- the headers are in w in this order and without overlap, and z follows somewhere after the last
abbrev pub HeadersStand : Mode → List Heading → List ℕ → List ℕ → Type 0
HeadersStand mode [] w z = (gap : List ℕ) × (w ≡ gap ++ z)
HeadersStand mode (h ∷ hs) w z = (len : Length) × (gap header x : List ℕ) × IsHeader mode h.tag h.constructed len header
    × (w ≡ gap ++ (header ++ x)) × HeadersStand mode hs x z

-- the headers are in w in this order and without overlap, the first at the front
abbrev pub HeadersFrom : Mode → List Heading → List ℕ → Type 0
HeadersFrom mode [] w = w ≡ w
HeadersFrom mode (h ∷ hs) w = (len : Length) × (header x z : List ℕ) × IsHeader mode h.tag h.constructed len header
    × (w ≡ header ++ x) × HeadersStand mode hs x z

-- ---- calls of a closure

-- the effect of a closure of a tag, a form and a depth
abbrev pub Steps : Type 0 → Type 0 → Type 1
Steps F E = F → Tag → Bool → ℕ → Result (Unit {0}) E → F → Type 0

-- f was called at each heading in turn, returned Ok each time, and is g then
abbrev pub Called : {F E : Type 0} → Steps F E → F → List Heading → F → Type 0
Called step f calls g = FoldsTo (λ p h q. step p h.tag h.constructed h.depth (Ok tt) q) f calls g

-- calls were made over content c, which is d then
pub record WereCalls (c : Reading) (calls : List Heading) (d : Reading) : Type 0 where
  -- the calls are a prefix of the headings of a value, and of those of the next value, if there is one
  pub some : (t : Tree) × (more : List Heading) × (preorder t 0 ≡ calls ++ more)
  pub one : (t : Tree) (w after : List ℕ) → HasValue c t w after → (more : List Heading) × (preorder t 0 ≡ calls ++ more)
  -- the headers of the calls are in the octets, the first at the front
  pub stand : HeadersFrom c.mode calls c.stream.rest
  -- for each call, at least two octets were taken
  pub twice : 2 * length calls + length d.stream.rest ≤ length c.stream.rest
  -- content that isn't open, or is at its end, gets no call
  pub usable : (calls ≡ [] → ⊥) → (c.state ≡ Open) × ((after : List ℕ) → EndsBefore c after → ⊥)

-- ---- one value

-- the one value that comes next was passed, and f was called at its headings
pub record SkipsValue {F E : Type 0} (step : Steps F E) (c : Reading) (f g : F) (d : Reading) : Type 0 where
  pub passes : PassesValue c d
  pub called : Called step f (preorder passes.tree 0) g
  pub were : WereCalls c (preorder passes.tree 0) d

-- why no value of c was passed, after calls that turned f into g, with error e; `why` gives its cause
pub data RefusesSkip {F X : Type 0} (why : X → Cause ContentError) (step : Steps F ContentError) (c : Reading) (f : F) (e : X) (g : F)
    (d : Reading) : Type 0 where
  -- no value comes next, an earlier one was refused, or the source failed
  by_content : (calls : List Heading) → Called step f calls g → WereCalls c calls d → Refuses why any HasNoNext ⊥ c e d
      → RefusesSkip why step c f e g d
  -- the closure refused a heading
  by_closure : (calls : List Heading) (h : Heading) (q : F) (x : ContentError) → Called step f calls q
      → step q h.tag h.constructed h.depth (Err x) g → WereCalls c (calls ++ h ∷ []) d → why e ≡ of_content x
      → RefusesSkip why step c f e g d
  -- memory ran out for a constructed value at a depth of four or more
  by_memory : (calls : List Heading) (h : Heading) → Called step f (calls ++ h ∷ []) g → WereCalls c (calls ++ h ∷ []) d
      → h.constructed ≡ true → 4 ≤ h.depth → why e ≡ of_memory → RefusesSkip why step c f e g d

-- a call passed over the next value, which had to be there; or none was, the closure wasn't called, and content stays usable;
-- or content has failed
abbrev pub SkippedValueBy : {F T S : Type 0} → Steps F ContentError → Reading → F → Result T (DecodeError S) → F → Reading → Type 0
SkippedValueBy step c f r g d = Returns (λ _. SkipsValue step c f g d)
    (λ e. HasNone any c d × IsRefusal e × (g ≡ f) ⊎ (d.state ≡ Failed) × RefusesSkip cause_of step c f e g d) c r d

-- ---- without a closure

-- the header of a constructed value at a depth of four or more was met
pub record GoesDeep (c d : Reading) : Type 0 where
  pub calls : List Heading
  pub last : Heading
  pub were : WereCalls c (calls ++ last ∷ []) d
  pub constructed : last.constructed ≡ true
  pub deep : 4 ≤ last.depth

-- why no value of c was passed, with error e: none comes next, or memory ran out for a deep one; `why` gives the cause of e
abbrev pub RefusesOne : {X : Type 0} → (X → Cause ContentError) → Reading → X → Reading → Type 0
RefusesOne why c e d = Refuses why any HasNoNext ((why e ≡ of_memory) × GoesDeep c d) c e d

-- why values weren't passed up to the end of c, with error e; `why` gives its cause
pub data RefusesSkipAll {X : Type 0} (why : X → Cause ContentError) (c : Reading) (e : X) (d : Reading) : Type 0 where
  by_values : RefusesValues why c e d → RefusesSkipAll why c e d
  -- some values were passed, and then a deep one was met
  by_depth : (j : Reading) → Walks c j → GoesDeep j d → why e ≡ of_memory → RefusesSkipAll why c e d
