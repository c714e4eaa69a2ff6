-- What is said of octets that begin with a value, or are values, and of those that don't or aren't.
use Rattle.std.specs.Prelude.{◌≡◌, ℕ, suc, ◌+◌, ◌^◌, ◌<◌, ◌≤◌, List, [], ◌∷◌, ◌++◌, length}
use Rattle.bcder.specs.declared.mode.Mode.{Mode}
use Rattle.bcder.specs.x690.Tree.{Tree, Trees}
use Rattle.bcder.specs.x690.Preorder.{Heading, preorder, preorders}
use Rattle.bcder.specs.x690.Encoding.{IsEncoding, AreEncodings}
use Rattle.encodings.specs.declared.checked.Checked.{Checked}
use Rattle.encodings.specs.Depth.{deepest}
use Rattle.encodings.specs.Open.{Open, NoneBegins, NotAtEnd, HasHeader, Step, Reaches, Tallied}
use Rattle.encodings.specs.Status.{done, no_memory, too_deep}

-- w begins with an encoding of a value, before the octets x, and it was told: its octets, the values in it, and their depth
pub record PassedValue (mode : Mode) (w x : List ℕ) (old new : Checked) : Type 0 where
  pub tree : Tree
  pub value : List ℕ
  pub encodes : IsEncoding mode tree value
  pub is : w ≡ value ++ x
  pub reaches : Reaches mode w [] x value (preorder tree 0)
  pub tallied : Tallied old new (length value) (preorder tree 0)

-- w begins with no encoding of a value
abbrev pub HasNoValue : Mode → List ℕ → Type 0
HasNoValue mode w = (t : Tree) (v x : List ℕ) → IsEncoding mode t v → w ≡ v ++ x → ⊥

-- the octets x don't begin with the end of the innermost open value, if there is one
abbrev pub NoneEnds : Mode → List Open → List ℕ → Type 0
NoneEnds mode [] x = Unit {0}
NoneEnds mode (o ∷ os) x = NotAtEnd mode o x

-- w begins with no encoding of a value: a walk over it got to where none begins and none ends
pub record RefusedValue (mode : Mode) (w : List ℕ) (old new : Checked) (status : ℕ) : Type 0 where
  pub none : HasNoValue mode w
  pub opened : List Open
  pub rest : List ℕ
  pub passed : List ℕ
  pub met : List Heading
  pub reaches : Reaches mode w opened rest passed met
  pub tallied : Tallied old new (length passed) met
  pub no_end : NoneEnds mode opened rest
  pub why : NoneBegins mode rest status

-- a walk over w got to where no value begins and none ends; c tells the octets that it passed, and the values that it met
pub record StopsAfter (mode : Mode) (w : List ℕ) (c : Checked) (status : ℕ) : Type 0 where
  pub opened : List Open
  pub rest : List ℕ
  pub passed : List ℕ
  pub met : List Heading
  pub reaches : Reaches mode w opened rest passed met
  pub at : c.at ≡ length passed
  pub values : c.values ≡ length met
  pub depth : c.depth ≡ deepest met
  pub no_end : NoneEnds mode opened rest
  pub why : NoneBegins mode rest status

-- a walk over w got to where a value begins inside so many others, which are fewer than a `usize` counts
pub record DeeperValue (mode : Mode) (levels : ℕ) (w : List ℕ) (old new : Checked) : Type 0 where
  pub opened : List Open
  pub rest : List ℕ
  pub passed : List ℕ
  pub met : List Heading
  pub reaches : Reaches mode w opened rest passed met
  pub tallied : Tallied old new (length passed) met
  pub count : length opened ≡ levels
  pub few : levels + 2 < 2 ^ 64
  pub begins : HasHeader mode rest

-- ---- what the functions say

-- w begins with an encoding of a value, of which c tells the octets, the values in it, and the depth
pub record FirstValue (mode : Mode) (w : List ℕ) (c : Checked) : Type 0 where
  pub tree : Tree
  pub value : List ℕ
  pub behind : List ℕ
  pub encodes : IsEncoding mode tree value
  pub is : w ≡ value ++ behind
  pub at : c.at ≡ length value
  pub values : c.values ≡ length (preorder tree 0)
  pub depth : c.depth ≡ deepest (preorder tree 0)

-- w is the encodings of values, one after the other, of which c tells the octets, the values, and the depth
pub record AllValues (mode : Mode) (w : List ℕ) (c : Checked) : Type 0 where
  pub trees : Trees
  pub encode : AreEncodings mode trees w
  pub at : c.at ≡ length w
  pub values : c.values ≡ length (preorders trees 0)
  pub depth : c.depth ≡ deepest (preorders trees 0)

-- w isn't the encodings of values
abbrev pub AreNoValues : Mode → List ℕ → Type 0
AreNoValues mode w = (ts : Trees) → AreEncodings mode ts w → ⊥

-- what was found, why it isn't there, or that memory ran out
pub data Passes (Found Absent : Type 0) (mode : Mode) (w : List ℕ) (status : ℕ) (c : Checked) : Type 0 where
  found : status ≡ done → Found → Passes Found Absent mode w status c
  refused : Absent → StopsAfter mode w c status → Passes Found Absent mode w status c
  lacking : status ≡ no_memory → Passes Found Absent mode w status c

-- the first value was passed, or there is none
abbrev pub PassesFirst : Mode → List ℕ → ℕ → Checked → Type 0
PassesFirst mode w status c = Passes (FirstValue mode w c) (HasNoValue mode w) mode w status c

-- all octets were passed as values, or they aren't
abbrev pub PassesAll : Mode → List ℕ → ℕ → Checked → Type 0
PassesAll mode w status c = Passes (AllValues mode w c) (AreNoValues mode w) mode w status c

-- values were opened down to so many levels, and c tells the octets that it passed, and the values that it met
pub record GoesDeeper (mode : Mode) (levels : ℕ) (w : List ℕ) (c : Checked) : Type 0 where
  pub opened : List Open
  pub rest : List ℕ
  pub passed : List ℕ
  pub met : List Heading
  pub reaches : Reaches mode w opened rest passed met
  pub at : c.at ≡ length passed
  pub values : c.values ≡ length met
  pub depth : c.depth ≡ deepest met
  pub count : length opened ≡ levels
  pub few : levels + 2 < 2 ^ 64
  pub begins : HasHeader mode rest

-- what was found is no deeper than so many levels; or a value is deeper
pub data PassesWithin (Found Absent : Type 0) (mode : Mode) (levels : ℕ) (w : List ℕ) (status : ℕ) (c : Checked) : Type 0 where
  within : Passes Found Absent mode w status c → c.depth ≤ levels → PassesWithin Found Absent mode levels w status c
  deeper : status ≡ too_deep → GoesDeeper mode levels w c → PassesWithin Found Absent mode levels w status c

-- all octets were passed as values no deeper than so many levels; or they aren't values, or one is deeper
abbrev pub PassesAllWithin : Mode → ℕ → List ℕ → ℕ → Checked → Type 0
PassesAllWithin mode levels w status c = PassesWithin (AllValues mode w c) (AreNoValues mode w) mode levels w status c

-- ---- with room for so many open values

-- inside the open values os, the octets x begin with a value that would be one more
pub record OpensOneMore (mode : Mode) (os : List Open) (x : List ℕ) : Type 0 where
  pub opened : List Open
  pub rest : List ℕ
  pub passed : List ℕ
  pub met : List Heading
  pub step : Step mode os x opened rest passed met
  pub one_more : length opened ≡ suc (length os)

-- a walk over w got to where a constructed value begins inside `room` others; c tells the octets that it passed, and the values that it met
pub record NeedsRoom (mode : Mode) (room : ℕ) (w : List ℕ) (c : Checked) : Type 0 where
  pub opened : List Open
  pub rest : List ℕ
  pub passed : List ℕ
  pub met : List Heading
  pub reaches : Reaches mode w opened rest passed met
  pub at : c.at ≡ length passed
  pub values : c.values ≡ length met
  pub depth : c.depth ≡ deepest met
  pub count : length opened ≡ room
  pub no_end : NoneEnds mode opened rest
  pub begins : OpensOneMore mode opened rest

-- all octets were passed as values, of which no constructed one is inside `room` others; or they aren't values; or such a one begins
pub data PassesAllOn (mode : Mode) (room : ℕ) (w : List ℕ) (status : ℕ) (c : Checked) : Type 0 where
  all_passed : status ≡ done → AllValues mode w c → c.depth ≤ room + 1 → PassesAllOn mode room w status c
  none_there : AreNoValues mode w → StopsAfter mode w c status → PassesAllOn mode room w status c
  no_room : status ≡ too_deep → NeedsRoom mode room w c → PassesAllOn mode room w status c
