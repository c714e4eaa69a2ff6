-- What listing answers, and what the target then holds.
use Rattle.std.specs.Prelude.{◌≡◌, ℕ, List, Option, MatchOption}
use Rattle.std.specs.Io.KnownBytes.{Appends, Keeps}
use Rattle.bcder.specs.declared.mode.Mode.{Mode}
use Rattle.bcder.specs.x690.Tree.{Trees}
use Rattle.bcder.specs.x690.Encoding.{AreEncodings}
use Rattle.bcder.specs.x690.Preorder.{preorders}
use Rattle.berlist.specs.declared.ListError.{ListError}
use Rattle.berlist.specs.declared.ListError.TheVariants.{Refused, NoMemory, Target}
use Rattle.bcder.specs.calls.Encoders.{AppendsShorter}
use Rattle.berlist.specs.Lines.{lines}

-- the lines of the values and of all values inside them
abbrev pub lines_of : Trees → List ℕ
lines_of ts = lines (preorders ts 0)

-- the octets are no encodings of a list of values
abbrev pub IsNoList : Mode → List ℕ → Type 0
IsNoList mode octets = (ts : Trees) → AreEncodings mode ts octets → ⊥

-- the text, if there is one, is the lines of the values that the octets encode, and if there is none they are no list
abbrev pub IsListOf : {T : Type 0} → (T → List ℕ) → Mode → List ℕ → Option T → Type 0
IsListOf bytes mode octets r =
    MatchOption r (IsNoList mode octets) (λ text. (ts : Trees) × AreEncodings mode ts octets × (bytes text ≡ lines_of ts))

-- the octets are the encodings of a list of values, and its lines were written
abbrev pub Listed : Mode → List ℕ → Option (List ℕ) → Option (List ℕ) → Type 0
Listed mode octets old new = (ts : Trees) × AreEncodings mode ts octets × Appends old new (lines_of ts)

-- they are such, and a beginning of its lines was written that isn't all
abbrev pub ListedInPart : Mode → List ℕ → Option (List ℕ) → Option (List ℕ) → Type 0
ListedInPart mode octets old new = (ts : Trees) × AreEncodings mode ts octets × AppendsShorter old new (lines_of ts)

-- what an error says of the octets, and of what was written
abbrev pub IsUnlisted : Mode → List ℕ → Option (List ℕ) → Option (List ℕ) → ListError → Type 0
IsUnlisted mode octets old new Refused = IsNoList mode octets × Keeps old new
IsUnlisted mode octets old new NoMemory = Keeps old new
IsUnlisted mode octets old new (Target e) = ListedInPart mode octets old new
