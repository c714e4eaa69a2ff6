-- In CER and DER values are their encodings: statements of laws of src/laws.rt.
use Rattle.std.specs.Prelude.{◌≡◌, ℕ, List, Ok}
use Rattle.bcder.specs.declared.mode.Mode.{Mode}
use Rattle.bcder.specs.x690.Identifier.{Tag}
use Rattle.bcder.specs.x690.Tree.{Tree}
use Rattle.bcder.specs.x690.Encoding.{IsEncoding}
use Rattle.bcder.specs.calls.Meaning.{Encoded, Meaning}
use Rattle.bcder.specs.calls.Valued.{tag_of}

-- what is written alike is told apart by the same
abbrev pub AreSameWrittenAlike : {T K : Type 0} → (T → K) → (T → Type 0) → (T → Meaning → Type 0) → Type 0
AreSameWrittenAlike key Clear writes = (x y : _) (d e : Encoded) → Clear x → Clear y → writes x (Ok d) → writes y (Ok e)
    → d.octets ≡ e.octets → key x ≡ key y

-- encodings with the tags that mean what is told apart by the same are the same octets
abbrev pub HaveOneEncoding : {T K : Type 0} → Mode → (Tag → Type 0) → (Tree → T → Type 0) → (T → K) → Type 0
HaveOneEncoding mode Tags Means key = (t u : Tree) (x y : _) (v w : List ℕ) → IsEncoding mode t v → IsEncoding mode u w → Tags (tag_of t)
    → Tags (tag_of u) → Means t x → Means u y → key x ≡ key y → v ≡ w

-- what was read with one of the tags is written as it was read
abbrev pub IsWrittenAsRead : {T : Type 0} → Mode → (Tag → Type 0) → (Tree → T → Type 0) → (T → Type 0) → (T → Meaning → Type 0) → Type 0
IsWrittenAsRead mode Tags Means Clear writes = (t : Tree) (x : _) (w : List ℕ) (e : Encoded) → IsEncoding mode t w → Tags (tag_of t)
    → Means t x → Clear x → writes x (Ok e) → e.octets ≡ w
