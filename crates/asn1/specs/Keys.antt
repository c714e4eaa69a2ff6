-- What a type's values are told apart by, and what that says of the values that mean them.
use Rattle.std.specs.Prelude.{◌≡◌, ℕ, List, [], ◌∷◌, Option, Some, None}
use Rattle.bcder.specs.declared.mode.Mode.{Mode}
use Rattle.bcder.specs.x690.Identifier.{AreOctets, Tag}
use Rattle.bcder.specs.x690.Tree.{Tree, Trees}
use Rattle.bcder.specs.x690.Encoding.{IsEncoding, AreEncodings}
use Rattle.bcder.specs.calls.Valued.{tag_of}

abbrev pub option_key : {T K : Type 0} → (T → K) → Option T → Option K
option_key key (Some x) = Some (key x)
option_key key None = None

abbrev pub list_key : {T K : Type 0} → (T → K) → List T → List K
list_key key [] = []
list_key key (x ∷ xs) = key x ∷ list_key key xs

-- a value means one thing at most
abbrev pub MeansOne : {T K : Type 0} → (Tree → T → Type 0) → (T → K) → Type 0
MeansOne Means key = (t : Tree) (x y : _) → Means t x → Means t y → key x ≡ key y

-- and what is told apart by the same is meant by one value with the tags, of those that have encodings
abbrev pub IsMeantOnce : {T K : Type 0} → Mode → (Tag → Tag → Type 0) → (Tree → T → Type 0) → (T → K) → Type 0
IsMeantOnce mode Tags Means key = (asked : Tag) (t u : Tree) (x y : _) (v w : _) → IsEncoding mode t v → IsEncoding mode u w
    → Tags asked (tag_of t) → Tags asked (tag_of u) → Means t x → Means u y → key x ≡ key y → t ≡ u

-- contents octets mean one thing at most
abbrev pub ContentsMeanOne : {T K : Type 0} → (List ℕ → T → Type 0) → (T → K) → Type 0
ContentsMeanOne Means key = (w : List ℕ) (x y : _) → Means w x → Means w y → key x ≡ key y

-- and what is told apart by the same is meant by one list of octets
abbrev pub ContentsAreMeantOnce : {T K : Type 0} → (List ℕ → T → Type 0) → (T → K) → Type 0
ContentsAreMeantOnce Means key = (x y : _) (v w : List ℕ) → AreOctets v → AreOctets w → Means v x → Means w y → key x ≡ key y → v ≡ w

-- fields take one thing at most of the front, and leave one
abbrev pub TakeOne : {T K : Type 0} → (Trees → T → Trees → Type 0) → (T → K) → Type 0
TakeOne Takes keys = (ts us vs : Trees) (x y : _) → Takes ts x us → Takes ts y vs → (keys x ≡ keys y) × (us ≡ vs)

-- what they leave has an encoding
abbrev pub LeaveEncodings : {T : Type 0} → Mode → (Trees → T → Trees → Type 0) → Type 0
LeaveEncodings mode Takes = (ts us : Trees) (x : _) (v : _) → AreEncodings mode ts v → Takes ts x us → (w : _) × AreEncodings mode us w

-- and the same fields with the same behind them are the same values
abbrev pub AreTakenOnce : {T K : Type 0} → Mode → (Trees → T → Trees → Type 0) → (T → K) → Type 0
AreTakenOnce mode Takes keys = (ts us vs : Trees) (x y : _) (v w : _) → AreEncodings mode ts v → AreEncodings mode us w → Takes ts x vs
    → Takes us y vs → keys x ≡ keys y → ts ≡ us
