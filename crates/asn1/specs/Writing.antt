-- What types of ASN.1 write, and that it is read back.
use Rattle.std.specs.Prelude.{◌≡◌, ℕ, Bool, ◌≤◌, List, length, Ok, Result, Option, Some, None, MatchOption}
use Rattle.bcder.specs.declared.decode.error.DecodeError.{DecodeError}
use Rattle.bcder.specs.x690.Identifier.{Tag, AreOctets}
use Rattle.bcder.specs.x690.Tree.{Tree, Trees, no_trees, ◌∷ₜ◌, ◌+++◌}
use Rattle.bcder.specs.declared.mode.Mode.{Mode}
use Rattle.bcder.specs.calls.Meaning.{NoValues, EachOf, Joined}
use Rattle.bcder.specs.calls.Meaning.{Encoded, Meaning, IsLawful}
use Rattle.bcder.specs.laws.Joined.{NoValues_lawful, EachOf_lawful, Joined_lawful}
use Rattle.bcder.specs.calls.Content.{Reading}
use Rattle.bcder.specs.calls.Written.{StandsIn}
use Rattle.bcder.specs.calls.Written.{AnswersSuch}
use Rattle.bcder.specs.calls.Valued.{tag_of}
use Rattle.asn1.specs.Types.{TakesNextTyped}

-- one value is written, with one of the tags, that means something, and only what is told apart by k
pub record IsWritten {T K : Type 0} (Tags : Tag → Type 0) (Means : Tree → T → Type 0) (key : T → K) (k : K) (e : Encoded) : Type 0 where
  pub tree : Tree
  pub is : e.values ≡ tree ∷ₜ no_trees
  pub tagged : Tags (tag_of tree)
  pub some : T
  pub means : Means tree some
  pub only : (y : T) → Means tree y → key y ≡ k

-- what is written of x is read back as what is told apart by the same
abbrev pub IsReadAs : {T K : Type 0} → (Tag → Type 0) → (Tree → T → Type 0) → (T → K) → T → (Meaning → Type 0) → Type 0
IsReadAs Tags Means key x Writes = (e : Encoded) → Writes (Ok e) → IsWritten Tags Means key (key x) e

-- fields are taken of the front of ts, and only what is told apart by k, and us are left
pub record AreTaken {T K : Type 0} (Takes : Trees → T → Trees → Type 0) (keys : T → K) (k : K) (ts us : Trees) : Type 0 where
  pub some : T
  pub taken : Takes ts some us
  pub only : (y : T) (vs : Trees) → Takes ts y vs → (keys y ≡ k) × (vs ≡ us)

-- what is written of the fields x is read back as them, in front of values that may follow
abbrev pub AreReadAs : {T K : Type 0} → (Trees → T → Trees → Type 0) → (T → K) → (Trees → Type 0) → T → (Meaning → Type 0) → Type 0
AreReadAs Takes keys MayFollow x Writes = (e : Encoded) → Writes (Ok e) → (us : Trees) → MayFollow us
    → AreTaken Takes keys (keys x) (e.values +++ us) us

-- nothing for None, otherwise what M says of the value
abbrev pub WritesOptional : {T : Type 0} → (T → Meaning → Type 0) → Option T → Meaning → Type 0
WritesOptional M (Some x) m = M x m
WritesOptional M None m = NoValues m

pub optional_lawful : {T : Type 0} {mode : Mode} (M : T → Meaning → Type 0) → ((x : T) → IsLawful mode (M x)) → (x : Option T)
    → IsLawful mode (WritesOptional M x)
optional_lawful M l (Some x) = l x
optional_lawful {T} {mode} M l None = NoValues_lawful mode

-- ---- taken back

-- no more is left of content than is owed, and it is octets
pub record IsWhole (c : Reading) : Type 0 where
  pub fits : (n : ℕ) → c.owed ≡ Some n → length c.stream.rest ≤ n
  pub octets : AreOctets c.stream.rest

-- something was returned that is told apart by k
abbrev pub HasKey : {T K : Type 0} → (T → K) → K → Option T → Type 0
HasKey key k o = MatchOption o ⊥ (λ y. key y ≡ k)

-- what is written of x, wherever it stands in front of content in the mode, is taken back as what is told apart by the same,
-- and what follows is left, unless the source fails or memory runs out
abbrev pub IsTakenBack : {T K : Type 0} → Type 0 → (Tag → Type 0) → (Tree → T → Type 0) → (T → K) → Mode → (Meaning → Type 0) → T → Type 0
IsTakenBack {T} X Tags Means key mode Writes x = (e : Encoded) → Writes (Ok e) → (c : Reading) (after : List ℕ) → IsWhole c
    → StandsIn mode e.octets after c → (may_lack : Bool) (r : Result (Option T) (DecodeError X)) (d : Reading)
    → TakesNextTyped Tags Means may_lack c r d → AnswersSuch (HasKey key (key x)) after c r d

pub each_lawful : {T : Type 0} {mode : Mode} (M : T → Meaning → Type 0) → ((x : T) → IsLawful mode (M x)) → (xs : List T)
    → IsLawful mode (Joined (EachOf M xs))
each_lawful {T} {mode} M l xs = Joined_lawful (EachOf_lawful {P = λ _. Unit {0}} mode (λ x p. l x) xs (λ k d below. tt))
