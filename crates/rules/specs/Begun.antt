-- What octets begin with.
use Rattle.std.specs.Prelude.{◌≡◌, ℕ, Bool, List, ◌++◌, length, Some, None, option_map}
use Rattle.bcder.specs.declared.mode.Mode.{Mode}
use Rattle.bcder.specs.x690.Encoding.{IsHeader}
use Rattle.bcder.specs.x690.Identifier.{Tag}
use Rattle.bcder.specs.calls.Content.{length_of}
use Rattle.encodings.specs.Open.{Open, GoesBeyond, HasNoHeader}
use Rattle.rules.specs.declared.begun.Front.{Front}
use Rattle.rules.specs.declared.begun.Front.TheVariants.{Value, Beyond, Nothing}

-- octets begin with a header of so many octets and these contents octets, before others; or with a header of the indefinite form,
-- before these
pub data BeginsValue (mode : Mode) (x : List ℕ) (t : Tag) (form : Bool) (size : ℕ) (contents : List ℕ) (behind : Open) : Type 0 where
  of_definite : (header others : List ℕ) → IsHeader mode t form (length_of (Some (length contents))) header → behind ≡ Some others
      → x ≡ header ++ (contents ++ others) → size ≡ length header → BeginsValue mode x t form size contents behind
  of_indefinite : (header : List ℕ) → IsHeader mode t form (length_of None) header → behind ≡ None → x ≡ header ++ contents
      → size ≡ length header → BeginsValue mode x t form size contents behind

abbrev pub BeginsAs : Mode → List ℕ → Front → Type 0
BeginsAs mode x (Value b) = BeginsValue mode x b.tag b.constructed b.size b.contents.now (option_map (λ s. s.now) b.behind)
BeginsAs mode x Beyond = GoesBeyond mode x
BeginsAs mode x Nothing = HasNoHeader mode x
