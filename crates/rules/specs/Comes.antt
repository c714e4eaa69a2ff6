-- A walk over octets that goes on past what breaks a rule.
use Rattle.std.specs.Prelude.{◌≡◌, ℕ, ◌+◌, List, [], ◌∷◌, ◌++◌, length, Some, None}
use Rattle.bcder.specs.declared.mode.Mode.TheVariants.{Ber}
use Rattle.bcder.specs.x690.Length.{IsEndOfContents}
use Rattle.bcder.specs.x690.Preorder.{Heading}
use Rattle.encodings.specs.Open.{Open, GoesBeyond, HasNoHeader, Step}

-- where the value ends that should begin here isn't known: no header begins here, or more contents octets than there are would follow
pub data HasNoEnd (x : List ℕ) : Type 0 where
  no_header : HasNoHeader Ber x → HasNoEnd x
  goes_beyond : GoesBeyond Ber x → HasNoEnd x

-- a walk over octets got to the octets x, of which the first is at this place, inside the open values; it goes as in BER, which has
-- the fewest rules, and past end-of-contents octets that end no value, past their absence, and from where a value has no end to the
-- end of the innermost value of definite length
pub data Comes (octets : List ℕ) : List Open → List ℕ → ℕ → Type 0 where
  at_first : Comes octets [] octets 0
  by_step : (os ps : List Open) (x y passed : List ℕ) (met : List Heading) (at : ℕ) → Comes octets os x at → Step Ber os x ps y passed met
      → Comes octets ps y (at + length passed)
  past_stray_end : (os : List Open) (x y end : List ℕ) (at : ℕ) → Comes octets os x at → IsEndOfContents Ber end → x ≡ end ++ y
      → Comes octets os y (at + length end)
  past_missing_end : (os : List Open) (at : ℕ) → Comes octets (None ∷ os) [] at → Comes octets os [] at
  out_of_definite : (os : List Open) (behind x : List ℕ) (at : ℕ) → Comes octets (Some behind ∷ os) x at → HasNoEnd x
      → Comes octets os behind (at + length x)
  out_of_indefinite : (os : List Open) (x : List ℕ) (at : ℕ) → Comes octets (None ∷ os) x at → HasNoEnd x → Comes octets os x at
  out_of_all : (x : List ℕ) (at : ℕ) → Comes octets [] x at → HasNoEnd x → Comes octets [] [] (at + length x)
