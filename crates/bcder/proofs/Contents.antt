-- What is written as contents octets is read back.
use Rattle.std.proofs.Common.{◌≡◌, ℕ, Bool, true, false, List, refl, sym, ◌∙◌}
use Rattle.std.specs.Prelude.{ℤ, pos, FitsSigned}
use Rattle.std.specs.Int.{Width, FitsUnsignedBits}
use Rattle.bcder.specs.declared.mode.Mode.{Mode}
use Rattle.bcder.specs.declared.mode.Mode.TheVariants.{Ber, Cer, Der}
use Rattle.bcder.specs.x690.Identifier.{AreOctets}
use Rattle.bcder.specs.x690.Integer.{AreInteger, integer_octets}
use Rattle.bcder.specs.calls.Meaning.{Exactly, ExactlyOctets, truth_octets}
use Rattle.bcder.specs.calls.Written.{IsReadBack}
use Rattle.bcder.specs.calls.Readers.{IsSigned, IsUnsigned, IsTruth}
use Rattle.bcder.specs.laws.Integers.{some_integer}

exactly_read : {T : Type 0} (w : List ℕ) (reads : List ℕ → T → Type 0) (x : T) → reads w x → ((y : T) → reads w y → y ≡ x) → IsReadBack (Exactly w) reads x
exactly_read w reads x r o = record { contents = w; written = refl; only = λ v p. let same : v ≡ w = cc in same; read = r; no_other = o }

pub octets_read : {T : Type 0} (w : List ℕ) (reads : List ℕ → T → Type 0) (x : T) → AreOctets w → reads w x → ((y : T) → reads w y → y ≡ x)
    → IsReadBack (ExactlyOctets w) reads x
octets_read w reads x a r o = record { contents = w; written = (refl, a); only = λ v p. let e = p.0 in let same : v ≡ w = cc in same; read = r; no_other = o }

is_integer : (z : ℤ) → AreInteger z (integer_octets z)
is_integer z = (some_integer z).1

one_number : (x y : ℤ) → AreInteger y (integer_octets x) → y ≡ x
one_number x y h = sym h.is ∙ (is_integer x).is

one_natural : (m n : ℕ) → AreInteger (pos n) (integer_octets (pos m)) → n ≡ m
one_natural m n h = let same : pos n ≡ pos m = one_number (pos m) (pos n) h in cc

pub integer_read : (x : ℤ) → IsReadBack (Exactly (integer_octets x)) (λ w z. AreInteger z w) x
integer_read x = exactly_read (integer_octets x) (λ w z. AreInteger z w) x (is_integer x) (one_number x)

pub natural_read : (n : ℕ) → IsReadBack (Exactly (integer_octets (pos n))) (λ w m. AreInteger (pos m) w) n
natural_read n = exactly_read (integer_octets (pos n)) (λ w m. AreInteger (pos m) w) n (is_integer (pos n)) (one_natural n)

pub signed_read : (w : Width) (x : ℤ) → FitsSigned w x → IsReadBack (Exactly (integer_octets x)) (IsSigned w) x
signed_read w x h = exactly_read (integer_octets x) (IsSigned w) x (record { integer = is_integer x; fits = h }) (λ y p. one_number x y p.integer)

pub unsigned_read : (bits n : ℕ) → FitsUnsignedBits bits (pos n) → IsReadBack (Exactly (integer_octets (pos n))) (IsUnsigned bits) n
unsigned_read bits n h =
    exactly_read (integer_octets (pos n)) (IsUnsigned bits) n (record { integer = is_integer (pos n); fits = h }) (λ m p. one_natural n m p.integer)

truth_of : (mode : Mode) (b : Bool) → IsTruth mode (truth_octets b) b
truth_of Ber true = refl
truth_of Ber false = refl
truth_of Cer true = refl
truth_of Cer false = refl
truth_of Der true = refl
truth_of Der false = refl

pub truth_read : (mode : Mode) (b : Bool) → IsReadBack (Exactly (truth_octets b)) (IsTruth mode) b
truth_read mode b = exactly_read (truth_octets b) (IsTruth mode) b (truth_of mode b) (λ c p. let is = truth_of mode b in let same : c ≡ b = cc in same)
