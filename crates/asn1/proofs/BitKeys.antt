-- Bit strings that are read.
use Rattle.std.proofs.Common.{◌≡◌, ℕ, List, [], ◌∷◌, refl, inl, inr}
use Rattle.std.specs.Prelude.{◌⊎◌}
use Rattle.bcder.specs.calls.Readers.{NoBits}
use Rattle.bcder.specs.declared.mode.Mode.{Mode}
use Rattle.bcder.specs.declared.decode.error.DecodeError.{DecodeError}
use Rattle.bcder.specs.x690.BitString.{Bits, BitShape, IsBitString}
use Rattle.bcder.specs.calls.Cause.{cause_of, of_memory}
use Rattle.bcder.specs.calls.Readers.{MeanNothing}

some_bits : (mode : Mode) (v : List ℕ) → BitShape mode v → (x : Bits) × IsBitString mode v x
some_bits mode [] s = absurd s
some_bits mode (u ∷ w) s = (record { unused = u; octets = w }, (refl, s))

pub no_bits : {X : Type 0} (mode : Mode) (v : List ℕ) (e : DecodeError X) → NoBits mode v e
    → MeanNothing (IsBitString mode) v e ⊎ (cause_of e ≡ of_memory) × ((x : Bits) × IsBitString mode v x)
no_bits mode v e (inl n) = inl (λ x h. n.0 h.1, n.1)
no_bits mode v e (inr m) = inr (m.0, some_bits mode v m.1)
