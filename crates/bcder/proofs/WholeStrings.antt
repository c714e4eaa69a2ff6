-- Contents octets of strings, which CER has in a primitive value up to 1000.
use Rattle.std.proofs.Common.{◌≡◌, ◌≢◌, ℕ, Bool, true, false, List, length, refl, if◌then◌else◌}
use Rattle.std.specs.Prelude.{Ok, Err}
use Rattle.bcder.specs.declared.encode.error.EncodeError.{EncodeError}
use Rattle.bcder.specs.declared.encode.error.EncodeError.TheVariants.{NoMemory}
use Rattle.bcder.specs.declared.mode.Mode.{Mode}
use Rattle.bcder.specs.x690.Identifier.{AreOctets}
use Rattle.bcder.specs.calls.Meaning.{fits_primitive, PieceMeans}
use Rattle.bcder.specs.calls.Encoders.{RefusesBy}

module _ (refusal : EncodeError) (mode : Mode) (w : List ℕ) where
  pub string_fits : AreOctets w → fits_primitive mode (length w) ≡ true → PieceMeans refusal mode w (Ok w)
  string_fits octets fits = (rw fits refl, octets)

  string_refused : AreOctets w → fits_primitive mode (length w) ≡ false → PieceMeans refusal mode w (Err refusal)
  string_refused octets long = (rw long refl, octets)

  pub refuses_string : refusal ≢ NoMemory → AreOctets w → fits_primitive mode (length w) ≡ false → RefusesBy (PieceMeans refusal mode w) ⊥ refusal
  refuses_string memory octets long = record { meant = λ _. string_refused octets long; lacking = memory }

  same_string : (c : List ℕ) (fits : Bool) → Ok c ≡ (if fits then Ok w else Err refusal) → c ≡ w
  same_string c true e = cc
  same_string c false e = cc

  -- a string that is meant is this one
  pub string_is : (c : List ℕ) → PieceMeans refusal mode w (Ok c) → c ≡ w
  string_is c m = same_string c (fits_primitive mode (length w)) m.0
