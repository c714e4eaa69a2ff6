-- What the program is asked for, and what it does.
use Rattle.std.specs.Prelude.{◌≡◌, ℕ, List, [], ◌∷◌, Option, Ok, codes}
use Rattle.std.specs.Io.KnownBytes.{Keeps}
use Rattle.bcder.specs.declared.mode.Mode.{Mode}
use Rattle.bcder.specs.declared.mode.Mode.TheVariants.{Ber, Cer, Der}
use Rattle.hex.specs.Hex.{decode_of}
use Rattle.bcder.specs.calls.Encoders.{AppendsFront}
use Rattle.berlist.specs.Answers.{IsNoList, Listed, ListedInPart}

abbrev pub mode_word : Mode → List ℕ
mode_word Ber = codes "ber"
mode_word Cer = codes "cer"
mode_word Der = codes "der"

-- the arguments name the mode and spell the octets, two hexadecimal digits each
pub record Asks (args : List (List ℕ)) (mode : Mode) (octets : List ℕ) : Type 0 where
  pub text : List ℕ
  pub words : args ≡ mode_word mode ∷ text ∷ []
  pub spells : decode_of text ≡ Ok octets

abbrev pub AsksNothing : List (List ℕ) → Type 0
AsksNothing args = (mode : Mode) (octets : List ℕ) → Asks args mode octets → ⊥

-- nothing was written on standard output, and the message, or a beginning of it, on standard error
abbrev pub Tells : List ℕ → Option (List ℕ) → Option (List ℕ) → Option (List ℕ) → Option (List ℕ) → Type 0
Tells message out_old out_new err_old err_new = Keeps out_old out_new × AppendsFront err_old err_new message

-- how the program ends where it was asked for the octets in the mode
pub data Ends (mode : Mode) (octets : List ℕ) (out_old out_new err_old err_new : Option (List ℕ)) (status : ℕ) : Type 0 where
  listed : status ≡ 0 → Listed mode octets out_old out_new → Keeps err_old err_new → Ends mode octets out_old out_new err_old err_new status
  refused : status ≡ 1 → IsNoList mode octets → Tells (codes "refused\n") out_old out_new err_old err_new
      → Ends mode octets out_old out_new err_old err_new status
  no_memory : status ≡ 1 → Tells (codes "out of memory\n") out_old out_new err_old err_new
      → Ends mode octets out_old out_new err_old err_new status
  out_failed : status ≡ 1 → ListedInPart mode octets out_old out_new → Keeps err_old err_new
      → Ends mode octets out_old out_new err_old err_new status
