-- Strings whose octets are lent.
use Rattle.std.specs.Prelude.{◌≡◌, ℕ, false, List, length}
use Rattle.bcder.specs.declared.mode.Mode.{Mode}
use Rattle.bcder.specs.calls.StringMeaning.{is_cut}
use Rattle.bcder.specs.x690.CharSet.{Step, IsOfSet}

-- a string of these octets is in one piece in a mode: in CER it has 1000 at most (X.690, 9.2)
abbrev pub IsPiece : Mode → List ℕ → Type 0
IsPiece mode w = is_cut mode (length w) ≡ false

module _ {L : Type 0} (items : L → List ℕ) where
  -- what is lent are these octets, in one piece
  abbrev pub IsLent : Mode → List ℕ → L → Type 0
  IsLent mode w x = (items x ≡ w) × IsPiece mode w

  -- and they are a string of the set (X.690, 8.23)
  abbrev pub IsLentOfSet : Step → Mode → List ℕ → L → Type 0
  IsLentOfSet step mode w x = IsLent mode w x × IsOfSet step w
