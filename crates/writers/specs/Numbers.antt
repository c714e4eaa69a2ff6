-- What a number's writer answers.
use Rattle.bcder.specs.declared.encode.error.WriteError.{WriteError}
use Rattle.bcder.specs.declared.encode.error.WriteError.TheVariants.{Refused, Target}

-- the target failed
abbrev pub IsOfTarget : WriteError → Type 0
IsOfTarget (Target e) = Unit {0}
IsOfTarget (Refused e) = ⊥
