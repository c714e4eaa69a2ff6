-- Why octets could not be taken.
use Rattle.support.specs.declared.borrows.TakeError.{TakeError}
use Rattle.support.specs.declared.borrows.TakeError.TheVariants.{Source, Short, NoMemory}

-- a fact for each reason
abbrev pub MatchTakeError : {E : Type 0} → TakeError E → Type 0 → Type 0 → Type 0 → Type 0
MatchTakeError (Source e) A B C = A
MatchTakeError Short A B C = B
MatchTakeError NoMemory A B C = C
