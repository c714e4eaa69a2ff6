-- Why a step over content stopped.
use Rattle.std.specs.Prelude.{ℕ, List, codes}
use Rattle.bcder.specs.declared.decode.error.ContentError.{ContentError}
use Rattle.bcder.specs.declared.decode.error.ContentError.TheVariants.{Static}
use Rattle.bcder.specs.declared.decode.stop.Reason.{Reason}
use Rattle.bcder.specs.declared.decode.stop.Reason.TheVariants as reason
use Rattle.bcder.specs.declared.decode.stop.Stop.{Stop}
use Rattle.bcder.specs.declared.decode.stop.Stop.TheVariants as stop
use Rattle.bcder.specs.calls.Violations.{violation_text}
use Rattle.bcder.specs.calls.Cause.{Cause, of_source, of_content, of_memory}

-- the text of a refusal that the octets don't explain
abbrev pub reason_text : Reason → List ℕ
reason_text reason.Earlier = codes "an earlier value was refused"
reason_text reason.Constructed = codes "expected a primitive value"
reason_text reason.ValuesLeft = codes "values left in a constructed value"

-- why a step stopped
abbrev pub stop_cause : {S : Type 0} → Stop S → Cause ContentError
stop_cause (stop.Violated v) = of_content (Static (violation_text v))
stop_cause (stop.Refused why) = of_content (Static (reason_text why))
stop_cause (stop.Source e) = of_source
stop_cause stop.NoMemory = of_memory

-- one of two facts, by the reason to stop, of a step that doesn't allocate
abbrev pub MatchStop : {S : Type 0} → Stop S → Type 0 → Type 0 → Type 0
MatchStop (stop.Source e) A B = A
MatchStop (stop.Violated v) A B = B
MatchStop (stop.Refused why) A B = B
MatchStop stop.NoMemory A B = ⊥
