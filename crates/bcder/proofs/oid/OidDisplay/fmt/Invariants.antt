-- What was written goes on to the text of all components after the first.
use Rattle.std.proofs.Common.{◌≡◌, List, ℕ, ◌++◌, map}
use Rattle.std.specs.Fmt.{HasWritten, IsPlainFormatter}
use Rattle.bcder.specs.calls.Identifiers.{parts_left}
use Rattle.bcder.specs.calls.Identifiers.{dots_before}
use Rattle.bcder.proofs.ComponentTexts.{shown_part}
use Rattle.bcder.proofs.oid.OidDisplay.fmt.Given as goal

abbrev pub invariant-loop-component : goal.invariant-loop-component
invariant-loop-component g l = (w : List ℕ) × (IsPlainFormatter l.initial.f → HasWritten g.W.Write.write_str_gives l.initial.f w l.f)
    × (w ++ dots_before (map shown_part (parts_left l.component-iterator)) ≡ dots_before (map shown_part (parts_left l.initial.component-iterator)))
