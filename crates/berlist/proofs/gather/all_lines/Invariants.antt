-- What was gathered goes on with what remains.
use Rattle.std.proofs.Common.{length, string_bytes}
use Rattle.bcder.specs.calls.Views.{of_constructed}
use Rattle.berlist.proofs.Gathering.{GoesOn}
use Rattle.berlist.proofs.gather.all_lines.Given as goal

abbrev pub invariant-loop-text : goal.invariant-loop-text
invariant-loop-text g l = GoesOn (of_constructed g.S.Source.stream l.fn.cons) (of_constructed g.S.Source.stream l.cons) (string_bytes l.text)

abbrev pub decreases-loop-text : goal.decreases-loop-text
decreases-loop-text g l = length (of_constructed g.S.Source.stream l.cons).stream.rest
