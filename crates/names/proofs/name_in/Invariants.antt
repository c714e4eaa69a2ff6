use Rattle.std.proofs.Common.{◌≡◌}
use Rattle.std.specs.Str.Iter.{lines_steps}
use Rattle.std.specs.Str.Lines.{lines}
use Rattle.names.specs.Names.{line_of}
use Rattle.names.proofs.Naming.{Gives}
use Rattle.names.proofs.name_in.Given as goal

abbrev pub invariant-loop-line : goal.invariant-loop-line
invariant-loop-line l =
    (goal.iterator-loop-line).can_next l.line-iterator ×
    (goal.iterator-loop-line).is_finite l.line-iterator ×
    Gives lines_steps (λ x. x.now) (lines l.text) (λ name line. line ≡ line_of l.number name) l.line-iterator
