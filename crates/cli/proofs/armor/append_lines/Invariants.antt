use Rattle.std.specs.Prelude.{◌≡◌, ◌++◌, length}
use Rattle.cli.specs.Armor.{lines}
use Rattle.cli.proofs.armor.append_lines.Given as goal

abbrev pub invariant-loop-rest : goal.invariant-loop-rest
invariant-loop-rest l = l.text.items ++ lines l.rest ≡ l.initial.text.items ++ lines l.characters

abbrev pub decreases-loop-rest : goal.decreases-loop-rest
decreases-loop-rest l = length l.rest
