use Rattle.std.specs.Prelude.{◌≡◌, length}
use Rattle.cli.specs.Armor.{is_label, is_label_behind}
use Rattle.cli.proofs.armor.is_label.Given as goal

abbrev pub invariant-loop-rest : goal.invariant-loop-rest
invariant-loop-rest l = is_label l.text ≡ is_label_behind l.in_word l.rest

abbrev pub decreases-loop-rest : goal.decreases-loop-rest
decreases-loop-rest l = length l.rest
