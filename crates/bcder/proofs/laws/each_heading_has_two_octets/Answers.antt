use Rattle.bcder.specs.laws.Preorder.{values_le, values_le_each}
use Rattle.bcder.proofs.laws.each_heading_has_two_octets.Goals as goal

pub returns-clause-value : goal.returns-clause-value
returns-clause-value c = values_le

pub returns-clause-list : goal.returns-clause-list
returns-clause-list c = values_le_each
