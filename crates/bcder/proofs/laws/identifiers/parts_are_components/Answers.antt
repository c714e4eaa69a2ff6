use Rattle.bcder.specs.x690.ObjectIdentifier.{subidentifiers}
use Rattle.bcder.proofs.ComponentTexts.{values_of_parts}
use Rattle.bcder.proofs.laws.identifiers.parts_are_components.Goals as goal

pub returns : goal.returns
returns c w = values_of_parts (subidentifiers w)
