use Rattle.rules.proofs.Agreeing.{strings_segmented}
use Rattle.rules.proofs.laws.strings_are_segmented.Goals as goal

pub returns : goal.returns
returns c = strings_segmented
