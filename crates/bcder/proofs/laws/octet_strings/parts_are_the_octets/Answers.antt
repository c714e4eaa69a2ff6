use Rattle.bcder.proofs.OneString.{parts_join, means_flat, means_segments}
use Rattle.bcder.proofs.laws.octet_strings.parts_are_the_octets.Goals as goal

pub returns-clause-join : goal.returns-clause-join
returns-clause-join c = parts_join

pub returns-clause-flat : goal.returns-clause-flat
returns-clause-flat c = means_flat

pub returns-clause-segments : goal.returns-clause-segments
returns-clause-segments c = means_segments
