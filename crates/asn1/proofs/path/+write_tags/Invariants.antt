-- Fewer tags are left.
use Rattle.std.proofs.Common.{length}
use Rattle.asn1.proofs.path.+write_tags.Given as goal

abbrev pub decreases-write_tags : goal.decreases-write_tags
decreases-write_tags g l = length l.tags.now
