use Rattle.std.proofs.Common.{rules}
use Rattle.encodings.proofs.Cutting.{feed_on, feed_ends}
use Rattle.encodings.proofs.cut.feed.Goals as goal

pub loop-rest-preserved : goal.loop-rest-preserved
loop-rest-preserved c = feed_on _ _ _ _ _ _ _ _ _ c.loop-rest.invariant c.in-Ok.ensures

pub returns : goal.returns
returns c = feed_ends _ _ _ _ _ _ c.loop-rest.invariant (search rules)
