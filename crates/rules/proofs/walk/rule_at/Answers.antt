use Rattle.std.proofs.Common.{refl}
use Rattle.rules.specs.Broken.{in_header}
use Rattle.rules.proofs.Telling.{stray_here}
use Rattle.rules.proofs.walk.rule_at.Goals as goal

pub returns-in-Some : goal.returns-in-Some
returns-in-Some c = λ os due. in_header c.in-Some.violation refl c.in-Some.ensures.violates refl

pub returns-in-None : goal.returns-in-None
returns-in-None c = λ os due. stray_here _ _ os c.requires.none due (c.in-None.ensures.none refl c.requires.some)
