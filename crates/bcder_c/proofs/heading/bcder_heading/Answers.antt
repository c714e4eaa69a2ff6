use Rattle.std.proofs.Common.{refl, inr}
use Rattle.bcder_c.proofs.heading.bcder_heading.Goals as goal

pub returns-in-None-clause-read : goal.returns-in-None-clause-read
returns-in-None-clause-read c = λ mode r. rw (c.in-Some.ensures.known.1 mode r) (inr (refl, c.in-None.ensures, refl))
