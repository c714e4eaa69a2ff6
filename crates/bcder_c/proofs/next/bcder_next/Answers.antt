use Rattle.encodings.proofs.WholeSteps.{starts}
use Rattle.bcder_c.proofs.next.bcder_next.Goals as goal

pub returns-in_default-clause-start : goal.returns-in_default-clause-start
returns-in_default-clause-start c = λ mode e. starts mode _ _ _ e

pub returns-clause-start : goal.returns-clause-start
returns-clause-start c = λ mode e. starts mode _ _ _ e

pub returns-clause-advances : goal.returns-clause-advances
returns-clause-advances c = λ mode r os x s. rw (c.in-Some.ensures.known.1 mode r) (c.next_event.ensures.advances os x s)

pub returns-clause-decides : goal.returns-clause-decides
returns-clause-decides c = λ mode r. rw (c.in-Some.ensures.known.1 mode r) c.next_event.ensures.decides
