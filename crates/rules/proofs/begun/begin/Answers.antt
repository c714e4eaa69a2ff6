use Rattle.std.proofs.Common.{rules}
use Rattle.rules.proofs.Beginning.{begun_definite, begun_marked}
use Rattle.rules.proofs.begun.begin.Goals as goal

pub returns-else-front-len : goal.returns-else-front-len
returns-else-front-len c =
    let f = c.in-Some.ensures.found in
    begun_definite _ _ _ _ _ f.0 _ f.1 f.2 _ _ _ _ c.in-Some-len.is (search rules) c.split_at.ensures.front c.split_at.ensures.back (search rules)

pub returns-in-None : goal.returns-in-None
returns-in-None c =
    let f = c.in-Some.ensures.found in
    begun_marked _ _ _ _ _ f.0 _ f.1 f.2 _ c.in-None.is (search rules)
