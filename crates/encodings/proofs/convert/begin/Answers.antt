use Rattle.std.proofs.Common.{arith, rules}
use Rattle.bcder.specs.x690.Identifier.{AreOctets}
use Rattle.encodings.proofs.Reading.{no_tree, too_short}
use Rattle.encodings.proofs.PiecesRead.{begun_definite, begun_marked}
use Rattle.encodings.proofs.convert.begin.Goals as goal

pub returns-in_default-clause-none : goal.returns-in_default-clause-none
returns-in_default-clause-none c =
    let o : AreOctets c.args.rest.now = λ i. omega (arith, c.type_inv.rest i) in
    no_tree _ _ o c.in_default.ensures.none

pub returns-then-front-len-clause-none : goal.returns-then-front-len-clause-none
returns-then-front-len-clause-none c =
    let o : AreOctets c.args.rest.now = λ i. omega (arith, c.type_inv.rest i) in
    let f = c.in-Some.ensures.found in
    too_short _ _ _ _ _ f.0 _ o f.1 f.2 _ c.in-Some-len.is (search rules)

pub returns-else-front-len-clause-some : goal.returns-else-front-len-clause-some
returns-else-front-len-clause-some c =
    let f = c.in-Some.ensures.found in
    begun_definite _ _ _ _ _ f.0 _ f.1 f.2 _ _ _ c.in-Some-len.is (search rules) c.split_at.ensures.front c.split_at.ensures.back

pub returns-in-None-clause-some : goal.returns-in-None-clause-some
returns-in-None-clause-some c =
    let f = c.in-Some.ensures.found in
    begun_marked _ _ _ _ _ f.0 _ f.1 f.2 c.in-None.is
