use Rattle.asn1.specs.TagSets.{both_sets, either_in}
use Rattle.asn1.proofs.ToldApart.{both_true, decides_second}
use Rattle.asn1.proofs.clear.choice.Choice3ClearParts.parts_are_clear_in.Goals as goal

pub returns-in-Two-clause-exact : goal.returns-in-Two-clause-exact
returns-in-Two-clause-exact g c = λ d.
    rw c.in-Two.is
    (decides_second _ _ g.A.Clear.tag_set (both_sets g.B.Clear.tag_set g.C.Clear.tag_set) c.is_clear_in-in-Two.result d g.met.A.Clear.in_set
    (either_in g.B.Clear.tag_set g.C.Clear.tag_set g.met.B.Clear.in_set g.met.C.Clear.in_set) (λ q. c.is_clear_in-in-Two.ensures.exact (both_true _ _ q).0))

pub returns-in-Three-clause-exact : goal.returns-in-Three-clause-exact
returns-in-Three-clause-exact g c = λ d.
    rw c.in-Three.is
    (decides_second _ _ g.A.Clear.tag_set (both_sets g.B.Clear.tag_set g.C.Clear.tag_set) c.is_clear_in-in-Three.result d g.met.A.Clear.in_set
    (either_in g.B.Clear.tag_set g.C.Clear.tag_set g.met.B.Clear.in_set g.met.C.Clear.in_set) (λ q.
    decides_second g.B.Clear.distinct g.C.Clear.distinct g.B.Clear.tag_set g.C.Clear.tag_set c.is_clear_in-in-Three.result q g.met.B.Clear.in_set
    g.met.C.Clear.in_set c.is_clear_in-in-Three.ensures.exact))
