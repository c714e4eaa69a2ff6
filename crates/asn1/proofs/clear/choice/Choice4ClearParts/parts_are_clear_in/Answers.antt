use Rattle.asn1.specs.TagSets.{both_sets, either_in}
use Rattle.asn1.proofs.ToldApart.{both_true, decides_second}
use Rattle.asn1.proofs.clear.choice.Choice4ClearParts.parts_are_clear_in.Goals as goal

pub returns-in-Two-clause-exact : goal.returns-in-Two-clause-exact
returns-in-Two-clause-exact g c = λ d.
    let last = both_sets g.C.Clear.tag_set g.D.Clear.tag_set in
    let in_last = either_in g.C.Clear.tag_set g.D.Clear.tag_set g.met.C.Clear.in_set g.met.D.Clear.in_set in
    rw c.in-Two.is
    (decides_second _ _ g.A.Clear.tag_set (both_sets g.B.Clear.tag_set last) c.is_clear_in-in-Two.result d g.met.A.Clear.in_set
    (either_in g.B.Clear.tag_set last g.met.B.Clear.in_set in_last) (λ q. c.is_clear_in-in-Two.ensures.exact (both_true _ _ q).0))

pub returns-in-Three-clause-exact : goal.returns-in-Three-clause-exact
returns-in-Three-clause-exact g c = λ d.
    let last = both_sets g.C.Clear.tag_set g.D.Clear.tag_set in
    let in_last = either_in g.C.Clear.tag_set g.D.Clear.tag_set g.met.C.Clear.in_set g.met.D.Clear.in_set in
    rw c.in-Three.is
    (decides_second _ _ g.A.Clear.tag_set (both_sets g.B.Clear.tag_set last) c.is_clear_in-in-Three.result d g.met.A.Clear.in_set
    (either_in g.B.Clear.tag_set last g.met.B.Clear.in_set in_last) (λ q.
    decides_second _ _ g.B.Clear.tag_set last c.is_clear_in-in-Three.result q g.met.B.Clear.in_set in_last (λ r.
    c.is_clear_in-in-Three.ensures.exact (both_true _ _ r).0)))

pub returns-in-Four-clause-exact : goal.returns-in-Four-clause-exact
returns-in-Four-clause-exact g c = λ d.
    let last = both_sets g.C.Clear.tag_set g.D.Clear.tag_set in
    let in_last = either_in g.C.Clear.tag_set g.D.Clear.tag_set g.met.C.Clear.in_set g.met.D.Clear.in_set in
    rw c.in-Four.is
    (decides_second _ _ g.A.Clear.tag_set (both_sets g.B.Clear.tag_set last) c.is_clear_in-in-Four.result d g.met.A.Clear.in_set
    (either_in g.B.Clear.tag_set last g.met.B.Clear.in_set in_last) (λ q.
    decides_second _ _ g.B.Clear.tag_set last c.is_clear_in-in-Four.result q g.met.B.Clear.in_set in_last (λ r.
    decides_second g.C.Clear.distinct g.D.Clear.distinct g.C.Clear.tag_set g.D.Clear.tag_set c.is_clear_in-in-Four.result r g.met.C.Clear.in_set
    g.met.D.Clear.in_set c.is_clear_in-in-Four.ensures.exact)))
