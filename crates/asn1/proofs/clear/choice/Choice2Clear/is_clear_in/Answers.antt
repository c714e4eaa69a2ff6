use Rattle.asn1.proofs.ToldApart.{decides_second}
use Rattle.asn1.proofs.clear.choice.Choice2Clear.is_clear_in.Goals as goal

pub returns-in-Two-clause-exact : goal.returns-in-Two-clause-exact
returns-in-Two-clause-exact g c = λ d.
    rw c.in-Two.is
    (decides_second g.A.Clear.distinct g.B.Clear.distinct g.A.Clear.tag_set g.B.Clear.tag_set c.is_clear_in-in-Two.result d g.met.A.Clear.in_set
    g.met.B.Clear.in_set c.is_clear_in-in-Two.ensures.exact)
