use Rattle.bcder_c.proofs.convert.bcder_convert.Goals as goal

pub returns-clause-converts : goal.returns-clause-converts
returns-clause-converts c =
    λ mode other f t. rw (c.in-Some.ensures.known.1 mode f, c.in-Some-mode_of.ensures.known.1 other t) c.convert.ensures
