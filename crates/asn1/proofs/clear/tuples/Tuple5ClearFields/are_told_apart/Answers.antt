use Rattle.asn1.specs.Tuples.{grouped_5}
use Rattle.asn1.proofs.clear.tuples.Tuple5ClearFields.are_told_apart.Goals as goal

pub returns-clause-begin : goal.returns-clause-begin
returns-clause-begin g c = λ d x k e m. c.are_told_apart.ensures.begin d (grouped_5 x) k e m

pub returns-clause-follow : goal.returns-clause-follow
returns-clause-follow g c = λ d x k us b. c.are_told_apart.ensures.follow d (grouped_5 x) k us b

pub returns-clause-within : goal.returns-clause-within
returns-clause-within g c = λ d x k e m. c.are_told_apart.ensures.within d (grouped_5 x) k e m

pub returns-clause-rise : goal.returns-clause-rise
returns-clause-rise g c = λ d place a x k e m. c.are_told_apart.ensures.rise d place a (grouped_5 x) k e m
