use Rattle.asn1.specs.TagSets.{no_tag}
use Rattle.asn1.proofs.ToldApart.{nothing_begin, none_with_every}
use Rattle.asn1.proofs.Ascending.{nothing_in_order}
use Rattle.asn1.proofs.clear.fields.ExtensionAdditionsClearFields.are_told_apart.Goals as goal

pub returns-clause-begin : goal.returns-clause-begin
returns-clause-begin c = λ d x k e m. nothing_begin no_tag e m

pub returns-clause-follow : goal.returns-clause-follow
returns-clause-follow c = λ d x k us b. none_with_every us b

pub returns-clause-within : goal.returns-clause-within
returns-clause-within c = λ d x k e m. (nothing_in_order no_tag e m).within

pub returns-clause-rise : goal.returns-clause-rise
returns-clause-rise c = λ d place a x k e m. (nothing_in_order no_tag e m).rise place
