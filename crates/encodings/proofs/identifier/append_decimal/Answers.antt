use Rattle.std.proofs.Common.{◌^◌, ◌<◌, refl, rules}
use Rattle.encodings.proofs.Identifiers.{digits_more, digits_last}
use Rattle.encodings.proofs.identifier.append_decimal.Goals as goal

pub loop-rest-preserved : goal.loop-rest-preserved
loop-rest-preserved c =
    let small : c.loop-rest.rest < 2 ^ 128 = search rules in
    digits_more _ _ _ _ c.loop-rest.invariant small _ _ _ _ c.loop-rest-test.true refl refl refl refl

pub returns-clause-text : goal.returns-clause-text
returns-clause-text c =
    let small : c.loop-rest.rest < 2 ^ 128 = search rules in
    let last : c.loop-rest.rest < 10 = search rules in
    let e = digits_last _ _ _ _ c.loop-rest.invariant small _ _ _ last refl refl refl in
    λ first w a. rw e at (c.append.ensures.stored first w a)
