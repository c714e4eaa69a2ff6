use Rattle.std.proofs.Common.{arith, rules}
use Rattle.bcder.specs.x690.Identifier.{AreOctets}
use Rattle.encodings.proofs.Identifiers.{number_ran_out, number_fits, number_ends, number_goes_on, number_too_large}
use Rattle.encodings.proofs.Spelling.{first_apart}
use Rattle.encodings.proofs.identifier.first_number.Goals as goal

pub returns-then-high-ge-LARGE : goal.returns-then-high-ge-LARGE
returns-then-high-ge-LARGE c =
    number_too_large _ _ _ c.loop-rest.invariant _ _ (first_apart c.loop-rest.rest.now (search rules)) (search rules)

pub returns-then-octet-lt128 : goal.returns-then-octet-lt128
returns-then-octet-lt128 c =
    number_ends _ _ _ c.loop-rest.invariant _ _ (first_apart c.loop-rest.rest.now (search rules)) _ (search rules) (search rules) (search rules)

pub loop-rest-preserved : goal.loop-rest-preserved
loop-rest-preserved c =
    let o : AreOctets c.args.octets.now = λ i. omega (arith, c.type_inv.octets i) in
    number_goes_on _ _ _ c.loop-rest.invariant _ _ (first_apart c.loop-rest.rest.now (search rules)) _ (search rules) (search rules)
    (number_fits _ _ _ c.loop-rest.invariant o)

pub returns : goal.returns
returns c = number_ran_out _ _ _ c.loop-rest.invariant (search rules)
