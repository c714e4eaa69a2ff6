use Rattle.std.proofs.Common.{refl, arith}
use Rattle.bcder.specs.x690.Identifier.{AreOctets}
use Rattle.rules.proofs.Beginning.{value_in_ber, beyond_in_ber}
use Rattle.rules.proofs.Telling.{value_passed, beyond_passed, broken_passed}
use Rattle.rules.proofs.walk.pass_due.Goals as goal

pub pass_value-requires-clause-begins : goal.pass_value-requires-clause-begins
pass_value-requires-clause-begins c = value_in_ber _ _ _ _ _ _ _ c.in-Value.ensures

pub pass_beyond-requires-clause-beyond : goal.pass_beyond-requires-clause-beyond
pass_beyond-requires-clause-beyond c = beyond_in_ber _ _ c.in-Beyond.ensures

pub returns-in-Ok : goal.returns-in-Ok
returns-in-Ok c =
    let o : AreOctets c.args.rest.now = λ i. omega (arith, c.type_inv.rest i) in
    value_passed _ _ _ _ _ _ _ _ _ _ _ _ _ _ _ _ _ o c.requires.due c.in-Value.ensures c.met_of-met.ensures refl c.in-Ok.ensures

pub returns-in-Ok-pass_beyond : goal.returns-in-Ok-pass_beyond
returns-in-Ok-pass_beyond c =
    let o : AreOctets c.args.rest.now = λ i. omega (arith, c.type_inv.rest i) in
    beyond_passed _ _ _ _ _ _ _ _ _ _ _ o c.requires.due c.in-Beyond.ensures c.in-Ok-pass_beyond.ensures

pub returns-in-Ok-pass_broken : goal.returns-in-Ok-pass_broken
returns-in-Ok-pass_broken c =
    let o : AreOctets c.args.rest.now = λ i. omega (arith, c.type_inv.rest i) in
    broken_passed _ _ _ _ _ _ _ _ _ _ _ o c.requires.due c.in-Nothing.ensures c.in-Ok-pass_broken.ensures
