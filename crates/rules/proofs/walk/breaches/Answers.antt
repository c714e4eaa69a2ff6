use Rattle.std.proofs.Common.{refl, arith, rules}
use Rattle.bcder.specs.x690.Identifier.{AreOctets}
use Rattle.encodings.proofs.WholeWalk.{none_open}
use Rattle.rules.proofs.Going.{nothing_in}
use Rattle.rules.proofs.Walking.{walk_starts, walk_ends}
use Rattle.rules.proofs.walk.breaches.Goals as goal

pub loop-place-init : goal.loop-place-init
loop-place-init c = walk_starts _ _ _ _ _ _ _ _ _ (none_open c.new-opened.result.items (search rules)) (search rules) refl refl (search rules)

pub loop-place-preserved : goal.loop-place-preserved
loop-place-preserved c = c.in-Ok.ensures.walk _ c.loop-place.invariant

pub loop-place-smaller : goal.loop-place-smaller
loop-place-smaller c = c.in-Ok.ensures.smaller

pub returns-clause-none : goal.returns-clause-none
returns-clause-none c =
    let o : AreOctets c.args.octets.now = λ i. omega (arith, c.type_inv.octets i) in
    walk_ends _ _ _ _ _ _ _ _ _ _ o (none_open c.loop-place.opened.items (search rules))
    (nothing_in c.loop-place.place.rest.now (search rules)) c.loop-place.invariant

pub returns-clause-hold : goal.returns-clause-hold
returns-clause-hold c = c.loop-place.invariant.hold
