use Rattle.std.proofs.Common.{sym, subst}
use Rattle.encodings.proofs.Keying.{Joins, none_joined, joined_on, joins_all}
use Rattle.encodings.proofs.sets.joined.Goals as goal

pub loop-element-init : goal.loop-element-init
loop-element-init c = subst (Joins c.args.elements.now c.args.elements.now) (sym c.new-octets.ensures.items) (none_joined c.args.elements.now)

pub loop-element-preserved : goal.loop-element-preserved
loop-element-preserved c = joined_on c.args.elements.now c.loop-element.element-index _ c.loop-element.octets.items c.extend_from_slice.new.self.items
    c.loop-element-test.true c.loop-element.invariant c.in_ok-extend_from_slice.ensures.items

pub returns : goal.returns
returns c = joins_all c.args.elements.now c.loop-element.element-index c.loop-element.octets.items c.loop-element.invariant c.loop-element-test.false
