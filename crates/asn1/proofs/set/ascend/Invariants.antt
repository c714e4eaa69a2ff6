use Rattle.std.proofs.Common.{length, ◌-◌, ◌≤◌, ◌↔◌, drop}
use Rattle.asn1.specs.Sets.{Rise, kept_place_in}
use Rattle.asn1.proofs.set.ascend.Given as goal

abbrev pub invariant-loop-index : goal.invariant-loop-index
invariant-loop-index g l =
    let f = kept_place_in g.O.SetOrder.place in
    (1 ≤ l.index) × (Rise f l.values ↔ Rise f (drop (l.index - 1) l.values))

abbrev pub decreases-loop-index : goal.decreases-loop-index
decreases-loop-index g l = length l.values - l.index
