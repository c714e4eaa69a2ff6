use Rattle.std.proofs.Common.{rules, arith, ◌+◌}
use Rattle.std.proofs.lemmas.List.Sorted.{IsNonDecreasingBy-from_sort_by_key}
use Rattle.asn1.specs.Sets.{kept_place_in, IsUpTo}
use Rattle.asn1.proofs.ByTag.{adjacent}
use Rattle.asn1.proofs.set.sort.Goals as goal

pub returns-then-not-is_cer-clause-sorted : goal.returns-then-not-is_cer-clause-sorted
returns-then-not-is_cer-clause-sorted g c = λ b.
    let f = kept_place_in g.O.SetOrder.place in
    adjacent (IsUpTo f) c.sort_unstable_by_key.new.self.items
    (λ i d l. IsNonDecreasingBy-from_sort_by_key f _ c.sort_unstable_by_key.ensures.sorted (λ a r q k. search rules) i (i + 1) d (omega arith) l)
