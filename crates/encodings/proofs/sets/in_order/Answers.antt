use Rattle.std.proofs.Common.{sym, subst}
use Rattle.encodings.specs.Sorting.{AreKeyed}
use Rattle.encodings.proofs.Arranging.{put_in_order}
use Rattle.encodings.proofs.sets.in_order.Goals as goal

pub returns : goal.returns
returns c = λ ps m e.
    put_in_order c.in_ok-elements.elements.items c.sort_unstable.new.self.items ps c.in_ok-sorted.sorted.items
    (c.in_ok-elements.ensures ps m e) c.sort_unstable.ensures.permutation c.sort_unstable.ensures.sorted
    (λ qs k. c.in_ok-sorted.ensures qs (subst (λ z. AreKeyed z qs) (sym c.deref.ensures.value) k))
