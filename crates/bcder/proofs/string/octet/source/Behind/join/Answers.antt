use Rattle.std.proofs.Common.{◌≡◌, ◌++◌, length, sym, ap, ◌∙◌, arith}
use Rattle.std.proofs.lemmas.List.{length-append}
use Rattle.bcder.proofs.StringSources.{joined_on, drop_next}
use Rattle.bcder.proofs.string.octet.source.Behind.join.Goals as goal

pub loop-part-preserved : goal.loop-part-preserved
loop-part-preserved c =
    let i = c.loop-part.invariant in
    let step = c.in-Some.ensures.steps in
    let part = c.in-Some.part.now in
    let items : c.extend_from_slice.new.self.items ≡ c.loop-part.block.items ++ part = c.in_ok-extend_from_slice.ensures.items in
    record {
      same = joined_on c.loop-part.block.items part items step i.same;
      left = drop_next c.loop-part.count _ part _ (sym i.left ∙ step);
      within = omega (arith, i.within, ap length step);
      no_fewer = omega (arith, i.no_fewer, ap length items, length-append c.loop-part.block.items part);
    }
