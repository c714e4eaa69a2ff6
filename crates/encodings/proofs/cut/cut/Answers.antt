use Rattle.std.proofs.Common.{subst, arith}
use Rattle.encodings.specs.Pieces.{all_made}
use Rattle.encodings.proofs.Cutting.{InCut, cut_on, cut_closes, first_apart, no_items}
use Rattle.encodings.proofs.cut.cut.Goals as goal

pub loop-rest-preserved : goal.loop-rest-preserved
loop-rest-preserved c =
    let e = first_apart c.loop-rest.rest.now c.item-item.result c.in-len1-up.len_at_least c.item-item.is in
    cut_on _ _ _ _ _ _ _ (subst (λ r. InCut (all_made c.args.items.now) r c.loop-rest.state (all_made c.loop-rest.out.items)) e c.loop-rest.invariant)
    c.in-Ok.ensures

pub returns-in-Ok-end_string : goal.returns-in-Ok-end_string
returns-in-Ok-end_string c =
    cut_closes _ _ _ _ _ _ c.loop-rest.invariant (no_items c.loop-rest.rest.now c.in_default.len_below) (omega (arith, c.if-state-gt0.true))
    c.in-Ok-end_string.ensures
