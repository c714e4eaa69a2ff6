use Rattle.std.proofs.Common.{refl, rules}
use Rattle.asn1.proofs.ToldApart.{none_first, one_more_first, all_first}
use Rattle.asn1.proofs.clear.lists.all_clear.Goals as goal

pub loop-item-init : goal.loop-item-init
loop-item-init g c = λ d. none_first (λ v. g.T.Encode.is_clear v c.args.mode) c.args.items.now

pub loop-item-preserved : goal.loop-item-preserved
loop-item-preserved g c = λ d.
    one_more_first (λ v. g.T.Encode.is_clear v c.args.mode) c.args.items.now c.loop-item.item-index c.item-item.result c.loop-item-test.true c.item-item.is
    (c.loop-item.invariant d) ((c.is_clear_in.ensures.exact d).0 (search rules))

pub returns-clause-exact : goal.returns-clause-exact
returns-clause-exact g c = λ d. (
  λ e. all_first (λ v. g.T.Encode.is_clear v c.args.mode) c.args.items.now c.loop-item.item-index c.loop-item-test.false
      (c.loop-item.invariant d),
  λ h. refl,
)
