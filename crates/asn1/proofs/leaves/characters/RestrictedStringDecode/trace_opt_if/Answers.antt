use Rattle.std.proofs.Common.{◌≡◌, true, subst, sym, rules}
use Rattle.bcder.specs.calls.RestrictedString.{MeansRestricted}
use Rattle.bcder.specs.calls.Views.{of_constructed}
use Rattle.asn1.specs.Types.{Only, TakesNextTyped}
use Rattle.asn1.proofs.leaves.characters.RestrictedStringDecode.trace_opt_if.Goals as goal

pub returns-then-eq-clause-took : goal.returns-then-eq-clause-took
returns-then-eq-clause-took g c =
    let i = of_constructed g.S.Source.stream c.args.cons.now in
    let j = of_constructed g.S.Source.stream c.take_own.new.cons in
    let own : c.args.tag ≡ g.L.CharSet.TAG = search rules in
    subst (λ t. TakesNextTyped (Only t) (MeansRestricted g.L.CharSet.step i.mode) true i c.take_own.result j) (sym own) c.take_own.ensures.took
