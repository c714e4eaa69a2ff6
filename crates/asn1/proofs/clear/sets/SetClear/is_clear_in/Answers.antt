use Rattle.std.proofs.Common.{subst}
use Rattle.std.specs.Prelude.{Ok, Decides}
use Rattle.bcder.specs.calls.Meaning.{Encoded}
use Rattle.bcder.specs.x690.Tree.{no_trees}
use Rattle.asn1.specs.Sets.{AreOrdered}
use Rattle.asn1.proofs.Ascending.{in_order, set_decided}
use Rattle.asn1.proofs.ToldApart.{both_true}
use Rattle.asn1.proofs.clear.sets.SetClear.is_clear_in.Goals as goal

pub returns-clause-exact : goal.returns-clause-exact
returns-clause-exact g c = λ d.
    let p = both_true _ _ d in
    let a = both_true _ _ p.1 in
    let mode = c.args.mode in
    let r = c.are_clear_in.result in
    let told = c.are_told_apart.ensures in
    let Place = g.F.SetOrder.place in
    let clear = λ (x : g.row.F.Denot). g.F.EncodeFields.is_clear x mode in
    let alone = λ (x : g.row.F.Denot). g.F.EncodeFields.may_precede x mode no_trees in
    let stands = λ (x : g.row.F.Denot). (e : Encoded) → g.F.EncodeFields.lays x mode (Ok e) → AreOrdered mode Place e.values e.values in
    let x = c.self.inside.0 in
    subst (λ x. Decides r (clear x × alone x × stands x)) c.self.view_is
    (set_decided r (c.are_clear_in.ensures.exact p.0) (λ k. told.follow p.0 x k no_trees tt)
    (λ k e m. in_order mode Place e.values (told.rise p.0 Place a.0 x k e m) (told.rise p.0 (λ n. n) a.1 x k e m)))
