use Rattle.std.proofs.Common.{◌≡◌, arith, ◌<◌, ◌≤◌, ◌-◌, ◌+◌, length, get_or, ap, ◌∙◌}
use Rattle.asn1.specs.Sets.{kept_place_in}
use Rattle.asn1.proofs.ByTag.{last_rises, rises_further}
use Rattle.asn1.proofs.set.ascend.Goals as goal

pub returns-clause-yes : goal.returns-clause-yes
returns-clause-yes g c = λ t.
    let i = c.loop-index.index in
    let o = c.loop-index.invariant.0 in
    let n : length c.args.values.now ≤ (i - 1) + 1 = omega (arith, o, c.loop-index-test.false) in
    c.loop-index.invariant.1.1 (last_rises (kept_place_in g.O.SetOrder.place) c.args.values.now (i - 1) n)

pub loop-index-preserved : goal.loop-index-preserved
loop-index-preserved g c =
    let Place = g.O.SetOrder.place in
    let f = kept_place_in Place in
    let i = c.loop-index.index in
    let o = c.loop-index.invariant.0 in
    let d = c.index-values-index.result in
    let e = c.index-values-index-in-loop-index.result in
    let a : c.place.result ≡ f d = c.place.ensures ∙ ap Place c.place_of.ensures in
    let b : c.place-in-loop-index.result ≡ f e = c.place-in-loop-index.ensures ∙ ap Place c.place_of-in-loop-index.ensures in
    let h : f d < f e = omega (arith, a, b, c.if-place.false) in
    let q : (i + 1) - 1 ≡ (i - 1) + 1 = omega (arith, o) in
    let l : (i + 1) - 1 < length c.args.values.now = omega (arith, c.loop-index-test.true) in
    let m : i ≡ (i + 1) - 1 = omega arith in
    let n = c.index-values-index-in-loop-index.is ∙ ap (λ k. get_or c.args.values.now k e) m in
    let s = rises_further f c.args.values.now (i - 1) ((i + 1) - 1) d e q l c.index-values-index.is n h in
    (omega (arith, o), (λ k. s.0 (c.loop-index.invariant.1.0 k), λ k. c.loop-index.invariant.1.1 (s.1 k)))
