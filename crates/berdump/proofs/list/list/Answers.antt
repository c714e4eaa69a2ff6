use Rattle.std.proofs.Common.{◌≡◌, length, refl, sym, subst, arith, rules}
use Rattle.std.proofs.lemmas.Grind.{common_steps}
use Rattle.std.proofs.lemmas.List.{nil_from_length}
use Rattle.berdump.specs.Walk.{IsAt}
use Rattle.berdump.proofs.Steps.{begins_with, closes_with, ends_with}
use Rattle.berdump.proofs.list.list.Goals as goal

pub loop-count-init : goal.loop-count-init
loop-count-init g c = (begins_with c.args.scope c.args.mode c.args.octets.now (g.W.Write.contents c.args.target.now)
    (g.W.Write.contents c.args.target.now) c.new-opened.result.items refl (search rules)).next

pub loop-count-preserved-in-Some : goal.loop-count-preserved-in-Some
loop-count-preserved-in-Some g c =
    (closes_with c.args.scope c.args.mode c.args.octets.now (g.W.Write.contents c.args.target.now)
    (g.W.Write.contents c.loop-count.target) c.loop-count.opened.items c.close.new.opened.items c.loop-count.rest.now c.in-Some.behind.now c.loop-count.at
    c.in-Some.count c.loop-count.invariant c.in-Some.ensures.goes c.in-Some.ensures.fits c.in-Some.ensures.passed).next

pub loop-count-preserved : goal.loop-count-preserved
loop-count-preserved g c =
    let s : IsAt c.args.scope c.args.mode c.args.octets.now (g.W.Write.contents c.args.target.now) (g.W.Write.contents c.loop-count.target)
    c.close.new.opened.items c.loop-count.rest.now c.loop-count.at =
    subst (λ z. IsAt c.args.scope c.args.mode c.args.octets.now (g.W.Write.contents c.args.target.now) (g.W.Write.contents c.loop-count.target)
    z c.loop-count.rest.now c.loop-count.at) (sym c.in_default.ensures.same) c.loop-count.invariant in
    (c.in-Ok.ensures.meets c.args.octets.now (g.W.Write.contents c.args.target.now) s).next

pub returns-then-is_empty-2-clause-listed : goal.returns-then-is_empty-2-clause-listed
returns-then-is_empty-2-clause-listed g c =
    let n : length c.loop-count.rest.now ≡ 0 = grind (arith, common_steps, c.if-is_empty.ensures) in
    let m : length c.close.new.opened.items ≡ 0 = grind (arith, common_steps, c.if-is_empty-2.ensures) in
    let same : c.close.new.opened.items ≡ c.loop-count.opened.items = c.in_default.ensures.same in
    let k : length c.loop-count.opened.items ≡ 0 = grind (arith, common_steps, same, m) in
    ends_with c.args.scope c.args.mode c.args.octets.now c.loop-count.rest.now (g.W.Write.contents c.args.target.now) (g.W.Write.contents c.loop-count.target)
    c.loop-count.opened.items c.loop-count.at (nil_from_length c.loop-count.opened.items k) (nil_from_length c.loop-count.rest.now n) c.loop-count.invariant
