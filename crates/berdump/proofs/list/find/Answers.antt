use Rattle.std.proofs.Common.{◌≡◌, ◌≢◌, ◌⊎◌, None, length, refl, sym, subst, arith, rules}
use Rattle.std.proofs.lemmas.Grind.{common_steps}
use Rattle.std.proofs.lemmas.List.{nil_from_length}
use Rattle.berdump.proofs.Steps.{begins_with, closes_with, less_closed}
use Rattle.berdump.proofs.Finding.{Searches, ended, found_in, search_begins, search_closes, search_ends, search_goes}
use Rattle.berdump.proofs.list.find.Goals as goal

pub loop-count-init : goal.loop-count-init
loop-count-init g c = search_begins c.args.scope c.args.mode c.args.octets.now (g.W.Write.contents c.args.lines.now) (g.W.Write.contents c.args.lines.now)
    c.new-opened.result.items c.args.octets.now c.args.scope.from c.args.wanted 0
    (begins_with c.args.scope c.args.mode c.args.octets.now (g.W.Write.contents c.args.lines.now) (g.W.Write.contents c.args.lines.now)
    c.new-opened.result.items refl (search rules))

pub returns-in-Some-ended_at-clause-found : goal.returns-in-Some-ended_at-clause-found
returns-in-Some-ended_at-clause-found g c = ended c.args.scope c.args.mode c.args.octets.now c.args.wanted c.loop-count.begun.behind
    c.in-Some-ended_at.contents.now c.loop-count.invariant.begun c.in-Some-ended_at.ensures.some

pub loop-count-smaller-in-Some : goal.loop-count-smaller-in-Some
loop-count-smaller-in-Some g c = less_closed c.loop-count.opened.items c.close.new.opened.items c.loop-count.rest.now c.in-Some.behind.now c.in-Some.count
    c.in-Some.ensures.fewer c.in-Some.ensures.passed

pub loop-count-preserved-in-Some : goal.loop-count-preserved-in-Some
loop-count-preserved-in-Some g c =
    let size : c.len.result ≡ length c.close.new.opened.items = search rules in
    search_closes c.args.scope c.args.mode c.args.octets.now (g.W.Write.contents c.args.lines.now) (g.W.Write.contents c.loop-count.lines)
    (g.W.Write.contents c.loop-count.lines) c.loop-count.opened.items c.close.new.opened.items c.loop-count.rest.now c.in-Some.behind.now c.loop-count.at _
    c.args.wanted c.loop-count.begun.depth c.loop-count.begun.behind c.loop-count.invariant
    (closes_with c.args.scope c.args.mode c.args.octets.now (g.W.Write.contents c.args.lines.now) (g.W.Write.contents c.loop-count.lines)
    c.loop-count.opened.items c.close.new.opened.items c.loop-count.rest.now c.in-Some.behind.now c.loop-count.at c.in-Some.count c.loop-count.invariant.here
    c.in-Some.ensures.goes c.in-Some.ensures.fits c.in-Some.ensures.passed)
    c.in-Some.ensures.fewer
    (subst (λ n. (c.loop-count.begun.behind ≡ None) ⊎ (c.loop-count.begun.depth ≢ n)) size c.in_default-ended_at.ensures.none)

pub returns-then-is_empty-2-clause-none : goal.returns-then-is_empty-2-clause-none
returns-then-is_empty-2-clause-none g c =
    let n : length c.loop-count.rest.now ≡ 0 = grind (arith, common_steps, c.if-is_empty.ensures) in
    let m : length c.close.new.opened.items ≡ 0 = grind (arith, common_steps, c.if-is_empty-2.ensures) in
    let same : c.close.new.opened.items ≡ c.loop-count.opened.items = c.in_default.ensures.same in
    let k : length c.loop-count.opened.items ≡ 0 = grind (arith, common_steps, same, m) in
    search_ends c.args.scope c.args.mode c.args.octets.now (g.W.Write.contents c.args.lines.now) (g.W.Write.contents c.loop-count.lines)
    (g.W.Write.contents c.loop-count.lines) c.loop-count.opened.items c.loop-count.opened.items c.loop-count.rest.now c.loop-count.rest.now c.loop-count.at
    c.loop-count.at c.args.wanted c.loop-count.begun.depth c.loop-count.begun.behind c.loop-count.invariant (nil_from_length c.loop-count.opened.items k)
    (nil_from_length c.loop-count.rest.now n)

pub returns-in-Some-definite_here-clause-found : goal.returns-in-Some-definite_here-clause-found
returns-in-Some-definite_here-clause-found g c =
    found_in c.args.scope c.args.mode c.args.octets.now (g.W.Write.contents c.args.lines.now) (g.W.Write.contents c.loop-count.lines)
    c.loop-count.opened.items c.loop-count.rest.now c.loop-count.at c.args.wanted c.loop-count.begun.depth c.loop-count.begun.behind c.in-Ok.place.contents
    c.in-Some-definite_here.contents c.in-Ok.place.rest.now c.loop-count.invariant c.in-Some-definite_here.ensures.here
    c.in-Some-definite_here.ensures.contents c.in-Ok.ensures.contents

pub loop-count-preserved : goal.loop-count-preserved
loop-count-preserved g c =
    let s : Searches c.args.scope c.args.mode c.args.octets.now (g.W.Write.contents c.args.lines.now) (g.W.Write.contents c.loop-count.lines)
    c.close.new.opened.items c.loop-count.rest.now c.loop-count.at c.args.wanted c.loop-count.begun.depth c.loop-count.begun.behind =
    subst (λ z. Searches c.args.scope c.args.mode c.args.octets.now (g.W.Write.contents c.args.lines.now) (g.W.Write.contents c.loop-count.lines)
    z c.loop-count.rest.now c.loop-count.at c.args.wanted c.loop-count.begun.depth c.loop-count.begun.behind) (sym c.in_default.ensures.same)
    c.loop-count.invariant in
    search_goes c.args.scope c.args.mode c.args.octets.now (g.W.Write.contents c.args.lines.now) (g.W.Write.contents c.loop-count.lines)
    (g.W.Write.contents c.list_value.new.target) c.close.new.opened.items c.list_value.new.opened.items c.loop-count.rest.now c.loop-count.at c.in-Ok.place.at
    c.args.wanted c.loop-count.begun.depth c.loop-count.begun.behind s c.in-Ok.place.rest c.in-Ok.place.contents
    (c.in-Ok.ensures.meets c.args.octets.now (g.W.Write.contents c.args.lines.now) s.here) c.in-Ok.ensures.contents c.in-Ok.ensures.opens
    c.in_default-definite_here.ensures.none c.len-depth.result (search rules) c.begun_at-begun.result.depth c.begun_at-begun.result.behind
    c.begun_at-begun.ensures
