use Rattle.std.proofs.Common.{arith, rules, ◌<◌, length, ◌≡◌, []}
use Rattle.std.proofs.lemmas.Grind.{common_steps}
use Rattle.std.proofs.lemmas.List.{nil_from_length}
use Rattle.berdump.proofs.Listing.{goes_behind, goes_after}
use Rattle.berdump.proofs.Fitting.{fits_after}
use Rattle.berdump.proofs.opened.close.Goals as goal

pub returns-in-Some-Definite-clause-goes : goal.returns-in-Some-Definite-clause-goes
returns-in-Some-Definite-clause-goes c = λ scope at hs k.
    let p : 0 < length c.args.opened.now.items = search rules in
    let n : length c.args.rest.now ≡ 0 = grind (arith, common_steps, c.if-is_empty.ensures) in
    let e : c.args.rest.now ≡ [] = nil_from_length c.args.rest.now n in
    goes_behind scope c.args.mode c.args.opened.now.items c.pop_front-closed.new.self.items c.in-Some-Definite.behind c.args.rest.now at hs p
    (rw c.in-Some-Definite.field-0-is at c.in-Some-Definite.ensures.lookup) c.pop_front-closed.ensures.rest e k

pub returns-in-Some-clause-goes : goal.returns-in-Some-clause-goes
returns-in-Some-clause-goes c = λ scope at hs k.
    let p : 0 < length c.args.opened.now.items = search rules in
    let (end, i, e) = c.in-Some.ensures.found in
    goes_after scope c.args.mode c.args.opened.now.items c.pop_front-closed-in-Some-Indefinite.new.self.items end c.in-Some.after.now c.args.rest.now at hs p
    (rw c.in-Some-Indefinite.field-0-is at c.in-Some-Indefinite.ensures.lookup) c.pop_front-closed-in-Some-Indefinite.ensures.rest i e k

pub returns-in-Some-clause-fits : goal.returns-in-Some-clause-fits
returns-in-Some-clause-fits c = λ f.
    let p : 0 < length c.args.opened.now.items = search rules in
    let (end, i, e) = c.in-Some.ensures.found in
    fits_after c.args.mode c.args.opened.now.items c.pop_front-closed-in-Some-Indefinite.new.self.items end c.in-Some.after.now c.args.rest.now p
    (rw c.in-Some-Indefinite.field-0-is at c.in-Some-Indefinite.ensures.lookup) c.pop_front-closed-in-Some-Indefinite.ensures.rest i e f
