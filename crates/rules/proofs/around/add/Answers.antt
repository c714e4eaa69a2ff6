use Rattle.std.proofs.Common.{◌≡◌, ◌∷◌, ◌++◌, [], Bool, Some, reverse, ap, sym, subst, ◌∙◌, rules}
use Rattle.std.specs.Prelude.{is_some}
use Rattle.std.specs.Option.{option_to_list}
use Rattle.rules.specs.Around.{Adds}
use Rattle.rules.specs.declared.around.Enclosing.{Enclosing}
use Rattle.rules.proofs.Placing.{pushed_first}
use Rattle.rules.proofs.around.add.Goals as goal

pub returns : goal.returns
returns c =
    let os = c.args.around.now.items in
    let ps = c.pop.new.self.items in
    let v = c.in-Some.innermost in
    let l : os ≡ ps ++ v ∷ [] = c.pop.ensures.items ∙ ap (λ r. ps ++ option_to_list r) c.in-Some.is in
    let changed : Bool → Enclosing = λ several. record {
      place = v.place;
      sorts = v.sorts;
      kind = v.kind;
      start = v.start;
      from = v.from;
      gathers = v.gathers;
      several = several;
      last = Some c.args.element;
    } in
    let q : c.push.new.self.items ≡ ps ++ changed c.is_some.result ∷ [] = search rules in
    let m : c.is_some.result ≡ is_some v.last = search rules in
    subst (λ z. Adds c.args.mode c.args.contents z c.args.element c.args.at c.args.found.now.items (reverse c.push.new.self.items)
    c.tell_misfit.new.found.items) (sym (pushed_first ps os v l))
    (pushed_first ps c.push.new.self.items (changed c.is_some.result) q ∙ ap (λ z. changed z ∷ reverse ps) m, c.in-Ok.ensures)
