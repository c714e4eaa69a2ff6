use Rattle.std.proofs.Common.{◌≡◌, rules, [], ◌∷◌, ◌++◌, map, refl}
use Rattle.std.specs.Prelude.{codes}
use Rattle.std.proofs.Output.{has_written_append, has_written_of_eq}
use Rattle.bcder.specs.calls.Identifiers.{part_of, parts_left, component_parts}
use Rattle.bcder.specs.calls.Identifiers.{dots_before}
use Rattle.bcder.proofs.ComponentTexts.{shown_part, shown_more, shown_all}
use Rattle.bcder.proofs.oid.OidDisplay.fmt.Goals as goal

pub loop-component-init : goal.loop-component-init
loop-component-init g c = ([], λ p. search rules, refl)

pub loop-component-preserved : goal.loop-component-preserved
loop-component-preserved g c =
    let (w, written, goes) = c.loop-component.invariant in
    let steps = c.in-Some-component.ensures.steps in
    let t = shown_part (part_of c.in-Some-component.component) in
    let rest = dots_before (map shown_part (parts_left c.next-in-loop-component.new.self)) in
    (w ++ (codes "." ++ t), λ p. has_written_append _ _ _ _ _ _ (written p) (search rules), shown_more w (codes ".") t rest _ (rw steps at goes))

pub returns-clause-writes : goal.returns-clause-writes
returns-clause-writes g c p ok =
    let (w, written, goes) = c.loop-component.invariant in
    let first = part_of c.in-Some.first in
    let items = g.T.AsSlice.items c.args.self.now.0 in
    let rest = parts_left c.into_iter-component-iterator.result in
    let whole : component_parts items ≡ first ∷ rest =
    cc (c.iter-components.ensures, c.in-Some.ensures.steps, c.into_iter-component-iterator.ensures.into_iter_gives) in
    let e = shown_all items first rest (parts_left c.loop-component.component-iterator) w whole c.in-None.ensures.steps.0 goes in
    has_written_of_eq _ _ _ _ _ e (has_written_append _ _ (shown_part first) _ _ _ (search rules) (written (search rules)))
