use Rattle.std.proofs.Common.{◌≡◌, ◌-◌, length, take, slice_get, option_map, Some, ◌∷◌, ap, refl, sym, ◌∙◌, arith, rules}
use Rattle.bcder.specs.x690.Identifier.{AreOctets}
use Rattle.encodings.specs.Open.{open_values}
use Rattle.encodings.proofs.Passing.{passes_end}
use Rattle.encodings.proofs.WholeWalk.{innermost_first}
use Rattle.encodings.proofs.convert.next.Goals as goal

pub returns-in-Some-close-clause-passed : goal.returns-in-Some-close-clause-passed
returns-in-Some-close-clause-passed c =
    let o : AreOctets c.args.rest.now = λ i. omega (arith, c.type_inv.rest i) in
    let g : slice_get c.args.opened.now.items (length c.args.opened.now.items - 1) ≡ Some c.in-Some.field-0.now = search rules in
    let p : c.pop-ended.new.self.items ≡ take (length c.args.opened.now.items - 1) c.args.opened.now.items = search rules in
    let q : open_values c.args.opened.now.items ≡ option_map (λ s. s.now) c.in-Some.field-0.now ∷ open_values c.pop-ended.new.self.items =
    innermost_first c.args.opened.now.items _ _ refl g ∙ ap (λ k. option_map (λ s. s.now) c.in-Some.field-0.now ∷ open_values k) (sym p) in
    passes_end _ _ _ _ _ _ _ _ _ _ _ o q c.in-Some-close.ensures.1 (c.end_of-item.ensures _)
