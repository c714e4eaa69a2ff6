use Rattle.std.proofs.Common.{◌≡◌, ◌∷◌, option_map, refl, arith, rules}
use Rattle.bcder.specs.x690.Identifier.{AreOctets}
use Rattle.encodings.specs.Open.{open_values}
use Rattle.rules.proofs.Going.{innermost, closes_within}
use Rattle.rules.proofs.Telling.{end_passes}
use Rattle.rules.proofs.walk.pass_next.Goals as goal

pub overflow_add-result : goal.overflow_add-result
overflow_add-result c =
    let q : open_values c.args.opened.now.items ≡ option_map (λ s. s.now) c.in-Some.field-0.now ∷ open_values c.pop-ended.new.self.items =
    innermost c.args.opened.now.items c.pop-ended.new.self.items c.in-Some.field-0.now (search rules) (search rules) in
    omega (arith, c.requires.room, closes_within _ _ _ _ _ _ _ q c.in-Some-close.ensures)

pub returns-in-Some-close : goal.returns-in-Some-close
returns-in-Some-close c =
    let o : AreOctets c.args.rest.now = λ i. omega (arith, c.type_inv.rest i) in
    let q : open_values c.args.opened.now.items ≡ option_map (λ s. s.now) c.in-Some.field-0.now ∷ open_values c.pop-ended.new.self.items =
    innermost c.args.opened.now.items c.pop-ended.new.self.items c.in-Some.field-0.now (search rules) (search rules) in
    end_passes _ _ _ _ _ _ _ _ _ _ _ _ o q c.in-Some-close.ensures refl
