use Rattle.std.proofs.Common.{◌≡◌, ◌∷◌, option_map, None, refl, ap, ◌∙◌, arith, rules}
use Rattle.encodings.specs.Open.{open_values}
use Rattle.encodings.proofs.WholeWalk.{come_within}
use Rattle.rules.proofs.Going.{innermost, end_passed, stray_passed}
use Rattle.rules.proofs.walk.pass_end.Goals as goal

pub overflow_add-place : goal.overflow_add-place
overflow_add-place c = omega (arith, c.requires.room, come_within (open_values c.args.opened.now.items) c.args.rest.now)

pub returns-in_default : goal.returns-in_default
returns-in_default c = stray_passed _ _ _ _ _ c.requires.end refl

pub returns-then-is_some : goal.returns-then-is_some
returns-then-is_some c = stray_passed _ _ _ _ _ c.requires.end refl

pub returns : goal.returns
returns c =
    let q : open_values c.args.opened.now.items ≡ option_map (λ s. s.now) c.in-Some.field-0.now ∷ open_values c.pop-ended.new.self.items =
    innermost c.args.opened.now.items c.pop-ended.new.self.items c.in-Some.field-0.now (search rules) (search rules) in
    let none : c.in-Some.field-0.now ≡ None = search rules in
    end_passed _ _ _ _ _ c.requires.end refl _ (q ∙ ap (λ k. k ∷ open_values c.pop-ended.new.self.items) (ap (option_map (λ s. s.now)) none))
