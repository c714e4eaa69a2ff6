use Rattle.std.proofs.Common.{◌≡◌, ◌∷◌, option_map, None, refl, ap, ◌∙◌, arith, rules}
use Rattle.encodings.specs.Open.{open_values}
use Rattle.rules.specs.Broken.{missing_end}
use Rattle.rules.proofs.Going.{innermost, nothing_in, due_in_nothing, missing_passed}
use Rattle.rules.proofs.Telling.{adds_one, longer_by_one}
use Rattle.rules.proofs.walk.pass_missing_end.Goals as goal

pub returns : goal.returns
returns c =
    let q : open_values c.args.opened.now.items ≡ option_map (λ s. s.now) c.in-Some.field-0.now ∷ open_values c.pop-ended.new.self.items =
    innermost c.args.opened.now.items c.pop-ended.new.self.items c.in-Some.field-0.now (search rules) (search rules) in
    let none : option_map (λ s. s.now) c.in-Some.field-0.now ≡ None = due_in_nothing _ _ _ c.requires.due c.requires.nothing _ _ q in
    let o = q ∙ ap (λ k. k ∷ open_values c.pop-ended.new.self.items) none in
    let n = nothing_in _ c.requires.nothing in
    let b = missing_end (open_values c.pop-ended.new.self.items) refl n o refl in
    record {
      onward = record {
        goes = missing_passed _ _ _ _ n o;
        adds = adds_one _ _ _ _ _ _ _ 0 _ b (omega arith) c.in-Ok.ensures;
      };
      told = longer_by_one _ _ _ c.in-Ok.ensures;
    }
