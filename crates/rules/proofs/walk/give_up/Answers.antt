use Rattle.std.proofs.Common.{◌≡◌, ◌∷◌, option_map, ap, ◌∙◌, rules}
use Rattle.encodings.specs.Open.{open_values}
use Rattle.encodings.proofs.WholeWalk.{none_open}
use Rattle.rules.proofs.Going.{innermost, nothing_in, up_marked, up_definite, up_all}
use Rattle.rules.proofs.walk.give_up.Goals as goal

pub returns-in-Some-innermost : goal.returns-in-Some-innermost
returns-in-Some-innermost c =
    let q : open_values c.loop-innermost.opened.items ≡ option_map (λ s. s.now) c.in-Some.field-0.now ∷ open_values c.pop-left.new.self.items =
    innermost c.loop-innermost.opened.items c.pop-left.new.self.items c.in-Some.field-0.now (search rules) (search rules) in
    let o = q ∙ ap (λ k. k ∷ open_values c.pop-left.new.self.items) (ap (option_map (λ s. s.now)) c.in-Some-innermost.is) in
    up_definite _ _ _ c.requires.end _ c.loop-innermost.invariant _ _ o c.requires.some

pub loop-innermost-preserved : goal.loop-innermost-preserved
loop-innermost-preserved c =
    let q : open_values c.loop-innermost.opened.items ≡ option_map (λ s. s.now) c.in-Some.field-0.now ∷ open_values c.pop-left.new.self.items =
    innermost c.loop-innermost.opened.items c.pop-left.new.self.items c.in-Some.field-0.now (search rules) (search rules) in
    let o = q ∙ ap (λ k. k ∷ open_values c.pop-left.new.self.items) (ap (option_map (λ s. s.now)) c.in_default-innermost.is) in
    up_marked _ _ _ c.requires.end _ c.loop-innermost.invariant _ o

pub returns : goal.returns
returns c =
    up_all _ _ _ c.requires.end _ c.loop-innermost.invariant (none_open c.loop-innermost.opened.items (search rules)) _
    (nothing_in c.split_at.result.1.now (search rules)) c.requires.some
