use Rattle.std.proofs.Common.{◌≡◌, ◌-◌, get_or, refl, rules}
use Rattle.encodings.proofs.Stepping.{leaves_definite, leaves_indefinite}
use Rattle.encodings.specs.Next.{no_offset}
use Rattle.encodings.proofs.next.leave.Goals as goal

pub returns-then-kept-clause-left : goal.returns-then-kept-clause-left
returns-then-kept-clause-left c =
    let k : get_or c.args.stack.now (c.args.walk.now.depth - 1) 0 ≡ no_offset = search rules in
    let f = c.in-Some.ensures.found in
    λ _ _ _ s. leaves_indefinite _ _ _ _ _ _ s c.requires.opened k f.0 _ f.1 f.2 _ refl _ _ c.close.ensures.walk c.close.ensures.event

pub returns-clause-left : goal.returns-clause-left
returns-clause-left c =
    let k : get_or c.args.stack.now (c.args.walk.now.depth - 1) 0 ≡ no_offset → ⊥ = search rules in
    λ _ _ _ s. leaves_definite _ _ _ _ _ _ s c.requires.opened k (search rules) _ refl _ _ c.close-2.ensures.walk c.close-2.ensures.event
