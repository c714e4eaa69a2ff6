use Rattle.std.proofs.Common.{◌<◌, refl, rules}
use Rattle.encodings.specs.Next.{MayStand}
use Rattle.encodings.proofs.Stepping.{may_stand, due_outermost, advances_from}
use Rattle.encodings.proofs.next.advance.Goals as goal

pub returns-then-not-may_stand-clause-advances : goal.returns-then-not-may_stand-clause-advances
returns-then-not-may_stand-clause-advances c =
    let no : MayStand c.args.octets.now c.args.stack.now c.args.walk.now → ⊥ = search rules in
    λ os x s. absurd (no (may_stand c.args.mode _ _ _ os x s))

pub returns-then-walk-eq0-clause-advances : goal.returns-then-walk-eq0-clause-advances
returns-then-walk-eq0-clause-advances c =
    let more : c.args.walk.now.at < c.args.walk.now.end = search rules in
    λ os x s. c.enter.ensures.entered os x s (due_outermost _ _ _ _ os x s (search rules) more)

pub returns-clause-advances : goal.returns-clause-advances
returns-clause-advances c =
    let unmoved = c.if-leave.ensures.kept refl in
    λ os x s. advances_from c.args.mode _ _ _ _ _ _ _ _ unmoved.0 c.enter-2.ensures.entered os x s (c.if-leave.ensures.due refl os x s)
