use Rattle.std.proofs.Common.{◌≤◌, length, refl, rules}
use Rattle.berdump.proofs.list.reason_at.Goals as goal

pub returns-in-None : goal.returns-in-None
returns-in-None c =
    let p : 1 ≤ length c.args.rest.now = search rules in
    (c.requires, c.in-None.ensures.none refl p)
