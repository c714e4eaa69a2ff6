use Rattle.std.proofs.Common.{arith}
use Rattle.encodings.specs.Open.{open_values}
use Rattle.encodings.proofs.WholeWalk.{come_within}
use Rattle.rules.proofs.Going.{value_inside}
use Rattle.rules.proofs.Telling.{value_looked_at}
use Rattle.rules.proofs.walk.pass_value.Goals as goal

pub look-requires : goal.look-requires
look-requires c =
    omega (arith, c.requires.room, come_within (open_values c.args.opened.now.items) c.args.rest.now, value_inside _ _ _ _ _ _ c.requires.begins)

pub enter-requires-clause-room : goal.enter-requires-clause-room
enter-requires-clause-room c =
    omega (arith, c.requires.room, come_within (open_values c.args.opened.now.items) c.args.rest.now, value_inside _ _ _ _ _ _ c.requires.begins)

pub returns : goal.returns
returns c = value_looked_at _ _ _ _ _ _ _ _ _ _ _ _ _ (λ p. p.rest.now) (λ p. p.at) _ c.requires.begins c.in-Ok.ensures c.enter.ensures
