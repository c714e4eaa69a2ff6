use Rattle.std.proofs.Common.{refl}
use Rattle.rules.specs.Comes.{no_header}
use Rattle.rules.proofs.Telling.{adds_nothing, only_onward, broken_onward}
use Rattle.rules.proofs.walk.recover.Goals as goal

pub pass_end-requires-clause-end : goal.pass_end-requires-clause-end
pass_end-requires-clause-end c = let f = c.in-Some.ensures.found in (f.0, f.1, f.2)

pub returns-in-Some : goal.returns-in-Some
returns-in-Some c = record { goes = c.pass_end.ensures; adds = adds_nothing _ _ _ _ _ _ refl }

pub returns-in-Value : goal.returns-in-Value
returns-in-Value c = only_onward _ c.args.contents _ _ _ _ _ c.args.found.now.items _ (λ p. p.rest.now) (λ p. p.at) _ _ _ _ _ _ c.pass_value.ensures

pub returns-in-Beyond : goal.returns-in-Beyond
returns-in-Beyond c = broken_onward _ c.args.contents _ _ _ _ _ c.args.found.now.items _ (λ p. p.rest.now) (λ p. p.at) _ c.pass_beyond.ensures

pub give_up-requires-clause-end : goal.give_up-requires-clause-end
give_up-requires-clause-end c = no_header c.in-Nothing.ensures

pub returns-in-Nothing : goal.returns-in-Nothing
returns-in-Nothing c = record { goes = c.give_up.ensures; adds = adds_nothing _ _ _ _ _ _ refl }
