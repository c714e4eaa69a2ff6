use Rattle.std.proofs.Common.{subst, arith}
use Rattle.encodings.specs.Open.{open_values}
use Rattle.rules.specs.Broken.{Breaks}
use Rattle.rules.proofs.Telling.{adds_one, longer_by_one, beyond_some}
use Rattle.rules.specs.Comes.{goes_beyond}
use Rattle.rules.proofs.walk.pass_beyond.Goals as goal

pub give_up-requires-clause-end : goal.give_up-requires-clause-end
give_up-requires-clause-end c = goes_beyond c.requires.beyond

pub give_up-requires-clause-some : goal.give_up-requires-clause-some
give_up-requires-clause-some c = beyond_some _ c.requires.beyond

pub returns : goal.returns
returns c =
    let b : Breaks c.args.mode (open_values c.args.opened.now.items) c.args.rest.now c.beyond_rule-rule.result 0 =
    subst (λ os. Breaks c.args.mode (open_values os) c.args.rest.now c.beyond_rule-rule.result 0) c.deref.ensures.value
    (c.beyond_rule-rule.ensures _ _ c.requires.beyond) in
    record {
      onward = record { goes = c.give_up.ensures; adds = adds_one _ _ _ _ _ _ _ 0 _ b (omega arith) c.in-Ok.ensures };
      told = longer_by_one _ _ _ c.in-Ok.ensures;
    }
