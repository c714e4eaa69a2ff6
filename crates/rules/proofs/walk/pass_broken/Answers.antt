use Rattle.std.proofs.Common.{arith}
use Rattle.rules.proofs.Telling.{adds_one, told_before}
use Rattle.rules.proofs.walk.pass_broken.Goals as goal

pub returns : goal.returns
returns c =
    told_before _ c.args.contents _ _ _ _ _ _ _ (λ p. p.rest.now) (λ p. p.at) _ _
    (adds_one _ _ _ _ _ _ _ 0 _ (c.rule_at-rule.ensures _ c.requires.due) (omega arith) c.in-Ok.ensures) c.in-Ok.ensures c.recover.ensures
