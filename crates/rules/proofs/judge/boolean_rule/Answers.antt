use Rattle.std.proofs.Common.{refl, rules}
use Rattle.rules.proofs.Contents.{no_truth}
use Rattle.rules.proofs.judge.boolean_rule.Goals as goal

pub returns-then-contents-eq1 : goal.returns-then-contents-eq1
returns-then-contents-eq1 c = let n = no_truth c.args.mode c.args.contents.now c.requires (search rules) in (refl, n.0, n.1, n.2, refl)
