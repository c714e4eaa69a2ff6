use Rattle.std.proofs.Common.{arith, rules}
use Rattle.bcder.proofs.Digits.{subidentifier_one, subidentifier_more}
use Rattle.bcder.proofs.oid.text.push_subidentifier.Goals as goal
use Rattle.bcder.proofs.oid.text.push_subidentifier.Goals.{then-number-ge128+in_ok-push_digits, else-number-ge128}

pub returns : goal.returns
returns c =
    elim c.if-number-ge128.branch [
      | then-number-ge128+in_ok-push_digits w ↦ subidentifier_more _ _ _ c.args.number (omega arith) w.in_ok-push_digits.ensures (search rules)
      | else-number-ge128 w ↦ subidentifier_one _ _ c.args.number (omega arith) (search rules)
    ]
