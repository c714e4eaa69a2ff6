use Rattle.std.proofs.Common.{arith, rules}
use Rattle.bcder.proofs.Digits.{digits_one, digits_more}
use Rattle.bcder.proofs.oid.text.+push_digits.Goals as goal
use Rattle.bcder.proofs.oid.text.+push_digits.Goals.{then-number-ge128+in_ok-push_digits, else-number-ge128}

pub returns : goal.returns
returns t c =
    elim c.if-number-ge128.branch [
      | then-number-ge128+in_ok-push_digits w ↦ digits_more _ _ _ c.args.number (omega arith) w.in_ok-push_digits.ensures (search rules)
      | else-number-ge128 w ↦ digits_one _ _ c.args.number (omega arith) (omega arith) (search rules)
    ]
