use Rattle.std.proofs.Common.{rules, ◌≡◌, pos, ◌+ℤ◌, Some, ap, sym, ◌∙◌, arith}
use Rattle.std.specs.Prelude.{unsigned_abs}
use Rattle.std.proofs.lemmas.Grind.{common_steps}
use Rattle.civil.specs.Time.{seconds}
use Rattle.civil.proofs.Seconds.{seconds_below, seconds_one}
use Rattle.civil.proofs.date_time.DateTime.from_unix_seconds.Goals as goal
use Rattle.civil.proofs.date_time.DateTime.from_unix_seconds.Goals.{then-number-via-then-number, then-number-via-else-number+then-number-2}

pub returns-then-number-clause-back : goal.returns-then-number-clause-back
returns-then-number-clause-back c t h e =
    let b = seconds_below t h.time h.second in
    absurd (elim c.then-number.branch [
      | then-number-via-then-number w ↦ (let g = w.if-number.true in first_of (omega arith, grind arith, grind (arith, common_steps)))
      | then-number-via-else-number+then-number-2 w ↦ (let g = w.if-number-2.true in first_of (omega arith, grind arith, grind (arith, common_steps)))
    ])

pub returns-clause-back : goal.returns-clause-back
returns-clause-back c t h e =
    let v : pos (seconds c.after.result) ≡ c.args.number +ℤ pos 62167219200 = first_of (search rules, grind arith, grind (arith, common_steps)) in
    let s : seconds c.after.result ≡ seconds t = ap unsigned_abs (v ∙ sym e) in
    ap (λ x. Some x) (seconds_one c.after.result t c.after.ensures.1 h s)
