use Rattle.std.proofs.Common.{◌≡◌, ◌<◌, true, length, get_or, None, refl, rules}
use Rattle.std.specs.Prelude.{is_some}
use Rattle.rules.proofs.Going.{definite_at}
use Rattle.rules.proofs.walk.is_in_definite.Goals as goal

pub returns-then-is_some : goal.returns-then-is_some
returns-then-is_some c =
    let e : is_some (get_or c.args.opened.now c.loop-value.value-index None) ≡ true = search rules in
    let l : c.loop-value.value-index < length c.args.opened.now = search rules in
    (λ _. definite_at c.args.opened.now c.loop-value.value-index None l e, λ _. refl)
