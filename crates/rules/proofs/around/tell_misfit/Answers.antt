use Rattle.std.proofs.Common.{◌≡◌, ◌++◌, ◌∷◌, ◌-◌, [], true, length, ap, ◌∙◌, rules}
use Rattle.rules.specs.Around.{misfits}
use Rattle.rules.specs.declared.rule.Breach.{Breach}
use Rattle.rules.proofs.around.tell_misfit.Goals as goal

pub returns-else-is_err : goal.returns-else-is_err
returns-else-is_err c =
    let n : c.push.new.self.items ≡ c.args.found.now.items ++ record { at = c.saturating_sub-at.result; rule = c.in-Some.rule } ∷ [] = search rules in
    let t : c.args.contents ≡ true = search rules in
    let s : c.saturating_sub-at.result ≡ c.args.at - length c.args.element.octets.now = search rules in
    misfits c.in-Some.rule (n ∙ ap (λ z. let b : Breach = record { at = z; rule = c.in-Some.rule } in c.args.found.now.items ++ b ∷ []) s) t
    c.in-Some.ensures.some
